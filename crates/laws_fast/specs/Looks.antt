-- Looks that count only edges strictly west, in a plane graph in which no two edges share a stretch: a candidate is an edge strictly west whose lower end is not after the point, in point order, and whose upper
-- end is (`order-candidate`), so that vertex numbers in point order do for heights. Assumes nothing.
use Rattle.std.specs.Prelude.{◌≡◌, [], ◌∷◌, ◌≤◌, ◌<◌, ◌≤ℤ◌, ◌<ℤ◌, ◌&&◌, ◌-ℤ◌, ◌*ℤ◌}
use Rattle.std.proofs.Common.{ap, arith}
use Rattle.std.specs.Int.Signed.{lt_z}
use Rattle.exact.specs.Order.{zomega, sq, 0≤-*, 0<-*, <→≤, 0<-neg}
use Rattle.exact.specs.Tests.{lt_t, t_lt}
use Rattle.seq.specs.Seq.{Bool, true, not, ℕ, ℤ, pos, neg_ℤ}
use Rattle.seq.specs.Tests.{bool-ext, clash, not-true, and_parts, and_both, was-false}
use Rattle.paper.specs.Plane.{Pt, Vec, nowhere, dir, before, below}
use Rattle.paper.specs.Graph.{Graph, edge_count, edge, low, high, upward, left_of, at_height, westward}
use Rattle.laws_plane.specs.Cone.{Up, above, level, rises_up}
use Rattle.laws_plane.specs.Points.{before_up}
use Rattle.laws_plane.specs.Ends.{below_before, lt_below}
use Rattle.laws_plane.specs.Sides.{left_chord}
use Rattle.laws_graph.specs.Plane.{Plane, ends_real, ends_on}
use Rattle.laws_graph.specs.West.{candidate, height_is, nowhere-westward, right_westward}

-- edge k is strictly west of p, by point order
abbrev pub west_by : Graph → Pt → ℕ → Bool
west_by g p k = (not (before p (low g k)) && before p (high g k)) && lt_z (left_of g p k) (pos 0)

-- ── strictly west, by point order ──

-- a point level with q and west of it, where q is on an edge that goes up, does not have the edge strictly west
level-west : (ux uy dx dy pd qd l r : ℤ) → ux *ℤ dy -ℤ uy *ℤ dx ≡ pd *ℤ r -ℤ qd *ℤ l → r ≡ pos 0 → dy ≡ pos 0 → pos 0 ≤ℤ uy → pos 0 <ℤ dx → pos 0 <ℤ qd → l <ℤ pos 0 → ⊥
level-west ux uy dx dy pd qd l r e er ey hu hx hq hl =
    zomega (ux ∷ uy ∷ dx ∷ dy ∷ pd ∷ qd ∷ l ∷ r ∷ [])
    {A = ux *ℤ dy -ℤ uy *ℤ dx ≡ pd *ℤ r -ℤ qd *ℤ l → pd *ℤ r ≡ pd *ℤ pos 0 → ux *ℤ dy ≡ ux *ℤ pos 0 → pos 0 ≤ℤ (uy *ℤ dx) → pos 0 <ℤ (qd *ℤ neg_ℤ l) → ⊥} (search sq depth 20) (omega arith)
    e (ap (λ (z : ℤ). pd *ℤ z) er) (ap (λ (z : ℤ). ux *ℤ z) ey) (0≤-* hu (<→≤ hx)) (0<-* hq (0<-neg l hl))

module _ (g : Graph) (P : Plane g) (p : Pt) (hp : pos 0 <ℤ p.D) (k : ℕ) (l : k < edge_count g) where
  abbrev u : Vec
  u = upward g k

  not_down : pos 0 ≤ℤ (upward g k).y
  not_down = go (rises_up u (P.rising k l))
    where
      go : Up u.x u.y → pos 0 ≤ℤ u.y
      go (above h) = zomega (u.y ∷ []) {A = pos 0 <ℤ u.y → pos 0 ≤ℤ u.y} (search sq depth 20) (omega arith) h
      go (level e h) = zomega (u.y ∷ []) {A = u.y ≡ pos 0 → pos 0 ≤ℤ u.y} (search sq depth 20) (omega arith) e

  -- p is before a point q of the edge's line, and the edge is strictly west: then p is lower
  before_lower : (q : Pt) → pos 0 <ℤ q.D → left_of g q k ≡ pos 0 → left_of g p k <ℤ pos 0 → before p q ≡ true → below p q ≡ true
  before_lower q hq on w b = go (before_up p q b)
    where
      go : Up (dir p q).x (dir p q).y → below p q ≡ true
      go (above h) = lt_below p q (zomega (p.Y ∷ q.D ∷ q.Y ∷ p.D ∷ []) {A = pos 0 <ℤ (q.Y *ℤ p.D -ℤ p.Y *ℤ q.D) → (p.Y *ℤ q.D) <ℤ (q.Y *ℤ p.D)} (search sq depth 20) (omega arith) h)
      go (level e h) =
          absurd (level-west u.x u.y (dir p q).x (dir p q).y p.D q.D (left_of g p k) (left_of g q k) (left_chord (edge g k).carrier p q) on e not_down h hq w)

  -- "counting only edges strictly west", by point order
  pub order-candidate : candidate g p nowhere k ≡ west_by g p k
  order-candidate =
      bool-ext (candidate g p nowhere k) (west_by g p k)
      (λ e. let r = and_parts (at_height g p k) (westward g p nowhere k) e in
      let h = height_is g p k r.0 in
      let w = nowhere-westward g p k r.1 in
      and_both {a = not (before p (low g k)) && before p (high g k)}
      (and_both {a = not (before p (low g k))} (ap not (not-true (before p (low g k)) (λ b. clash (before_lower (low g k) (ends_real g P k).0 (ends_on g P k l).0 w b) h.0))) (below_before p (high g k) h.1))
      (t_lt {a = left_of g p k} {b = pos 0} w))
      (λ e. let r = and_parts (not (before p (low g k)) && before p (high g k)) (lt_z (left_of g p k) (pos 0)) e in
      let s = and_parts (not (before p (low g k))) (before p (high g k)) r.0 in
      let w : left_of g p k <ℤ pos 0 = lt_t {a = left_of g p k} {b = pos 0} r.1 in
      and_both {a = at_height g p k}
      (and_both {a = not (below p (low g k))} (ap not (not-true (below p (low g k)) (λ b. clash (below_before p (low g k) b) (was-false (before p (low g k)) s.0))))
      (before_lower (high g k) (ends_real g P k).1 (ends_on g P k l).1 w s.1))
      (right_westward g p k nowhere w))
