-- Looking west in a plane graph, from a point along a direction. In order: what the tests of a candidate say; a candidate is not level; `nearer` is a strict
-- order of the edges at one height, by one identity (it is membership in the cone of laws_plane); so what a look sees is the east side of a candidate than
-- which none is nearer, and it sees nothing only where there is no candidate (`west-sees`). Assumes nothing.
use Rattle.std.proofs.Common.{arith, sym, ap, subst, inl, inr, ⊎_elim}
use Rattle.std.proofs.Math.IntN.{+ℤ_invr}
use Rattle.std.specs.Prelude.{◌≡◌, refl, ◌⊎◌, ◌<◌, ◌<ℤ◌, ◌&&◌, ◌∷◌, ◌-ℤ◌, ◌*ℤ◌}
use Rattle.seq.specs.Seq.{Bool, true, false, not, [], Option, none, some, Option·map, ℕ, ℤ, pos, neg_ℤ, best}
use Rattle.seq.specs.Terms.{Has, Strict, Top, TopIs}
use Rattle.seq.specs.Tests.{not-true, and_parts, was-false}
use Rattle.seq.specs.Best.{best-top, best_has}
use Rattle.exact.specs.Solve.{ring, reify}
use Rattle.exact.specs.Order.{<→≢, 0<-*, neg-<0, 0<-neg, neg-zero, <→0<}
use Rattle.exact.specs.Mul.{≡-by₂}
use Rattle.paper.specs.Plane.{Pt, Vec, vec, nowhere, cross, dir, below}
use Rattle.paper.specs.Graph.{Graph, edge_count, edge, low, high, upward, at_height, left_of, westward, nearer, east_side, west, the_half_count}
use Rattle.laws_plane.specs.Cone.{Up, above, level, up_by, up-+, up-*, up_0, up_cancel, UpV, rises_up, up_rises}
use Rattle.laws_plane.specs.Ends.{below_lt, level_below}
use Rattle.laws_plane.specs.Angles.{cross-self, turn_y}
use Rattle.laws_plane.specs.Sides.{chord}
use Rattle.laws_plane.specs.Points.{mid}
use Rattle.laws_graph.specs.Plane.{Plane, ends_real, ends_on, upward_up}
use Rattle.laws_graph.specs.East.{east_below}

-- "candidates are edges with lower y ≤ y of p < upper y that at the height of p lie west of p, or go through or start at p .."
abbrev pub candidate : Graph → Pt → Vec → ℕ → Bool
candidate g p d k = at_height g p k && westward g p d k

-- what a look sees: the outside, where there is no candidate, or the east side of a candidate than which none is nearer
abbrev pub Sees : Graph → Pt → Vec → Option ℕ → Type 0
Sees g p d none = (k : ℕ) → Has (candidate g p d) (edge_count g) k → ⊥
Sees g p d (some h) = (k : ℕ) × Top (candidate g p d) (nearer g p) (edge_count g) k × (east_side g k ≡ h)

-- what is seen is one of the graph's half-edges
pub look_below : (g : Graph) (p : Pt) (d : Vec) (h : ℕ) → west g p d ≡ some h → h < the_half_count g
look_below g p d h q = go (best (candidate g p d) (nearer g p) (edge_count g)) refl q
  where
    go : (o : Option ℕ) → best (candidate g p d) (nearer g p) (edge_count g) ≡ o → Option·map (east_side g) o ≡ some h → h < the_half_count g
    go none e f = absurd (let z : ◌≡◌ {A = ℕ} 0 1 = cc in omega arith)
    go (some k) e f =
        let i : east_side g k ≡ h = cc in
        subst (λ (x : ℕ). x < the_half_count g) i (east_below g k (best_has (candidate g p d) (nearer g p) (edge_count g) k e).below)

-- ── the tests ──

no_zero : {z : ℤ} → z ≡ pos 0 → pos 0 <ℤ z → ⊥
no_zero e h = <→≢ h (sym e)

module _ (g : Graph) (p : Pt) (k : ℕ) where
  pub height_is : at_height g p k ≡ true → (below p (low g k) ≡ false) × (below p (high g k) ≡ true)
  height_is e = let r = and_parts (not (below p (low g k))) (below p (high g k)) e in (was-false (below p (low g k)) r.0, r.1)

  -- p is right of the edge, or on it and the edge's angle is greater than that of d
  pub westward_is : (d : Vec) → westward g p d k ≡ true → (left_of g p k <ℤ pos 0) ⊎ ((left_of g p k ≡ pos 0) × (pos 0 <ℤ cross d (upward g k)))
  westward_is d e = go (rises_up (vec (cross d (upward g k)) (neg_ℤ (left_of g p k))) e)
    where
      go : Up (cross d (upward g k)) (neg_ℤ (left_of g p k)) → (left_of g p k <ℤ pos 0) ⊎ ((left_of g p k ≡ pos 0) × (pos 0 <ℤ cross d (upward g k)))
      go (above h) = inl (neg-<0 (left_of g p k) h)
      go (level f h) = inr (neg-zero (left_of g p k) f, h)

  pub right_westward : (d : Vec) → left_of g p k <ℤ pos 0 → westward g p d k ≡ true
  right_westward d h = up_rises (vec (cross d (upward g k)) (neg_ℤ (left_of g p k))) (above (0<-neg (left_of g p k) h))

  pub turned-westward : (d : Vec) → left_of g p k ≡ pos 0 → pos 0 <ℤ cross d (upward g k) → westward g p d k ≡ true
  turned-westward d e h = up_rises (vec (cross d (upward g k)) (neg_ℤ (left_of g p k))) (level (ap neg_ℤ e) h)

  -- "counting only edges strictly west": along nowhere only an edge that has p on its right counts
  pub nowhere-westward : westward g p nowhere k ≡ true → left_of g p k <ℤ pos 0
  nowhere-westward e = ⊎_elim (λ h. h) (λ r. absurd (no_zero (flat (upward g k).x (upward g k).y) r.1)) (westward_is nowhere e)
    where
      flat : (x y : ℤ) → pos 0 *ℤ y -ℤ pos 0 *ℤ x ≡ pos 0
      flat x y = ring (x ∷ y ∷ []) (search reify depth 20) tt

-- ── nearer ──

module _ (g : Graph) (p : Pt) where
  -- the difference of the x of k and r at the height of p, times both y
  abbrev pub ahead : ℕ → ℕ → ℤ
  ahead k r = left_of g p k *ℤ (upward g r).y -ℤ left_of g p r *ℤ (upward g k).y

  pub nearer_up : (k r : ℕ) → nearer g p k r ≡ true → Up (cross (upward g k) (upward g r)) (ahead k r)
  nearer_up k r e = rises_up (vec (cross (upward g k) (upward g r)) (ahead k r)) e

  pub up_nearer : (k r : ℕ) → Up (cross (upward g k) (upward g r)) (ahead k r) → nearer g p k r ≡ true
  up_nearer k r h = up_rises (vec (cross (upward g k) (upward g r)) (ahead k r)) h

  pub nearer-irr : (k : ℕ) → nearer g p k k ≡ false
  nearer-irr k = not-true (nearer g p k k) (λ e. up_0 (cross-self (upward g k)) (+ℤ_invr (left_of g p k *ℤ (upward g k).y)) (nearer_up k k e))

  pub nearer-trans : (k r j : ℕ) → pos 0 <ℤ (upward g k).y → pos 0 <ℤ (upward g r).y → pos 0 <ℤ (upward g j).y → nearer g p k r ≡ true → nearer g p r j ≡ true → nearer g p k j ≡ true
  nearer-trans k r j hk hr hj e f =
      up_nearer k j (up_cancel (upward g r).y (cross (upward g k) (upward g j)) (ahead k j) hr
      (up_by (turn_y (upward g k).x (upward g k).y (upward g r).x (upward g r).y (upward g j).x (upward g j).y)
      (mid (left_of g p k) (upward g k).y (left_of g p r) (upward g r).y (left_of g p j) (upward g j).y)
      (up-+ (up-* hj (nearer_up k r e)) (up-* hk (nearer_up r j f)))))

-- along a level direction nothing rises
no_rise : (a b c d : ℤ) → b ≡ pos 0 → pos 0 <ℤ a → pos 0 <ℤ d → a *ℤ d -ℤ b *ℤ c ≡ pos 0 → ⊥
no_rise a b c d e ha hd f = <→≢ (0<-* ha hd) (sym (≡-by₂ f (pos 1) e c (ring (a ∷ b ∷ c ∷ d ∷ []) (search reify depth 20) tt)))

module _ (g : Graph) (P : Plane g) (p : Pt) (hp : pos 0 <ℤ p.D) where
  -- ── candidates ──

  -- the lower end of an edge at the height of p is below the upper end of another
  pub height_below : (k r : ℕ) → at_height g p k ≡ true → at_height g p r ≡ true → below (low g k) (high g r) ≡ true
  height_below k r e f = level_below (low g k) p (high g r) (ends_real g P k).0 hp (ends_real g P r).1 (height_is g p k e).0 (height_is g p r f).1

  -- an edge at the height of p is not level
  pub height-steep : (k : ℕ) → k < edge_count g → at_height g p k ≡ true → pos 0 <ℤ (upward g k).y
  height-steep k l e = go (upward_up g P k l)
    where
      climbs : pos 0 <ℤ (dir (low g k) (high g k)).y
      climbs = <→0< {a = (low g k).Y *ℤ (high g k).D} {b = (high g k).Y *ℤ (low g k).D} (below_lt (low g k) (high g k) (height_below k k e e))

      go : UpV (upward g k) → pos 0 <ℤ (upward g k).y
      go (above h) = h
      go (level d h) =
          absurd (no_rise (upward g k).x (upward g k).y (dir (low g k) (high g k)).x (dir (low g k) (high g k)).y d h climbs
          (chord (edge g k).carrier (low g k) (high g k) (ends_on g P k l).0 (ends_on g P k l).1))

  module _ (d : Vec) where
    steep : {k : ℕ} → Has (candidate g p d) (edge_count g) k → pos 0 <ℤ (upward g k).y
    steep {k} h = height-steep k h.below (and_parts (at_height g p k) (westward g p d k) h.has).0

    -- nearer is a strict order of the candidates
    pub nearer-strict : Strict (candidate g p d) (nearer g p) (edge_count g)
    nearer-strict = record {
      irr = λ k h. nearer-irr g p k;
      trans = λ k r j hk hr hj. nearer-trans g p k r j (steep hk) (steep hr) (steep hj);
    }

    sees_by : (o : Option ℕ) → TopIs (candidate g p d) (nearer g p) (edge_count g) o → Sees g p d (Option·map (east_side g) o)
    sees_by none t = t
    sees_by (some k) t = (k, t, refl)

    -- a look's answer is a candidate, and no candidate is nearer
    pub west-sees : Sees g p d (west g p d)
    west-sees = sees_by (best (candidate g p d) (nearer g p) (edge_count g)) (best-top (candidate g p d) (nearer g p) (edge_count g) nearer-strict)
