-- What the overlay uses of a map that keeps the rules: its edges go up; its vertices are corners, each the end of an edge, and an edge's ends are vertices; and two
-- edges with two points in common are one (rule 8). The laws of the overlay are over a list of such maps (`AllKeep`). Assumes nothing.
use Rattle.std.specs.Prelude.{◌≡◌, refl, ◌⊎◌, ◌<◌, ◌<ℤ◌, ◌+◌, ◌*◌, ◌/◌}
use Rattle.std.proofs.Common.{sym, ◌∙◌, ap, subst, inl, inr, ⊎_elim}
use Rattle.std.proofs.Math.Decide.{ℕ_discrete}
use Rattle.seq.specs.Seq.{Bool, true, false, List, ℕ, length, pos}
use Rattle.seq.specs.Terms.{Among, Every}
use Rattle.seq.specs.Tests.{clash}
use Rattle.seq.specs.Members.{at_among, among_at, in_every}
use Rattle.exact.specs.Sign.{is_zer}
use Rattle.paper.specs.Plane.{Pt, Vec, Seg, whole, nowhere, head, before, same}
use Rattle.paper.specs.Graph.{Graph, point, origin, start, low, high, goes_up}
use Rattle.paper.specs.Map.{Map}
use Rattle.paper.specs.Pieces.{layer}
use Rattle.laws_plane.specs.Cone.{UpV}
use Rattle.laws_plane.specs.Points.{LowestP, before_asym, before_same, same_before, same_sym, same_neither, same_order, order_same}
use Rattle.laws_plane.specs.Ends.{0<1, lower-upper, corner-lowest}
use Rattle.laws_plane.specs.Edges.{On, IsEnd, inside_on, seg_up, end_not_inside}
use Rattle.laws_plane.specs.Clash.{middle, middle-inside, ends_equal}
use Rattle.laws_graph.specs.Halves.{half_below, first_below, second_below}
use Rattle.laws_graph.specs.Plane.{up_ends, down_ends, upward_up}
use Rattle.laws_map.specs.Keeps.{seg, edges, halves, vertices, Keeps}

-- every map of the list keeps the rules
abbrev pub AllKeep : List Map → Type 0
AllKeep ms = (i : ℕ) → i < length ms → Keeps (layer ms i)

module _ (m : Map) (K : Keeps m) where
  abbrev g : Graph
  g = m.graph

  -- ── a vertex is a corner, and the end of an edge ──

  -- a half-edge starts at an end of its edge
  half-end : (h : ℕ) → h < halves m → (start g h ≡ whole (seg m (h / 2)).foot) ⊎ (start g h ≡ whole (head (seg m (h / 2))))
  half-end h l = go (goes_up g h) refl
    where
      go : (c : Bool) → goes_up g h ≡ c → (start g h ≡ whole (seg m (h / 2)).foot) ⊎ (start g h ≡ whole (head (seg m (h / 2))))
      go true u = inl (sym (K.foot_is (h / 2) (half_below g h l) ∙ (up_ends g h u).0))
      go false u = inr (sym (K.head_is (h / 2) (half_below g h l) ∙ (down_ends g K.plane h l u).0))

  pub vertex-end : (v : ℕ) → v < vertices m → (k : ℕ) × (k < edges m) × ((point g v ≡ whole (seg m k).foot) ⊎ (point g v ≡ whole (head (seg m k))))
  vertex-end v l =
      let (h, b, o) = K.used v l in
      (h / 2, half_below g h b, ⊎_elim (λ e. inl (ap (point g) (sym o) ∙ e)) (λ e. inr (ap (point g) (sym o) ∙ e)) (half-end h b))

  pub corner_is : (v : ℕ) → v < vertices m → (a : Vec) × (point g v ≡ whole a)
  corner_is v l = let (k, b, e) = vertex-end v l in ⊎_elim (λ f. ((seg m k).foot, f)) (λ f. (head (seg m k), f)) e

  pub vertex-lowest : (v : ℕ) → v < vertices m → LowestP (point g v)
  vertex-lowest v l = let (a, e) = corner_is v l in subst LowestP (sym e) (corner-lowest a)

  pub points-lowest : Every LowestP g.points
  points-lowest = in_every LowestP g.points (λ p i. let (v, l, e) = among_at p g.points (whole nowhere) i in subst LowestP e (vertex-lowest v l))

  -- ── the ends of an edge are vertices ──

  start-among : (h : ℕ) → h < halves m → Among (start g h) g.points
  start-among h l = at_among g.points (origin g h) (whole nowhere) (K.plane.starts h l)

  module _ (k : ℕ) (l : k < edges m) where
    ends_among : Among (low g k) g.points × Among (high g k) g.points
    ends_among = go (lower-upper (start g (2 * k)) (start g (2 * k + 1)))
      where
        a : Among (start g (2 * k)) g.points
        a = start-among (2 * k) (first_below k g l)

        b : Among (start g (2 * k + 1)) g.points
        b = start-among (2 * k + 1) (second_below k g l)

        at : {p q : Pt} → p ≡ q → Among q g.points → Among p g.points
        at {p} {q} e i = subst (λ (z : Pt). Among z g.points) (sym e) i

        go : ((low g k ≡ start g (2 * k)) × (high g k ≡ start g (2 * k + 1))) ⊎ ((low g k ≡ start g (2 * k + 1)) × (high g k ≡ start g (2 * k))) → Among (low g k) g.points × Among (high g k) g.points
        go (inl r) = (at r.0 a, at r.1 b)
        go (inr r) = (at r.0 b, at r.1 a)

    pub foot-vertex : Among (whole (seg m k).foot) g.points
    foot-vertex = subst (λ (z : Pt). Among z g.points) (sym (K.foot_is k l)) ends_among.0

    pub head-vertex : Among (whole (head (seg m k))) g.points
    head-vertex = subst (λ (z : Pt). Among z g.points) (sym (K.head_is k l)) ends_among.1

-- ── two points of an edge that are ends of it ──

-- of two points on an edge that are both its ends, the first is the lower
pub lower-end : (s : Seg) → UpV s.up → (p q : Pt) → pos 0 <ℤ p.D → pos 0 <ℤ q.D → before p q ≡ true → IsEnd s p → IsEnd s q → (same (whole s.foot) p ≡ true) × (same (whole (head s)) q ≡ true)
lower-end s u p q hp hq b (inl e) (inl f) = absurd (clash b (same_before (whole s.foot) p q 0<1 hp hq e ∙ same_neither (whole s.foot) q f))
lower-end s u p q hp hq b (inl e) (inr f) = (e, f)
lower-end s u p q hp hq b (inr e) (inl f) =
    absurd (clash b (same_before (whole (head s)) p q 0<1 hp hq e ∙ before_same (whole s.foot) q (whole (head s)) 0<1 hq 0<1 f ∙ before_asym (whole s.foot) (whole (head s)) (seg_up s u)))
lower-end s u p q hp hq b (inr e) (inr f) = absurd (clash b (same_before (whole (head s)) p q 0<1 hp hq e ∙ same_neither (whole (head s)) q f))

same_trans : (a p b : Pt) → pos 0 <ℤ a.D → pos 0 <ℤ p.D → pos 0 <ℤ b.D → same a p ≡ true → same b p ≡ true → same a b ≡ true
same_trans a p b ha hp hb e f = ap is_zer (order_same p a b hp ha hb (same_order p a (same_sym a p e))) ∙ same_sym b p f

-- two edges with two points in common are one
module _ (m : Map) (K : Keeps m) (i j : ℕ) (li : i < edges m) (lj : j < edges m) (p q : Pt) (hp : pos 0 <ℤ p.D) (hq : pos 0 <ℤ q.D) (b : before p q ≡ true) where
  module _ (ip : On (seg m i) p) (iq : On (seg m i) q) (jp : On (seg m j) p) (jq : On (seg m j) q) (d : i ≡ j → ⊥) where
    first : (same (whole (seg m i).foot) p ≡ true) × (same (whole (head (seg m i))) q ≡ true)
    first = lower-end (seg m i) (upward_up m.graph K.plane i li) p q hp hq b (K.share i j li lj d p hp ip jp).0 (K.share i j li lj d q hq iq jq).0

    second : (same (whole (seg m j).foot) p ≡ true) × (same (whole (head (seg m j))) q ≡ true)
    second = lower-end (seg m j) (upward_up m.graph K.plane j lj) p q hp hq b (K.share i j li lj d p hp ip jp).1 (K.share i j li lj d q hq iq jq).1

    equal : seg m i ≡ seg m j
    equal =
        ends_equal (seg m i) (seg m j) (same_trans (whole (seg m i).foot) p (whole (seg m j).foot) 0<1 hp 0<1 first.0 second.0)
        (same_trans (whole (head (seg m i))) q (whole (head (seg m j))) 0<1 hq 0<1 first.1 second.1)

    -- they would share their middle
    two_edges : ⊥
    two_edges =
        let c = middle (seg m i) in
        let w = middle-inside (seg m i) (upward_up m.graph K.plane i li) in
        let o = inside_on (seg m i) c w in
        end_not_inside (seg m i) c (K.share i j li lj d c (record { lt = tt }) o (subst (λ (s : Seg). On s c) equal o)).0 w

  pub two_common : On (seg m i) p → On (seg m i) q → On (seg m j) p → On (seg m j) q → i ≡ j
  two_common ip iq jp jq = elim (ℕ_discrete i j) [ yes e ↦ e | no d ↦ absurd (two_edges ip iq jp jq d) ]
