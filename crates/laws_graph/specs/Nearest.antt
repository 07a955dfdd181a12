-- Where no two edges of a plane graph share a stretch, any two edges at one height differ in `nearer`: two that do not are on one line, and overlap at that
-- height. So what a look sees is the one edge that is nearer than every other candidate (`west-nearest`), whatever the numbers of the edges. Assumes nothing.
use Rattle.std.specs.Prelude.{◌≡◌, refl, ◌<◌, ◌<ℤ◌, ◌∷◌, ◌+ℤ◌, ◌-ℤ◌, ◌*ℤ◌}
use Rattle.std.proofs.Common.{sym, ◌∙◌}
use Rattle.seq.specs.Seq.{true, false, [], Option, none, some, Option·map, ℕ, ℤ, pos, best}
use Rattle.seq.specs.Terms.{Has, Order, Best, BestIs}
use Rattle.seq.specs.Tests.{clash, and_parts}
use Rattle.seq.specs.Best.{best_is}
use Rattle.exact.specs.Solve.{ring, reify}
use Rattle.exact.specs.Order.{0<-*, sub_back}
use Rattle.exact.specs.Sign.{Sign}
use Rattle.exact.specs.Mul.{zero-cancel}
use Rattle.paper.specs.Plane.{Pt, Vec, Seg, cross, before, the_left_by}
use Rattle.paper.specs.Graph.{Graph, edge_count, edge, low, high, upward, at_height, left_of, westward, nearer, east_side, west}
use Rattle.laws_plane.specs.Cone.{Way, up, nil, down, which, up_by}
use Rattle.laws_plane.specs.Ends.{below_before}
use Rattle.laws_plane.specs.Angles.{cross-swap}
use Rattle.laws_graph.specs.Plane.{Plane, ends_on}
use Rattle.laws_graph.specs.West.{candidate, ahead, up_nearer, nearer-trans, height_below, height-steep}

-- two edges on one line of which each starts before the other ends are one edge
abbrev pub Clear : Graph → Type 0
Clear g = (k r : ℕ) → k < edge_count g → r < edge_count g → cross (upward g k) (upward g r) ≡ pos 0 → left_of g (low g r) k ≡ pos 0 →
    before (low g k) (high g r) ≡ true → before (low g r) (high g k) ≡ true → k ≡ r

-- what a look sees: the outside, where there is no candidate, or the east side of the candidate that is nearer than every other
abbrev pub SeesOne : Graph → Pt → Vec → Option ℕ → Type 0
SeesOne g p d none = (k : ℕ) → Has (candidate g p d) (edge_count g) k → ⊥
SeesOne g p d (some h) = (k : ℕ) × Best (candidate g p d) (nearer g p) (edge_count g) k × (east_side g k ≡ h)

-- ── neither is nearer: one line ──

-- s and t are parallel and have the same x at the height of p, q is on t: it is on s
one_line : (s t : Seg) (p q : Pt) →
    (t.up.y *ℤ p.D) *ℤ the_left_by s q
    ≡ q.D *ℤ (the_left_by s p *ℤ t.up.y -ℤ the_left_by t p *ℤ s.up.y) +ℤ (s.up.y *ℤ p.D) *ℤ the_left_by t q +ℤ (q.Y *ℤ p.D -ℤ p.Y *ℤ q.D) *ℤ cross s.up t.up
one_line s t p q =
    ring (s.foot.x ∷ s.foot.y ∷ s.up.x ∷ s.up.y ∷ t.foot.x ∷ t.foot.y ∷ t.up.x ∷ t.up.y ∷ p.X ∷ p.Y ∷ p.D ∷ q.X ∷ q.Y ∷ q.D ∷ []) (search reify depth 20) tt

all_zero_lem : (a b c : ℤ) → a *ℤ pos 0 +ℤ b *ℤ pos 0 +ℤ c *ℤ pos 0 ≡ pos 0
all_zero_lem a b c = ring (a ∷ b ∷ c ∷ []) (search reify depth 20) tt

module _ (g : Graph) (P : Plane g) (p : Pt) (hp : pos 0 <ℤ p.D) where
  on_line : (k r : ℕ) → r < edge_count g → at_height g p r ≡ true → cross (upward g k) (upward g r) ≡ pos 0 → ahead g p k r ≡ pos 0 → left_of g (low g r) k ≡ pos 0
  on_line k r l e c a =
      let s = (edge g k).carrier in
      let t = (edge g r).carrier in
      let q = low g r in
      zero-cancel (t.up.y *ℤ p.D) (the_left_by s q) (0<-* (height-steep g P p hp r l e) hp)
      (one_line s t p q
      ∙ (λ i. q.D *ℤ a i +ℤ (s.up.y *ℤ p.D) *ℤ (ends_on g P r l).0 i +ℤ (q.Y *ℤ p.D -ℤ p.Y *ℤ q.D) *ℤ c i)
      ∙ all_zero_lem q.D (s.up.y *ℤ p.D) (q.Y *ℤ p.D -ℤ p.Y *ℤ q.D))

  module _ (C : Clear g) where
    total_by : (k r : ℕ) → k < edge_count g → r < edge_count g → at_height g p k ≡ true → at_height g p r ≡ true → (k ≡ r → ⊥) → nearer g p k r ≡ false → nearer g p r k ≡ true
    total_by k r lk lr e f d n = go (which (cross (upward g k) (upward g r)) (ahead g p k r))
      where
        go : {s : Sign} → Way (cross (upward g k) (upward g r)) (ahead g p k r) s → nearer g p r k ≡ true
        go (up h) = absurd (clash (up_nearer g p k r h) n)
        go (nil c a) =
            absurd (d (C k r lk lr c (on_line k r lr f c a)
            (below_before (low g k) (high g r) (height_below g P p hp k r e f)) (below_before (low g r) (high g k) (height_below g P p hp r k f e))))
        go (down h) =
            up_nearer g p r k (up_by (sym (cross-swap (upward g k) (upward g r))) (sym (sub_back (left_of g p k *ℤ (upward g r).y) (left_of g p r *ℤ (upward g k).y))) h)

    module _ (d : Vec) where
      height : {k : ℕ} → Has (candidate g p d) (edge_count g) k → at_height g p k ≡ true
      height {k} h = (and_parts (at_height g p k) (westward g p d k) h.has).0

      -- nearer is a strict total order of the candidates
      pub nearer-order : Order (candidate g p d) (nearer g p) (edge_count g)
      nearer-order = record {
        trans = λ k r j hk hr hj. nearer-trans g p k r j (height-steep g P p hp k hk.below (height hk)) (height-steep g P p hp r hr.below (height hr)) (height-steep g P p hp j hj.below (height hj));
        total = λ k r hk hr n e. total_by k r hk.below hr.below (height hk) (height hr) n e;
      }

      sees_by : (o : Option ℕ) → BestIs (candidate g p d) (nearer g p) (edge_count g) o → SeesOne g p d (Option·map (east_side g) o)
      sees_by none t = t
      sees_by (some k) t = (k, t, refl)

      -- a look's answer is nearer than every other candidate
      pub west-nearest : SeesOne g p d (west g p d)
      west-nearest = sees_by (best (candidate g p d) (nearer g p) (edge_count g)) (best_is (candidate g p d) (nearer g p) (edge_count g) nearer-order)
