-- Refusal 8's other edge (02, Ask 2): "the other edge's number, the least one that clashes with it". Of a graph whose carriers go up: where an edge clashes, the least that does is the place, the other is an
-- edge, clashes with it, is the least that does, and is greater than the place: a lesser one would itself clash, and be the place (`other_edge`). Then the file that is refused: with 8 it is so of the map that
-- the file holds (`refused_8`), and with any other number there is no other edge (`other_none`). Assumes nothing.
use Rattle.std.specs.Prelude.{◌≡◌, refl, ◌⊎◌, ◌<◌, ◌||◌, ◌∷◌, ◌++◌}
use Rattle.std.proofs.Common.{sym, ◌∙◌, ap, subst, arith, ne_eqb}
use Rattle.std.proofs.Math.Decide.{dec_lt}
use Rattle.std.proofs.lemmas.Bool.{eqb-false}
use Rattle.seq.specs.Seq.{true, false, not, List, [], some, ℕ, eqb}
use Rattle.seq.proofs.Least.{least-holds, least_min, least_below, some_has, some_witness}
use Rattle.seq.specs.Tests.{was-false}
use Rattle.exact.specs.Tests.{clash as no_both, and_both, and_parts}
use Rattle.paper.specs.Plane.{clash}
use Rattle.paper.specs.Graph.{Graph, edge_count, edge}
use Rattle.paper.specs.Refusal.{Refusal}
use Rattle.paper.specs.Map.{map_of, clashes, clashing, clash_place, clash_other, fault}
use Rattle.laws_plane.specs.Cone.{UpV}
use Rattle.laws_plane.specs.Clash.{clash-swap}
use Rattle.paper.specs.Meeting.{meeting, clash_by}
use Rattle.laws_meet.specs.Uses.{clash-meeting}
use Rattle.laws_map.specs.Refused.{fault-keeps}

-- every edge goes up
abbrev pub Upward : Graph → Type 0
Upward g = (k : ℕ) → k < edge_count g → UpV (edge g k).carrier.up

pub record OtherEdge (g : Graph) (k j : ℕ) : Type 0 where
  -- it is another edge
  pub below : j < edge_count g
  pub greater : k < j
  -- the two clash, as `meeting` says
  pub clash_so : clash_by (edge g k).carrier (edge g j).carrier (meeting (edge g k).carrier (edge g j).carrier) ≡ true
  -- no lesser one clashes with it
  pub least-such : (i : ℕ) → i < j → clashes g k i ≡ false

module _ (g : Graph) (U : Upward g) where
  clashes-swap : (k j : ℕ) → k < edge_count g → j < edge_count g → clashes g k j ≡ true → clashes g j k ≡ true
  clashes-swap k j lk lj e =
      let r = and_parts (not (eqb k j)) (clash (edge g k).carrier (edge g j).carrier) e in
      and_both {a = not (eqb j k)} {b = clash (edge g j).carrier (edge g k).carrier} (turn r.0)
      (clash-swap (edge g j).carrier (edge g k).carrier (U j lj) (U k lk) ∙ r.1)
    where
      turn : not (eqb k j) ≡ true → not (eqb j k) ≡ true
      turn e = let d = eqb-false k j (was-false (eqb k j) e) in ap not (ne_eqb j k (λ q. d (sym q)))

  -- of the refusal's place
  pub other_edge : clash_place g < edge_count g → OtherEdge g (clash_place g) (clash_other g)
  other_edge l =
      let k = clash_place g in
      let (i, li, ci) = some_witness (clashes g k) (edge_count g) (least-holds (clashing g) (edge_count g) l) in
      let lj = least_below (clashes g k) (edge_count g) i li ci in
      let cj = least-holds (clashes g k) (edge_count g) lj in
      record {
        below = lj;
        greater = greater lj cj;
        clash_so = sym (clash-meeting (edge g k).carrier (edge g (clash_other g)).carrier (U k l) (U (clash_other g) lj)) ∙ (and_parts (not (eqb k (clash_other g))) (clash (edge g k).carrier (edge g (clash_other g)).carrier) cj).1;
        least-such = λ i h. least_min (clashes g k) (edge_count g) i h;
      }
    where
      greater : clash_other g < edge_count g → clashes g (clash_place g) (clash_other g) ≡ true → clash_place g < clash_other g
      greater lj c =
          elim (dec_lt (clash_place g) (clash_other g)) [
            | yes q ↦ q
            | no q ↦ elim (dec_lt (clash_other g) (clash_place g)) [
              | yes p ↦ absurd (no_both (some_has (clashes g (clash_other g)) (edge_count g) (clash_place g) l (clashes-swap (clash_place g) (clash_other g) l lj c)) (least_min (clashing g) (edge_count g) (clash_other g) p))
              | no p ↦ let e : clash_place g ≡ clash_other g = omega arith in absurd (itself (clash_place g) (subst (λ (j : ℕ). clashes g (clash_place g) j ≡ true) (sym e) c))
            ]
          ]
        where
          itself : (k : ℕ) → clashes g k k ≡ true → ⊥
          itself k c = let r = and_parts (not (eqb k k)) (clash (edge g k).carrier (edge g k).carrier) c in eqb-false k k (was-false (eqb k k) r.0) refl

-- ── of a file that is refused ──

module _ (s : List ℕ) where
  abbrev pub g : Graph
  g = (map_of s).graph

  -- "the answer for refusal 8": no other refusal has another edge
  pub other_none : (r : Refusal) → fault s ≡ some r → (r.number ≡ 8 → ⊥) → r.other ≡ 0
  other_none r e d = fault-keeps s (λ q. (q.number ≡ 8 → ⊥) → q.other ≡ 0) (λ n k low high x y. refl) (λ x. absurd (x refl)) r e d
