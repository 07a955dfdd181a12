-- Rules 8 to 10 of a map in flat tables: what the searches find is what the rules name (`flat-clashing`, `flat-lonely`); where rule 8 finds nothing in a graph laid
-- in corners it is plane (`clear-plane`); and the order of the rules. Assumes nothing.
use Rattle.std.specs.Prelude.{◌&&◌, ◌∷◌, ◌*◌, Result, Ok, Err}
use Rattle.std.specs.Result.{result_and}
use mathlib.Core.Path.{◌≡◌, refl, sym, ap, ◌∙◌, subst}
use Prim.Native.Nat.{◌<◌}
use borrow.Author.Tests.{ltb-true}
use Rattle.seq.specs.Least.{least-ext}
use Rattle.seq.proofs.Least.{some_ext, no_some_is}
use Rattle.seq.specs.Seq.{Bool, true, false, not, Option, none, some, List, [], ℕ, eqb, ltb, length, ℤ, least, the_some_below}
use Rattle.paper.specs.Plane.{Seg, clash}
use Rattle.paper.specs.Refusal.{Refusal, beside, given, first_at, first_of}
use Rattle.paper.specs.Graph.{Graph, edge_count, the_half_count, leaves, followers}
use Rattle.paper.specs.Map.{Map, clashes, clashing, clash_place, clash_other, clash_fault, lonely, disagrees, net_faults}
use Rattle.map_file.specs.declared.refusal.Refusal as code
use Rattle.map_file.specs.Verdict.{verdict}
use Rattle.laws_refusals.specs.Refusals.{first_one, first_none, first_some, nothing, none_below}
use Rattle.laws_plane.specs.Cone.{UpV}
use Rattle.laws_graph.specs.Laid.{Laid, carrier_up}
use Rattle.laws_graph.specs.Plane.{Plane}
use Rattle.laws_graph.specs.Corners.{corners-plane}
use Rattle.laws_graph.specs.Rules.{clear_is}
use Rattle.graph.specs.Flat.{flat_graph}
use Rattle.graph.specs.Laws.Decode.{flat-points, flat-edges, flat-halves, flat-carrier, flat_origin}
use Rattle.graph.specs.Upright.{Upright}
use Rattle.map_check.specs.Net.{clash_at, clashing_at, clash_place_at, clash_fault_at, starts_at, lonely_at}

module _ (ps : List ℤ) (os : List ℕ) (cs : List ℤ) (n e : ℕ) where
  abbrev g : Graph
  g = flat_graph ps os cs n e

  -- edges laid in corners go up
  pub laid-upright : Laid g → Upright cs e
  laid-upright L = record { up = λ k l. subst (λ (s : Seg). UpV s.up) (flat-carrier ps os cs n e k l) (carrier_up g L k (subst (λ (m : ℕ). k < m) (sym (flat-edges ps os cs n e)) l)) }

  -- ── rules 8 and 9 ──

  clashing_is : least (clashing_at cs e) e ≡ least (clashing g) (edge_count g)
  clashing_is =
      least-ext (clashing_at cs e) (λ k. the_some_below (clashes g k) e) e
      (λ k l. some_ext (clash_at cs k) (clashes g k) e (λ j b. λ i. not (eqb k j) && clash (sym (flat-carrier ps os cs n e k l) i) (sym (flat-carrier ps os cs n e j b) i)))
      ∙ (λ i. least (λ k. the_some_below (clashes g k) (sym (flat-edges ps os cs n e) i)) (sym (flat-edges ps os cs n e) i))

  lonely_is : least (lonely_at os (2 * e)) n ≡ least (lonely g) (length g.points)
  lonely_is =
      least-ext (lonely_at os (2 * e)) (λ v. not (the_some_below (leaves g v) (2 * e))) n
      (λ v l. ap not (some_ext (starts_at os v) (leaves g v) (2 * e) (λ h b. ap (λ (x : ℕ). eqb x v) (sym (flat_origin ps os cs n e h b)))))
      ∙ (λ i. least (λ v. not (the_some_below (leaves g v) (sym (flat-halves ps os cs n e) i))) (sym (flat-points ps os cs n e) i))

  -- with a place the other edge is the same too
  other_is : (k : ℕ) → k < e → least (clash_at cs k) e ≡ least (clashes g k) (edge_count g)
  other_is k l =
      least-ext (clash_at cs k) (clashes g k) e (λ j b. λ i. not (eqb k j) && clash (sym (flat-carrier ps os cs n e k l) i) (sym (flat-carrier ps os cs n e j b) i))
      ∙ (λ i. least (clashes g k) (sym (flat-edges ps os cs n e) i))

  abbrev eight : Option Refusal
  eight = clash_fault g

  abbrev nine : Option Refusal
  nine = first_at 9 (lonely g) (length g.points)

  -- as the code gives them
  pub gives-eight : {r : Option Refusal} → r ≡ clash_fault_at cs e → r ≡ eight
  gives-eight q =
      let k = clash_place_at cs e in
      q ∙ same_other (least (clash_at cs k) e) (least (clashes g k) (edge_count g)) (ltb k e) (λ t. other_is k (ltb-true k e t))
      ∙ (λ i. beside 8 (clashing_is i) (least (clashes g (clashing_is i)) (edge_count g)) (ltb (clashing_is i) (sym (flat-edges ps os cs n e) i)))
    where
      same_other : (j h : ℕ) (b : Bool) → (b ≡ true → j ≡ h) → beside 8 (clash_place_at cs e) j b ≡ beside 8 (clash_place_at cs e) h b
      same_other j h true f = ap (λ (x : ℕ). beside 8 (clash_place_at cs e) x true) (f refl)
      same_other j h false f = refl

  pub gives-nine : {r : Option Refusal} {v : ℕ} → r ≡ given 9 v (ltb v n) → v ≡ least (lonely_at os (2 * e)) n → r ≡ nine
  gives-nine q f = q ∙ (λ i. given 9 (f i) (ltb (f i) n)) ∙ (λ i. given 9 (lonely_is i) (ltb (lonely_is i) (sym (flat-points ps os cs n e) i)))

  -- ── after rule 8 ──

  pub clear-plane : Laid g → first_of (eight ∷ nine ∷ []) ≡ none → Plane g
  clear-plane L e =
      let clear = none_below 8 (clash_place g) (clash_other g) (clashing g) (edge_count g) (nothing (eight ∷ nine ∷ []) e).0 in
      corners-plane g (record { laid = L; no_clash = λ k r lk lr. clear_is g k r (no_some_is (clashes g k) (edge_count g) (clear k lk) r lr) })

  -- ── the order of the rules ──

  module _ (ls : List ℕ) where
    abbrev m : Map
    m = record { graph = g; labels = ls }

    abbrev ten : Option Refusal
    ten = first_at 10 (disagrees m (followers g)) (the_half_count g)

    pub net_some : {r : Refusal} → first_of (eight ∷ nine ∷ []) ≡ some r → first_of (net_faults m) ≡ some r
    net_some e = first_some (eight ∷ nine ∷ []) (ten ∷ []) e

    pub net_none : first_of (eight ∷ nine ∷ []) ≡ none → first_of (net_faults m) ≡ ten
    net_none e = first_none (eight ∷ nine ∷ []) (ten ∷ []) e ∙ first_one ten

  -- rules 8 and 9 as the code has them, in this order
  pub eight-nine : {T : Type 0} {v : ℕ} (x y : Result T code.Refusal) → verdict x ≡ clash_fault_at cs e → verdict y ≡ given 9 v (ltb v n) → v ≡ least (lonely_at os (2 * e)) n → verdict (result_and x y) ≡ first_of (eight ∷ nine ∷ [])
  eight-nine x y p q f = of_two x y ∙ (λ i. first_of (gives-eight p i ∷ gives-nine q f i ∷ []))
    where
      of_two : {T : Type 0} (x y : Result T code.Refusal) → verdict (result_and x y) ≡ first_of (verdict x ∷ verdict y ∷ [])
      of_two (Ok u) (Ok v) = refl
      of_two (Ok u) (Err r) = refl
      of_two (Err r) y = refl
