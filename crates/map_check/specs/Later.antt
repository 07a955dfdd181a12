-- Clashing is mutual, whether or not an edge goes up: so the least edge that clashes with another is the least that clashes with a later one, and the other edge, the least that clashes
-- with it, comes after it. Assumes nothing.
use Rattle.std.specs.Prelude.{◌≡◌, ◌<◌, ◌≤◌, ◌&&◌, ◌+◌}
use Rattle.std.proofs.Common.{sym, ◌∙◌, ap, subst, arith, ltb-true, lt-ltb, le-ltb, eq-eqb, ne_eqb}
use Rattle.std.proofs.Math.Decide.{dec_lt}
use Rattle.seq.specs.Seq.{Bool, true, false, not, List, Option, none, ℕ, ltb, ℤ, least, the_some_below}
use Rattle.seq.specs.Least.{least-ext}
use Rattle.seq.proofs.Least.{least-le, least-holds, least_min, least_by, least_none, some_has, some_witness, no_some, no_some_is}
use Rattle.seq.specs.Tests.{bool-ext, and_parts}
use Rattle.paper.specs.Plane.{Seg, head, whole, clash}
use Rattle.paper.specs.Refusal.{Refusal, beside}
use Rattle.laws_plane.specs.Clash.{Clash, foot_in, head_in, in_foot, in_head, across, equal, clash-way, way-clash}
use Rattle.laws_plane.specs.Points.{same_sym}
use Rattle.graph.specs.Flat.{carrier_at}
use Rattle.map_check.specs.Net.{clash_at, clashing_at, clash_place_at, clash_fault_at}

pub way-swap : (s t : Seg) → Clash s t → Clash t s
way-swap s t (foot_in i) = in_foot i
way-swap s t (head_in i) = in_head i
way-swap s t (in_foot i) = foot_in i
way-swap s t (in_head i) = head_in i
way-swap s t (across e f) = across f e
way-swap s t (equal e f) = equal (same_sym (whole s.foot) (whole t.foot) e) (same_sym (whole (head s)) (whole (head t)) f)

clash_mutual : (s t : Seg) → clash s t ≡ clash t s
clash_mutual s t = bool-ext (clash s t) (clash t s) (λ e. way-clash t s (way-swap s t (clash-way s t e))) (λ e. way-clash s t (way-swap t s (clash-way t s e)))

-- edge j comes after edge k, and they share a point that is not an end of both
abbrev pub later_at : List ℤ → ℕ → ℕ → Bool
later_at cs k j = ltb k j && clash (carrier_at cs k) (carrier_at cs j)

-- some edge after k does, of e edges
abbrev pub later_clashing : List ℤ → ℕ → ℕ → Bool
later_clashing cs e k = the_some_below (later_at cs k) e

-- ── a search that starts after k ──

module _ (cs : List ℤ) (k : ℕ) where
  pub later-starts : least (later_at cs k) (k + 1) ≡ k + 1
  later-starts = least_none (later_at cs k) (k + 1) (λ j l. ap (λ (c : Bool). c && clash (carrier_at cs k) (carrier_at cs j)) (le-ltb k j (omega arith)))

  pub later-is : (j : ℕ) → k < j → later_at cs k j ≡ clash (carrier_at cs k) (carrier_at cs j)
  later-is j l = ap (λ (c : Bool). c && clash (carrier_at cs k) (carrier_at cs j)) (lt-ltb k j l)

-- ── the least edge ──

module _ (cs : List ℤ) (e : ℕ) where
  abbrev r : ℕ
  r = least (later_clashing cs e) e

  -- below it none clashes with a later one, so that of two none clashes with the other
  apart_below : (k j : ℕ) → k < r → k < j → j < e → clash (carrier_at cs k) (carrier_at cs j) ≡ false
  apart_below k j b l h = sym (later-is cs k j l) ∙ no_some_is (later_at cs k) e (least_min (later_clashing cs e) e k b) j h

  none_below : (k j : ℕ) → k < r → j < e → clash_at cs k j ≡ false
  none_below k j b h =
      elim (dec_lt k j) [
        | yes l ↦ other k j (λ q. omega arith) (apart_below k j b l h)
        | no l ↦ elim (dec_lt j k) [
          | yes m ↦ other k j (λ q. omega arith)
              (clash_mutual (carrier_at cs k) (carrier_at cs j) ∙ apart_below j k (omega arith) m (omega (arith, least-le (later_clashing cs e) e)))
          | no m ↦ let q : k ≡ j = omega arith in ap (λ (c : Bool). not c && clash (carrier_at cs k) (carrier_at cs j)) (eq-eqb k j q)
        ]
      ]
    where
      other : (k j : ℕ) → (k ≡ j → ⊥) → clash (carrier_at cs k) (carrier_at cs j) ≡ false → clash_at cs k j ≡ false
      other k j f c = (λ i. not (ne_eqb k j f i) && c i)

  found-clashes : r < e → clashing_at cs e r ≡ true
  found-clashes l =
      let (j, h, q) = some_witness (later_at cs r) e (least-holds (later_clashing cs e) e l) in
      let w = and_parts (ltb r j) (clash (carrier_at cs r) (carrier_at cs j)) q in
      let b : r < j = ltb-true r j w.0 in
      some_has (clash_at cs r) e j h (λ i. not (ne_eqb r j (λ s. omega arith) i) && w.1 i)

  pub least-later : r ≡ least (clashing_at cs e) e
  least-later =
      sym (least_by (clashing_at cs e) e r (least-le (later_clashing cs e) e) (λ k b. no_some (clash_at cs k) e (λ j h. none_below k j b h)) found-clashes)

  -- ── the other edge ──

  -- with the place no edge before it clashes, since it would itself be the place
  before_place : clash_place_at cs e < e → (j : ℕ) → j < e → clash_at cs (clash_place_at cs e) j ≡ later_at cs (clash_place_at cs e) j
  before_place l j h =
      let k = clash_place_at cs e in
      let c = clash (carrier_at cs k) (carrier_at cs j) in
      elim (dec_lt k j) [
        | yes b ↦ (λ i. not (ne_eqb k j (λ q. omega arith) i) && c) ∙ sym (later-is cs k j b)
        | no b ↦ elim (dec_lt j k) [
          | yes a ↦ (λ i. not (ne_eqb k j (λ q. omega arith) i) && c) ∙ apart j k a l (λ q. omega arith) ∙ sym (ap (λ (x : Bool). x && c) (le-ltb k j (omega arith)))
          | no a ↦ let q : k ≡ j = omega arith in ap (λ (x : Bool). not x && c) (eq-eqb k j q) ∙ sym (ap (λ (x : Bool). x && c) (le-ltb k j (omega arith)))
        ]
      ]
    where
      apart : (j k : ℕ) → j < clash_place_at cs e → k < e → (j ≡ k → ⊥) → clash (carrier_at cs k) (carrier_at cs j) ≡ false
      apart j k a l f =
          let d = no_some_is (clash_at cs j) e (least_min (clashing_at cs e) e j a) k l in
          clash_mutual (carrier_at cs k) (carrier_at cs j) ∙ sym (λ i. not (ne_eqb j k f i) && clash (carrier_at cs j) (carrier_at cs k)) ∙ d

  -- the least edge that clashes with the place is the least after it that does
  pub other_later : clash_place_at cs e < e → least (clash_at cs (clash_place_at cs e)) e ≡ least (later_at cs (clash_place_at cs e)) e
  other_later l = least-ext (clash_at cs (clash_place_at cs e)) (later_at cs (clash_place_at cs e)) e (before_place l)

  -- rule 8 as the code gives it
  pub gives-clash : {r : Option Refusal} {k j : ℕ} → r ≡ beside 8 k j true → k ≡ clash_place_at cs e → j ≡ least (later_at cs k) e → k < e → r ≡ clash_fault_at cs e
  gives-clash {r} {k} {j} q f g l =
      let here : clash_place_at cs e < e = subst (λ (x : ℕ). x < e) f l in
      let other : j ≡ least (clash_at cs (clash_place_at cs e)) e = g ∙ ap (λ (x : ℕ). least (later_at cs x) e) f ∙ sym (other_later here) in
      q ∙ (λ i. beside 8 (f i) (other i) (sym (lt-ltb (clash_place_at cs e) e here) i))

  pub gives_none : {k : ℕ} → k ≡ clash_place_at cs e → e ≤ k → none ≡ clash_fault_at cs e
  gives_none {k} f h = sym (ap (beside 8 (clash_place_at cs e) (least (clash_at cs (clash_place_at cs e)) e)) (le-ltb (clash_place_at cs e) e (subst (λ (x : ℕ). e ≤ x) f h)))
