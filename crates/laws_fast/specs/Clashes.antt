-- Rule 8 in any order of the edges in which no edge clashes with a later one: then no two clash (`order_no_clash`), so the search for the least edge that clashes finds nothing (`order_least`). The edges are
-- given by their segments: carriers in a table, or of a graph. Assumes nothing.
use Rattle.std.specs.Prelude.{◌≡◌, ◌<◌, ◌&&◌}
use Rattle.std.proofs.Common.{sym, ◌∙◌, ap, arith, eq-eqb, ne_eqb}
use Rattle.std.proofs.Math.Decide.{dec_lt, ℕ_discrete}
use Rattle.seq.specs.Seq.{Bool, false, not, ℕ, eqb, least, the_some_below}
use Rattle.seq.specs.Terms.{Injects}
use Rattle.seq.proofs.Least.{least_none, no_some}
use Rattle.seq.proofs.Perm.{onto}
use Rattle.paper.specs.Plane.{Seg, clash}
use Rattle.laws_plane.specs.Cone.{UpV}
use Rattle.laws_plane.specs.Clash.{clash-swap}

-- edge k shares with another of n a point that is not an end of both: of a graph's carriers `clashing`, of carriers in a table what the code tests
abbrev pub clashing_by : (ℕ → Seg) → ℕ → ℕ → Bool
clashing_by seg n k = the_some_below (λ j. not (eqb k j) && clash (seg k) (seg j)) n

module _ (seg : ℕ → Seg) (n : ℕ) where
  -- the edges go up
  abbrev pub AllUp : Type 0
  AllUp = (k : ℕ) → k < n → UpV (seg k).up

  -- no two of them clash
  abbrev pub NoClash : Type 0
  NoClash = (k j : ℕ) → k < n → j < n → (k ≡ j → ⊥) → clash (seg k) (seg j) ≡ false

  -- n edges that go up, in an order f, of which each clashes with none that comes after it
  module _ (up : AllUp) (f : ℕ → ℕ) (I : Injects f n) (along : (i j : ℕ) → i < j → j < n → clash (seg (f i)) (seg (f j)) ≡ false) where
    either : (i j : ℕ) → i < n → j < n → (i ≡ j → ⊥) → clash (seg (f i)) (seg (f j)) ≡ false
    either i j li lj d =
        elim (dec_lt i j) [
          | yes l ↦ along i j l lj
          | no l ↦ clash-swap (seg (f i)) (seg (f j)) (up (f i) (I.into i li)) (up (f j) (I.into j lj)) ∙ along j i (omega arith) li
        ]

    pub order_no_clash : NoClash
    order_no_clash k j lk lj d =
        let (a, la, p) = onto f n I k lk in
        let (b, lb, q) = onto f n I j lj in
        sym (λ i. clash (seg (p i)) (seg (q i))) ∙ either a b la lb (λ s. d (sym p ∙ ap f s ∙ q))

    one_clear : (k j : ℕ) → k < n → j < n → (not (eqb k j) && clash (seg k) (seg j)) ≡ false
    one_clear k j lk lj =
        elim (ℕ_discrete k j) [
          | yes q ↦ ap (λ (c : Bool). not c && clash (seg k) (seg j)) (eq-eqb k j q)
          | no q ↦ (λ i. not (ne_eqb k j q i) && order_no_clash k j lk lj q i)
        ]

    -- so the search for the least that does finds nothing
    pub order_least : least (clashing_by seg n) n ≡ n
    order_least = least_none (clashing_by seg n) n (λ k lk. no_some (λ j. not (eqb k j) && clash (seg k) (seg j)) n (λ j lj. one_clear k j lk lj))
