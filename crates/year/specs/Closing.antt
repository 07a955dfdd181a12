-- What comes of a year: the rows of its table and the gaps, or the refusal. Assumes nothing.
use Rattle.std.specs.Prelude.{◌≡◌, refl, ◌≤◌, ◌&&◌, ◌∷◌, ◌-◌}
use Rattle.std.proofs.Common.{sym, ◌∙◌, ap, arith, ltb-false}
use Rattle.seq.specs.Seq.{Bool, true, false, not, List, [], map, none, ℕ, zero, suc, min, ltb}
use Rattle.paper.specs.Limits.{year_files, year_pairs}
use Rattle.paper.specs.Refusal as refusal
use Rattle.paper.specs.Refusal.{given, answer}
use Rattle.paper.specs.Names.{whole_names}
use Rattle.paper.specs.Year.{Row}
use Rattle.laws_refusals.specs.Refusals.{nothing, given_none}
use Rattle.map_file.specs.declared.refusal.Refusal.{Refusal}
use Rattle.std.specs.Prelude.{Result, Ok, Err}
use Rattle.map_file.specs.Verdict.{verdict, refusal_of}
use Rattle.laws_year.specs.Step.{bad_fault, the_row_is}
use Rattle.laws_year.specs.Capped.{cap_fault, cap_answer}
use Rattle.year.specs.declared.state.Sums.{Sums}
use Rattle.year.specs.declared.answer.Totals.{Totals}
use Rattle.year.specs.TallyRows.{tallies_in}
use Rattle.year.specs.Kept.{kept}
use Rattle.year.specs.Stated.{minus_one, state_of}

-- of a table t
abbrev pub closed_of : List ℕ → Result Totals Refusal → refusal.Answer (List Row × ℕ)
closed_of t (Ok x) = refusal.done (map the_row_is (tallies_in t x.pairs), x.gaps)
closed_of t (Err r) = refusal.refused (refusal_of r)

-- ── both lists ──

pub torn-second : (a b : Bool) (zs bs : List ℕ) → a ≡ whole_names zs → b ≡ whole_names bs → a ≡ true → not b ≡ not (whole_names zs && whole_names bs)
torn-second a b zs bs e f t = ap not f ∙ sym (ap (λ (x : Bool). not (x && whole_names bs)) (sym e ∙ t))

pub torn_first : (a : Bool) (zs bs : List ℕ) → a ≡ whole_names zs → a ≡ false → true ≡ not (whole_names zs && whole_names bs)
torn_first a zs bs e t = sym (ap (λ (x : Bool). not (x && whole_names bs)) (sym e ∙ t))

-- ── the bad file ──

pub bad_none : (b : ℕ) → b ≡ 0 → none ≡ bad_fault (minus_one b)
bad_none b e = sym (ap (λ (k : ℕ). bad_fault (minus_one k)) e)

pub bad_some : (b : ℕ) → (b ≡ 0 → ⊥) → given 17 (b - 1) true ≡ bad_fault (minus_one b)
bad_some zero q = absurd (q refl)
bad_some (suc k) q = let e : suc k - 1 ≡ k = omega arith in ap (λ (j : ℕ). given 17 j true) e

-- ── the answer ──

module _ (t : List ℕ) (y : Sums) (zones blocks : List ℕ) where
  pub refused_is : (c : Result (Unit {0}) Refusal) (r : Refusal) → c ≡ Err r → verdict c ≡ cap_fault (state_of [] y) zones blocks → closed_of t (Err r) ≡ cap_answer (state_of t y) zones blocks
  refused_is c r e v = ap (answer (map the_row_is (kept t y.pairs).tallies, y.gaps)) (sym (ap verdict e) ∙ v)

  -- where nothing is refused there are at most 500 pairs
  few_pairs : none ≡ cap_fault (state_of [] y) zones blocks → y.pairs ≤ year_pairs
  few_pairs n =
      let (a, (b, (d, _))) = nothing (bad_fault (minus_one y.bad) ∷ given 18 0 (ltb year_files y.files) ∷ given 19 0 (ltb year_pairs y.pairs) ∷ given 20 0 (not (whole_names zones && whole_names blocks)) ∷ []) (sym n) in
      ltb-false year_pairs y.pairs (given_none 19 0 (ltb year_pairs y.pairs) d)

  pub done_few : (c : Result (Unit {0}) Refusal) → c ≡ Ok tt → verdict c ≡ cap_fault (state_of [] y) zones blocks → y.pairs ≤ year_pairs
  done_few c e v = few_pairs (sym (ap verdict e) ∙ v)

  pub done_is : (c : Result (Unit {0}) Refusal) → c ≡ Ok tt → verdict c ≡ cap_fault (state_of [] y) zones blocks → closed_of t (Ok (record { pairs = y.pairs; gaps = y.gaps })) ≡ cap_answer (state_of t y) zones blocks
  done_is c e v =
      let n : none ≡ cap_fault (state_of t y) zones blocks = sym (ap verdict e) ∙ v in
      let m : y.pairs ≡ min year_pairs y.pairs = omega (arith, few_pairs n) in
      ap (λ (k : ℕ). refusal.done (map the_row_is (tallies_in t k), y.gaps)) m ∙ ap (answer (map the_row_is (kept t y.pairs).tallies, y.gaps)) n
