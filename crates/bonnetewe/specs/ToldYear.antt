-- The year's answer as one number, for C: the pairs and the gaps above a 0, or the refusal. Assumes nothing.
use Rattle.std.specs.Prelude.{◌≡◌, refl, Result, Ok, Err, ◌∷◌, ◌+◌, ◌*◌}
use Rattle.std.proofs.Common.{sym, ◌∙◌, ap}
use Rattle.seq.specs.Seq.{List, [], map, ℕ, suc, length}
use Rattle.seq.specs.Table.{length-table}
use Rattle.paper.specs.Refusal as refusal
use Rattle.paper.specs.Year.{Row}
use Rattle.laws_year.specs.Step.{Tally, the_row_is}
use Rattle.map_file.specs.declared.refusal.Refusal.{Refusal}
use Rattle.year.specs.declared.answer.Totals.{Totals}
use Rattle.year.specs.TallyRows.{tally_at, tallies_in}
use Rattle.year.specs.Closing.{closed_of}
use Rattle.bonnetewe.specs.Told.{four}

abbrev pub told_year : refusal.Answer (List Row × ℕ) → ℕ
told_year (refusal.done y) = 65536 * (length y.0 + 65536 * y.1)
told_year (refusal.refused r) = four r.number r.map r.place r.other

-- by what `close` gives
abbrev pub told_closed : Result Totals Refusal → ℕ
told_closed (Ok t) = 65536 * (t.pairs + 65536 * t.gaps)
told_closed (Err r) = four r.number r.map r.place r.other

length-rows : (l : List Tally) → length (map the_row_is l) ≡ length l
length-rows [] = refl
length-rows (x ∷ xs) = ap suc (length-rows xs)

closed-told : (t : List ℕ) (c : Result Totals Refusal) → told_closed c ≡ told_year (closed_of t c)
closed-told t (Ok x) = ap (λ (n : ℕ). 65536 * (n + 65536 * x.gaps)) (sym (length-rows (tallies_in t x.pairs) ∙ length-table (tally_at t) x.pairs))
closed-told t (Err r) = refl

pub told-year : (t : List ℕ) (c : Result Totals Refusal) (x : refusal.Answer (List Row × ℕ)) (r : ℕ) → r ≡ told_closed c → closed_of t c ≡ x → r ≡ told_year x
told-year t c x r e f = e ∙ closed-told t c ∙ ap told_year f
