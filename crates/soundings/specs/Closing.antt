-- What is answered after the last batch, as the code finds it: which refusal is due (`close_fault`), and that with it the answer is that of the run (`closed_is`); and the pairs in the lent tables (`laid-entries`). Assumes nothing.
use Rattle.std.specs.Prelude.{◌≡◌, refl, ◌≤◌, ◌<◌, ◌∷◌, ◌+◌, ◌*◌}
use Rattle.std.proofs.Common.{sym, ◌∙◌, ap, arith, lt-ltb, le-ltb, ltb-true, ltb-false, eq-eqb, ne_eqb, length-take}
use Rattle.seq.specs.Seq.{Bool, true, false, cond, not, List, [], Option, none, some, ℕ, suc, length, get_or, ltb, eqb, take, filled, ℤ}
use Rattle.seq.specs.Tests.{eqb_iff, clash}
use Rattle.seq.specs.Table.{length-table, table-ext}
use Rattle.seq.specs.Filled.{filled_at}
use Rattle.paper.specs.Limits.{overlay_faces, list_soundings}
use Rattle.paper.specs.Refusal.{Refusal, given, first_of}
use Rattle.paper.specs.Soundings.{Entry, Counted, CountRoom, entry_room, counted}
use Rattle.laws_refusals.specs.Refusals.{nothing, given_none, first_one, no_refusal}
use Rattle.laws_soundings.specs.Run.{Look, Tallied, Run, halted, twelve, entries_of, read_of, over_room, run_faults, cells_by, closed}
use Rattle.soundings_count.specs.Entries.{pair_width, entry_at, entries_in, entry}
use Rattle.soundings.specs.Rows.{look_by}
use Rattle.soundings.specs.Sound.{sound}
use Rattle.soundings.specs.State.{refusal_in, tallied_by, going_in, run_in}
use Rattle.soundings.specs.Fits.{sound-rest, sound_few}
use Rattle.soundings.specs.declared.state.Progress.{Progress}

-- 12, 13 and 11, place 6
abbrev pub due_in : ℕ → Progress → Option Refusal
due_in room p = first_of (given 12 0 (not (eqb p.rest 0)) ∷ given 13 p.far (ltb p.far p.soundings) ∷ given 11 6 (ltb room p.entries) ∷ [])

-- of a count that can go on or not
abbrev pub close_fault : ℕ → Bool → Progress → Option Refusal
close_fault room fit p = cond (eqb p.bad 0) (cond fit (due_in room p) (some twelve)) (some (refusal_in p))

-- ── which is due ──

module _ (room : ℕ) (fit : Bool) (p : Progress) where
  pub fault-bad : (p.bad ≡ 0 → ⊥) → some (refusal_in p) ≡ close_fault room fit p
  fault-bad q = sym (ap (λ (c : Bool). cond c (cond fit (due_in room p) (some twelve)) (some (refusal_in p))) (ne_eqb p.bad 0 q))

  module _ (q : p.bad ≡ 0) where
    good : close_fault room fit p ≡ cond fit (due_in room p) (some twelve)
    good = ap (λ (c : Bool). cond c (cond fit (due_in room p) (some twelve)) (some (refusal_in p))) (eq-eqb p.bad 0 q)

    pub fault_unfit : fit ≡ false → some twelve ≡ close_fault room fit p
    fault_unfit e = sym (good ∙ ap (λ (c : Bool). cond c (due_in room p) (some twelve)) e)

    module _ (e : fit ≡ true) where
      due : (o : Option Refusal) → o ≡ due_in room p → o ≡ close_fault room fit p
      due o h = h ∙ sym (good ∙ ap (λ (c : Bool). cond c (due_in room p) (some twelve)) e)

      abbrev by : Bool → Bool → Bool → Option Refusal
      by a b c = first_of (given 12 0 (not a) ∷ given 13 p.far b ∷ given 11 6 c ∷ [])

      pub fault-rest : (p.rest ≡ 0 → ⊥) → given 12 0 true ≡ close_fault room fit p
      fault-rest h = due (given 12 0 true) (sym (ap (λ (a : Bool). by a (ltb p.far p.soundings) (ltb room p.entries)) (ne_eqb p.rest 0 h)))

      pub fault-far : p.rest ≡ 0 → p.far < p.soundings → given 13 p.far true ≡ close_fault room fit p
      fault-far h l = due (given 13 p.far true) (sym (λ i. by (eq-eqb p.rest 0 h i) (lt-ltb p.far p.soundings l i) (ltb room p.entries)))

      pub fault_room : p.rest ≡ 0 → p.soundings ≤ p.far → given 11 6 (ltb room p.entries) ≡ close_fault room fit p
      fault_room h l =
          due (given 11 6 (ltb room p.entries)) (sym (first_one (given 11 6 (ltb room p.entries))) ∙ sym (λ i. by (eq-eqb p.rest 0 h i) (le-ltb p.far p.soundings l i) (ltb room p.entries)))

-- where nothing is due there is room
pub none_due : (room : ℕ) (fit : Bool) (p : Progress) → close_fault room fit p ≡ none → (fit ≡ true) × (p.entries ≤ room)
none_due room fit p e = by (eqb p.bad 0) fit e
  where
    by : (a b : Bool) → cond a (cond b (due_in room p) (some twelve)) (some (refusal_in p)) ≡ none → (b ≡ true) × (p.entries ≤ room)
    by true true h =
        let n = nothing (given 12 0 (not (eqb p.rest 0)) ∷ given 13 p.far (ltb p.far p.soundings) ∷ given 11 6 (ltb room p.entries) ∷ []) h in
        (refl, ltb-false room p.entries (given_none 11 6 _ n.1.1.0))
    by true false h = absurd (no_refusal h)
    by false b h = absurd (no_refusal h)

-- ── what is answered ──

module _ (l : CountRoom) (rs : List ℤ) (es : List ℕ) (e : ℕ) (rs2 : List ℤ) (es2 : List ℕ) (f : ℕ) (bs ls cs : List ℕ) (p : Progress) where
  abbrev room : ℕ
  room = entry_room pair_width l

  abbrev rows : List Entry
  rows = entries_in ls cs p.entries

  abbrev tallied : Bool → Option Tallied
  tallied c = cond c none (some (record { entries = rows; read = p.read }))

  abbrev outcome : Bool → Bool → Option Tallied → Counted
  outcome a b t = counted l (cells_by (length (entries_of t)) p.soundings (read_of t)) (entries_of t) (first_of (given 12 0 a ∷ given 13 p.far b ∷ given 11 6 (over_room room t) ∷ []))

  abbrev answered : Bool → Bool → Bool → Counted
  answered a b c = counted l (cells_by p.entries p.soundings p.read) rows (first_of (given 12 0 a ∷ given 13 p.far b ∷ given 11 6 c ∷ []))

  over : (a b : Bool) → outcome a b none ≡ answered a b true
  over true b = refl
  over false true = refl
  over false false = refl

  by_pairs : (a b c : Bool) → ltb overlay_faces p.entries ≡ c → outcome a b (tallied c) ≡ answered a b (ltb room p.entries)
  by_pairs a b true h = over a b ∙ ap (answered a b) (sym (lt-ltb room p.entries (omega (arith, ltb-true overlay_faces p.entries h))))
  by_pairs a b false h =
      let n = length-table (entry_at ls cs) p.entries in
      λ i. counted l (cells_by (n i) p.soundings p.read) rows (first_of (given 12 0 a ∷ given 13 p.far b ∷ given 11 6 (ltb room (n i)) ∷ []))

  by_sound : (c : Bool) → sound rs e rs2 f ls cs p ≡ c → 4 ≤ length bs →
      closed pair_width l (cond c (going_in (look_by rs es e rs2 es2 f) bs ls cs p) (halted twelve)) ≡ counted l (cells_by p.entries p.soundings p.read) rows (cond c (due_in room p) (some twelve))
  by_sound true h four =
      ap (λ (a : Bool). outcome (not a) (ltb p.far p.soundings) (tallied_by ls cs p.entries p.read))
      (eqb_iff (length (take p.rest bs)) 0 p.rest 0 (λ z. omega (arith, length-take p.rest bs)) (λ z. omega (arith, length-take p.rest bs)))
      ∙ by_pairs (not (eqb p.rest 0)) (ltb p.far p.soundings) (ltb overlay_faces p.entries) refl
  by_sound false h four = refl

  by_bad : (c : Bool) → 4 ≤ length bs →
      closed pair_width l (cond c (cond (sound rs e rs2 f ls cs p) (going_in (look_by rs es e rs2 es2 f) bs ls cs p) (halted twelve)) (halted (refusal_in p)))
      ≡ counted l (cells_by p.entries p.soundings p.read) rows (cond c (cond (sound rs e rs2 f ls cs p) (due_in room p) (some twelve)) (some (refusal_in p)))
  by_bad true four = by_sound (sound rs e rs2 f ls cs p) refl four
  by_bad false four = refl

  pub closed_is : 4 ≤ length bs → (k : ℕ) (c : Bool) (o : Option Refusal) → k ≡ entry_room pair_width l → c ≡ sound rs e rs2 f ls cs p → o ≡ close_fault k c p →
      counted l (cells_by p.entries p.soundings p.read) rows o ≡ closed pair_width l (run_in rs es e rs2 es2 f bs ls cs p)
  closed_is four k c o x y z = ap (counted l (cells_by p.entries p.soundings p.read) rows) (z ∙ (λ i. close_fault (x i) (y i) p)) ∙ sym (by_bad (eqb p.bad 0) four)

-- ── the lent tables ──

-- the first n rows laid over those of other tables
pub laid-entries : (ls cs us vs xs ys : List ℕ) (n : ℕ) → xs ≡ filled (pair_width * n) (λ i. get_or ls i 0) us → ys ≡ filled n (λ i. get_or cs i 0) vs → entries_in xs ys n ≡ entries_in ls cs n
laid-entries ls cs us vs xs ys n e f =
    table-ext (entry_at xs ys) (entry_at ls cs) n
    (λ r l i. entry (at (pair_width * r + 0) (omega arith) i ∷ at (pair_width * r + 1) (omega arith) i ∷ []) ((ap (λ (t : List ℕ). get_or t r 0) f ∙ filled_at (λ j. get_or cs j 0) n r vs 0 l) i))
  where
    at : (j : ℕ) → j < pair_width * n → get_or xs j 0 ≡ get_or ls j 0
    at j l = ap (λ (t : List ℕ). get_or t j 0) e ∙ filled_at (λ i. get_or ls i 0) (pair_width * n) j us 0 l
