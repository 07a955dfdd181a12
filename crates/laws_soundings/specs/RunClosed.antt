-- What is answered in the end is what the definition says of the whole list: where the count stands after the bytes s (`closes`), and of two or more map files with any batches, whatever their lengths (`all_answer`); so
-- no two cuts of one list are answered differently (`cuts-agree`). Assumes nothing.
use Rattle.std.specs.Prelude.{◌≡◌, refl, ◌≤◌, ◌||◌, ◌∷◌, ◌++◌, ◌%◌, ◌*◌}
use Rattle.std.proofs.Common.{sym, ◌∙◌, ap, arith, lt-ltb, le-ltb, ltb-true, ltb-false, length-drop}
use Rattle.std.proofs.Math.Decide.{dec_lt}
use Rattle.seq.specs.Seq.{Bool, true, false, cond, not, List, [], map, Option, none, some, ℕ, eqb, ltb, length, drop}
use Rattle.seq.specs.Tests.{eqb_iff, or_r}
use Rattle.seq.proofs.Least.{least-le}
use Rattle.paper.specs.Limits.{overlay_faces, list_soundings}
use Rattle.paper.specs.Refusal.{Refusal, given, first_of}
use Rattle.paper.specs.Map.{map_of}
use Rattle.paper.specs.Overlay.{map_faults}
use Rattle.paper.specs.Soundings.{Entry, Counted, CountRoom, entry_room, counted, soundings_in, far, bad_list, list_faults, soundings}
use Rattle.laws_refusals.specs.Refusals.{first_none, first_some}
use Rattle.laws_soundings.specs.Run.{Look, look_in, Run, halted, going, going_by, twelve, starts, capped, next, entries_of, read_of, over_room, run_faults, cells_by, closed}
use Rattle.laws_soundings.specs.RunAfter.{tally_upto, reads_upto, counts_upto, first_far, run_after, the_end_to_end, next_all, after_all, halted-stays}

-- ── after the bytes s ──

module _ (w : ℕ) (l : CountRoom) (m : Look) (s : List ℕ) where
  abbrev n : ℕ
  n = soundings_in s

  abbrev k : ℕ
  k = first_far s

  abbrev room : ℕ
  room = entry_room w l

  -- what all soundings are counted to
  abbrev t : List Entry
  t = tally_upto m s n

  -- the definition's, of maps that pass
  abbrev pub listed : Counted
  listed = counted l (cells_by (length t) n (reads_upto m s n)) t (first_of (list_faults s ++ (given 11 6 (ltb room (length t)) ∷ [])))

  abbrev outcome : Bool → Bool → Bool → ℕ → ℕ → List Entry → Counted
  outcome a b c e q x = counted l (cells_by e n q) x (first_of (given 12 0 a ∷ given 13 k b ∷ given 11 6 c ∷ []))

  -- 11, or done: the room is at most 1,334
  by_room : (a c : Bool) → ltb overlay_faces (length t) ≡ c →
      counted l (cells_by (length (entries_of (cond c none (some (record { entries = t; read = reads_upto m s n }))))) n (read_of (cond c none (some (record { entries = t; read = reads_upto m s n })))))
      (entries_of (cond c none (some (record { entries = t; read = reads_upto m s n }))))
      (first_of (given 12 0 a ∷ given 13 k false ∷ given 11 6 (over_room room (cond c none (some (record { entries = t; read = reads_upto m s n })))) ∷ []))
      ≡ outcome a false (ltb room (length t)) (length t) (reads_upto m s n) t
  by_room true true e = refl
  by_room false true e = sym (ap (λ (c : Bool). outcome false false c (length t) (reads_upto m s n) t) (lt-ltb room (length t) (omega (arith, ltb-true overlay_faces (length t) e))))
  by_room a false e = refl

  abbrev answered : Bool → Bool → ℕ → Counted
  answered a b j =
      counted l (cells_by (length (entries_of (counts_upto m s j))) n (read_of (counts_upto m s j))) (entries_of (counts_upto m s j))
      (first_of (given 12 0 a ∷ given 13 k b ∷ given 11 6 (over_room room (counts_upto m s j)) ∷ []))

  -- 13, or what comes after it
  by_far : (a b : Bool) → ltb k n ≡ b → answered a b k ≡ outcome a b (ltb room (length t)) (length t) (reads_upto m s n) t
  by_far true b e = refl
  by_far false true e = refl
  by_far false false e =
      let q : k ≡ n = omega (arith, ltb-false k n e, least-le (far s) n) in
      ap (answered false false) q ∙ by_room false (ltb overlay_faces (length t)) refl

  rest-torn : ltb list_soundings n ≡ false → not (eqb (length (drop (4 * n) s)) 0) ≡ bad_list s
  rest-torn e =
      ap not (eqb_iff (length (drop (4 * n) s)) 0 (length s % 4) 0 (λ z. omega (arith, length-drop (4 * n) s)) (λ z. omega (arith, length-drop (4 * n) s)))
      ∙ sym (last (not (eqb (length s % 4) 0))) ∙ ap (λ (c : Bool). not (eqb (length s % 4) 0) || c) (sym e)
    where
      last : (b : Bool) → (b || false) ≡ b
      last true = refl
      last false = refl

  pub closes : closed w l (run_after m s) ≡ listed
  closes = by (ltb list_soundings n) refl
    where
      by : (c : Bool) → ltb list_soundings n ≡ c → closed w l (cond c (halted twelve) (going_by m n k (counts_upto m s k) (drop (4 * n) s))) ≡ listed
      by true e = sym (ap (λ (b : Bool). outcome b (ltb k n) (ltb room (length t)) (length t) (reads_upto m s n) t) (or_r (not (eqb (length s % 4) 0)) e))
      by false e =
          ap (λ (b : Bool). answered b (ltb k n) k) (rest-torn e)
          ∙ by_far (bad_list s) (ltb k n) refl

-- ── of map files ──

-- "Refusals, after the map rules": the maps are checked once, before the first batch
abbrev pub starts_if : Look → Option Refusal → Run
starts_if m none = starts m
starts_if m (some r) = halted r

abbrev pub started : List (List ℕ) → Run
started files = starts_if (look_in (map map_of files)) (first_of (map_faults files))

all_halted : (r : Refusal) (bs : List (List ℕ)) → next_all (halted r) bs ≡ halted r
all_halted r [] = refl
all_halted r (b ∷ bs) = ap (λ (x : Run). next_all x bs) (halted-stays r b) ∙ all_halted r bs

-- "the summed counts are those of the whole list", and so is every refusal
pub all_answer : (l : CountRoom) (files : List (List ℕ)) (bs : List (List ℕ)) → closed (length files) l (next_all (started files) bs) ≡ soundings l files (the_end_to_end bs)
unfolding soundings
all_answer l files bs = by (first_of (map_faults files)) refl
  where
    m : Look
    m = look_in (map map_of files)

    s : List ℕ
    s = the_end_to_end bs

    later : List (Option Refusal)
    later = list_faults s ++ (given 11 6 (ltb (entry_room (length files) l) (length (tally_upto m s (soundings_in s)))) ∷ [])

    outcome : Option Refusal → Counted
    outcome = counted l (cells_by (length (tally_upto m s (soundings_in s))) (soundings_in s) (reads_upto m s (soundings_in s))) (tally_upto m s (soundings_in s))

    by : (o : Option Refusal) → first_of (map_faults files) ≡ o → closed (length files) l (next_all (starts_if m o) bs) ≡ outcome (first_of (map_faults files ++ later))
    by none e = ap (closed (length files) l) (after_all m bs) ∙ closes (length files) l m s ∙ sym (ap outcome (first_none (map_faults files) later e))
    by (some r) e = ap (closed (length files) l) (all_halted r bs) ∙ sym (ap outcome (first_some (map_faults files) later e))

-- any two cuts of one list
pub cuts-agree : (l : CountRoom) (files : List (List ℕ)) (bs cs : List (List ℕ)) → the_end_to_end bs ≡ the_end_to_end cs → closed (length files) l (next_all (started files) bs) ≡ closed (length files) l (next_all (started files) cs)
cuts-agree l files bs cs e = all_answer l files bs ∙ ap (soundings l files) e ∙ sym (all_answer l files cs)
