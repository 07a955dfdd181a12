-- Soundings by cell, for C: one number, the lent tables of pairs and counts, and the edges that the looks read in a lent table of any length; and that in batches the same is told (`told_batches`). Assumes nothing.
use Rattle.std.specs.Prelude.{◌≡◌, refl, Result, Ok, Err, ◌∷◌}
use Rattle.std.proofs.Common.{sym, ◌∙◌, ap, subst}
use Rattle.seq.specs.Seq.{List, [], ℕ, table, get_or}
use Rattle.paper.specs.Refusal.{Answer, done, refused}
use Rattle.paper.specs.Soundings as paper
use Rattle.laws_soundings.specs.Run.{closed}
use Rattle.laws_soundings.specs.RunAfter.{the_end_to_end}
use Rattle.laws_soundings.specs.RunClosed.{all_answer}
use Rattle.soundings_count.specs.Entries.{pair_width}
use Rattle.soundings.specs.Answer.{counted_of}
use Rattle.soundings.specs.State.{run_of}
use Rattle.soundings.specs.Unique.{After}
use Rattle.soundings.specs.declared.state.Count.{Count}
use Rattle.soundings.specs.declared.answer.Cells.{Cells}
use Rattle.map_file.specs.declared.refusal.Refusal.{Refusal}
use Rattle.bonnetewe.specs.Told.{four}

-- 0, how many pairs occur and how many soundings there are; or the refusal's number, map, place and other edge
abbrev pub told_cells : Answer paper.Cells → ℕ
told_cells (done c) = four 0 c.entries c.soundings 0
told_cells (refused r) = four r.number r.map r.place r.other

-- "the sum over all soundings and both maps" (02, Ask 8); 0 where it is refused
abbrev pub told_read : Answer paper.Cells → ℕ
told_read (done c) = c.read
told_read (refused r) = 0

-- the two by what `soundings` gives
abbrev pub told_counted : Result Cells Refusal → ℕ
told_counted (Ok c) = four 0 c.entries c.soundings 0
told_counted (Err r) = four r.number r.map r.place r.other

abbrev pub read_of : Result Cells Refusal → ℕ
read_of (Ok c) = c.read
read_of (Err r) = 0

-- cell i of the lent table: the number of edges, and zeros behind
abbrev pub read_cell : ℕ → ℕ → ℕ
read_cell n i = get_or (n ∷ []) i 0

-- r tells what is answered, ls and cs are the lent tables of labels and counts, and q is that of n cells for the edges that were read: their number where it has a cell, and zeros behind
pub record ToldCells (o : paper.Counted) (n : ℕ) (ls cs q : List ℕ) (r : ℕ) : Type 0 where
  pub answer : r ≡ told_cells o.answer
  pub labels : ls ≡ o.labels
  pub counts : cs ≡ o.counts
  pub read : q ≡ table (read_cell (told_read o.answer)) n

-- ── by what `soundings` promises ──

module _ (ls cs : List ℕ) where
  answer-told : (a : Result Cells Refusal) → told_counted a ≡ told_cells (counted_of a ls cs).answer
  answer-told (Ok c) = refl
  answer-told (Err r) = refl

  read_told : (a : Result Cells Refusal) → read_of a ≡ told_read (counted_of a ls cs).answer
  read_told (Ok c) = refl
  read_told (Err r) = refl

  labels_in : (a : Result Cells Refusal) → ls ≡ (counted_of a ls cs).labels
  labels_in (Ok c) = refl
  labels_in (Err r) = refl

  counts_in_lem : (a : Result Cells Refusal) → cs ≡ (counted_of a ls cs).counts
  counts_in_lem (Ok c) = refl
  counts_in_lem (Err r) = refl

pub told-cells : (o : paper.Counted) (a : Result Cells Refusal) {ls cs q : List ℕ} {n k r : ℕ} → counted_of a ls cs ≡ o → k ≡ read_of a → q ≡ table (read_cell k) n → r ≡ told_counted a → ToldCells o n ls cs q r
told-cells o a {ls} {cs} {q} {n} {k} {r} e f g h = record {
  answer = h ∙ answer-told ls cs a ∙ ap (λ (x : paper.Counted). told_cells x.answer) e;
  labels = labels_in ls cs a ∙ ap (λ (x : paper.Counted). x.labels) e;
  counts = counts_in_lem ls cs a ∙ ap (λ (x : paper.Counted). x.counts) e;
  read = g ∙ ap (λ (z : ℕ). table (read_cell z) n) (f ∙ read_told ls cs a ∙ ap (λ (x : paper.Counted). told_read x.answer) e);
}

-- no second number and tables tell it
pub told-cells-once : {o : paper.Counted} {n : ℕ} {ls cs q us vs w : List ℕ} {r x : ℕ} → ToldCells o n ls cs q r → ToldCells o n us vs w x → (ls ≡ us) × (cs ≡ vs) × (q ≡ w) × (r ≡ x)
told-cells-once a b = (a.labels ∙ sym b.labels, a.counts ∙ sym b.counts, a.read ∙ sym b.read, a.answer ∙ sym b.answer)

-- in batches: after `bonnetewe_soundings_begin`, and `bonnetewe_soundings_add` for each of the batches in turn, whatever their lengths, what is told is what is told of the whole list
pub told_batches : (l : paper.CountRoom) (x y : List ℕ) (bs : List (List ℕ)) (c : Count) {n : ℕ} {ls cs q : List ℕ} {r : ℕ} → After (x ∷ y ∷ []) bs c → ToldCells (closed pair_width l (run_of c)) n ls cs q r
    → ToldCells (paper.soundings l (x ∷ y ∷ []) (the_end_to_end bs)) n ls cs q r
told_batches l x y bs c {n} {ls} {cs} {q} {r} h t = subst (λ (o : paper.Counted). ToldCells o n ls cs q r) (ap (closed pair_width l) h ∙ all_answer l (x ∷ y ∷ []) bs) t
