-- All that comes out is determined by its promise: two answers with two sets of lent tables that keep it are one. In batches: `begin`, then `add` for one batch after the other, of any bytes, then `close`: what comes of it is the
-- definition's answer, of the whole list (`run-answer`), and no second outcome meets what the three promise, whatever the cuts (`one_answer`). The same of a list that is read from a file (`read_answer`). Assumes nothing.
use Rattle.std.specs.Prelude.{◌≡◌, refl, ◌∷◌, ◌++◌, Result, Ok, Err}
use Rattle.std.proofs.Common.{sym, ◌∙◌, ap, append-nil, arith}
use Rattle.seq.specs.Seq.{List, [], ℕ}
use Rattle.seq.specs.Unique.{determined}
use Rattle.paper.specs.Refusal.{Answer, done, refused, Refusal}
use Rattle.paper.specs.Soundings as paper
use Rattle.paper.specs.Soundings.{CountRoom, soundings}
use Rattle.map_file.specs.Verdict.{refusal_of}
use Rattle.laws_soundings.specs.Run.{Run, cells_by, next, closed}
use Rattle.laws_soundings.specs.RunAfter.{the_end_to_end, next_all, next_on}
use Rattle.laws_soundings.specs.RunClosed.{started, all_answer}
use Rattle.soundings_count.specs.Entries.{pair_width}
use Rattle.soundings.specs.Answer.{counted_of}
use Rattle.soundings.specs.State.{run_of}
use Rattle.soundings.specs.declared.state.Count.{Count}
use Rattle.soundings.specs.declared.answer.Cells.{Cells}
use Rattle.map_file.specs.declared.refusal.Refusal as code

-- ── the parts of an answer ──

abbrev kind : Answer paper.Cells → ℕ
kind (done n) = 0
kind (refused r) = 1

abbrev cells_or : paper.Cells → Answer paper.Cells → paper.Cells
cells_or d (done n) = n
cells_or d (refused r) = d

abbrev refusal_or : Refusal → Answer paper.Cells → Refusal
refusal_or d (done n) = d
refusal_or d (refused r) = r

abbrev answer_of : Result Cells code.Refusal → Answer paper.Cells
answer_of (Ok c) = done (cells_by c.entries c.soundings c.read)
answer_of (Err r) = refused (refusal_of r)

differ : (a b : Answer paper.Cells) → a ≡ b → (kind a ≡ kind b → ⊥) → ⊥
differ a b e f = f (ap kind e)

answer-once : (a b : Result Cells code.Refusal) → answer_of a ≡ answer_of b → a ≡ b
answer-once (Ok a) (Ok b) e =
    let d : cells_by a.entries a.soundings a.read ≡ cells_by b.entries b.soundings b.read = ap (cells_or (cells_by a.entries a.soundings a.read)) e in
    λ i. Ok (record { entries = (d i).entries; soundings = (d i).soundings; read = (d i).read })
answer-once (Ok a) (Err b) e = absurd (differ (answer_of (Ok a)) (answer_of (Err b)) e (λ z. omega arith))
answer-once (Err a) (Ok b) e = absurd (differ (answer_of (Err a)) (answer_of (Ok b)) e (λ z. omega arith))
answer-once (Err a) (Err b) e =
    let d : refusal_of a ≡ refusal_of b = ap (refusal_or (refusal_of a)) e in
    λ i. Err (record { number = (d i).number; map = (d i).map; place = (d i).place; other = (d i).other })

answer_in : (a : Result Cells code.Refusal) (ls cs : List ℕ) → (counted_of a ls cs).answer ≡ answer_of a
answer_in (Ok c) ls cs = refl
answer_in (Err r) ls cs = refl

labels_in : (a : Result Cells code.Refusal) (ls cs : List ℕ) → (counted_of a ls cs).labels ≡ ls
labels_in (Ok c) ls cs = refl
labels_in (Err r) ls cs = refl

counts_in_lem : (a : Result Cells code.Refusal) (ls cs : List ℕ) → (counted_of a ls cs).counts ≡ cs
counts_in_lem (Ok c) ls cs = refl
counts_in_lem (Err r) ls cs = refl

pub soundings-unique : (l : CountRoom) (files : List (List ℕ)) (s : List ℕ) (a b : Result Cells code.Refusal) (ls cs us vs : List ℕ) → counted_of a ls cs ≡ soundings l files s → counted_of b us vs ≡ soundings l files s → (a ≡ b) × (ls ≡ us) × (cs ≡ vs)
soundings-unique l files s a b ls cs us vs e g =
    let d = determined (soundings l files) s (counted_of a ls cs) (counted_of b us vs) e g in (
      answer-once a b (sym (answer_in a ls cs) ∙ ap (λ (o : paper.Counted). o.answer) d ∙ answer_in b us vs),
      sym (labels_in a ls cs) ∙ ap (λ (o : paper.Counted). o.labels) d ∙ labels_in b us vs,
      sym (counts_in_lem a ls cs) ∙ ap (λ (o : paper.Counted). o.counts) d ∙ counts_in_lem b us vs,
    )

-- ── in batches ──

-- c is what `begin`, and `add` for each of the batches in turn, give
abbrev pub After : List (List ℕ) → List (List ℕ) → Count → Type 0
After files bs c = run_of c ≡ next_all (started files) bs

pub begin_after : (files : List (List ℕ)) (c : Count) → run_of c ≡ started files → After files [] c
begin_after files c e = e

all_snoc : (r : Run) (bs : List (List ℕ)) (b : List ℕ) → next_all r (bs ++ (b ∷ [])) ≡ next (next_all r bs) b
all_snoc r [] b = refl
all_snoc r (x ∷ bs) b = all_snoc (next r x) bs b

pub add_after : (files : List (List ℕ)) (bs : List (List ℕ)) (c d : Count) (b : List ℕ) → After files bs c → run_of d ≡ next (run_of c) b → After files (bs ++ (b ∷ [])) d
add_after files bs c d b h e = e ∙ ap (λ (r : Run). next r b) h ∙ sym (all_snoc (started files) bs b)

-- and `close`: the definition's answer, with the lent tables, of the batches end to end
pub run-answer : (l : CountRoom) (x y : List ℕ) (bs : List (List ℕ)) (c : Count) (a : Result Cells code.Refusal) (ls cs : List ℕ) → After (x ∷ y ∷ []) bs c → counted_of a ls cs ≡ closed pair_width l (run_of c)
    → counted_of a ls cs ≡ soundings l (x ∷ y ∷ []) (the_end_to_end bs)
run-answer l x y bs c a ls cs h e = e ∙ ap (closed pair_width l) h ∙ all_answer l (x ∷ y ∷ []) bs

-- no second outcome, whatever the cuts of the list
pub one_answer : (l : CountRoom) (x y : List ℕ) (bs ds : List (List ℕ)) (c d : Count) (a b : Result Cells code.Refusal) (ls cs us vs : List ℕ) → the_end_to_end bs ≡ the_end_to_end ds → After (x ∷ y ∷ []) bs c → After (x ∷ y ∷ []) ds d
    → counted_of a ls cs ≡ closed pair_width l (run_of c) → counted_of b us vs ≡ closed pair_width l (run_of d) → (a ≡ b) × (ls ≡ us) × (cs ≡ vs)
one_answer l x y bs ds c d a b ls cs us vs q h k e f =
    soundings-unique l (x ∷ y ∷ []) (the_end_to_end bs) a b ls cs us vs (run-answer l x y bs c a ls cs h e) (run-answer l x y ds d b us vs k f ∙ ap (soundings l (x ∷ y ∷ [])) (sym q))

-- ── read from a file, batch by batch ──

-- d is what batches of bytes that nobody knows make of c, end to end
pub record Read (c d : Count) : Type 0 where
  pub bytes : List ℕ
  pub went : run_of d ≡ next (run_of c) bytes

pub read_none : (c : Count) → Read c c
read_none c = record { bytes = []; went = refl }

pub read_one : (c d : Count) (b : List ℕ) → run_of d ≡ next (run_of c) b → Read c d
read_one c d b e = record { bytes = b; went = e }

pub read_more : {c d e : Count} → Read c d → Read d e → Read c e
read_more {c} {d} {e} r s = record { bytes = r.bytes ++ s.bytes; went = s.went ∙ ap (λ (x : Run). next x s.bytes) r.went ∙ next_on (run_of c) r.bytes s.bytes }

-- from the start: the answer is that of the whole list; which bytes were read is the operating system's to say
pub read_answer : (l : CountRoom) (x y : List ℕ) (c d : Count) → run_of c ≡ started (x ∷ y ∷ []) → (r : Read c d) → closed pair_width l (run_of d) ≡ soundings l (x ∷ y ∷ []) r.bytes
read_answer l x y c d e r =
    ap (closed pair_width l) (r.went ∙ ap (λ (z : Run). next z r.bytes) e)
    ∙ all_answer l (x ∷ y ∷ []) (r.bytes ∷ []) ∙ ap (soundings l (x ∷ y ∷ [])) (append-nil r.bytes)
