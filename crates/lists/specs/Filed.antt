-- The overlay file of an outcome, and the laws by which the code keeps it. Assumes nothing.
use Rattle.std.specs.Prelude.{◌≡◌, Result}
use Rattle.std.proofs.Common.{sym, ◌∙◌, ap}
use Rattle.seq.specs.Seq.{List, [], ℕ, padded}
use Rattle.paper.specs.Refusal.{Answer, done, refused}
use Rattle.paper.specs.Tables.{Counts, Tables}
use Rattle.paper.specs.Lent.{Lengths, Outcome}
use Rattle.paper.specs.Overlay.{overlay}
use Rattle.paper.specs.Melt.{melt}
use Rattle.paper.specs.Writer.{Written, write}
use Rattle.map_file.specs.declared.refusal.Refusal.{Refusal}
use Rattle.ovfile_write.specs.Answers.{written_of}
use Rattle.ovfile_write.specs.Unique.{answer-once}
use Rattle.lists.specs.Listed.{Roomy}
use Rattle.lists.specs.Laws.Room.{roomy_as, overlay-roomy}
use Rattle.lists.specs.Laws.Melted.{melt-roomy}

-- in a buffer of n bytes: what the writer makes of the counts and tables; where the overlay is refused, that refusal, and zeros
abbrev pub filed_by : ℕ → Tables → Answer Counts → Written
filed_by n t (done c) = write n c t
filed_by n t (refused r) = record { answer = refused r; buffer = padded 0 n [] }

abbrev pub filed : ℕ → Outcome → Written
filed n o = filed_by n o.tables o.answer

-- an outcome that is that of an overlay
pub overlay-answered : (l : Lengths) (x y z : List ℕ) {a : Answer Counts} {t : Tables} → ◌≡◌ {A = Outcome} (record { answer = a; tables = t }) (overlay l x y z) → Roomy a
overlay-answered l x y z {a} {t} e = roomy_as (ap (λ (o : Outcome). o.answer) e) (overlay-roomy l x y z)

-- an outcome that is that of melting
pub melt-answered : (l : Lengths) (x y z : List ℕ) {a : Answer Counts} {t : Tables} → ◌≡◌ {A = Outcome} (record { answer = a; tables = t }) (melt l x y z) → Roomy a
melt-answered l x y z {a} {t} e = roomy_as (ap (λ (o : Outcome). o.answer) e) (melt-roomy l x y z)

-- what is filed of an answer that is known is filed of the outcome
pub filed_by_lem : (n : ℕ) (o : Outcome) {a b : Answer Counts} {t : Tables} {w : Written}
    → ◌≡◌ {A = Outcome} (record { answer = a; tables = t }) o → a ≡ b → w ≡ filed_by n t b → w ≡ filed n o
filed_by_lem n o {a} {b} {t} {w} e g h = h ∙ ap (filed_by n t) (sym g) ∙ ap (filed n) e

-- no second answer and buffer are what is filed
pub filed-once : {w : Written} (a b : Result ℕ Refusal) (x y : List ℕ) → written_of a x ≡ w → written_of b y ≡ w → (a ≡ b) × (x ≡ y)
filed-once a b x y e g =
    let d = e ∙ sym g in
    (answer-once a b (ap (λ (v : Written). v.answer) d), ap (λ (v : Written). v.buffer) d)
