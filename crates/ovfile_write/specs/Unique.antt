-- All that comes out of the writer is determined by its promise: two answers with two buffers that keep it are one. Assumes nothing.
use Rattle.std.specs.Prelude.{◌≡◌, refl, Result, Ok, Err}
use Rattle.std.proofs.Common.{sym, ◌∙◌, ap}
use Rattle.seq.specs.Seq.{List, ℕ}
use Rattle.seq.specs.Unique.{determined}
use Rattle.paper.specs.Refusal.{Answer, done, refused}
use Rattle.paper.specs.Tables.{Counts, Tables}
use Rattle.paper.specs.Writer.{Written, write}
use Rattle.map_file.specs.declared.refusal.Refusal.{Refusal}
use Rattle.ovfile_write.specs.Answers.{answer_of, written_of}

-- ── answers ──

abbrev answer_back : Answer ℕ → Result ℕ Refusal
answer_back (done n) = Ok n
answer_back (refused r) = Err (record { number = r.number; map = r.map; place = r.place; other = r.other })

there_and_back : (a : Result ℕ Refusal) → answer_back (answer_of a) ≡ a
there_and_back (Ok n) = refl
there_and_back (Err r) = refl

pub answer-once : (a b : Result ℕ Refusal) → answer_of a ≡ answer_of b → a ≡ b
answer-once a b e = sym (there_and_back a) ∙ ap answer_back e ∙ there_and_back b

-- ── the answer and the buffer ──

pub write-unique : (n : ℕ) (c : Counts) (t : Tables) (a b : Result ℕ Refusal) (x y : List ℕ) → written_of a x ≡ write n c t → written_of b y ≡ write n c t → (a ≡ b) × (x ≡ y)
write-unique n c t a b x y e g =
    let d = determined (write n c) t (written_of a x) (written_of b y) e g in
    (answer-once a b (ap (λ (w : Written). w.answer) d), ap (λ (w : Written). w.buffer) d)
