-- The answer of the check is determined by the file's bytes: two outcomes that keep its promise are one. Assumes nothing.
use Rattle.std.specs.Prelude.{◌≡◌, Result, Ok, Err}
use Rattle.std.proofs.Common.{ap, arith}
use Rattle.seq.specs.Seq.{List, ℕ}
use Rattle.seq.specs.Unique.{determined}
use Rattle.paper.specs.Refusal.{Answer, done, refused, Refusal}
use Rattle.paper.specs.Map.{check}
use Rattle.map_file.specs.Verdict.{refusal_of}
use Rattle.map_file.specs.declared.refusal.Refusal as code
use Rattle.map_check.specs.declared.answer.Counts.{Counts}
use Rattle.map_check.specs.Answer.{answer_of}

-- ── the parts of an answer ──

abbrev kind : Answer (ℕ × ℕ) → ℕ
kind (done n) = 0
kind (refused r) = 1

abbrev counted : ℕ × ℕ → Answer (ℕ × ℕ) → ℕ × ℕ
counted d (done n) = n
counted d (refused r) = d

abbrev refusal : Refusal → Answer (ℕ × ℕ) → Refusal
refusal d (done n) = d
refusal d (refused r) = r

differ : (a b : Answer (ℕ × ℕ)) → a ≡ b → (kind a ≡ kind b → ⊥) → ⊥
differ a b e f = f (ap kind e)

-- an answer is that of one outcome
pub answer-only : (a b : Result Counts code.Refusal) → answer_of a ≡ answer_of b → a ≡ b
answer-only (Ok a) (Ok b) e =
    let d : ◌≡◌ {A = ℕ × ℕ} (a.vertices, a.edges) (b.vertices, b.edges) = ap (counted (a.vertices, a.edges)) e in
    λ i. Ok (record { vertices = (d i).0; edges = (d i).1 })
answer-only (Ok a) (Err b) e = absurd (differ (answer_of (Ok a)) (answer_of (Err b)) e (λ z. omega arith))
answer-only (Err a) (Ok b) e = absurd (differ (answer_of (Err a)) (answer_of (Ok b)) e (λ z. omega arith))
answer-only (Err a) (Err b) e =
    let d : refusal_of a ≡ refusal_of b = ap (refusal (refusal_of a)) e in
    λ i. Err (record { number = (d i).number; map = (d i).map; place = (d i).place; other = (d i).other })

pub check-unique : (s : List ℕ) (a b : Result Counts code.Refusal) → answer_of a ≡ check s → answer_of b ≡ check s → a ≡ b
check-unique s a b p q = answer-only a b (determined check s (answer_of a) (answer_of b) p q)
