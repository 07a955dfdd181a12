-- What comes out of mending, in 02's terms. Assumes nothing.
use Rattle.std.specs.Prelude.{Result, Ok, Err}
use Rattle.seq.specs.Seq.{List, [], ℕ, padded}
use Rattle.paper.specs.Mend as paper
use Rattle.paper.specs.Refusal.{Refusal, Answer, done, refused}
use Rattle.map_file.specs.Verdict.{refusal_of}
use Rattle.mend.specs.declared.answer.Mending.{Mending}
use Rattle.map_file.specs.declared.refusal.Refusal as code

-- the file's length and the number of entries, or a refusal
abbrev pub answer_of : Result Mending code.Refusal → Answer (ℕ × ℕ)
answer_of (Ok m) = done (m.length, m.entries)
answer_of (Err r) = refused (refusal_of r)

-- all that comes out: the answer, the file and the list
abbrev pub mending_of : Result Mending code.Refusal → List ℕ → List ℕ → paper.Mending
mending_of a f l = record { answer = answer_of a; file = f; list = l }

-- "with file and list left all zero": n bytes and l numbers
abbrev pub all_zero : ℕ → ℕ → Refusal → paper.Mending
all_zero n l r = record { answer = refused r; file = padded 0 n []; list = padded 0 l [] }
