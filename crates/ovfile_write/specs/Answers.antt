-- What comes out of the writer, in 01's terms: "If the answer is an enum, a definition provides this paper's number and values for each of its cases. The
-- promises use that definition". Assumes nothing.
use Rattle.std.specs.Prelude.{Result, Ok, Err}
use Rattle.seq.specs.Seq.{List, ℕ}
use Rattle.paper.specs.Refusal.{Answer, done, refused}
use Rattle.paper.specs.Writer.{Written}
use Rattle.map_file.specs.Verdict.{refusal_of}
use Rattle.map_file.specs.declared.refusal.Refusal.{Refusal}

-- the file's length, or a refusal
abbrev pub answer_of : Result ℕ Refusal → Answer ℕ
answer_of (Ok n) = done n
answer_of (Err r) = refused (refusal_of r)

-- all that comes out: the answer, and the buffer
abbrev pub written_of : Result ℕ Refusal → List ℕ → Written
written_of a b = record { answer = answer_of a; buffer = b }
