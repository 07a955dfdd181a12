-- What the check of a map says in 01's terms: "If the answer is an enum, a definition provides this paper's number and values for each of its cases". Assumes
-- nothing.
use Rattle.std.specs.Prelude.{Result, Ok, Err}
use Rattle.seq.specs.Seq.{ℕ}
use Rattle.paper.specs.Refusal.{Answer, done, refused}
use Rattle.map_file.specs.Verdict.{refusal_of}
use Rattle.map_file.specs.declared.refusal.Refusal.{Refusal}
use Rattle.map_check.specs.declared.answer.Counts.{Counts}

-- the two counts, or the refusal with its number, map and place
abbrev pub answer_of : Result Counts Refusal → Answer (ℕ × ℕ)
answer_of (Ok c) = done (c.vertices, c.edges)
answer_of (Err r) = refused (refusal_of r)
