-- What the code's structs, enums and slices are in the definitions: counts, lengths, tables, answers. "If the answer is an enum, a definition provides this
-- paper's number and values for each of its cases. The promises use that definition". Assumes nothing.
use Rattle.std.specs.Prelude.{Ok, Err}
use Rattle.seq.specs.Seq.{List, ℕ, ℤ}
use Rattle.paper.specs.Tables as paper
use Rattle.paper.specs.Refusal as refusal
use Rattle.paper.specs.Lent.{Lengths, Outcome}
use Rattle.map_file.specs.Verdict.{refusal_of}
use Rattle.tables.specs.declared.room.Counts.{Counts}
use Rattle.tables.specs.Answers.{Answer}

-- "the three counts"
abbrev pub counts_of : Counts → paper.Counts
counts_of c = record { vertices = c.vertices; edges = c.edges; faces = c.faces }

abbrev pub lengths_by : ℕ → ℕ → ℕ → ℕ → Lengths
lengths_by vs hs ss fs = record { vertices = vs; halves = hs; sources = ss; faces = fs }

abbrev pub tables_by : List ℤ → List ℕ → List ℕ → List ℕ → paper.Tables
tables_by vs hs ss fs = record { vertices = vs; halves = hs; sources = ss; faces = fs }

-- "either the three counts or a refusal with number, map and place"
abbrev pub answer_of : Answer → refusal.Answer paper.Counts
answer_of (Ok c) = refusal.done (counts_of c)
answer_of (Err r) = refusal.refused (refusal_of r)

-- all that comes out: the answer, and the four tables
abbrev pub outcome_of : Answer → paper.Tables → Outcome
outcome_of a t = record { answer = answer_of a; tables = t }
