-- An outcome listed: its text, and the answer that it tells. Assumes nothing.
use Rattle.std.specs.Prelude.{◌≡◌, ◌≤◌, ◌*◌}
use Rattle.seq.specs.Seq.{List, ℕ}
use Rattle.paper.specs.Limits.{maps, overlay_vertices, overlay_edges, overlay_faces}
use Rattle.paper.specs.Refusal.{Answer, done, refused}
use Rattle.paper.specs.Tables.{Counts, vertex_width, half_width, face_width}
use Rattle.paper.specs.Lent.{Lengths, Outcome}
use Rattle.paper.specs.Listing.{listing}
use Rattle.tables.specs.Values.{answer_of, lengths_by}
use Rattle.text.specs.Lines.{Line}
use Rattle.lists.specs.declared.answer.Listed.{Listed}

-- tables as long as they can be of use
abbrev pub full_tables : Lengths
full_tables = lengths_by (vertex_width * overlay_vertices) (half_width * (2 * overlay_edges)) (maps * overlay_edges) (face_width maps * overlay_faces)

-- the faces, where there are any, are no more than an overlay may have: a text of 85,504 bytes, 64 for each line, holds them
abbrev pub Roomy : Answer Counts → Type 0
Roomy (done c) = c.faces ≤ overlay_faces
Roomy (refused r) = Unit {0}

-- the listing of the outcome o stands at the start of t, which behind it is what d was, and r tells its length and o's answer
pub record ListedOf (o : Outcome) (d t : List ℕ) (r : Listed) : Type 0 where
  pub text : Line 85504 (listing maps o) d t r.length
  pub answer : answer_of r.answer ≡ o.answer
