-- The lent tables (01, "When a map is refused"): their lengths, the room in them, what they hold when an operation is done or refused.
-- Assumes nothing.
use Rattle.std.specs.Prelude.{◌∷◌, ◌/◌}
use Rattle.seq.specs.Seq.{List, [], Option, ℕ, min, ltb, length, pos, padded}
use Rattle.paper.specs.Limits.{overlay_vertices, overlay_edges, overlay_faces}
use Rattle.paper.specs.Refusal.{given, answer, unless_refused, Refusal, Answer}
use Rattle.paper.specs.Tables.{vertex_width, half_width, face_width, Counts, Tables}

-- the lengths of the four lent tables, in numbers
pub record Lengths : Type 0 where
  pub vertices : ℕ
  pub halves : ℕ
  pub sources : ℕ
  pub faces : ℕ

abbrev pub lengths_of : Tables → Lengths
lengths_of t = record {
  vertices = length t.vertices;
  halves = length t.halves;
  sources = length t.sources;
  faces = length t.faces;
}

-- the edges for which the half-edge table and the source table of n maps have whole rows
abbrev pub edge_room : ℕ → Lengths → ℕ
edge_room n l = min (l.halves / half_width / 2) (l.sources / n)

-- "Room is the smaller of the lent table and the number above; a half-edge table counts as room for half as many edges, rounded down, and where
-- several lent tables hold one kind the least room counts": of n maps
abbrev pub room_in : ℕ → Lengths → Counts
room_in n l = record {
  vertices = min overlay_vertices (l.vertices / vertex_width);
  edges = min overlay_edges (edge_room n l);
  faces = min overlay_faces (l.faces / face_width n);
}

-- 11 "the defined overlay has more vertices (place 1), edges (2) or faces (3) than room, first in that order"
abbrev pub room_faults : Counts → Counts → List (Option Refusal)
room_faults room c =
    given 11 1 (ltb room.vertices c.vertices)
    ∷ given 11 2 (ltb room.edges c.edges)
    ∷ given 11 3 (ltb room.faces c.faces)
    ∷ []

-- "Done: places past the counts are zero"
abbrev pub padded_tables : Lengths → Tables → Tables
padded_tables l t = record {
  vertices = padded (pos 0) l.vertices t.vertices;
  halves = padded 0 l.halves t.halves;
  sources = padded 0 l.sources t.sources;
  faces = padded 0 l.faces t.faces;
}

-- "Refused: all lent tables are zero"
abbrev pub zero_tables : Lengths → Tables
zero_tables l = padded_tables l (record { vertices = []; halves = []; sources = []; faces = [] })

-- all that comes out of an operation that fills the tables
pub record Outcome : Type 0 where
  pub answer : Answer Counts
  pub tables : Tables

abbrev pub outcome : Lengths → Counts → Tables → Option Refusal → Outcome
outcome l c t r = record { answer = answer c r; tables = unless_refused (padded_tables l t) (zero_tables l) r }
