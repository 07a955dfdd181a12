-- The tables that are stored, from what the stages hold. Assumes nothing.
use Rattle.std.specs.Prelude.{◌*◌}
use Rattle.seq.specs.Seq.{List, ℕ, rows}
use Rattle.paper.specs.Tables.{Counts, Tables}
use Rattle.tables.specs.Rows.{vertex_of, half_of, source_of, face_by}
use Rattle.overlay_graph.specs.Cut.{Cut}
use Rattle.overlay_graph.specs.Traced.{Traced}

-- with n faces: their labels, a cell for each map, and two columns
abbrev pub stored : Cut → Traced → List ℕ → List ℕ → List ℕ → ℕ → Tables
stored c t labels outer counts n = record {
  vertices = rows (vertex_of c.points t.least) c.vertices;
  halves = rows (half_of t.origins t.next t.prev t.face) (2 * c.edges);
  sources = rows (source_of c.pieces) c.edges;
  faces = rows (face_by labels outer counts) n;
}

-- the three counts of what is stored
abbrev pub stored_counts : Cut → ℕ → Counts
stored_counts c n = record { vertices = c.vertices; edges = c.edges; faces = n }
