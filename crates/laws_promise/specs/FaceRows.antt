-- (d) of Defined: the rows of the face table, in tables that hold a graph of pieces. Assumes nothing.
use Rattle.std.specs.Prelude.{◌<◌, ◌&&◌, ◌*◌, ◌/◌}
use Rattle.std.proofs.Common.{◌∙◌}
use Rattle.seq.specs.Seq.{Bool, List, ℕ, eqb}
use Rattle.paper.specs.Graph.{Graph}
use Rattle.paper.specs.Map.{Map}
use Rattle.paper.specs.Pieces.{Piece}
use Rattle.paper.specs.Faces.{walks_of, leads_hole}
use Rattle.paper.specs.Tables as T
use Rattle.laws_graph.specs.Faces.{face_of}

-- ── parts of the definition ──

module _ (ms : List Map) (ps : List Piece) (g : Graph) where
  -- a hole walk's least half-edge, with face f
  abbrev pub hole_of : ℕ → ℕ → Bool
  hole_of f h = leads_hole (walks_of g) h && eqb (face_of g h) f
