-- What comes out of maps that pass: room "is judged on the overlay before melting". Assumes nothing.
use Rattle.seq.specs.Seq.{List, ℕ}
use Rattle.paper.specs.Limits.{maps}
use Rattle.paper.specs.Refusal.{first_of}
use Rattle.paper.specs.Map.{Map}
use Rattle.paper.specs.Faces.{overlay_of}
use Rattle.paper.specs.Tables.{counts_of, tables_of}
use Rattle.paper.specs.Lent.{Lengths, room_in, room_faults, outcome, Outcome}
use Rattle.paper.specs.Melt.{melted_of}
use Rattle.overlay_graph.specs.Cut.{Cut, overlay_in}
use Rattle.overlay_graph.specs.Traced.{Zeroed}

-- of the maps ms, in tables of these lengths
abbrev pub melted_in : List Map → Lengths → Outcome
melted_in ms l = let o = melted_of ms in outcome l (counts_of o) (tables_of ms o) (first_of (room_faults (room_in maps l) (counts_of (overlay_of ms))))

-- the face of each half-edge of the overlay of the points and pieces in c, zeros past the last
abbrev pub FacesIn : List Map → Cut → List ℕ → Type 0
FacesIn ms c face = Zeroed (overlay_in ms c).face face
