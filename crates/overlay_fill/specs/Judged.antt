-- What comes out of maps that pass: "room comes last". Assumes nothing.
use Rattle.std.specs.Prelude.{◌≡◌, ◌≤◌, ◌*◌}
use Rattle.std.proofs.Common.{sym, ap}
use Rattle.seq.specs.Seq.{List, map, none, some, ℕ, length}
use Rattle.paper.specs.Limits.{maps, overlay_vertices, overlay_edges}
use Rattle.paper.specs.Refusal.{Refusal, first_of, done, refused}
use Rattle.paper.specs.Map.{Map, map_of}
use Rattle.paper.specs.Overlay.{map_faults}
use Rattle.paper.specs.Faces.{Overlay, overlay_of}
use Rattle.paper.specs.Tables.{Counts, counts_of, Tables, tables_of}
use Rattle.paper.specs.Lent.{Lengths, room_in, room_faults, padded_tables, zero_tables, outcome, Outcome}
use Rattle.overlay_cut.specs.PieceRows.{piece_width}
use Rattle.overlay_maps.specs.Layers.{Layers}
use Rattle.overlay_maps.specs.Held.{Held, held_maps}
use Rattle.overlay_graph.specs.Cut.{Cut, DrawableCut}

-- of an overlay o of the maps ms, in tables of these lengths
abbrev pub laid_out : List Map → Overlay → Lengths → Outcome
laid_out ms o l = let c = counts_of o in outcome l c (tables_of ms o) (first_of (room_faults (room_in maps l) c))

-- of the maps' own
abbrev pub overlaid : List Map → Lengths → Outcome
overlaid ms l = laid_out ms (overlay_of ms) l

-- "Done: places past the counts are zero. Refused: all lent tables are zero"
abbrev pub done_with : Lengths → Counts → Tables → Outcome
done_with l c t = record { answer = done c; tables = padded_tables l t }

abbrev pub refused_with : Lengths → Refusal → Outcome
refused_with l r = record { answer = refused r; tables = zero_tables l }

-- what is laid, by the maps and the lengths of the tables, is a refusal where the overlay has not room
abbrev pub RefusesOver : (List Map → Lengths → Outcome) → Type 0
RefusesOver laid = (ms : List Map) (l : Lengths) (r : Refusal) → first_of (room_faults (room_in maps l) (counts_of (overlay_of ms))) ≡ some r → refused_with l r ≡ laid ms l

-- and what is promised of files, a refusal where a map is refused, and where none is what is laid of the maps
abbrev pub RefusesFiles : (List (List ℕ) → Lengths → Outcome) → Type 0
RefusesFiles promised = (files : List (List ℕ)) (l : Lengths) (r : Refusal) → first_of (map_faults files) ≡ some r → refused_with l r ≡ promised files l

abbrev pub PassesFiles : (List Map → Lengths → Outcome) → (List (List ℕ) → Lengths → Outcome) → Type 0
PassesFiles laid promised = (files : List (List ℕ)) (l : Lengths) → length files ≡ maps → first_of (map_faults files) ≡ none → laid (map map_of files) l ≡ promised files l

pub overlaid-refuses : RefusesOver overlaid
overlaid-refuses ms l r e = let o = overlay_of ms in sym (ap (outcome l (counts_of o) (tables_of ms o)) e)

-- the vertices and edges in c are within the room
pub record Within (c : Cut) (l : Lengths) : Type 0 where
  pub vertices : c.vertices ≤ (room_in maps l).vertices
  pub edges : c.edges ≤ (room_in maps l).edges

-- the tables in c have the rows of its vertices and edges, if these are no more than an overlay may have
pub record Rowed (c : Cut) : Type 0 where
  pub points : c.vertices ≤ overlay_vertices → 4 * c.vertices ≤ length c.points
  pub pieces : c.edges ≤ overlay_edges → piece_width * c.edges ≤ length c.pieces

-- what the tables are filled from: maps that keep the rules, and vertices and edges within the room that an overlay can be drawn from
pub record Ready (l : Layers) (c : Cut) (n : Lengths) : Type 0 where
  pub held : Held l
  pub drawable : DrawableCut (held_maps l) c
  pub within : Within c n
