-- Walks and faces over a plane graph g in which a list of maps is drawn (`Drawn`): a half-edge goes up exactly if its number is even, g covers each map, and what a piece names as its
-- source in a map is what it lies along there. The overlay of the maps is such, and so are the melted tables. Then the label of a half-edge in a map is the map's potential at its left,
-- half-edges of one walk and of one face have the same labels, those of the face, and the labels of what is seen looking west from any point are those of what is seen in
-- each map (`drawn-seen`). Assumes nothing.
use Rattle.std.specs.Prelude.{◌≡◌, ◌<◌, ◌≤ℤ◌, ◌<ℤ◌, ◌/◌}
use Rattle.std.proofs.Common.{◌∙◌}
use Rattle.seq.specs.Seq.{List, Option, none, some, ℕ, length, replicate, table, or_zero}
use Rattle.paper.specs.Plane.{Pt, Vec}
use Rattle.paper.specs.Graph.{Graph, edge_count, the_half_count, even, goes_up, west}
use Rattle.paper.specs.Map.{Map, label}
use Rattle.paper.specs.Pieces.{layer, Piece}
use Rattle.paper.specs.Faces.{walks_of, Overlay, overlay_by, labels_of}
use Rattle.laws_graph.specs.Plane.{Plane}
use Rattle.laws_overlay.specs.Maps.{AllKeep}
use Rattle.laws_overlay.specs.Sources.{source_at}
use Rattle.laws_overlay.specs.Pieces.{piece_at}
use Rattle.laws_labels.specs.Covers.{Covers}
use Rattle.laws_labels.specs.LabelIn.{Source}

pub record Drawn (ms : List Map) (ps : List Piece) (g : Graph) : Type 0 where
  pub plane : Plane g
  pub goes : (h : ℕ) → h < the_half_count g → goes_up g h ≡ even h
  pub covers : (i : ℕ) → i < length ms → Covers g (layer ms i)
  pub source : (i k : ℕ) → i < length ms → k < edge_count g → Source g (layer ms i) k (source_at (piece_at ps k).sources i)

-- what is seen from p along d in each of the maps: their labels
abbrev pub seen_in_maps : List Map → Pt → Vec → List ℕ
seen_in_maps ms p d = table (λ i. or_zero (label (layer ms i)) (west (layer ms i).graph p d)) (length ms)

-- the labels of a half-edge that is seen; all 0 where the outside is
abbrev pub seen_labels : List Map → Overlay → Option ℕ → List ℕ
seen_labels ms o none = replicate (length ms) 0
seen_labels ms o (some h) = labels_of ms o h

module _ (ms : List Map) (K : AllKeep ms) (ps : List Piece) (g : Graph) (D : Drawn ms ps g) where
  abbrev o : Overlay
  o = overlay_by ps (walks_of g)
