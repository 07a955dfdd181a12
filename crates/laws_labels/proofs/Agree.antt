-- The labels of the overlay of a list of maps that keep the rules agree. The overlay's graph is drawn from its maps (`overlay-drawn`), so that of Drawn: any two half-edges of one walk have the same labels
-- (`walk-labels`), and so have any two of one face (`face-labels`); they are the labels of the face, all 0 for face 0 (`held-labels`); and what is seen looking west from any point in the overlay has the labels
-- that are seen in each map (`overlay-seen`). Assumes nothing.
use Rattle.std.specs.Prelude.{◌≡◌, ◌<◌, ◌≤ℤ◌, ◌<ℤ◌}
use Rattle.seq.specs.Seq.{List, ℕ, pos}
use Rattle.paper.specs.Plane.{Pt, Vec}
use Rattle.paper.specs.Graph.{the_half_count, west}
use Rattle.paper.specs.Map.{Map}
use Rattle.paper.specs.Pieces.{vertices_of, edges_of}
use Rattle.paper.specs.Faces.{overlay_of, labels_of}
use Rattle.laws_graph.specs.Walks.{Along}
use Rattle.laws_graph.specs.Faces.{face_of}
use Rattle.laws_overlay.specs.Maps.{AllKeep}
use Rattle.laws_overlay.specs.Places.{places}
use Rattle.laws_overlay.proofs.Net.{goes-even}
use Rattle.laws_overlay.proofs.NetPlane.{net-plane}
use Rattle.laws_overlay.specs.Inside.{overlaid}
use Rattle.laws_overlay.specs.Cells.{face_labels}
use Rattle.laws_labels.specs.Overlay.{overlay-covers, source_is}
use Rattle.laws_labels.specs.Drawn.{Drawn, seen_in_maps, seen_labels}
use Rattle.laws_labels.proofs.Drawn.{drawn-held, drawn-face, drawn-walk, drawn-seen}

module _ (ms : List Map) (K : AllKeep ms) where
  pub overlay-drawn : Drawn ms (edges_of ms (vertices_of ms)) (overlaid ms)
  overlay-drawn = record {
    plane = net-plane ms K (vertices_of ms) (places ms K);
    goes = goes-even ms K (vertices_of ms) (places ms K);
    covers = overlay-covers ms K;
    source = λ i k li l. source_is ms K i k li l;
  }

  -- they are the labels of the face
  pub held-labels : (h : ℕ) → h < the_half_count (overlaid ms) → labels_of ms (overlay_of ms) h ≡ face_labels ms (overlay_of ms) (face_of (overlaid ms) h)
  unfolding overlay_of
  held-labels h l = drawn-held ms K (edges_of ms (vertices_of ms)) (overlaid ms) overlay-drawn h l

  -- one face, the same labels
  pub face-labels : (h k : ℕ) → h < the_half_count (overlaid ms) → k < the_half_count (overlaid ms) → face_of (overlaid ms) h ≡ face_of (overlaid ms) k → labels_of ms (overlay_of ms) h ≡ labels_of ms (overlay_of ms) k
  unfolding overlay_of
  face-labels h k l j e = drawn-face ms K (edges_of ms (vertices_of ms)) (overlaid ms) overlay-drawn h k l j e

  -- one walk, the same labels
  pub walk-labels : (h k : ℕ) → h < the_half_count (overlaid ms) → Along (overlaid ms) h k → labels_of ms (overlay_of ms) h ≡ labels_of ms (overlay_of ms) k
  unfolding overlay_of
  walk-labels h k l a = drawn-walk ms K (edges_of ms (vertices_of ms)) (overlaid ms) overlay-drawn h k l a

  -- looking west
  pub overlay-seen : (p : Pt) → pos 0 <ℤ p.D → (d : Vec) → pos 0 ≤ℤ d.y → seen_in_maps ms p d ≡ seen_labels ms (overlay_of ms) (west (overlaid ms) p d)
  unfolding overlay_of
  overlay-seen p hp d hd = drawn-seen ms K (edges_of ms (vertices_of ms)) (overlaid ms) overlay-drawn p hp d hd
