-- "Laying the empty map over a map must give each half-edge that map's label and 0": each half-edge lies along an edge of the map, and has that edge's label on that side, and 0 (`empty-gives`). Assumes nothing.
use Rattle.std.specs.Prelude.{◌≡◌, ◌<◌, ◌∷◌, ◌/◌}
use Rattle.std.proofs.Common.{sym, ◌∙◌, arith}
use Rattle.std.proofs.Math.Path.{ap}
use Rattle.seq.specs.Seq.{cond, Option, some, ℕ, zero, suc, []}
use Rattle.seq.specs.Put.{put}
use Rattle.paper.specs.Graph.{edge_count, the_half_count, even, twin, east_side}
use Rattle.paper.specs.Map.{Map, label, empty}
use Rattle.paper.specs.Pieces.{vertices_of, edges_of}
use Rattle.paper.specs.Faces.{overlay_of, labels_of, label_in}
use Rattle.laws_graph.specs.Halves.{half_below}
use Rattle.laws_map.specs.Keeps.{Keeps}
use Rattle.laws_overlay.specs.Maps.{AllKeep}
use Rattle.laws_overlay.specs.Places.{places}
use Rattle.laws_overlay.specs.Sources.{source_at}
use Rattle.laws_overlay.specs.Pieces.{piece_at}
use Rattle.laws_overlay.proofs.Net.{sourced}
use Rattle.laws_overlay.specs.Inside.{overlaid}
use Rattle.laws_overlay.specs.Along.{sources_at}
use Rattle.laws_overlay.specs.EmptyTables.{empty-labels}

module _ (m : Map) (K : Keeps m) where
  alone : AllKeep (m ∷ [])
  alone zero l = K
  alone (suc i) l = absurd (omega arith)

  -- each half-edge lies along an edge of the map
  its-edge : (k : ℕ) → k < edge_count (overlaid (m ∷ [])) → (j : ℕ) × (sources_at (m ∷ []) k 0 ≡ some j)
  its-edge k l =
      let s = sourced (m ∷ []) alone (vertices_of (m ∷ [])) (places (m ∷ []) alone) k l in
      let (i, j, e) = s.one in
      let z : i ≡ 0 = first i (s.from i j e).in_list in
      (j, ap (source_at (piece_at (edges_of (m ∷ []) (vertices_of (m ∷ []))) k).sources) (sym z) ∙ e)
    where
      first : (i : ℕ) → i < 1 → i ≡ 0
      first i l = omega arith

  one_label : (h j : ℕ) → sources_at (m ∷ []) (h / 2) 0 ≡ some j → labels_of (m ∷ []) (overlay_of (m ∷ [])) h ≡ label m (cond (even h) (twin (east_side m.graph j)) (east_side m.graph j)) ∷ []
  unfolding overlay_of
  one_label h j e = ap (λ (s : Option ℕ). label_in m (overlaid (m ∷ [])) h s ∷ []) e

  -- "must give each half-edge that map's label and 0"
  pub empty-gives : (h : ℕ) → h < the_half_count (overlaid (m ∷ [])) →
      (j : ℕ) × (sources_at (m ∷ []) (h / 2) 0 ≡ some j) × (labels_of (m ∷ empty ∷ []) (overlay_of (m ∷ empty ∷ [])) h ≡ label m (cond (even h) (twin (east_side m.graph j)) (east_side m.graph j)) ∷ 0 ∷ [])
  empty-gives h l =
      let (j, e) = its-edge (h / 2) (half_below (overlaid (m ∷ [])) h l) in
      (j, e, empty-labels (m ∷ []) 1 (omega arith) h ∙ ap (put 1 0) (one_label h j e))
