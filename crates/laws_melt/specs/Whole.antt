-- Melting over files (Ask 12), and its room: the melted tables fit wherever the overlay's do (`melted_fits`), so that room is judged on the overlay alone (`melt-done`). Assumes nothing.
use Rattle.std.specs.Prelude.{◌≡◌}
use Rattle.std.proofs.Common.{arith}
use Rattle.std.proofs.lemmas.List.{length-map}
use Rattle.seq.specs.Seq.{List, ℕ, length}
use Rattle.paper.specs.Refusal.{done}
use Rattle.paper.specs.Map.{Map}
use Rattle.paper.specs.Pieces.{vertices_of, edges_of, edge_of}
use Rattle.paper.specs.Faces.{overlay_of}
use Rattle.paper.specs.Tables.{Counts, counts_of}
use Rattle.paper.specs.Lent.{Lengths, room_in}
use Rattle.paper.specs.Overlay.{lent}
use Rattle.laws_refusals.specs.Room.{Fits}
use Rattle.laws_overlay.specs.Maps.{AllKeep}
use Rattle.laws_overlay.specs.Parts.{vertex-count, edge-count}
use Rattle.laws_overlay.specs.Files.{AllPass, maps_of, files-keep}
use Rattle.laws_labels.specs.Done.{done-passes, done_fits}
use Rattle.paper.specs.Melt.{melted_of}
use Rattle.laws_melt.specs.Stored.{fewer-vertices, fewer-edges}
use Rattle.laws_melt.specs.Fewer.{melted-faces}

module _ (ms : List Map) (K : AllKeep ms) where
  pub melted_fits : (room : Counts) → Fits room (counts_of (overlay_of ms)) → Fits room (counts_of (melted_of ms))
  melted_fits room F = record {
    vertices = omega (arith, F.vertices, fewer-vertices ms K, vertex-count ms);
    edges = omega (arith, F.edges, fewer-edges ms K, edge-count ms, length-map (edges_of ms (vertices_of ms)) (edge_of ms));
    faces = omega (arith, F.faces, melted-faces ms K);
  }

-- whenever it is done each file passes, and the melted tables have room
pub melt-done : (l : Lengths) (files : List (List ℕ)) (c : Counts) → (lent l files).answer ≡ done c → AllPass files × Fits (room_in (length files) l) (counts_of (melted_of (maps_of files)))
melt-done l files c d =
    let P = done-passes l files c d in
    (P, melted_fits (maps_of files) (files-keep files P) (room_in (length files) l) (done_fits l files c d))
