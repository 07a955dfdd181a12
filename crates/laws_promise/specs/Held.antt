-- What the lent tables hold after an overlay that is done, cell by cell (`Held`): the rows of the overlay's graph, which is a plane graph of pieces (`overlay-pieced`), from the tables of the definition with zeros past
-- them (`padded-held`, `padded-zeros`). Everything that Promised says is proved from this and the laws of the overlay. Assumes nothing.
use Rattle.seq.specs.Seq.{List}
use Rattle.paper.specs.Map.{Map}
use Rattle.paper.specs.Pieces.{vertices_of, edges_of}
use Rattle.paper.specs.Faces.{overlay_of}
use Rattle.paper.specs.Tables.{Counts, Tables, counts_of, tables_of}
use Rattle.paper.specs.Lent.{Lengths, padded_tables}
use Rattle.laws_overlay.specs.Maps.{AllKeep}
use Rattle.laws_overlay.specs.Places.{places}
use Rattle.laws_overlay.specs.Net.{edge_is}
use Rattle.laws_overlay.proofs.Net.{goes-even, sourced}
use Rattle.laws_overlay.proofs.NetPlane.{net-plane, net-clear}
use Rattle.laws_overlay.specs.Inside.{overlaid}
use Rattle.laws_promise.specs.Rows.{Pieced, Rows, padded-rows}

abbrev pub Held : List Map → Counts → Tables → Type 0
Held ms c t = Rows ms (edges_of ms (vertices_of ms)) (overlaid ms) c t

module _ (ms : List Map) (K : AllKeep ms) where
  pub overlay-pieced : Pieced ms (edges_of ms (vertices_of ms)) (overlaid ms)
  overlay-pieced = record {
    plane = net-plane ms K (vertices_of ms) (places ms K);
    clear = net-clear ms K (vertices_of ms) (places ms K);
    goes = goes-even ms K (vertices_of ms) (places ms K);
    edge_is = λ k l. edge_is ms (vertices_of ms) k;
    sourced = sourced ms K (vertices_of ms) (places ms K);
  }

  module _ (l : Lengths) where
    pub padded-held : Held ms (counts_of (overlay_of ms)) (padded_tables l (tables_of ms (overlay_of ms)))
    unfolding overlay_of
    padded-held = padded-rows ms (edges_of ms (vertices_of ms)) (overlaid ms) overlay-pieced l
