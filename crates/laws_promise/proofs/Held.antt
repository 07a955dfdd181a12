-- Of Held of specs/, what rests on its definitions.
use Rattle.seq.specs.Seq.{List, length}
use Rattle.paper.specs.Map.{Map}
use Rattle.paper.specs.Pieces.{vertices_of, edges_of}
use Rattle.paper.specs.Faces.{overlay_of}
use Rattle.paper.specs.Tables.{counts_of, tables_of}
use Rattle.paper.specs.Lent.{Lengths, padded_tables}
use Rattle.laws_overlay.specs.Maps.{AllKeep}
use Rattle.laws_overlay.specs.Inside.{overlaid}
use Rattle.laws_promise.specs.Defined.{Zeros}
use Rattle.laws_promise.specs.Rows.{rows-zeros}
use Rattle.laws_promise.specs.Held.{overlay-pieced}

module _ (ms : List Map) (K : AllKeep ms) where
  module _ (l : Lengths) where
    -- past them all is zero
    pub padded-zeros : Zeros (length ms) (counts_of (overlay_of ms)) (padded_tables l (tables_of ms (overlay_of ms)))
    unfolding overlay_of
    padded-zeros = rows-zeros ms (edges_of ms (vertices_of ms)) (overlaid ms) (overlay-pieced ms K) l
