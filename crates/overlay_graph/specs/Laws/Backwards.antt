-- Predecessors and least outgoing half-edges, from the tables of the net and of the followers: what is asked of the tables that they are counted out from, and
-- that they are the definition's. Assumes nothing.
use Rattle.std.specs.Prelude.{◌≡◌, ◌≤◌, ◌*◌}
use Rattle.std.proofs.Common.{sym, ◌∙◌, ap, arith}
use Rattle.seq.specs.Seq.{List, ℕ, length, ℤ, filled, padded}
use Rattle.paper.specs.Limits.{absent}
use Rattle.paper.specs.Graph.{Graph, followers}
use Rattle.paper.specs.Map.{Map}
use Rattle.paper.specs.Faces.{Overlay}
use Rattle.graph.specs.Flat.{Numbers, flat_graph}
use Rattle.graph.specs.Laws.Decode.{flat-halves}
use Rattle.graph.specs.Places.{first_place}
use Rattle.overlay_graph.specs.Cut.{Cut, overlay_in, DrawableCut}
use Rattle.overlay_graph.specs.Traced.{NetBy, Zeroed, FacesBy, PrevBy, LeastBy}
use Rattle.overlay_graph.specs.Laws.Zeros.{zeroed_long}
use Rattle.overlay_graph.specs.Laws.Tracing.{walked, face-length, net-planar, next_numbers, prev_of, least_of_lem}

module _ (ms : List Map) (c : Cut) (D : DrawableCut ms c) (os : List ℕ) (bs : List ℤ) (N : NetBy (overlay_in ms c) c os bs) where
  abbrev o : Overlay
  o = overlay_in ms c

  abbrev f : Graph
  f = flat_graph c.points os bs c.vertices c.edges

  -- "its least outgoing half-edge"
  pub least_by : (least d : List ℕ) → least ≡ filled c.vertices (first_place os (2 * c.edges) absent) d → LeastBy (overlay_in ms c) c least
  least_by = least_of_lem ms c D os bs N

  module _ (next face outers holes : List ℕ) (n : ℕ) (F : FacesBy (overlay_in ms c) next face outers holes n) where
    next_is : Zeroed (followers f) next
    next_is = let Z = F.next_is in record { cells = Z.cells; is = Z.is ∙ ap (padded 0 Z.cells) (sym (walked ms c f N.net_is)) }

    pub next_named : Numbers next (2 * c.edges) (2 * c.edges)
    next_named = next_numbers c.points os bs c.vertices c.edges (net-planar ms c D os bs N) next next_is

    -- "The predecessor is the inverse"
    pub prev_by : (prev d : List ℕ) → prev ≡ filled (2 * c.edges) (first_place next (2 * c.edges) absent) d → PrevBy (overlay_in ms c) c prev
    prev_by = prev_of ms c D os bs N next next_is

    pub face_long : 2 * c.edges ≤ length face
    face_long = omega (arith, zeroed_long o.face face F.face_is, face-length ms c f N.net_is, flat-halves c.points os bs c.vertices c.edges)
