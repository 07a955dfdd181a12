-- `overlay_cut::collecting::cross_row` meets its contract. Assumes nothing.
use Rattle.seq.specs.Seq.{optional}
use Rattle.paper.specs.Meeting.{meeting, point_of}
use Rattle.plane.specs.Values.{seg_of}
use Rattle.graph.specs.Flat.{carrier_at}
use Rattle.overlay_cut.specs.Collecting.{Gathering}
use Rattle.overlay_cut.proofs.collecting.cross_row.Given as goal

abbrev pub invariant-loop-j : goal.invariant-loop-j
invariant-loop-j l = Gathering l.room (λ k. optional (point_of (meeting (carrier_at l.carriers k) (seg_of l.t)))) l.e l.initial.points l.n l.points l.total l.j
