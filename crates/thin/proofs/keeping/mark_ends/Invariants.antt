-- `thin::keeping::mark_ends` meets its contract: before a turn the ends of the edges below the counter that stay are marked. Assumes nothing.
use Prim.Native.Nat.{◌-◌}
use Rattle.overlay_cut.specs.PieceRows.{piece_at}
use Rattle.thin.specs.Thinned.{separates_in}
use Rattle.thin.specs.Laws.Marking.{Marking}
use Rattle.thin.proofs.keeping.mark_ends.Given as goal

abbrev pub invariant-loop-k : goal.invariant-loop-k
invariant-loop-k l = Marking (separates_in l.face l.triples) (piece_at l.cut.pieces.now) l.cut.vertices l.cut.edges l.initial.marks l.marks l.k
