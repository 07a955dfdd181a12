-- `thin::moving::move_pieces` meets its contract: before a turn the rows of the edges below the counter that stay are moved. Assumes nothing.
use mathlib.Core.Path.{◌≡◌}
use Prim.Native.Nat.{◌-◌}
use lib.ListN.{length}
use Rattle.overlay_cut.specs.PieceRows.{piece_at}
use Rattle.thin.specs.Thinned.{separates_in, moved_piece}
use Rattle.thin.specs.Laws.Moving.{Moving}
use Rattle.thin.proofs.moving.move_pieces.Given as goal

abbrev pub invariant-loop-k : goal.invariant-loop-k
invariant-loop-k l = (length l.out ≡ length l.initial.out) × Moving (separates_in l.face l.triples) (moved_piece l.cut.pieces.now l.numbers) l.cut.edges (piece_at l.out) l.c l.k
