-- `thin::keeping::mark` meets its contract. Assumes nothing.
use mathlib.Core.Path.{ap}
use Prim.Native.Nat.{ℕ}
use lib.ListN.{set, length-set}
use Rattle.overlay_cut.specs.PieceRows.{piece_at}
use Rattle.thin.specs.Laws.Moving.{low_cell}
use native.Mathlib.Omega.{arith}
use borrow.Author.Rules.{rules}
use Rattle.thin.proofs.keeping.mark.Goals as goal

pub overflow_cast-lower : goal.overflow_cast-lower
overflow_cast-lower c =
    omega (arith, low_cell c.args.pieces.now c.args.k, c.requires.lower)

pub offset_bounds-marks-lower : goal.offset_bounds-marks-lower
offset_bounds-marks-lower c =
    omega (arith, low_cell c.args.pieces.now c.args.k, c.requires.lower)

pub bounds-marks-lower : goal.bounds-marks-lower
bounds-marks-lower c =
    omega (arith, low_cell c.args.pieces.now c.args.k, c.requires.lower)

pub bounds-marks-upper : goal.bounds-marks-upper
bounds-marks-upper c = simp length-set (search rules)

pub returns : goal.returns
returns c =
    let a = c.args in
    ap (λ (x : ℕ). set (set a.marks.now x 1) (piece_at a.pieces.now a.k).hi 1) (low_cell a.pieces.now a.k)
