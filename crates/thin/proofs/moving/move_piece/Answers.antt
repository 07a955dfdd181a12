-- `thin::moving::move_piece` meets its contract. Assumes nothing.
use mathlib.Core.Path.{◌∙◌, ap}
use mathlib.Core.List.{[], ◌∷◌}
use lib.ListN.{get_or}
use Rattle.seq.specs.Seq.{row_stored}
use Rattle.overlay_cut.specs.PieceRows.{piece_width, piece_at}
use Rattle.thin.specs.Laws.Moving.{low_cell}
use native.Mathlib.Omega.{arith}
use Rattle.thin.proofs.moving.move_piece.Goals as goal

pub overflow_cast-lower : goal.overflow_cast-lower
overflow_cast-lower c =
    omega (arith, low_cell c.args.pieces.now c.args.k, c.requires.fact_1.lower)

pub offset_bounds-numbers-pieces : goal.offset_bounds-numbers-pieces
offset_bounds-numbers-pieces c =
    omega (arith, low_cell c.args.pieces.now c.args.k, c.requires.fact_1.lower)

pub bounds-numbers-pieces : goal.bounds-numbers-pieces
bounds-numbers-pieces c =
    omega (arith, low_cell c.args.pieces.now c.args.k, c.requires.fact_1.lower)

pub returns : goal.returns
returns c =
    let a = c.args in
    let pieces = a.pieces.now in
    let numbers = a.numbers.now in
    c.store.ensures
    ∙ ap (row_stored piece_width a.out.now a.c)
    (λ i. get_or numbers (low_cell pieces a.k i) 0 ∷ get_or numbers (piece_at pieces a.k).hi 0 ∷ c.source_in-first.ensures i ∷ c.source_in-second.ensures i ∷ c.source_in-third.ensures i ∷ [])
