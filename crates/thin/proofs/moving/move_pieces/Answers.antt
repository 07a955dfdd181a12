-- `thin::moving::move_pieces` meets its contract: before a turn the rows of the edges below the counter that stay are moved. Assumes nothing.
use mathlib.Core.Path.{refl, sym, ◌∙◌}
use Rattle.seq.specs.Loops.Selecting.{count_most}
use Rattle.thin.specs.Laws.Moving.{move_starts, move-takes, move-skips, move_ends, piece-kept, piece-stored}
use native.Mathlib.Omega.{arith}
use Rattle.thin.proofs.moving.move_pieces.Goals as goal
use Rattle.thin.proofs.moving.move_pieces.Goals.{then-stays, else-stays}

pub loop-k-init : goal.loop-k-init
loop-k-init c = (refl, move_starts)

pub stays-requires : goal.stays-requires
stays-requires c =
    c.requires.fact_1.sides c.loop-k.k (omega arith)

pub move_piece-requires : goal.move_piece-requires
move_piece-requires c =
    let r = c.loop-k.invariant in
    record { fact_1 = c.requires.fact_1.ends c.loop-k.k (omega arith); fact_2 = omega (arith, count_most r.1.counted, r.0) }

pub overflow_add-c : goal.overflow_add-c
overflow_add-c c =
    omega (arith, count_most c.loop-k.invariant.1.counted)

pub loop-k-preserved : goal.loop-k-preserved
loop-k-preserved c =
    let r = c.loop-k.invariant in
    let q = sym c.stays.ensures in
    let pieces = c.args.cut.pieces.now in
    let numbers = c.args.numbers.now in
    elim c.if-stays.branch [
      | then-stays w ↦ rw (w.out-is, w.c-is) (
        piece-kept pieces numbers c.loop-k.out _ c.loop-k.k c.loop-k.c w.move_piece.ensures ∙ r.0,
        move-takes r.1 (omega arith) (q ∙ w.if-stays.true)
            (piece-stored pieces numbers c.loop-k.out _ c.loop-k.k c.loop-k.c w.move_piece.ensures (omega (arith, count_most r.1.counted, r.0))),
      )
      | else-stays w ↦ rw (w.out-is, w.c-is) (r.0, move-skips r.1 (omega arith) (q ∙ w.if-stays.false))
    ]

pub shape_of-out : goal.shape_of-out
shape_of-out c = c.loop-k.invariant.0

pub returns : goal.returns
returns c =
    let r = move_ends c.loop-k.invariant.1 (omega arith) in
    record { is = r.0; rows = r.1 }
