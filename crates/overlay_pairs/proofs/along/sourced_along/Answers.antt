-- `overlay_pairs::along::sourced_along` meets its contract: wherever the loop is, it is on the walk of h. Assumes nothing.
use mathlib.Core.Path.{refl}
use native.Mathlib.Omega.{arith}
use lib.ListN.{get_or}
use Rattle.overlay_pairs.specs.Labels.{walk_turns, sourced-itself}
use Rattle.overlay_pairs.proofs.along.sourced_along.Goals as goal

pub source_in-requires : goal.source_in-requires
source_in-requires c =
    record { fact_1 = c.requires.fact_2.row c.loop.x c.loop.invariant; fact_2 = c.requires.fact_1 }

pub returns-then-source_in-gt0 : goal.returns-then-source_in-gt0
returns-then-source_in-gt0 c =
    record { on_walk = c.loop.invariant; itself = λ none. absurd (omega (arith, c.if-source_in-gt0.true, c.source_in.ensures, none)) }

pub bounds-next-x : goal.bounds-next-x
bounds-next-x c =
    c.requires.fact_2.follows c.loop.x c.loop.invariant

pub offset_bounds-next-x : goal.offset_bounds-next-x
offset_bounds-next-x c =
    omega (arith, c.requires.fact_2.follows c.loop.x c.loop.invariant)

pub overflow_cast-x : goal.overflow_cast-x
overflow_cast-x c =
    let nx = c.args.next.now in
    omega (arith, c.requires.fact_2.follows (get_or nx c.loop.x 0) (walk_turns nx c.args.h c.loop.x c.loop.invariant))

pub loop-preserved : goal.loop-preserved
loop-preserved c =
    walk_turns c.args.next.now c.args.h c.loop.x c.loop.invariant

pub loop-init : goal.loop-init
loop-init c = (0, refl)

pub returns-then-x-h : goal.returns-then-x-h
returns-then-x-h c = sourced-itself _ _ _ _

pub returns : goal.returns
returns c = sourced-itself _ _ _ _
