-- `graph::places::first_places` meets its contract. Assumes nothing.
use mathlib.Core.Path.{refl, ◌∙◌, ap}
use native.Mathlib.Omega.{arith}
use Rattle.seq.specs.Seq.{get_or, firsts}
use Rattle.seq.specs.Loops.Placing.{place_starts, place_turns, place_ends}
use Rattle.graph.specs.Places.{places-filled}
use Rattle.graph.proofs.places.first_places.Goals as goal
use Rattle.graph.proofs.places.first_places.Goals.{In-loop-i}

pub returns : goal.returns
returns c =
    place_ends c.loop-i.invariant (omega arith) ∙ ap (firsts (λ k. get_or c.args.xs.now k 0) 0 c.args.m) c.fill.ensures
    ∙ places-filled c.args.xs.now c.args.m c.args.none c.args.n c.args.out.now c.requires.fact_1 c.requires.fact_3

pub loop-i-init : goal.loop-i-init
loop-i-init c = place_starts

pub loop-i-preserved : goal.loop-i-preserved
loop-i-preserved c = place_turns c.loop-i.invariant (omega arith) refl
