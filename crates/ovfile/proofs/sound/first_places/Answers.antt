-- `ovfile::sound::first_places` meets its contract. Assumes nothing.
use Rattle.std.specs.Prelude.{◌-◌}
use mathlib.Core.Path.{ap, ◌∙◌}
use native.Mathlib.Omega.{arith}
use lib.ListN.{set}
use Rattle.seq.specs.Seq.{ℕ}
use Rattle.seq.specs.Loops.Placing.{place_starts, place_turns, place_ends}
use Rattle.ovfile.proofs.sound.first_places.Goals as goal
use Rattle.ovfile.proofs.sound.first_places.Goals.{After-half_cell, At-loop-h, In-loop-h}

pub overflow_cast-h : goal.overflow_cast-h
overflow_cast-h c =
    omega (arith, c.loop-h.invariant.within)

pub loop-h-preserved : goal.loop-h-preserved
loop-h-preserved c =
    place_turns c.loop-h.invariant c.loop-h-test.true
    (c.store.ensures ∙ ap (λ (x : ℕ). set c.loop-h.out x (c.loop-h.h - 1)) c.half_cell.ensures)

pub loop-h-init : goal.loop-h-init
loop-h-init c = place_starts

pub shape_of-out : goal.shape_of-out
shape_of-out c = c.loop-h.invariant.kept

pub returns : goal.returns
returns c = record { is = place_ends c.loop-h.invariant c.loop-h-test.false }
