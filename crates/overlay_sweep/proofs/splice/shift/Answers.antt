-- `overlay_sweep::splice::shift` meets its contract. Assumes nothing.
use native.Mathlib.Omega.{arith}
use borrow.Author.Rules.{rules}
use Rattle.overlay_sweep.specs.Splicing.{shift_up, shift_down, shift_none}
use Rattle.overlay_sweep.proofs.splice.shift.Goals as goal

pub returns-then-b-c : goal.returns-then-b-c
returns-then-b-c c =
    let a = c.args in
    shift_up a.n a.b a.c a.t.now _ (search rules) c.requires.fact_1 (omega (arith, c.requires.fact_1, c.requires.fact_3)) c.lift.ensures

pub returns-then-c-b : goal.returns-then-c-b
returns-then-c-b c =
    let a = c.args in
    shift_down a.n a.b a.c a.t.now _ (search rules) c.requires.fact_1 c.lower.ensures

pub returns-else-c-b : goal.returns-else-c-b
returns-else-c-b c =
    let a = c.args in
    shift_none a.n a.b a.c a.t.now (search rules)
