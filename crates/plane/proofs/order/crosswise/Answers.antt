-- `plane::order::crosswise` meets its contract, by the short way and by the long one. Assumes nothing.
use mathlib.Core.Path.{sym, ◌∙◌, ap}
use lib.IntN.{◌*ℤ◌}
use Rattle.exact.specs.Exact.{sgn}
use Rattle.exact.specs.Compare.{sign_of, cmp_sign}
use Rattle.plane.proofs.Machine.{back}
use Rattle.plane.proofs.Fractions.{Short, short_of, first_fits, second_fits, short}
use Rattle.plane.proofs.order.crosswise.Goals as goal
use Rattle.plane.proofs.order.crosswise.Goals.{Then-short_way}

-- by the short way both products fit
is-short : (c : Then-short_way) → let a = c.args in Short a.n a.d a.m a.e
is-short c =
    let s = c.before.before in
    let a = s.args in
    short_of a.n a.d a.m a.e s.requires.0 s.requires.1 (sym c.short_way.ensures ∙ c.if-short_way.true)

pub overflow_mul-n : goal.overflow_mul-n
overflow_mul-n c =
    let s = c.before.before in
    let a = s.args in
    first_fits a.n a.d a.m a.e s.requires.0 s.requires.1 (is-short c)

pub overflow_mul-m : goal.overflow_mul-m
overflow_mul-m c =
    let a = c.args in
    second_fits a.n a.d a.m a.e c.requires.0 c.requires.1 (is-short (goal.at.overflow_mul-m c).Then-short_way)

pub returns-then-short_way : goal.returns-then-short_way
returns-then-short_way c =
    let a = c.args in
    ap sign_of c.cmp.ensures ∙ cmp_sign (back (back a.n *ℤ back a.e)) (back (back a.m *ℤ back a.d))
    ∙ ap sgn (short a.n a.d a.m a.e c.requires.0 c.requires.1 (is-short (goal.at.returns-then-short_way c).Then-short_way))
