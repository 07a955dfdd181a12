-- `overlay_sweep::splice::splice` meets its contract. Assumes nothing.
use Prim.Native.Nat.{◌+◌, ◌-◌}
use mathlib.Core.Path.{refl}
use native.Mathlib.Omega.{arith}
use Rattle.overlay_sweep.specs.Splice.{spliced, copied_in}
use Rattle.overlay_sweep.proofs.splice.splice.Goals as goal
use Rattle.overlay_sweep.proofs.splice.splice.Goals.{Start}

pub returns : goal.returns
returns c =
    let a = c.args in
    let p = c.requires in
    record { count = refl; is = spliced a.t.now _ _ a.fan.now a.n a.a a.b a.m p.fact_1 p.fact_2 c.shift.ensures (copied_in a.a a.m (a.a + a.m - a.a) a.fan.now _ _ (omega arith) c.copy_from_slice.ensures.after p.fact_5 (omega (arith, p.fact_4, c.shift.auto.t))) }
