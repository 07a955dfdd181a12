-- `overlay_pairs::rows::lay_outers` meets its contract. Assumes nothing.
use Prim.Native.Nat.{◌-◌}
use Rattle.seq.specs.Loops.Filling.{Filling}
use Rattle.overlay_pairs.specs.Labels.{outer_of}
use Rattle.overlay_pairs.proofs.rows.lay_outers.Given as goal

abbrev pub invariant-loop-f : goal.invariant-loop-f
invariant-loop-f l = Filling (outer_of l.outers) l.n l.initial.out l.out l.f
