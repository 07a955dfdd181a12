-- `thin::keeping::number` meets its contract: before a turn the cells below the counter are the counts. Assumes nothing.
use Prim.Native.Nat.{◌-◌}
use Rattle.seq.specs.Seq.{count}
use Rattle.seq.specs.Loops.Filling.{Filling}
use Rattle.seq.specs.Loops.Selecting.{Counting}
use Rattle.thin.specs.Thinned.{marked}
use Rattle.thin.proofs.keeping.number.Given as goal

abbrev pub invariant-loop-v : goal.invariant-loop-v
invariant-loop-v l = Filling (count (marked l.marks)) l.n l.initial.numbers l.numbers l.v × Counting (marked l.marks) l.n l.c l.v
