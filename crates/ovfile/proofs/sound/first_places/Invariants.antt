-- `ovfile::sound::first_places` meets its contract. Assumes nothing.
use Rattle.ovfile.specs.Firsts.{column}
use Rattle.seq.specs.Loops.Placing.{Placing}
use Rattle.ovfile.proofs.sound.first_places.Given as goal

abbrev pub invariant-loop-h : goal.invariant-loop-h
invariant-loop-h l = Placing (column l.halves l.j) l.n l.initial.out l.out l.h
