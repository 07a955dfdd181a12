-- `year::faces::add_faces` meets its contract. Assumes nothing.
use Rattle.year.specs.Faced.{Adding}
use Rattle.ovfile.specs.Values.{layout_from}
use Rattle.year.proofs.faces.add_faces.Given as goal

abbrev pub invariant-loop-f : goal.invariant-loop-f
invariant-loop-f l = Adding (layout_from l.stored.layout) l.stored.file.now l.n l.number l.initial.rows l.pairs l.rows l.total l.f
