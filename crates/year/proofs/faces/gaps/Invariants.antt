-- `year::faces::gaps` meets its contract. Assumes nothing.
use Rattle.year.specs.Faced.{Gapping}
use Rattle.ovfile.specs.Values.{layout_from}
use Rattle.year.proofs.faces.gaps.Given as goal

abbrev pub invariant-loop-f : goal.invariant-loop-f
invariant-loop-f l = Gapping (layout_from l.stored.layout) l.stored.file.now l.n l.total l.f
