-- `overlay_cut::collecting::crossings` meets its contract. Assumes nothing.
use Rattle.paper.specs.Limits.{maps}
use Rattle.overlay_cut.specs.Crossed.{cross_part}
use Rattle.overlay_cut.specs.Collecting.{Gathering}
use Rattle.overlay_cut.proofs.collecting.crossings.Given as goal

abbrev pub invariant-loop-m : goal.invariant-loop-m
invariant-loop-m l = Gathering l.room (cross_part l.carriers l.starts) maps l.initial.points l.n l.points l.total l.m
