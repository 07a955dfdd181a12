-- `overlay_pairs::label::lay_labels` meets its contract: before turn j the first j cells stand. Assumes nothing.
use Prim.Native.Nat.{◌*◌, ◌-◌}
use Rattle.seq.specs.Loops.Filling.{Filling}
use Rattle.paper.specs.Limits.{maps}
use Rattle.overlay_maps.specs.Given.{the_layers}
use Rattle.overlay_pairs.specs.Labels.{label_cell}
use Rattle.overlay_pairs.proofs.label.lay_labels.Given as goal

abbrev pub invariant-loop-j : goal.invariant-loop-j
invariant-loop-j l =
    Filling (label_cell (the_layers l.layers) l.cut.points.now l.net.ends.now l.net.lines.now l.cut.pieces.now l.net.outers.now) (maps * l.n) l.initial.out l.out l.j
