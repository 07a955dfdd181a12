-- The overlay as it is, by the maps and by files: refused where a map is, and otherwise that of the maps. Assumes nothing.
use Rattle.seq.specs.Seq.{List, ℕ}
use Rattle.paper.specs.Lent.{Lengths, Outcome}
use Rattle.paper.specs.Overlay.{lent}
use Rattle.overlay_fill.specs.Judged.{overlaid, RefusesFiles, PassesFiles}
use Rattle.overlay_fill.proofs.JudgeLaws.{maps-refused, maps-pass}

abbrev pub lent_of : List (List ℕ) → Lengths → Outcome
lent_of files l = lent l files

pub whole-refused : RefusesFiles lent_of
whole-refused = maps-refused

pub whole-passes : PassesFiles overlaid lent_of
whole-passes = maps-pass
