-- `overlay_cut::cuts::pieces_in` meets its contract. Assumes nothing.
use mathlib.Core.Path.{◌∙◌}
use native.Mathlib.Omega.{arith}
use Rattle.overlay_cut.specs.Laws.LinkedRows.{linked_within}
use Rattle.overlay_cut.proofs.cuts.pieces_in.Goals as goal
use Rattle.overlay_cut.proofs.cuts.pieces_in.Goals.{After-cut-count, Start}

pub cut-count-requires : goal.cut-count-requires
cut-count-requires c =
    record { ended = c.requires.ended; fact_1 = c.requires.fact_1; fact_2 = c.requires.fact_2 }

pub lay-requires : goal.lay-requires
lay-requires c =
    let L = c.cut-count.ensures.0 in
    record { fact_1 = linked_within L; fact_2 = omega (arith, L.within, c.requires.fact_3) }

pub returns : goal.returns
returns c =
    c.lay.ensures ∙ c.cut-count.ensures.1
