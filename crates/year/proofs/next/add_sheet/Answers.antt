-- `year::next::add_sheet` meets its contract. Assumes nothing.
use native.Mathlib.Omega.{arith}
use Rattle.ovfile.specs.Values.{layout_from}
use Rattle.year.specs.OneFile.{gaps-small}
use Rattle.year.proofs.next.add_sheet.Goals as goal

pub overflow_add-gaps : goal.overflow_add-gaps
overflow_add-gaps c =
    let s = c.args.stored.now in
    omega (arith, gaps-small c.args.rows.now c.args.sums (layout_from s.layout) s.file.now c.args.n c.gaps.result c.requires.fact_2 c.requires.fact_1 c.gaps.ensures)
