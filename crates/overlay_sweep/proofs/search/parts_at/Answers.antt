-- `overlay_sweep::search::parts_at` meets its contract: the two edges decide. Assumes nothing.
use mathlib.Core.Path.{sym, ◌∙◌}
use native.Mathlib.Omega.{arith}
use Rattle.seq.specs.Tests.{was-false}
use Rattle.plane.specs.Values.{pt_of}
use Rattle.overlay_sweep.specs.Sides.{right_at}
use Rattle.overlay_sweep.specs.Numbers.{stop-beside}
use Rattle.overlay_sweep.proofs.search.parts_at.Goals as goal
use Rattle.overlay_sweep.proofs.search.parts_at.Goals.{After-is_right, Start, Then-is_right}

pub is_right-requires : goal.is_right-requires
is_right-requires c = record { fact_1 = omega arith; fact_2 = c.requires.fact_1 }

pub is_right-requires-then-is_right : goal.is_right-requires-then-is_right
is_right-requires-then-is_right c = record { fact_1 = omega arith; fact_2 = c.requires.fact_1 }

pub returns-then-is_right : goal.returns-then-is_right
returns-then-is_right c =
    let a = c.args in
    λ e.
    stop-beside (right_at a.cut.sheet.carriers.now a.cut.status.now (pt_of a.p)) a.cut.c a.g c.requires.fact_2 (omega arith) (omega arith) (sym c.is_right.ensures ∙ c.if-is_right.true) (sym c.is_right-then-is_right.ensures ∙ was-false c.is_right-then-is_right.result e)
