-- `bonnetewe::met::lay_point` meets its contract. Assumes nothing.
use mathlib.Core.Path.{◌∙◌}
use Prim.Native.Nat.{◌-◌}
use native.Mathlib.Omega.{arith}
use mir.Syntax.{w64}
use mir.ValLaws.{to_z-of_z}
use borrow.Author.Rules.{rules}
use lib.ListN.{length}
use Rattle.seq.specs.Filled.{filled_all}
use Rattle.seq.specs.Loops.Filling.{Filling, fill_starts, fill_turns, fill_ends}
use Rattle.plane.specs.Values.{pt_of}
use Rattle.bonnetewe.specs.Met.{point_cell}
use Rattle.bonnetewe.proofs.met.lay_point.Goals as goal

pub loop-i-init : goal.loop-i-init
loop-i-init c = fill_starts (omega arith)

pub loop-i-preserved : goal.loop-i-preserved
loop-i-preserved c = fill_turns c.loop-i.invariant (search rules) (to_z-of_z w64 c.point_cell.result (search rules) ∙ c.point_cell.ensures)

pub returns : goal.returns
returns c = fill_ends c.loop-i.invariant (search rules) ∙ filled_all (point_cell (pt_of c.args.p)) c.args.point.now (length c.args.point.now) (omega arith)
