-- `bonnetewe::sounded::lay_read` meets its contract. Assumes nothing.
use mathlib.Core.Path.{◌∙◌}
use Prim.Native.Nat.{◌-◌}
use native.Mathlib.Omega.{arith}
use borrow.Author.Rules.{rules}
use lib.ListN.{length}
use Rattle.seq.specs.Filled.{filled_all}
use Rattle.seq.specs.Loops.Filling.{Filling, fill_starts, fill_turns, fill_ends}
use Rattle.bonnetewe.specs.Sounded.{read_cell}
use Rattle.bonnetewe.proofs.sounded.lay_read.Goals as goal

pub returns : goal.returns
returns c =
    let a = c.args in
    fill_ends c.loop-i.invariant (search rules) ∙ filled_all (read_cell a.n) a.read.now (length a.read.now) (omega arith)

pub loop-i-init : goal.loop-i-init
loop-i-init c = fill_starts (omega arith)

pub loop-i-preserved : goal.loop-i-preserved
loop-i-preserved c = fill_turns c.loop-i.invariant (search rules) c.read_cell.ensures
