-- `looks::rails::lay_easts` meets its contract. Assumes nothing.
use mathlib.Core.Path.{ap}
use Prim.Native.Nat.{◌-◌, ◌*◌}
use lib.ListN.{get_or}
use native.Mathlib.Omega.{arith}
use Rattle.seq.specs.Seq.{ℕ}
use Rattle.seq.specs.Loops.Filling.{Filling, fill_starts, fill_turns, fill_ends}
use Rattle.graph.specs.Heading.{the_up_at}
use Rattle.graph.specs.Look.{east_at}
use Rattle.looks.specs.Ordering.{the_edge_in}
use Rattle.looks.specs.Rails.{side_below}
use borrow.Author.Rules.{rules}
use Rattle.looks.proofs.rails.lay_easts.Goals as goal

pub loop-i-preserved : goal.loop-i-preserved
loop-i-preserved c =
    fill_turns c.loop-i.invariant (search rules) (ap (λ (h : ℕ). get_or c.args.labels.now h 0) c.east_side-h.ensures)

pub loop-i-init : goal.loop-i-init
loop-i-init c = fill_starts (search rules)
