-- `looks::rails::lay_easts` meets its contract. Assumes nothing.
use mathlib.Core.Path.{ap}
use Prim.Native.Nat.{◌-◌, ◌*◌}
use lib.ListN.{get_or}
use native.Mathlib.Omega.{arith}
use Rattle.seq.specs.Seq.{ℕ}
use Rattle.seq.specs.Loops.Filling.{Filling, fill_starts, fill_turns, fill_ends}
use Rattle.graph.specs.Heading.{the_up_at}
use Rattle.graph.specs.Look.{east_at}
use Rattle.looks.specs.Ordering.{the_edge_in}
use Rattle.looks.specs.Rails.{side_below}
use borrow.Author.Rules.{rules}
use Rattle.looks.proofs.rails.lay_easts.Given as goal

abbrev pub invariant-loop-i : goal.invariant-loop-i
invariant-loop-i l = Filling (λ j. get_or l.labels (east_at l.points l.origins (the_edge_in l.order j)) 0) l.e l.initial.easts l.easts l.i
