-- `map_check::near::clear_of` meets its contract: of the edges in the cells that are listed, none below the counter clashes. Assumes nothing.
use mathlib.Core.Path.{◌≡◌}
use Prim.Native.Nat.{◌-◌, ◌<◌}
use Rattle.seq.specs.Seq.{false, ℕ, get_or}
use Rattle.paper.specs.Plane.{clash}
use Rattle.map_check.specs.Near.{carrier_in}
use Rattle.map_check.proofs.near.clear_of.Given as goal

abbrev pub invariant-loop-q : goal.invariant-loop-q
invariant-loop-q l = (p : ℕ) → p < l.q → clash (carrier_in l.o.carriers.now l.o.cells.now l.i) (carrier_in l.o.carriers.now l.o.cells.now (get_or l.near p 0)) ≡ false
