-- `overlay_sweep::stops::all_turns` meets its contract. Assumes nothing.
use Prim.Native.Nat.{◌-◌}
use Rattle.overlay_cut.specs.Rooms.{vertex_rows}
use Rattle.overlay_sweep.specs.Threading.{Spun}
use Rattle.overlay_sweep.specs.Loop.{Looping}
use Rattle.overlay_sweep.proofs.stops.all_turns.Given as goal

abbrev pub invariant-loop-line : goal.invariant-loop-line
invariant-loop-line l =
    Looping l.sheet.carriers.now l.sheet.e l.sheet.starts.now l.rows l.k l.waits l.initial.status l.status l.initial.fan l.fan l.initial.points l.points l.initial.out l.out l.line.cut l.line.started l.line.known l.i × Spun l.sheet.carriers.now l.sheet.e l.room l.initial.last l.last l.initial.nodes l.nodes l.out l.line.nodes l.i

abbrev pub decreases-loop-line : goal.decreases-loop-line
decreases-loop-line l = vertex_rows - l.i
