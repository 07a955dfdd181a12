-- `overlay_sweep::stops::all_turns` meets its contract. Assumes nothing.
use mathlib.Core.Path.{sym, ◌∙◌, ap, subst}
use Prim.Native.Nat.{◌-◌}
use native.Mathlib.Omega.{arith}
use borrow.Author.Rules.{rules}
use Rattle.exact.specs.Lowest.{Pt}
use Rattle.seq.specs.Seq.{row_stored}
use Rattle.seq.specs.Search.{Steady}
use Rattle.plane.specs.Bounds.{Near}
use Rattle.plane.specs.Values.{pt_of}
use Rattle.plane.proofs.Machine.{pt_back}
use Rattle.overlay_cut.specs.Points.{point_row}
use Rattle.overlay_sweep.specs.Sides.{right_at}
use Rattle.overlay_sweep.specs.Ahead.{room_less}
use Rattle.overlay_sweep.specs.Threading.{spun_starts}
use Rattle.overlay_sweep.specs.Loop.{loop_starts, loop-known, loop-steady, loop_turns, loop-spins, loop_ends, loop-stops}
use Rattle.overlay_sweep.proofs.stops.all_turns.Goals as goal
use Rattle.overlay_sweep.proofs.stops.all_turns.Goals.{After-point_at-p, After-store, After-turn-line, Else-line-i-ge-VERTEX_ROWS, Start}

pub loop-line-init : goal.loop-line-init
loop-line-init c = (loop_starts _ _ _ _ _ c.requires.fact_1, spun_starts _ _ _ _ _ _ c.requires.fact_2)

pub overflow_add-line : goal.overflow_add-line
overflow_add-line c = let l = c.loop-line in omega (arith, loop-known l.invariant.0, l.invariant.0.few)

pub shape_of-status-then-line-i-ge-VERTEX_ROWS : goal.shape_of-status-then-line-i-ge-VERTEX_ROWS
shape_of-status-then-line-i-ge-VERTEX_ROWS c = c.loop-line.invariant.0.kept_s

pub shape_of-fan-then-line-i-ge-VERTEX_ROWS : goal.shape_of-fan-then-line-i-ge-VERTEX_ROWS
shape_of-fan-then-line-i-ge-VERTEX_ROWS c = c.loop-line.invariant.0.kept_f

pub shape_of-points-then-line-i-ge-VERTEX_ROWS : goal.shape_of-points-then-line-i-ge-VERTEX_ROWS
shape_of-points-then-line-i-ge-VERTEX_ROWS c = c.loop-line.invariant.0.kept_t

pub shape_of-out-then-line-i-ge-VERTEX_ROWS : goal.shape_of-out-then-line-i-ge-VERTEX_ROWS
shape_of-out-then-line-i-ge-VERTEX_ROWS c = c.loop-line.invariant.0.kept_o

pub shape_of-last-then-line-i-ge-VERTEX_ROWS : goal.shape_of-last-then-line-i-ge-VERTEX_ROWS
shape_of-last-then-line-i-ge-VERTEX_ROWS c = c.loop-line.invariant.1.kept_l

pub shape_of-nodes-then-line-i-ge-VERTEX_ROWS : goal.shape_of-nodes-then-line-i-ge-VERTEX_ROWS
shape_of-nodes-then-line-i-ge-VERTEX_ROWS c = c.loop-line.invariant.1.kept_n

pub returns-then-line-i-ge-VERTEX_ROWS : goal.returns-then-line-i-ge-VERTEX_ROWS
returns-then-line-i-ge-VERTEX_ROWS c = record { stops = loop-stops c.loop-line.invariant.0 (omega (arith, c.if-line-i-ge-VERTEX_ROWS.true)); threads = λ h. absurd (omega arith) }

pub overflow_sub-left : goal.overflow_sub-left
overflow_sub-left c = omega (arith, c.loop-line-test.true)

pub point_at-p-requires : goal.point_at-p-requires
point_at-p-requires c =
    omega (arith, c.loop-line-test.true, c.loop-line.invariant.0.room.points.long)

pub guess_at-g-requires : goal.guess_at-g-requires
guess_at-g-requires c =
    omega (arith, c.loop-line-test.true, c.loop-line.invariant.0.room.points.long)

pub store-requires : goal.store-requires
store-requires c =
    let l = c.loop-line in
    omega (arith, l.invariant.0.few, l.invariant.0.out_room)

pub overflow_cast-i : goal.overflow_cast-i
overflow_cast-i c = omega (arith, c.loop-line.invariant.0.few)

-- the stop
near : (c : After-point_at-p) → Near (pt_of c.point_at-p.result)
near c =
    let l = c.loop-line in
    subst Near (sym c.point_at-p.ensures) (l.invariant.0.room.points.near (l.line.known - 1) (omega (arith, c.loop-line-test.true)))

pub turn-line-requires : goal.turn-line-requires
turn-line-requires c =
    let point = (goal.at.turn-line-requires c).After-point_at-p in
    let l = c.loop-line in
    let t = c.loop-line-test.true in record {
      fact_1 = l.invariant.0.ready;
      fact_2 = room_less l.invariant.0.room t;
      fact_3 = near point;
      fact_4 = subst (λ (x : Pt). Steady (right_at c.args.sheet.carriers.now l.status x) l.line.cut) (sym c.point_at-p.ensures) (loop-steady l.invariant.0 (omega (arith, c.if-line-i-ge-VERTEX_ROWS.false)) t);
      fact_5 = record { spools = l.invariant.1.spools; chains = λ h. (l.invariant.1.threads h).chains; within = l.invariant.1.within };
    }

pub overflow_add-i : goal.overflow_add-i
overflow_add-i c =
    omega (arith, c.loop-line.invariant.0.few)

pub loop-line-smaller : goal.loop-line-smaller
loop-line-smaller c =
    omega (arith, c.loop-line.invariant.0.few)

pub loop-line-preserved : goal.loop-line-preserved
loop-line-preserved c =
    let point = (goal.at.loop-line-preserved c).After-point_at-p in
    let l = c.loop-line in
    let p = c.point_at-p.result in
    let t = c.turn-line in
    let o = c.store.ensures ∙ ap (λ (q : Pt). row_stored 4 l.out l.i (point_row q)) (pt_back p.x p.y p.d (near point)) in (
      loop_turns l.invariant.0 (omega (arith, c.if-line-i-ge-VERTEX_ROWS.false)) c.loop-line-test.true (pt_of p) c.point_at-p.ensures _ _ _ _ _ _ _ t.ensures.turned o
          t.auto.status t.auto.fan t.auto.points c.store.auto.t,
      loop-spins l.invariant.0 (omega (arith, c.if-line-i-ge-VERTEX_ROWS.false)) c.loop-line-test.true (pt_of p) c.point_at-p.ensures l.invariant.1 t.ensures.threads _ o
          t.auto.last t.auto.nodes,
    )

pub shape_of-status : goal.shape_of-status
shape_of-status c = c.loop-line.invariant.0.kept_s

pub shape_of-fan : goal.shape_of-fan
shape_of-fan c = c.loop-line.invariant.0.kept_f

pub shape_of-points : goal.shape_of-points
shape_of-points c = c.loop-line.invariant.0.kept_t

pub shape_of-out : goal.shape_of-out
shape_of-out c = c.loop-line.invariant.0.kept_o

pub shape_of-last : goal.shape_of-last
shape_of-last c = c.loop-line.invariant.1.kept_l

pub shape_of-nodes : goal.shape_of-nodes
shape_of-nodes c = c.loop-line.invariant.1.kept_n

pub returns : goal.returns
returns c = let l = c.loop-line.invariant in record { stops = loop_ends l.0 (search rules); threads = l.1.threads }
