-- `graph_faces::walks::lows` meets its contract. Assumes nothing.
use mathlib.Core.Path.{◌≡◌, refl}
use Prim.Native.Nat.{◌<◌}
use native.Mathlib.Omega.{arith}
use Rattle.seq.specs.Seq.{get_or, length}
use Rattle.seq.specs.Loops.Choosing.{choose_has, choose_starts, choose_turns, choose_ends}
use Rattle.paper.specs.Limits.{absent}
use Rattle.graph_faces.proofs.walks.lows.Goals as goal
use Rattle.graph_faces.proofs.walks.lows.Goals.{In-loop-h, Start}

-- the cell of the number's key is there
fits : (c : In-loop-h) → get_or c.args.lead.now c.loop-h.h 0 < length c.loop-h.out
fits c = omega (arith, c.requires.fact_2.named c.loop-h.h c.loop-h-test.true, c.loop-h.invariant.kept, c.loop-h.invariant.room)

pub loop-h-init : goal.loop-h-init
loop-h-init c =
    choose_starts c.args.out.now c.requires.fact_4 c.fill.ensures

pub earlier-requires : goal.earlier-requires
earlier-requires c =
    let l = c.loop-h in
    let b = c.loop-h-test.true in
    let v = get_or c.args.lead.now l.h 0 in
    let r = get_or l.out v 0 in
    let O = c.requires.fact_5.1 in
    let below : (r ≡ absent → ⊥) → r < c.args.m = λ f. omega (arith, (choose_has l.invariant v (c.requires.fact_2.named l.h b) f).0) in
    record {
      fact_1 = (omega (arith, c.requires.fact_3), c.requires.fact_1 l.h b, λ f. c.requires.fact_1 r (below f));
      fact_2 = c.requires.fact_5.0;
      fact_3 = (O.named l.h b, λ f. O.named r (below f));
    }

pub loop-h-preserved : goal.loop-h-preserved
loop-h-preserved c =
    let l = c.loop-h in
    let b = c.loop-h-test.true in
    choose_turns l.invariant b c.requires.fact_3 refl (c.requires.fact_2.named l.h b) c.earlier.ensures

pub returns : goal.returns
returns c =
    choose_ends c.loop-h.invariant c.args.out.now (omega arith) c.requires.fact_4 c.fill.ensures
