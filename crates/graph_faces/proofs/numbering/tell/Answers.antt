-- `graph_faces::numbering::tell` meets its contract. Assumes nothing.
use Rattle.std.specs.Prelude.{◌*◌}
use mathlib.Core.Path.{◌∙◌, ap}
use Prim.Native.Nat.{◌<◌}
use native.Mathlib.Numerals.{add-one}
use native.Mathlib.Omega.{arith}
use borrow.Author.Rules.{rules}
use Rattle.seq.specs.Seq.{ℕ, suc}
use Rattle.seq.specs.Loops.Selecting.{count_most, count_ends, select_starts, select_ends}
use Rattle.graph_faces.specs.Kinds.{Kinded, known_with}
use Rattle.graph_faces.specs.Laws.Telling.{tell_starts, tell-takes, tell-skips, tell_ends, outer_turns, outer-skips}
use Rattle.graph_faces.proofs.numbering.tell.Goals as goal
use Rattle.graph_faces.proofs.numbering.tell.Goals.{Start, else-lead-h, then-lead-h}

pub loop-h-init : goal.loop-h-init
loop-h-init c =
    (tell_starts c.requires.fact_3.0, select_starts c.requires.fact_3.1)

-- what is read of one of the half-edges is there
kinded : (s : Start) (h : ℕ) → h < 2 * s.args.g.edges → Kinded s.args.lead.now s.args.top.now h
kinded s h b =
    let t = s.requires.fact_2.1 in
    let r = s.requires.fact_2.0 in
    record { lead-row = omega (arith, r.long); top-row = omega (arith, t.long); top-lead = omega (arith, t.named h b, r.long) }

pub tell_walk-c-requires : goal.tell_walk-c-requires
tell_walk-c-requires c =
    let b = c.loop-h-test.true in
    let t = c.loop-h.invariant.0 in
    let r = c.loop-h.invariant.1 in
    let most = count_most r.counted in
    record {
      fact_1 = c.requires.fact_1;
      fact_2 = (kinded (goal.at.tell_walk-c-requires c).Start c.loop-h.h b, c.requires.fact_2.1.named c.loop-h.h b, b, most);
      fact_3 = (omega (arith, t.room, t.kept), omega (arith, r.room, r.kept, most));
    }

pub loop-h-preserved : goal.loop-h-preserved
loop-h-preserved c =
    let a = c.args in
    let b = c.loop-h-test.true in
    let t = c.loop-h.invariant.0 in
    let r = c.loop-h.invariant.1 in
    elim c.if-lead-h.branch [
      | then-lead-h w ↦ (
        rw (w.known-is ∙ w.tell_walk-c.ensures.known) (tell-takes t b (ap (λ (k : ℕ). known_with a.g.points.now a.g.origins.now a.g.carriers.now a.g.vertices a.g.edges a.lead.now a.top.now c.loop-h.h k) (add-one c.loop-h.c ∙ ap suc r.counted.is))),
        outer_turns a.lead.now a.top.now r b w.if-lead-h.true (w.leaders-is ∙ w.tell_walk-c.ensures.leaders) (w.c-is ∙ w.tell_walk-c.ensures.counted),
      )
      | else-lead-h w ↦ (rw w.known-is (tell-skips t b w.if-lead-h.false), rw (w.leaders-is, w.c-is) (outer-skips a.lead.now a.top.now r b w.if-lead-h.false))
    ]
