-- `map_check::labels::is_smallest` meets its contract: what is left of the walk has none exactly if the walk has none. Assumes nothing.
use Rattle.std.specs.Prelude.{◌≡◌, ◌-◌, ◌+◌}
use mathlib.Core.Path.{sym, subst, ◌∙◌}
use native.Mathlib.Omega.{arith}
use Rattle.seq.specs.Seq.{ℕ, get_or}
use Rattle.map_check.specs.Labels.{earlier_at}
use Rattle.map_check.specs.Laws.Walking.{Walking, walk_starts, walk_turns, walk-finds, walk_back, walk_ends}
use Rattle.map_check.proofs.labels.is_smallest.Goals as goal

pub returns-then-earlier : goal.returns-then-earlier
returns-then-earlier c =
    walk-finds c.loop-step.invariant
    (omega (arith, c.loop-step-test.true)) c.if-x-h.false (sym c.earlier.ensures ∙ c.if-earlier.true)

pub loop-step-preserved : goal.loop-step-preserved
loop-step-preserved c =
    let l = c.loop-step in
    let q : c.args.m - l._step - 1 ≡ c.args.m - (l._step + 1) = omega arith in
    subst (λ (k : ℕ). Walking (earlier_at c.args.points.now c.args.origins.now c.args.h) c.args.next.now c.args.h c.args.m (get_or c.args.next.now l.x 0) k) q
    (walk_turns l.invariant
    (omega (arith, c.loop-step-test.true)) c.if-x-h.false (sym c.earlier.ensures ∙ c.if-earlier.false) (c.requires.0.next.named l.x l.invariant.below))

pub returns-then-x-h : goal.returns-then-x-h
returns-then-x-h c = walk_back c.loop-step.invariant c.if-x-h.true
