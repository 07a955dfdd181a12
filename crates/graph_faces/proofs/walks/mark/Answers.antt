-- `graph_faces::walks::mark` meets its contract. Assumes nothing.
use Rattle.std.specs.Prelude.{◌≡◌, ◌-◌, ◌+◌}
use mathlib.Core.Path.{sym, subst}
use Prim.Native.Nat.{◌<◌}
use native.Mathlib.Omega.{arith}
use lib.ListN.{length-set, set, get_or}
use Rattle.seq.specs.Seq.{List, ℕ, take}
use Rattle.graph_faces.specs.Lead.{Marking, mark_starts, mark_turns, mark_back, mark_ends, length_front, front_at, front_below, Permutes}
use Rattle.graph_faces.proofs.walks.mark.Goals as goal

-- the half-edge that the loop is at is one of the m
under : (t : List ℕ) (m h x left : ℕ) (d l : List ℕ) → Permutes t m → Marking (take m t) h d l x left → x < m
under t m h x left d l N r = omega (arith, r.below, length_front t m N)

pub loop-step-init : goal.loop-step-init
loop-step-init c =
    let nx = c.args.next.now in
    let m = c.args.m in
    let front = length_front nx m c.requires.fact_1 in
    mark_starts (take m nx) c.args.h _ _ _ (front_at nx m c.requires.fact_1 c.args.h c.requires.fact_3) (omega (arith, front, front_below nx m c.requires.fact_1 c.args.h c.requires.fact_3)) (omega (arith, front))

pub returns-then-x-h : goal.returns-then-x-h
returns-then-x-h c =
    mark_back (take c.args.m c.args.next.now) c.args.h _ c.loop-step.invariant c.if-x-h.true

pub loop-step-preserved : goal.loop-step-preserved
loop-step-preserved c =
    let l = c.loop-step in
    let nx = c.args.next.now in
    let m = c.args.m in
    let u = under c.args.next.now c.args.m c.args.h l.x (c.args.m - l._step) _ _ c.requires.fact_1 l.invariant in
    let q : m - l._step - 1 ≡ m - (l._step + 1) = omega arith in
    subst (λ (k : ℕ). Marking (take m nx) c.args.h (set c.args.lead.now c.args.h c.args.h) (set l.lead l.x c.args.h) (get_or nx l.x 0) k) q
    (mark_turns (take m nx) c.args.h _ l.invariant (omega (arith, c.loop-step-test.true)) c.if-x-h.false _ (front_at nx m c.requires.fact_1 l.x u) (omega (arith, length_front nx m c.requires.fact_1, front_below nx m c.requires.fact_1 l.x u)))

pub returns : goal.returns
returns c =
    mark_ends (take c.args.m c.args.next.now) c.args.h _ c.loop-step.invariant (omega arith)
