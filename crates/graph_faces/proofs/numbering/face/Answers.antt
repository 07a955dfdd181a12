-- `graph_faces::numbering::face` meets its contract. Assumes nothing.
use Rattle.std.specs.Prelude.{◌≡◌, ◌-◌, ◌+◌}
use mathlib.Core.Path.{sym, ap, subst, ◌∙◌}
use Prim.Native.Nat.{◌<◌}
use native.Mathlib.Omega.{arith}
use borrow.Author.Tests.{not-true, not-false}
use Rattle.seq.specs.Seq.{ℕ, get_or}
use Rattle.graph_faces.specs.Kinds.{face_from, faced_kinded, face-outer, face-outside, face_on, face_none}
use Rattle.graph_faces.proofs.numbering.face.Goals as goal
use Rattle.graph_faces.proofs.numbering.face.Goals.{Else-s}

pub loop-step-init : goal.loop-step-init
loop-step-init c =
    let q : c.args.n ≡ c.args.n - 0 = omega arith in
    (c.requires.fact_2, ap (λ (k : ℕ). face_from c.args.lead.now c.args.top.now c.args.known.now k c.args.h) q)

pub returns-then-not-is_hole : goal.returns-then-not-is_hole
returns-then-not-is_hole c =
    face-outer c.args.lead.now c.args.top.now c.args.known.now c.loop-step.x (c.args.n - c.loop-step._step) (omega (arith, c.loop-step-test.true)) (sym c.is_hole.ensures ∙ not-true _ c.if-not-is_hole.true-raw) ∙ sym c.loop-step.invariant.1

pub returns-then-s : goal.returns-then-s
returns-then-s c =
    face-outside c.args.lead.now c.args.top.now c.args.known.now c.loop-step.x (c.args.n - c.loop-step._step) (omega (arith, c.loop-step-test.true)) (sym c.is_hole.ensures ∙ not-false _ c.if-not-is_hole.false-raw) c.if-s.true ∙ sym c.loop-step.invariant.1

-- what is seen is one of m half-edges
seen_under : (c : Else-s) → get_or c.args.known.now (get_or c.args.lead.now c.loop-step.x 0) 0 < c.args.m
seen_under c =
    c.requires.fact_1.seen c.loop-step.x c.loop-step.invariant.0 (sym c.is_hole.ensures ∙ not-false _ c.if-not-is_hole.false-raw) c.if-s.false

pub overflow_cast-x : goal.overflow_cast-x
overflow_cast-x c = omega (arith, seen_under (goal.at.overflow_cast-x c).Else-s)

pub loop-step-preserved : goal.loop-step-preserved
loop-step-preserved c =
    let q : c.args.n - c.loop-step._step - 1 ≡ c.args.n - (c.loop-step._step + 1) = omega arith in
    (seen_under (goal.at.loop-step-preserved c).Else-s, c.loop-step.invariant.1 ∙ subst (λ (k : ℕ). face_from c.args.lead.now c.args.top.now c.args.known.now (c.args.n - c.loop-step._step) c.loop-step.x ≡ face_from c.args.lead.now c.args.top.now c.args.known.now k (get_or c.args.known.now (get_or c.args.lead.now c.loop-step.x 0) 0)) q (face_on c.args.lead.now c.args.top.now c.args.known.now c.loop-step.x (c.args.n - c.loop-step._step) (omega (arith, c.loop-step-test.true)) (sym c.is_hole.ensures ∙ not-false _ c.if-not-is_hole.false-raw) c.if-s.false))

pub returns : goal.returns
returns c =
    face_none c.args.lead.now c.args.top.now c.args.known.now c.loop-step.x (c.args.n - c.loop-step._step) (omega arith) ∙ sym c.loop-step.invariant.1
