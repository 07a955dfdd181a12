-- `graph_faces::numbering::settle` meets its contract. Assumes nothing.
use mathlib.Core.Path.{sym, ◌∙◌, subst}
use Prim.Native.Nat.{◌<◌}
use native.Mathlib.Omega.{arith}
use borrow.Author.Rules.{rules}
use Rattle.seq.specs.Seq.{ℕ}
use Rattle.seq.specs.Loops.Filling.{fill_starts, fill_turns, fill_ends}
use Rattle.seq.specs.Loops.Tallying.{tally_starts, tally-most, tally-takes, tally-skips, tally_ends}
use Rattle.graph_faces.specs.Kinds.{faced_kinded}
use Rattle.graph_faces.proofs.numbering.settle.Goals as goal
use Rattle.graph_faces.proofs.numbering.settle.Goals.{After-face-v, Start, else-leads_hole, then-leads_hole}

pub loop-h-init : goal.loop-h-init
loop-h-init c =
    (fill_starts c.requires.fact_4.0, tally_starts c.args.inside.now c.requires.fact_4.1 c.fill.ensures)

-- the face that is found has a cell
cell : (c : After-face-v) → c.face-v.result < c.args.f
cell c =
    subst (λ (x : ℕ). x < c.args.f) (sym c.face-v.ensures) (c.requires.fact_3 c.loop-h.h c.loop-h-test.true)

pub overflow_add-inside : goal.overflow_add-inside
overflow_add-inside c =
    omega (arith, c.requires.fact_2, c.loop-h-test.true, tally-most c.loop-h.invariant.1 c.face-v.result (cell (goal.at.overflow_add-inside c).After-face-v))

pub loop-h-preserved : goal.loop-h-preserved
loop-h-preserved c =
    let b = c.loop-h-test.true in
    let q = sym c.leads_hole.ensures in (
      fill_turns c.loop-h.invariant.0 b c.face-v.ensures,
      elim c.if-leads_hole.branch [ then-leads_hole w ↦ rw w.inside-is (tally-takes c.loop-h.invariant.1 b (q ∙ w.if-leads_hole.true) c.face-v.ensures (cell (goal.at.loop-h-preserved c).After-face-v)) | else-leads_hole w ↦ rw w.inside-is (tally-skips c.loop-h.invariant.1 b (q ∙ w.if-leads_hole.false)) ],
    )

pub returns : goal.returns
returns c =
    let r = c.loop-h.invariant in
    record { faces = fill_ends r.0 (search rules); inside = tally_ends r.1 c.args.inside.now (omega arith) c.requires.fact_4.1 c.fill.ensures }
