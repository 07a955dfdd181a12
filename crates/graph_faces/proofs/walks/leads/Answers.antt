-- `graph_faces::walks::leads` meets its contract. Assumes nothing.
use Rattle.std.specs.Prelude.{◌+◌}
use mathlib.Core.Path.{◌≡◌, sym, ◌∙◌, ap}
use Prim.Native.Nat.{◌≤◌, ◌<◌}
use native.Mathlib.Omega.{arith}
use Rattle.seq.specs.Seq.{get_or, walk, leader, List, ℕ, length, take, filled}
use Rattle.paper.specs.Limits.{absent}
use Rattle.graph_faces.specs.Lead.{marks, Leading, Permutes, length_front, lead_starts, lead-skips, lead-marks, lead_ends}
use Rattle.graph_faces.proofs.walks.leads.Goals as goal
use Rattle.graph_faces.proofs.walks.leads.Goals.{else-lead-h, then-lead-h}

-- the loop over the first m cells of t, from the table o with d made of it
module _ (t : List ℕ) (m : ℕ) (P : Permutes t m) (small : m ≤ absent) (o d : List ℕ) (room : m ≤ length o) (is : d ≡ filled m (λ x. absent) o) where
  abbrev nx : List ℕ
  nx = take m t

  front : length nx ≡ m
  front = length_front t m P

  clean : d ≡ filled (length nx) (λ x. absent) o
  clean = is ∙ ap (λ (k : ℕ). filled k (λ x. absent) o) (sym front)

  starts : Leading nx d d 0
  starts = lead_starts nx P.once (omega (arith, front)) d o (omega (arith, front)) clean

  skips : (l : List ℕ) (h : ℕ) → Leading nx d l h → h < m → (get_or l h 0 ≡ absent → ⊥) → Leading nx d l (h + 1)
  skips l h r b = lead-skips nx P.once (omega (arith, front)) d l h r (omega (arith, front))

  finds : (l : List ℕ) (h : ℕ) → Leading nx d l h → h < m → get_or l h 0 ≡ absent → Leading nx d (marks (walk nx h) h l) (h + 1)
  finds l h r b = lead-marks nx P.once (omega (arith, front)) d l h r (omega (arith, front))

  ends : (l : List ℕ) (h : ℕ) → Leading nx d l h → m ≤ h → l ≡ filled m (leader nx) o
  ends l h r b = lead_ends nx P.once (omega (arith, front)) d r (omega (arith, front)) o (omega (arith, front)) clean ∙ ap (λ (k : ℕ). filled k (leader nx) o) front

pub loop-h-init : goal.loop-h-init
loop-h-init c =
    let d = c.fill in
    starts c.args.next.now c.args.m c.requires.fact_1 c.requires.fact_2 c.args.lead.now d.new.out c.requires.fact_3 d.ensures

pub loop-h-preserved : goal.loop-h-preserved
loop-h-preserved c =
    let d = c.fill in
    let l = c.loop-h in
    let b = c.loop-h-test.true in
    elim c.if-lead-h.branch [ then-lead-h w ↦ rw (w.lead-is ∙ w.mark.ensures) (finds c.args.next.now c.args.m c.requires.fact_1 c.requires.fact_2 c.args.lead.now d.new.out c.requires.fact_3 d.ensures l.lead l.h l.invariant b w.if-lead-h.true) | else-lead-h w ↦ rw w.lead-is (skips c.args.next.now c.args.m c.requires.fact_1 c.requires.fact_2 c.args.lead.now d.new.out c.requires.fact_3 d.ensures l.lead l.h l.invariant b w.if-lead-h.false) ]

pub returns : goal.returns
returns c =
    let d = c.fill in
    ends c.args.next.now c.args.m c.requires.fact_1 c.requires.fact_2 c.args.lead.now d.new.out c.requires.fact_3 d.ensures c.loop-h.lead c.loop-h.h c.loop-h.invariant (omega arith)
