-- `overlay_sweep::earlier::earlier` meets its contract. Assumes nothing.
use mathlib.Core.Path.{◌≡◌, sym, ◌∙◌}
use mathlib.Core.Bool.{true}
use Rattle.plane.specs.Bounds.{middling}
use Rattle.plane.specs.Values.{pt_of}
use Rattle.plane.proofs.Fractions.{same_middling}
use Rattle.overlay_sweep.specs.Heights.{height, first_product, second-product, lower_first_lem, higher-later}
use Rattle.overlay_sweep.proofs.earlier.earlier.Goals as goal
use Rattle.overlay_sweep.proofs.earlier.earlier.Goals.{After-middling, After-middling-then-middling, Start, Then-middling, Then-middling-2}

-- where both heights are middling
module _ (c : Then-middling-2) where
  first : middling (pt_of c.args.q).Y (pt_of c.args.q).D ≡ true
  first =
      let q = pt_of c.args.q in
      sym (same_middling q.Y q.D (height q c.requires.0)) ∙ sym c.middling.ensures ∙ c.if-middling.true

  second : middling (pt_of c.args.p).Y (pt_of c.args.p).D ≡ true
  second =
      let p = pt_of c.args.p in
      sym (same_middling p.Y p.D (height p c.requires.1)) ∙ sym c.middling-then-middling.ensures ∙ c.if-middling-2.true

pub overflow_mul-a : goal.overflow_mul-a
overflow_mul-a c =
    first_product (pt_of c.args.q) (pt_of c.args.p) c.requires.0 c.requires.1 (first (goal.at.overflow_mul-a c).Then-middling-2) (second (goal.at.overflow_mul-a c).Then-middling-2)

pub overflow_mul-b : goal.overflow_mul-b
overflow_mul-b c =
    second-product (pt_of c.args.q) (pt_of c.args.p) c.requires.0 c.requires.1 (first (goal.at.overflow_mul-b c).Then-middling-2) (second (goal.at.overflow_mul-b c).Then-middling-2)

pub returns-then-a-b : goal.returns-then-a-b
returns-then-a-b c =
    lower_first_lem (pt_of c.args.q) (pt_of c.args.p) c.requires.0 c.requires.1 (first (goal.at.returns-then-a-b c).Then-middling-2) (second (goal.at.returns-then-a-b c).Then-middling-2) c.if-a-b.true

pub returns-then-b-a : goal.returns-then-b-a
returns-then-b-a c =
    higher-later (pt_of c.args.q) (pt_of c.args.p) c.requires.0 c.requires.1 (first (goal.at.returns-then-b-a c).Then-middling-2) (second (goal.at.returns-then-b-a c).Then-middling-2) c.if-b-a.true
