-- `overlay_cut::between::before_corner` meets its contract. Assumes nothing.
use mathlib.Core.Path.{◌≡◌, ◌∙◌}
use lib.IntN.{◌*ℤ◌}
use mir.Syntax.{w64}
use Rattle.exact.specs.Mach.{tr, trb, trbits, fits, test, eq_yes, eq_no}
use Rattle.plane.specs.Values.{pt_of, vec_of}
use Rattle.overlay_cut.specs.Between.{corner-level, corner-apart}
use Rattle.overlay_cut.proofs.between.before_corner.Goals as goal
use Rattle.overlay_cut.proofs.between.before_corner.Goals.{Else-p-level, Start, Then-p-level}

pub returns-then-p-level : goal.returns-then-p-level
returns-then-p-level c =
    let p = c.args.p in
    let a = c.args.a in
    let level : p.y ≡ a.y *ℤ p.d = eq_yes w64 c.if-p-level.true (search trbits depth 20) (search trbits depth 20) tt in
    test (search trb depth 20) tt ∙ corner-level (pt_of p) (vec_of a) level

pub returns-else-p-level : goal.returns-else-p-level
returns-else-p-level c =
    let p = c.args.p in
    let a = c.args.a in
    let apart : p.y ≡ a.y *ℤ p.d → ⊥ = eq_no w64 c.if-p-level.false (search trbits depth 20) (search trbits depth 20) tt in
    test (search trb depth 20) tt ∙ corner-apart (pt_of p) (vec_of a) apart

pub overflow_mul-level : goal.overflow_mul-level
overflow_mul-level c = fits (search tr depth 20) tt

pub overflow_mul-result : goal.overflow_mul-result
overflow_mul-result c = fits (search tr depth 20) tt
