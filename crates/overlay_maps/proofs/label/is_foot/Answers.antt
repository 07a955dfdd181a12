-- `overlay_maps::label::is_foot` meets its contract. Assumes nothing.
use mathlib.Core.Path.{◌≡◌, sym, ◌∙◌}
use mathlib.Core.Bool.{false, cond}
use mir.Syntax.{w64}
use mir.Val.{of_z}
use Rattle.exact.specs.Mach.{trbits, eq_yes, eq_no, eqb_is, eq_z}
use Rattle.exact.specs.Tests.{t_eq, eq_t, not-true}
use Rattle.overlay_maps.proofs.label.is_foot.Goals as goal

pub returns-then-p-s : goal.returns-then-p-s
returns-then-p-s c =
    let s = c.args.s in
    let p = c.args.p in
    let e : p.x ≡ s.x = eq_yes w64 c.if-p-s.true (search trbits depth 20) (search trbits depth 20) tt in
    eqb_is w64 {n = of_z w64 p.y} {m = of_z w64 s.y} (search trbits depth 20) (search trbits depth 20) tt ∙ (λ i. cond (sym (t_eq e) i) (eq_z p.y s.y) false)

pub returns-else-p-s : goal.returns-else-p-s
returns-else-p-s c =
    let s = c.args.s in
    let p = c.args.p in
    let e : eq_z p.x s.x ≡ false = not-true (eq_z p.x s.x) (λ q. eq_no w64 c.if-p-s.false (search trbits depth 20) (search trbits depth 20) tt (eq_t p.x s.x q)) in
    eqb_is w64 {n = of_z w64 p.x} {m = of_z w64 s.x} (search trbits depth 20) (search trbits depth 20) tt ∙ e ∙ (λ i. cond (sym e i) (eq_z p.y s.y) false)
