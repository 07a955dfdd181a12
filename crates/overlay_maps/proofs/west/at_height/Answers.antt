-- `overlay_maps::west::at_height` meets its contract. Assumes nothing.
use mathlib.Core.Path.{◌≡◌, sym, ◌∙◌}
use mathlib.Core.Bool.{true, false, cond}
use lib.IntN.{◌+ℤ◌, ◌*ℤ◌}
use lib.Signed.{lt_z}
use Rattle.exact.specs.Mach.{tr, trb, fits, test}
use Rattle.overlay_maps.proofs.west.at_height.Goals as goal

pub returns-then-p-s : goal.returns-then-p-s
returns-then-p-s c =
    let s = c.args.s in
    let p = c.args.p in
    let e : lt_z p.y (s.y *ℤ p.d) ≡ true = sym (test (search trb depth 20) tt) ∙ c.if-p-s.true in
    λ i. cond (sym e i) false (lt_z p.y ((s.y +ℤ s.v) *ℤ p.d))

pub returns-else-p-s : goal.returns-else-p-s
returns-else-p-s c =
    let s = c.args.s in
    let p = c.args.p in
    let e : lt_z p.y (s.y *ℤ p.d) ≡ false = sym (test (search trb depth 20) tt) ∙ c.if-p-s.false in
    test (search trb depth 20) tt ∙ (λ i. cond (sym e i) false (lt_z p.y ((s.y +ℤ s.v) *ℤ p.d)))

pub overflow_mul-s : goal.overflow_mul-s
overflow_mul-s c = fits (search tr depth 20) tt

pub overflow_add-result : goal.overflow_add-result
overflow_add-result c = fits (search tr depth 20) tt

pub overflow_mul-result : goal.overflow_mul-result
overflow_mul-result c = fits (search tr depth 20) tt
