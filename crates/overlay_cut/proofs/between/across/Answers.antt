-- `overlay_cut::between::across` meets its contract. Assumes nothing.
use mathlib.Core.Path.{◌∙◌}
use Rattle.exact.specs.Lowest.{pt}
use Rattle.exact.specs.Mach.{tr, trbits, fits, test}
use Rattle.plane.specs.Values.{seg}
use Rattle.overlay_cut.specs.Between.{line_test}
use Rattle.overlay_cut.proofs.between.across.Goals as goal

pub returns : goal.returns
returns c =
    let a = c.args in
    test (search trbits depth 20) tt ∙ line_test (seg a.x a.y a.u a.v) (pt a.px a.py a.d)

pub overflow_sub-result : goal.overflow_sub-result
overflow_sub-result c = fits (search tr depth 20) tt

pub overflow_sub-result-2 : goal.overflow_sub-result-2
overflow_sub-result-2 c = fits (search tr depth 20) tt

pub overflow_mul-result-5 : goal.overflow_mul-result-5
overflow_mul-result-5 c = fits (search tr depth 20) tt
