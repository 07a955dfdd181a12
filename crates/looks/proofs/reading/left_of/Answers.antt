-- `looks::reading::left_of` meets its contract. Assumes nothing.
use mathlib.Core.Path.{◌∙◌}
use Rattle.exact.specs.Mach.{tr, tru, fits, plain, atmost}
use Rattle.looks.proofs.WholeLaws.{left_whole}
use Rattle.looks.proofs.reading.left_of.Goals as goal

pub returns : goal.returns
returns c =
    let a = c.args in
    record { is = plain (search tr depth 20) tt ∙ left_whole a.x a.y a.u a.v a.a a.b; bound = atmost (search tru depth 20) tt }

pub overflow_mul-result : goal.overflow_mul-result
overflow_mul-result c = fits (search tr depth 20) tt

pub overflow_mul-result-2 : goal.overflow_mul-result-2
overflow_mul-result-2 c = fits (search tr depth 20) tt

pub overflow_sub-result-3 : goal.overflow_sub-result-3
overflow_sub-result-3 c = fits (search tr depth 20) tt
