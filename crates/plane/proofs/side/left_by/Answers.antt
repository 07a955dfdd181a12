-- `plane::side::left_by` meets its contract. Assumes nothing.
use Rattle.exact.specs.Mach.{tr, tru, fits, plain, atmost}
use Rattle.plane.proofs.side.left_by.Goals as goal

pub returns : goal.returns
returns c = record { is = plain (search tr depth 20) tt; bound = atmost (search tru depth 20) tt }

pub overflow_sub-result : goal.overflow_sub-result
overflow_sub-result c = fits (search tr depth 20) tt

pub overflow_mul-result-2 : goal.overflow_mul-result-2
overflow_mul-result-2 c = fits (search tr depth 20) tt

pub overflow_mul-result-3 : goal.overflow_mul-result-3
overflow_mul-result-3 c = fits (search tr depth 20) tt

pub overflow_sub-result-2 : goal.overflow_sub-result-2
overflow_sub-result-2 c = fits (search tr depth 20) tt

pub overflow_mul-result-4 : goal.overflow_mul-result-4
overflow_mul-result-4 c = fits (search tr depth 20) tt

pub overflow_sub-result-3 : goal.overflow_sub-result-3
overflow_sub-result-3 c = fits (search tr depth 20) tt
