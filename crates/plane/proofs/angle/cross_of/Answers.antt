-- `plane::angle::cross_of` meets its contract. Assumes nothing.
use Rattle.exact.specs.Mach.{tr, tru, fits, plain, atmost}
use Rattle.plane.proofs.angle.cross_of.Goals as goal

pub returns : goal.returns
returns c = record { is = plain (search tr depth 20) tt; bound = atmost (search tru depth 20) tt }

pub overflow_sub-result : goal.overflow_sub-result
overflow_sub-result c = fits (search tr depth 20) tt
