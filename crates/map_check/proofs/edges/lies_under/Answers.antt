-- `map_check::edges::lies_under` meets its contract. Assumes nothing.
use Rattle.exact.specs.Mach.{tr, trb, fits, test}
use Rattle.map_check.proofs.edges.lies_under.Goals as goal

pub returns : goal.returns
returns c = test (search trb depth 20) tt

pub overflow_add-result : goal.overflow_add-result
overflow_add-result c = fits (search tr depth 20) tt
