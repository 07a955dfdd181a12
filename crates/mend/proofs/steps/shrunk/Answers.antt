-- `mend::steps::shrunk` meets its contract. Assumes nothing.
use Rattle.seq.specs.Seq.{eqb}
use Rattle.mend.proofs.steps.shrunk.Goals as goal

pub returns : goal.returns
returns c = λ i. eqb (c.from_now.ensures i) (c.to_now.ensures i)
