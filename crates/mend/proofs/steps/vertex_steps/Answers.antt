-- `mend::steps::vertex_steps` meets its contract. Assumes nothing.
use Rattle.mend.proofs.StepLaws.{vertex-stepped}
use Rattle.mend.proofs.steps.vertex_steps.Goals as goal

pub returns : goal.returns
returns c =
    let a = c.args in
    vertex-stepped a.into.now a.ends.now a.dropped.now a.n a.e a.steps.now _ _ c.requires.1 c.without_edges.ensures c.keep_all_ends.ensures
