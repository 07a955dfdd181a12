-- `mend::steps::edge_steps_in` meets its contract: an earlier edge with the same key joins the same two. Assumes nothing.
use Rattle.mend.proofs.KeyLaws.{stepped_by_keys}
use Rattle.mend.proofs.steps.edge_steps_in.Goals as goal

pub returns : goal.returns
returns c =
    stepped_by_keys c.args.ends.now c.args.e _ _ _ _ c.edge_keys.ensures c.edge_steps_by.ensures
