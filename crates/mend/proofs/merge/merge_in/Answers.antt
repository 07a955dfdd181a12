-- `mend::merge::merge_in` meets its contract: two corners have one key exactly if they are the same. Assumes nothing.
use Rattle.mend.proofs.KeyLaws.{merged_by_keys}
use Rattle.mend.proofs.merge.merge_in.Goals as goal

pub returns : goal.returns
returns c =
    merged_by_keys c.args.points.now c.args.n _ _ _ _ c.requires.0 c.corner_keys.ensures c.merge_by.ensures
