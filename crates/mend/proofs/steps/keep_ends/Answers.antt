-- `mend::steps::keep_ends` meets its contract. Assumes nothing.
use mathlib.Core.Path.{◌∙◌}
use lib.ListN.{set}
use Rattle.mend.proofs.steps.keep_ends.Goals as goal

pub returns : goal.returns
returns c =
    c.store-2.ensures ∙ (λ i. set ((c.store.ensures ∙ (λ j. set c.args.steps.now (c.from_now.ensures j) 0)) i) (c.to_now.ensures i) 0)
