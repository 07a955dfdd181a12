-- `map_check::labels::first_disagreeing` meets its contract. Assumes nothing.
use Rattle.std.specs.Prelude.{refl}
use Rattle.std.proofs.Common.{◌∙◌, arith, rules}
use Rattle.std.proofs.lemmas.Iterator.{YieldsList-from_range}
use Rattle.std.proofs.lemmas.Iterator.Search.{position_from_yields_List}
use borrow.Author.Tests.{tests}
use Rattle.seq.proofs.Ranges.{position-least}
use Rattle.std.specs.Prelude.{◌*◌}
use Rattle.map_check.specs.Labels.{disagrees_at}
use Rattle.map_check.proofs.labels.first_disagreeing.Goals as goal

pub returns : goal.returns
returns c =
    let n = 2 * c.args.g.edges in
    let p = disagrees_at c.args.g.points.now c.args.g.origins.now c.args.g.carriers.now c.args.labels.now c.args.heads.now c.args.next.now c.args.g.vertices c.args.g.edges in
    c.unwrap_or.ensures
    ∙ position-least p n c.position.result (position_from_yields_List p _ _ _ c.position.ensures.ran (YieldsList-from_range 0 n n refl (omega arith)) (λ x b q k. search (rules, tests)))
