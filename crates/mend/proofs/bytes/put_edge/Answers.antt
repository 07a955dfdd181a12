-- `mend::bytes::put_edge` meets its contract. Assumes nothing.
use Rattle.std.specs.Prelude.{◌∷◌}
use mathlib.Core.Path.{ap, ◌∙◌}
use Rattle.seq.specs.Seq.{[], ℕ, get_or, gather, sets}
use Rattle.paper.specs.Bytes.{le}
use Rattle.mend.proofs.bytes.put_edge.Goals as goal

pub returns : goal.returns
returns c =
    let ns = c.args.t.numbers.now in
    let a = c.at_or-from.ensures ∙ ap (λ (j : ℕ). get_or ns j 0) c.from_now-a.ensures in
    let b = c.at_or-to.ensures ∙ ap (λ (j : ℕ). get_or ns j 0) c.to_now-b.ensures in
    c.put_fields.ensures
    ∙ (λ i. sets c.args.out.now c.args.at (gather (le 2) (a i ∷ b i ∷ c.at_or-left.ensures i ∷ c.at_or-right.ensures i ∷ [])))
