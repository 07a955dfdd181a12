-- `mend::outcome::refuse` meets its contract. Assumes nothing.
use mathlib.Core.Path.{sym, ◌∙◌}
use Rattle.seq.specs.Seq.{length}
use Rattle.seq.specs.Wiped.{padded_none}
use Rattle.paper.specs.Refusal.{refused}
use Rattle.map_file.specs.Verdict.{refusal_of}
use Rattle.mend.proofs.outcome.refuse.Goals as goal

pub returns : goal.returns
returns c =
    let n = length c.args.out.now in
    let l = length c.args.list.now in
    λ i. record { answer = refused (refusal_of c.args.r); file = (c.fill.ensures.after (λ y e. e) ∙ sym (padded_none 0 n)) i; list = (c.fill-2.ensures.after (λ y e. e) ∙ sym (padded_none 0 l)) i }
