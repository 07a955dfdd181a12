-- `overlay_fill::laying::refuse` meets its contract. Assumes nothing.
use Rattle.paper.specs.Refusal.{refused}
use Rattle.map_file.specs.Verdict.{refusal_of}
use Rattle.overlay_fill.proofs.laying.refuse.Goals as goal

pub returns : goal.returns
returns c = λ i. record {
  answer = refused (refusal_of c.args.r);
  tables =
      c.wipe_all.ensures i;
}
