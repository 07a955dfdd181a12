-- `text::line::words` meets its contract. Assumes nothing.
use Rattle.std.proofs.Common.{refl, ◌∙◌, ap, ◌-◌, ◌+◌, length, arith}
use Rattle.std.proofs.Math.Seq.{length-sets}
use Rattle.seq.proofs.Parts.{part_stored}
use Rattle.text.proofs.line.words.Goals as goal

pub returns : goal.returns
returns c =
    let t = c.args.line.now in
    let text = c.args.text.now in
    let at = c.args.at in
    let k = at + length text - at in
    let is = part_stored t at k text _ c.copy_from_slice.ensures.after (omega arith) (omega arith) in
    record { is = is; end = refl; kept = ap length is ∙ length-sets t at text; within = omega arith }
