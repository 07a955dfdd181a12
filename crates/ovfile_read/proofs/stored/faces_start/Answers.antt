-- `ovfile_read::stored::faces_start` meets its contract. Assumes nothing.
use mathlib.Core.Path.{ap, ◌∙◌}
use native.Mathlib.Omega.{arith}
use Rattle.paper.specs.Tables.{Counts}
use Rattle.paper.specs.Ovfile.{faces_at}
use Rattle.tables.specs.Values.{counts_of}
use Rattle.ovfile.specs.Values.{layout_from}
use Rattle.ovfile.specs.Known.{faces-near}
use Rattle.ovfile_read.proofs.stored.faces_start.Goals as goal

pub returns : goal.returns
returns c =
    let l = layout_from c.args.layout in
    record {
      known = c.requires;
      at = c.faces_at.ensures ∙ ap (λ (n : Counts). faces_at l n) c.counts.ensures;
      near = omega (arith, c.faces_at.ensures, faces-near l c.requires (counts_of c.counts.result) (omega arith) (omega arith));
    }
