-- `ovfile::Layout::faces_at` meets its contract. Assumes nothing.
use Rattle.std.specs.Prelude.{◌+◌, ◌*◌}
use mathlib.Core.Path.{◌∙◌}
use native.Mathlib.Omega.{arith}
use Rattle.tables.specs.Values.{counts_of}
use Rattle.ovfile.specs.Values.{layout_from}
use Rattle.ovfile.specs.Values.{known_of}
use Rattle.ovfile.specs.Known.{edges-near}
use Rattle.ovfile.proofs.layout.Layout.faces_at.Goals as goal
use Rattle.ovfile.proofs.layout.Layout.faces_at.Goals.{After-edge_size, After-edges_at, Start}

pub row_at-requires : goal.row_at-requires
row_at-requires c =
    let a = c.args in
    (omega (arith, c.edges_at.ensures, edges-near (layout_from a.self) (known_of a.self) (counts_of a.c) (omega arith)), omega (arith, c.edge_size.ensures, a.self.few_maps), omega arith)

pub returns : goal.returns
returns c =
    c.row_at.ensures ∙ (λ i. c.edges_at.ensures i + c.edge_size.ensures i * c.args.c.edges)
