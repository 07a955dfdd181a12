-- `ovfile::Layout::file_length` meets its contract. Assumes nothing.
use Rattle.std.specs.Prelude.{◌+◌, ◌*◌}
use mathlib.Core.Path.{◌∙◌}
use native.Mathlib.Omega.{arith}
use Rattle.tables.specs.Values.{counts_of}
use Rattle.ovfile.specs.Values.{layout_from}
use Rattle.ovfile.specs.Values.{known_of}
use Rattle.ovfile.specs.Known.{faces-near}
use Rattle.ovfile.proofs.layout.Layout.file_length.Goals as goal
use Rattle.ovfile.proofs.layout.Layout.file_length.Goals.{After-face_size, After-faces_at, Start}

pub row_at-requires : goal.row_at-requires
row_at-requires c =
    let a = c.args in
    (omega (arith, c.faces_at.ensures, faces-near (layout_from a.self) (known_of a.self) (counts_of a.c) (omega arith) (omega arith)), omega (arith, c.face_size.ensures, a.self.few_maps), omega arith)

pub returns : goal.returns
returns c =
    c.row_at.ensures ∙ (λ i. c.faces_at.ensures i + c.face_size.ensures i * c.args.c.faces)
