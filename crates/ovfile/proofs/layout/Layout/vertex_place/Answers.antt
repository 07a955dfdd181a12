-- `ovfile::Layout::vertex_place` meets its contract. Assumes nothing.
use Rattle.std.specs.Prelude.{◌+◌, ◌*◌}
use mathlib.Core.Path.{ap, ◌∙◌}
use native.Mathlib.Omega.{arith}
use Rattle.seq.specs.Seq.{ℕ}
use Rattle.paper.specs.Limits.{overlay_head}
use Rattle.ovfile.proofs.layout.Layout.vertex_place.Goals as goal
use Rattle.ovfile.proofs.layout.Layout.vertex_place.Goals.{Start}

pub row_at-requires : goal.row_at-requires
row_at-requires c =
    (omega arith, omega (arith, c.vertex_size.ensures, c.args.self.few_bytes), omega arith)

pub returns : goal.returns
returns c =
    c.row_at.ensures ∙ ap (λ (n : ℕ). overlay_head + n * c.args.v) c.vertex_size.ensures
