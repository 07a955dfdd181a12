-- `ovfile_read::fill::fill_vertices` meets its contract. Assumes nothing.
use Rattle.std.specs.Prelude.{◌*◌}
use mathlib.Core.Path.{refl, ap, ◌∙◌}
use native.Mathlib.Omega.{arith}
use Rattle.seq.specs.Seq.{ℕ, pos, sets}
use Rattle.paper.specs.Reader.{counts_in, vertex_read, tables_in}
use Rattle.ovfile.specs.Values.{layout_from}
use Rattle.ovfile_read.specs.Filled.{starts_in}
use Rattle.seq.specs.Loops.Storing.{laid-wiped}
use Rattle.ovfile_read.proofs.FillLaws.{vertices-are}
use Rattle.ovfile_read.proofs.fill.fill_vertices.Goals as goal

pub wipe_from-requires : goal.wipe_from-requires
wipe_from-requires c =
    omega (arith, c.args.stored.now.vertices_counted, c.requires)

pub returns : goal.returns
unfolding tables_in
returns c =
    let s = c.args.stored.now.file.now in
    let lo = layout_from c.args.stored.now.layout in
    laid-wiped (pos 0) 4 (vertex_read lo s (starts_in lo s)) (λ k. refl) (counts_in s).vertices c.args.vertices.now c.requires
    (c.lay_vertices.ensures ∙ ap (sets c.args.vertices.now 0) (vertices-are lo s c.least_starts-least.ensures))
    c.wipe_from.ensures (ap (λ (n : ℕ). 4 * n) c.args.stored.now.vertices_counted)
