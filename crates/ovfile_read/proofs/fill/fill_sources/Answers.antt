-- `ovfile_read::fill::fill_sources` meets its contract. Assumes nothing.
use Rattle.std.specs.Prelude.{◌*◌}
use mathlib.Core.Path.{refl, ap}
use native.Mathlib.Omega.{arith}
use Rattle.seq.specs.Seq.{ℕ, table}
use Rattle.paper.specs.Limits.{maps}
use Rattle.paper.specs.Reader.{counts_in, stored_source, tables_in}
use Rattle.ovfile.specs.Values.{layout_from}
use Rattle.seq.specs.Loops.Storing.{laid-wiped}
use Rattle.ovfile_read.proofs.fill.fill_sources.Goals as goal

pub wipe_from-requires : goal.wipe_from-requires
wipe_from-requires c =
    omega (arith, c.args.stored.now.edges_counted, c.requires)

pub returns : goal.returns
unfolding tables_in
returns c =
    let a = c.args in
    let s = a.stored.now.file.now in
    let lo = layout_from a.stored.now.layout in
    laid-wiped 0 maps (λ k. table (stored_source lo a.stored.now.file.now k) maps) (λ k. refl) (counts_in s).edges a.sources.now (omega (arith, c.requires))
    c.lay_sources.ensures c.wipe_from.ensures (ap (λ (n : ℕ). maps * n) c.args.stored.now.edges_counted)
