-- `ovfile_read::fill::fill_halves` meets its contract. Assumes nothing.
use Rattle.std.specs.Prelude.{◌*◌}
use mathlib.Core.Path.{◌≡◌, refl}
use native.Mathlib.Omega.{arith}
use Rattle.paper.specs.Reader.{counts_in, half_read, tables_in}
use Rattle.ovfile.specs.Values.{layout_from}
use Rattle.ovfile_read.specs.Filled.{followers_in}
use Rattle.seq.specs.Loops.Storing.{laid-wiped}
use Rattle.ovfile_read.proofs.fill.fill_halves.Goals as goal

pub wipe_from-requires : goal.wipe_from-requires
wipe_from-requires c =
    omega (arith, c.args.stored.now.edges_counted, c.requires)

pub returns : goal.returns
unfolding tables_in
returns c =
    let s = c.args.stored.now.file.now in
    let lo = layout_from c.args.stored.now.layout in
    let k : 10 * c.args.stored.now.counts.edges ≡ 5 * (2 * (counts_in s).edges) = omega (arith, c.args.stored.now.edges_counted) in
    laid-wiped 0 5 (half_read lo s (followers_in lo s)) (λ k. refl) (2 * (counts_in s).edges) c.args.halves.now c.requires
    c.lay_halves.ensures c.wipe_from.ensures k
