-- `ovfile_read::fill::least_starts` meets its contract. Assumes nothing.
use Rattle.std.specs.Prelude.{◌*◌}
use mathlib.Core.Path.{ap}
use native.Mathlib.Omega.{arith}
use lib.ListN.{get_or-replicate}
use Rattle.seq.specs.Seq.{ℕ}
use Rattle.paper.specs.Limits.{absent}
use Rattle.ovfile.specs.Values.{layout_from}
use Rattle.ovfile_read.proofs.FillLaws.{starts_by}
use Rattle.ovfile_read.proofs.fill.least_starts.Goals as goal

pub returns : goal.returns
returns c =
    let e = ap (λ (k : ℕ). 2 * k) c.args.stored.now.edges_counted in
    starts_by (layout_from c.args.stored.now.layout) c.args.stored.now.file.now c.first_stored.ensures e (omega (arith, c.args.stored.now.few_vertices, c.args.stored.now.vertices_counted))
    (λ v l. get_or-replicate 1000 v absent 0 (omega (arith, c.args.stored.now.few_vertices, c.args.stored.now.vertices_counted)))
