-- `ovfile_read::fill::predecessors` meets its contract. Assumes nothing.
use Rattle.std.specs.Prelude.{◌*◌}
use mathlib.Core.Path.{ap}
use native.Mathlib.Omega.{arith}
use lib.ListN.{get_or-replicate}
use Rattle.seq.specs.Seq.{ℕ}
use Rattle.ovfile.specs.Values.{layout_from}
use Rattle.ovfile_read.proofs.FillLaws.{predecessors_by}
use Rattle.ovfile_read.proofs.fill.predecessors.Goals as goal

pub overflow_cast-first : goal.overflow_cast-first
overflow_cast-first c =
    omega (arith, c.args.stored.now.edges_counted, c.args.stored.now.few_edges)

pub returns : goal.returns
returns c =
    let n = c.args.stored.now.counts.edges in
    let e = ap (λ (k : ℕ). 2 * k) c.args.stored.now.edges_counted in
    predecessors_by (layout_from c.args.stored.now.layout) c.args.stored.now.file.now c.first_stored.ensures e (omega (arith, c.args.stored.now.few_edges, c.args.stored.now.edges_counted))
    (λ h l. get_or-replicate 4000 h (2 * n) 0 (omega (arith, e, c.args.stored.now.few_edges)))
