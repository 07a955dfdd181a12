-- `ovfile_write::vertices::least_starts` meets its contract. Assumes nothing.
use lib.ListN.{get_or-replicate}
use Rattle.paper.specs.Limits.{absent}
use Rattle.ovfile_write.proofs.JudgeLaws.{starts_by}
use native.Mathlib.Omega.{arith}
use Rattle.ovfile_write.proofs.vertices.least_starts.Goals as goal

pub returns : goal.returns
returns c =
    starts_by c.args.halves.now c.first_places.ensures (omega arith)
    (λ v l. get_or-replicate 1000 v absent 0 (omega arith))
