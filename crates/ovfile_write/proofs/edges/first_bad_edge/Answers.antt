-- `ovfile_write::edges::first_bad_edge` meets its contract. Assumes nothing.
use Rattle.ovfile.proofs.SoundLaws.{followed_by}
use native.Mathlib.Omega.{arith}
use Rattle.ovfile_write.proofs.edges.first_bad_edge.Goals as goal

pub first_bad_edge_by-requires : goal.first_bad_edge_by-requires
first_bad_edge_by-requires c =
    followed_by c.args.halves.now c.first_places.ensures (omega arith)
