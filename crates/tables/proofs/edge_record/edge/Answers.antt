-- `tables::edge_record::edge` meets its contract. Assumes nothing.
use mathlib.Core.Path.{◌∙◌}
use Prim.Native.Nat.{◌<◌}
use native.Mathlib.Omega.{arith}
use lib.ListN.{length}
use Rattle.paper.specs.Limits.{maps}
use Rattle.paper.specs.Lent.{edge_room}
use Rattle.tables.specs.Values.{lengths_by}
use Rattle.tables.proofs.FoundLaws.{record_there}
use Rattle.tables.proofs.edge_record.edge.Goals as goal
use Rattle.tables.proofs.edge_record.edge.Goals.{Else-edge_room-k}

-- there is room for edge k
within : (c : Else-edge_room-k) → c.args.k < edge_room maps (lengths_by 0 (length c.args.halves.now) (length c.args.sources.now) 0)
within c = omega (arith, c.edge_room.ensures, c.if-edge_room-k.false)

pub returns : goal.returns
returns c =
    let a = c.args in
    c.record_by.ensures ∙ record_there a.halves.now a.sources.now a.k (within (goal.at.returns c).Else-edge_room-k)
