-- `thin::moving::move_point` meets its contract. Assumes nothing.
use mathlib.Core.Path.{◌∙◌, ap}
use mathlib.Core.List.{[], ◌∷◌}
use Prim.Native.Nat.{◌+◌, ◌*◌}
use lib.IntN.{pos}
use Rattle.seq.specs.Seq.{row_stored}
use Rattle.graph.proofs.Rows.{read, read_first}
use Rattle.thin.proofs.moving.move_point.Goals as goal

pub returns : goal.returns
returns c =
    let points = c.args.points.now in
    let v = c.args.v in
    c.store.ensures
    ∙ ap (row_stored 4 c.args.out.now c.args.c)
    (λ i. read_first 4 points v c.x-1.given i ∷ read points (4 * v + 1) c.y-1.given i ∷ read points (4 * v + 2) c.d-1.given i ∷ pos 0 ∷ [])
