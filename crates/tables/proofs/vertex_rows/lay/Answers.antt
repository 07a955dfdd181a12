-- `tables::vertex_rows::lay` meets its contract: before turn v the first v rows are stored. Assumes nothing.
use mathlib.Core.Path.{refl, ◌∙◌}
use mathlib.Core.List.{[], ◌∷◌}
use Prim.Native.Nat.{◌+◌, ◌*◌}
use native.Mathlib.Omega.{arith}
use Rattle.seq.specs.Loops.Storing.{lay_turns, lay_ends}
use mir.Syntax.{w64}
use mir.ValLaws.{to_z-of_z}
use Rattle.graph.proofs.Rows.{read, read_first}
use Rattle.tables.proofs.vertex_rows.lay.Goals as goal
use Rattle.tables.proofs.vertex_rows.lay.Goals.{After-d-1, After-from-h, After-x-1, After-y-1, At-loop-v, Start}

pub loop-v-preserved : goal.loop-v-preserved
loop-v-preserved c =
    let points = c.args.points.now in
    let v = c.loop-v.v in
    let h = c.from-h in
    lay_turns c.loop-v.invariant (λ k. refl) (omega arith) c.store.ensures
    (λ i. read_first 4 points v c.x-1.given i
    ∷ read points (4 * v + 1) c.y-1.given i
    ∷ read points (4 * v + 2) c.d-1.given i
    ∷ (to_z-of_z w64 _ (record { sfits = h.type_inv }) ∙ h.ensures) i
    ∷ [])

pub returns : goal.returns
returns c = lay_ends c.loop-v.invariant (λ k. refl) (omega arith)
