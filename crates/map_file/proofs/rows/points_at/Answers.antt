-- `map_file::rows::points_at` meets its contract: below the counter the rows are those of the file, and the other cells as they were; the place is behind the last row
-- read. Assumes nothing.
use Rattle.std.specs.Prelude.{◌∷◌, ◌+◌}
use mathlib.Core.Path.{refl, ◌∙◌, ap}
use native.Mathlib.Omega.{arith}
use mir.Syntax.{w64}
use mir.ValLaws.{to_z-of_z}
use Rattle.seq.specs.Seq.{[], ℕ, pos}
use Rattle.seq.specs.Loops.Storing.{lay_turns, lay_ends}
use Rattle.paper.specs.Bytes.{signed_at}
use Rattle.map_file.proofs.rows.points_at.Goals as goal
use Rattle.map_file.proofs.rows.points_at.Goals.{After-i16_at-x, After-i16_at-y, At-loop-v, Start}

pub loop-v-preserved : goal.loop-v-preserved
loop-v-preserved c =
    let s = c.args.file.now in
    let here = c.loop-v.invariant.1 in
    let x = to_z-of_z w64 _ (record { sfits = c.i16_at-x.type_inv }) ∙ c.i16_at-x.ensures ∙ ap (signed_at 2 s) here in
    let y = to_z-of_z w64 _ (record { sfits = c.i16_at-y.type_inv }) ∙ c.i16_at-y.ensures ∙ ap (λ (p : ℕ). signed_at 2 s (p + 2)) here in
    (lay_turns c.loop-v.invariant.0 (λ k. refl) (omega arith) c.store.ensures (λ i. x i ∷ y i ∷ pos 1 ∷ pos 0 ∷ []), omega arith)

pub returns : goal.returns
returns c = (omega arith, lay_ends c.loop-v.invariant.0 (λ k. refl) (omega arith))
