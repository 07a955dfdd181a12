-- `tables::half_rows::lay` meets its contract: before turn h the first h rows are stored. Assumes nothing.
use mathlib.Core.Path.{refl}
use mathlib.Core.List.{[], ◌∷◌}
use native.Mathlib.Omega.{arith}
use Rattle.seq.specs.Loops.Storing.{lay_turns, lay_ends}
use Rattle.seq.specs.Seq.{get_or}
use Rattle.tables.proofs.half_rows.lay.Goals as goal
use Rattle.tables.proofs.half_rows.lay.Goals.{After-twin-other, At-loop-h, Start}

pub loop-h-preserved : goal.loop-h-preserved
loop-h-preserved c =
    let a = c.args in
    let h = c.loop-h.h in
    lay_turns c.loop-h.invariant (λ k. refl) (omega arith) c.store.ensures
    (λ i. get_or a.origins.now h 0 ∷ c.twin-other.ensures i ∷ get_or a.next.now h 0 ∷ get_or a.prev.now h 0 ∷ get_or a.face.now h 0 ∷ [])

pub returns : goal.returns
returns c = lay_ends c.loop-h.invariant (λ k. refl) (omega arith)
