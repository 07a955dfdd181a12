-- `tables::face_rows::lay` meets its contract: before turn f the first f rows are stored. Assumes nothing.
use mathlib.Core.Path.{refl, sym}
use mathlib.Core.List.{[], ◌∷◌}
use Prim.Native.Nat.{◌*◌}
use native.Mathlib.Nat.{add-zero}
use lib.ListN.{get_or}
use native.Mathlib.Omega.{arith}
use Rattle.seq.specs.Seq.{cell}
use Rattle.seq.specs.Loops.Storing.{lay_turns, lay_ends}
use Rattle.paper.specs.Limits.{maps}
use Rattle.tables.proofs.face_rows.lay.Goals as goal
use Rattle.tables.proofs.face_rows.lay.Goals.{At-loop-f, Start}

pub loop-f-preserved : goal.loop-f-preserved
loop-f-preserved c =
    let a = c.args in
    let f = c.loop-f.f in
    let labels = a.labels.now in
    lay_turns c.loop-f.invariant (λ k. refl) (omega arith) c.store.ensures
    (λ i. get_or labels (sym (add-zero (maps * f)) i) 0 ∷ cell 0 maps labels f 1 ∷ cell 0 maps labels f 2 ∷ get_or a.outer.now f 0 ∷ get_or a.holes.now f 0 ∷ [])

pub returns : goal.returns
returns c = lay_ends c.loop-f.invariant (λ k. refl) (omega arith)
