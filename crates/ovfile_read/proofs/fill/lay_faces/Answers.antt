-- `ovfile_read::fill::lay_faces` meets its contract. Assumes nothing.
use Rattle.std.specs.Prelude.{◌∷◌}
use mathlib.Core.Path.{refl}
use native.Mathlib.Omega.{arith}
use Rattle.seq.specs.Seq.{[]}
use Rattle.seq.specs.Loops.Storing.{lay_starts, lay_turns, store_ends}
use borrow.Author.Rules.{rules}
use Rattle.ovfile_read.proofs.fill.lay_faces.Goals as goal

pub store-requires : goal.store-requires
store-requires c =
    omega (arith, c.loop-f-test.true, c.loop-f.invariant.room, c.loop-f.invariant.kept, c.args.stored.now.faces_counted)

pub loop-f-preserved : goal.loop-f-preserved
loop-f-preserved c =
    lay_turns c.loop-f.invariant (λ k. refl) (omega (arith, c.args.stored.now.faces_counted)) c.store.ensures
    (λ i. c.label.ensures i ∷ c.label-in-loop-f.ensures i ∷ c.label-in-loop-f-2.ensures i ∷ c.face_field.ensures i ∷ c.face_field-in-loop-f.ensures i ∷ [])

pub returns : goal.returns
returns c =
    store_ends c.loop-f.invariant (omega (arith, c.args.stored.now.faces_counted))

pub loop-f-init : goal.loop-f-init
loop-f-init c = lay_starts (search rules)

pub shape_of-faces : goal.shape_of-faces
shape_of-faces c = c.loop-f.invariant.kept
