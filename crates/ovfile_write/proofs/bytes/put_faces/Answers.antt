-- `ovfile_write::bytes::put_faces` meets its contract. Assumes nothing.
use mathlib.Core.Path.{ap, ◌∙◌}
use Rattle.seq.specs.Seq.{[], ℕ, sets, rows}
use Rattle.tables.specs.Values.{tables_by}
use Rattle.seq.specs.Loops.Storing.{store_starts, store_turns, store_ends}
use Rattle.ovfile_write.proofs.PutLaws.{face_bytes, face_long}
use native.Mathlib.Omega.{arith}
use Rattle.ovfile_write.proofs.bytes.put_faces.Goals as goal

pub loop-f-init : goal.loop-f-init
loop-f-init c =
    store_starts (omega (arith, c.faces_at-start.ensures, c.requires))

pub put_face-requires : goal.put_face-requires
put_face-requires c = omega (arith, c.loop-f.invariant.room, c.loop-f.invariant.kept, c.loop-f-test.true)

pub loop-f-preserved : goal.loop-f-preserved
loop-f-preserved c =
    let t = tables_by [] [] [] c.args.faces.now in
    store_turns c.loop-f.invariant (face_long t) c.loop-f-test.true c.put_face.ensures

pub returns : goal.returns
returns c =
    let a = c.args in
    let t = tables_by [] [] [] a.faces.now in
    store_ends c.loop-f.invariant c.loop-f-test.false
    ∙ ap (λ (p : ℕ). sets a.buffer.now p (rows (face_bytes t) a.c.faces)) c.faces_at-start.ensures

pub shape_of-buffer : goal.shape_of-buffer
shape_of-buffer c = c.loop-f.invariant.kept
