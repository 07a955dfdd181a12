-- `text::whole::put_faces` meets its contract: before turn f the lines of the first f faces stand. Assumes nothing.
use native.Mathlib.Omega.{arith}
use Rattle.text.proofs.LineLaws.{put_none, put-face_more, put-faces_all}
use Rattle.text.proofs.whole.put_faces.Goals as goal

pub loop-f-init : goal.loop-f-init
loop-f-init c = (put_none _ _, omega arith)

pub loop-f-preserved : goal.loop-f-preserved
loop-f-preserved c = let l = c.loop-f in (put-face_more c.args.faces.now l.f l.invariant.0 c.face_line-end.ensures, omega arith)

pub returns : goal.returns
returns c =
    put-faces_all c.args.faces.now c.loop-f.invariant.0 c.loop-f.invariant.1 c.loop-f-test.false
