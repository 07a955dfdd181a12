-- `text::whole::put_faces` meets its contract: before turn f the lines of the first f faces stand. Assumes nothing.
use Rattle.std.specs.Prelude.{◌*◌}
use Prim.Native.Nat.{◌≤◌}
use Rattle.seq.specs.Seq.{rows}
use Rattle.text.specs.Line.{Put}
use Rattle.text.specs.Lines.{face_text}
use Rattle.text.proofs.whole.put_faces.Given as goal

abbrev pub invariant-loop-f : goal.invariant-loop-f
invariant-loop-f l = Put (rows (face_text l.faces) l.f) (64 * l.f) l.initial.out l.at l.out l.end × (l.f ≤ l.count)
