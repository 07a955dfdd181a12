-- `graph_faces::numbering::face` meets its contract. Assumes nothing.
use Rattle.std.specs.Prelude.{◌-◌}
use mathlib.Core.Path.{◌≡◌}
use Prim.Native.Nat.{◌<◌}
use Rattle.graph_faces.specs.Kinds.{face_from}
use Rattle.graph_faces.proofs.numbering.face.Given as goal

abbrev pub invariant-loop-step : goal.invariant-loop-step
invariant-loop-step l = (l.x < l.m) × (face_from l.lead l.top l.known l.n l.h ≡ face_from l.lead l.top l.known (l.n - l._step) l.x)
