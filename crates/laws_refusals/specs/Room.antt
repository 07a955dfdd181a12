-- Counts within a room: `Fits`, and that nothing is refused for room exactly there, by one test (`not_over`, `over_not`) or place by place (`room_none`, `none_room`). Assumes nothing.
use Rattle.std.specs.Prelude.{◌≡◌, ◌≤◌, ◌||◌}
use Rattle.std.proofs.Common.{ltb-false, le-ltb}
use Rattle.seq.specs.Seq.{Bool, false, none, ℕ, ltb}
use Rattle.seq.specs.Tests.{or_false}
use Rattle.paper.specs.Refusal.{given}
use Rattle.paper.specs.Tables.{Counts}
use Rattle.paper.specs.Lent.{room_faults}
use Rattle.paper.specs.Ovfile.{over}
use Rattle.laws_refusals.specs.Refusals.{Nothing, given_none, none_given}

-- each count is at most the room
pub record Fits (room c : Counts) : Type 0 where
  pub vertices : c.vertices ≤ room.vertices
  pub edges : c.edges ≤ room.edges
  pub faces : c.faces ≤ room.faces

-- ── by one test ──

pub not_over : (room c : Counts) → over room c ≡ false → Fits room c
not_over room c e =
    let a = or_false (ltb room.vertices c.vertices) _ e in
    let b = or_false (ltb room.edges c.edges) _ a.1 in
    record { vertices = ltb-false _ _ a.0; edges = ltb-false _ _ b.0; faces = ltb-false _ _ b.1 }

pub over_not : (room c : Counts) → Fits room c → over room c ≡ false
over_not room c F = neither (le-ltb room.vertices c.vertices F.vertices) (neither (le-ltb room.edges c.edges F.edges) (le-ltb room.faces c.faces F.faces))
  where
    neither : {a b : Bool} → a ≡ false → b ≡ false → (a || b) ≡ false
    neither e f = rw (e, f)

-- ── place by place ──

pub room_none : (room c : Counts) → Nothing (room_faults room c) → Fits room c
room_none room c (v, (e, (f, _))) = record {
  vertices = within 1 room.vertices c.vertices v;
  edges = within 2 room.edges c.edges e;
  faces = within 3 room.faces c.faces f;
}
  where
    within : (k a b : ℕ) → given 11 k (ltb a b) ≡ none → b ≤ a
    within k a b e = ltb-false a b (given_none 11 k (ltb a b) e)

pub none_room : (room c : Counts) → Fits room c → Nothing (room_faults room c)
none_room room c F =
    let no : (k a b : ℕ) → b ≤ a → given 11 k (ltb a b) ≡ none = λ k a b l. none_given 11 k (ltb a b) (le-ltb a b l) in
    (no 1 room.vertices c.vertices F.vertices, (no 2 room.edges c.edges F.edges, (no 3 room.faces c.faces F.faces, tt)))
