-- How two edges meet, for C: one number, and the point in a lent table of any length. Assumes nothing.
use Rattle.std.specs.Prelude.{◌≡◌, ◌∷◌}
use Rattle.std.proofs.Common.{sym, ◌∙◌, ap}
use Rattle.seq.specs.Seq.{List, [], ℕ, ℤ, pos, table, get_or}
use Rattle.exact.specs.Lowest.{pt}
use Rattle.paper.specs.Plane.{Pt}
use Rattle.paper.specs.Refusal.{Answer, done, refused}
use Rattle.paper.specs.Meeting.{Meeting, apart, touching, crossing, sharing}
use Rattle.bonnetewe.specs.Told.{four}

-- "apart, touching at an end of either, crossing inside both, or sharing a stretch": 0 to 3
abbrev pub meeting_kind : Meeting → ℕ
meeting_kind apart = 0
meeting_kind (touching p) = 1
meeting_kind (crossing p) = 2
meeting_kind sharing = 3

-- 0 and the kind; or the refusal's number, map, place and other edge
abbrev pub told_meeting : Answer Meeting → ℕ
told_meeting (done m) = four 0 (meeting_kind m) 0 0
told_meeting (refused r) = four r.number r.map r.place r.other

-- "with the point where there is one"; three zeros where there is none
abbrev pub point_in : Meeting → Pt
point_in apart = pt (pos 0) (pos 0) (pos 0)
point_in (touching p) = p
point_in (crossing p) = p
point_in sharing = pt (pos 0) (pos 0) (pos 0)

abbrev pub told_point : Answer Meeting → Pt
told_point (done m) = point_in m
told_point (refused r) = pt (pos 0) (pos 0) (pos 0)

-- cell i of the lent table: X, Y, D, and zeros behind
abbrev pub point_cell : Pt → ℕ → ℤ
point_cell p i = get_or (p.X ∷ p.Y ∷ p.D ∷ []) i (pos 0)

-- r tells how two edges meet, and t is the lent table of n cells: as many of X, Y and D as it has room for, and zeros behind
pub record ToldMeeting (a : Answer Meeting) (n : ℕ) (t : List ℤ) (r : ℕ) : Type 0 where
  pub answer : r ≡ told_meeting a
  pub point : t ≡ table (point_cell (told_point a)) n

pub told-meeting_by : (a : Answer Meeting) {b : Answer Meeting} {p : Pt} {n r : ℕ} {t : List ℤ} → b ≡ a → p ≡ told_point b → t ≡ table (point_cell p) n → r ≡ told_meeting b → ToldMeeting a n t r
told-meeting_by a {b} {p} {n} e q l h = record { answer = h ∙ ap told_meeting e; point = l ∙ ap (λ (z : Pt). table (point_cell z) n) (q ∙ ap told_point e) }

-- no second number and table tell it
pub told-meeting-once : {a : Answer Meeting} {n : ℕ} {t u : List ℤ} {r q : ℕ} → ToldMeeting a n t r → ToldMeeting a n u q → (t ≡ u) × (r ≡ q)
told-meeting-once a b = (a.point ∙ sym b.point, a.answer ∙ sym b.answer)
