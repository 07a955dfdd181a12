-- The answer is determined by the eight numbers: each value of the definition is that of one value of the code, which is read back from it. So two outcomes that
-- keep the promise are one (`meet-unique`), and how two edges meet is one value too (`meeting-unique`). Assumes nothing.
use Rattle.std.specs.Prelude.{◌≡◌, refl, Result, Ok, Err}
use Rattle.std.proofs.Common.{sym, ◌∙◌, ap}
use Rattle.seq.specs.Seq.{ℤ}
use Rattle.exact.specs.declared.terms.Point.{Point}
use Rattle.paper.specs.Plane.{Pt, Seg}
use Rattle.paper.specs.Refusal.{Answer, done, refused}
use Rattle.paper.specs.Meeting as Meetings
use Rattle.paper.specs.Meeting.{apart, touching, crossing, sharing, meeting, meet}
use Rattle.plane.specs.declared.kinds.Meeting.{Meeting}
use Rattle.plane.specs.declared.kinds.Meeting.TheVariants.{Apart, Touching, Crossing, Sharing}
use Rattle.plane.specs.Values.{meeting_of}
use Rattle.map_file.specs.declared.refusal.Refusal.{Refusal}
use Rattle.meet.specs.Answer.{answer_of}

-- ── read back ──

abbrev point : Pt → Point
point p = record { x = p.X; y = p.Y; d = p.D }

abbrev kind : Meetings.Meeting → Meeting
kind apart = Apart
kind (touching p) = Touching (point p)
kind (crossing p) = Crossing (point p)
kind sharing = Sharing

kind_of : (m : Meeting) → kind (meeting_of m) ≡ m
kind_of Apart = refl
kind_of (Touching p) = refl
kind_of (Crossing p) = refl
kind_of Sharing = refl

abbrev outcome : Answer Meetings.Meeting → Result Meeting Refusal
outcome (done m) = Ok (kind m)
outcome (refused r) = Err (record { number = r.number; map = r.map; place = r.place; other = r.other })

outcome_of_lem : (a : Result Meeting Refusal) → outcome (answer_of a) ≡ a
outcome_of_lem (Ok m) = ap Ok (kind_of m)
outcome_of_lem (Err r) = refl

-- ── one outcome ──

pub meeting-unique : (s t : Seg) (a b : Meeting) → meeting_of a ≡ meeting s t → meeting_of b ≡ meeting s t → a ≡ b
meeting-unique s t a b p q = sym (kind_of a) ∙ ap kind (p ∙ sym q) ∙ kind_of b

pub meet-unique : (ax ay bx by cx cy dx dy : ℤ) (a b : Result Meeting Refusal) → answer_of a ≡ meet ax ay bx by cx cy dx dy → answer_of b ≡ meet ax ay bx by cx cy dx dy → a ≡ b
meet-unique ax ay bx by cx cy dx dy a b p q = sym (outcome_of_lem a) ∙ ap outcome (p ∙ sym q) ∙ outcome_of_lem b
