-- What C is told of two edges is how they meet: where two questions have one number and one table of three cells or more, they have one answer, whatever the edges are (`meet-means`). Assumes nothing.
use Rattle.std.specs.Prelude.{◌≡◌, refl, ◌<◌, ◌≤◌, ◌||◌, ◌∷◌}
use Rattle.std.proofs.Common.{sym, ◌∙◌, ap, arith}
use Rattle.seq.specs.Seq.{Bool, true, false, List, [], ℕ, ℤ, pos, table, get_or}
use Rattle.seq.specs.Table.{table_at}
use Rattle.paper.specs.Plane.{Pt, vec, whole, same, between}
use Rattle.paper.specs.Refusal.{Answer, done, refused, given, first_of, answer}
use Rattle.paper.specs.Meeting.{Meeting, apart, touching, crossing, sharing, meeting, beyond, meet}
use Rattle.bonnetewe.specs.Met.{meeting_kind, told_meeting, point_in, told_point, point_cell, ToldMeeting}
use Rattle.bonnetewe.specs.Laws.Means.{Sound, four-apart}

-- a meeting by its kind and its point
meeting_by : (m k : Meeting) → meeting_kind m ≡ meeting_kind k → point_in m ≡ point_in k → m ≡ k
meeting_by apart apart e p = refl
meeting_by (touching a) (touching b) e p = ap touching p
meeting_by (crossing a) (crossing b) e p = ap crossing p
meeting_by sharing sharing e p = refl
meeting_by apart (touching b) e p = absurd (omega (arith, e))
meeting_by apart (crossing b) e p = absurd (omega (arith, e))
meeting_by apart sharing e p = absurd (omega (arith, e))
meeting_by (touching a) apart e p = absurd (omega (arith, e))
meeting_by (touching a) (crossing b) e p = absurd (omega (arith, e))
meeting_by (touching a) sharing e p = absurd (omega (arith, e))
meeting_by (crossing a) apart e p = absurd (omega (arith, e))
meeting_by (crossing a) (touching b) e p = absurd (omega (arith, e))
meeting_by (crossing a) sharing e p = absurd (omega (arith, e))
meeting_by sharing apart e p = absurd (omega (arith, e))
meeting_by sharing (touching b) e p = absurd (omega (arith, e))
meeting_by sharing (crossing b) e p = absurd (omega (arith, e))

kind-small : (m : Meeting) → meeting_kind m < 65536
kind-small apart = omega arith
kind-small (touching p) = omega arith
kind-small (crossing p) = omega arith
kind-small sharing = omega arith

pub told-meeting-means : (a b : Answer Meeting) → Sound (λ (m : Meeting). Unit {0}) a → Sound (λ (m : Meeting). Unit {0}) b → told_meeting a ≡ told_meeting b → told_point a ≡ told_point b → a ≡ b
told-meeting-means (done m) (done k) h l e p =
    let t = four-apart 0 (meeting_kind m) 0 0 0 (meeting_kind k) 0 0 (omega arith) (kind-small m) (omega arith) (omega arith) (kind-small k) (omega arith) e in
    ap done (meeting_by m k t.1 p)
told-meeting-means (done m) (refused s) h (o, n, x, y, z) e p = absurd (omega (arith, o, n, e))
told-meeting-means (refused r) (done k) (o, n, x, y, z) l e p = absurd (omega (arith, o, n, e))
told-meeting-means (refused r) (refused s) (o, n, x, y, z) (q, a, b, c, d) e p =
    let t = four-apart r.number r.map r.place r.other s.number s.map s.place s.other n x y a b c e in
    λ i. refused (record { number = t.0 i; map = t.1 i; place = t.2 i; other = t.3 i })

meet_fits_by : (m : Meeting) (a b c d : Bool) → Sound (λ (m : Meeting). Unit {0}) (answer m (first_of (given 5 0 a ∷ given 5 1 b ∷ given 7 0 c ∷ given 7 1 d ∷ [])))
meet_fits_by m true b c d = (omega arith, omega arith, omega arith, omega arith, omega arith)
meet_fits_by m false true c d = (omega arith, omega arith, omega arith, omega arith, omega arith)
meet_fits_by m false false true d = (omega arith, omega arith, omega arith, omega arith, omega arith)
meet_fits_by m false false false true = (omega arith, omega arith, omega arith, omega arith, omega arith)
meet_fits_by m false false false false = tt

pub meet-sound : (ax ay bx by cx cy dx dy : ℤ) → Sound (λ (m : Meeting). Unit {0}) (meet ax ay bx by cx cy dx dy)
meet-sound ax ay bx by cx cy dx dy =
    let a = vec ax ay in let b = vec bx by in let c = vec cx cy in let d = vec dx dy in
    meet_fits_by (meeting (between a b) (between c d)) (beyond a || beyond b) (beyond c || beyond d) (same (whole a) (whole b)) (same (whole c) (whole d))

-- the point of a table that has room for it
point-told : (p q : Pt) (n m : ℕ) → 3 ≤ n → 3 ≤ m → table (point_cell p) n ≡ table (point_cell q) m → p ≡ q
point-told p q n m h l e =
    let cell : (i : ℕ) → i < 3 → point_cell p i ≡ point_cell q i =
    λ i b. sym (table_at (point_cell p) n i (pos 0) (omega (arith, b, h))) ∙ ap (λ (t : List ℤ). get_or t i (pos 0)) e ∙ table_at (point_cell q) m i (pos 0) (omega (arith, b, l)) in
    let x : p.X ≡ q.X = cell 0 (omega arith) in
    let y : p.Y ≡ q.Y = cell 1 (omega arith) in
    let d : p.D ≡ q.D = cell 2 (omega arith) in
    λ i. record { X = x i; Y = y i; D = d i }

-- of bonnetewe_meet: whatever the sixteen numbers are
pub meet-means : (ax ay bx by cx cy dx dy ex ey fx fy gx gy hx hy : ℤ) (n m : ℕ) → 3 ≤ n → 3 ≤ m → {t : List ℤ} {r : ℕ}
    → ToldMeeting (meet ax ay bx by cx cy dx dy) n t r → ToldMeeting (meet ex ey fx fy gx gy hx hy) m t r → meet ax ay bx by cx cy dx dy ≡ meet ex ey fx fy gx gy hx hy
meet-means ax ay bx by cx cy dx dy ex ey fx fy gx gy hx hy n m h l p q =
    told-meeting-means _ _ (meet-sound ax ay bx by cx cy dx dy) (meet-sound ex ey fx fy gx gy hx hy) (sym p.answer ∙ q.answer)
    (point-told _ _ n m h l (sym p.point ∙ q.point))
