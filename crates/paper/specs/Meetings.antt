-- Worked cases of how two edges meet, and of refusal 8 with its other edge, each by computing. Assumes nothing.
use Rattle.std.specs.Prelude.{◌≡◌, refl, ◌∷◌}
use Rattle.exact.specs.Exact.{gcd_of}
use Rattle.seq.specs.Seq.{[], some, ℕ, pos}
use Rattle.paper.specs.Plane.{Pt, between}
use Rattle.paper.specs.Refusal.{done, refused}
use Rattle.paper.specs.Sample.{at, arc, map_file}
use Rattle.paper.specs.Meeting.{apart, touching, crossing, sharing, meeting, meet}
use Rattle.paper.specs.Map.{fault}

abbrev point : ℕ → ℕ → ℕ → Pt
point x y d = record { X = pos x; Y = pos y; D = pos d }

-- S1: they cross inside both
crosses : meeting (between (at 0 0) (at 3 2)) (between (at 0 2) (at 3 1)) ≡ crossing (point 6 4 3)
unfolding gcd_of
crosses = refl

-- S2: an end of the second is inside the first
touches : meeting (between (at 0 0) (at 4 0)) (between (at 2 0) (at 2 3)) ≡ touching (point 2 0 1)
unfolding gcd_of
touches = refl

-- S3: a stretch
shares : meeting (between (at 0 0) (at 4 0)) (between (at 2 0) (at 6 0)) ≡ sharing
shares = refl

-- in one line, end to end
end_to_end : meeting (between (at 0 0) (at 2 1)) (between (at 4 2) (at 2 1)) ≡ touching (point 2 1 1)
end_to_end = refl

-- in one line, with a gap; side by side; too short to meet
gap : meeting (between (at 0 0) (at 2 0)) (between (at 3 0) (at 5 0)) ≡ apart
gap = refl

side_by_side : meeting (between (at 0 0) (at 2 0)) (between (at 0 1) (at 2 1)) ≡ apart
side_by_side = refl

short : meeting (between (at 0 0) (at 1 1)) (between (at 3 0) (at 0 3)) ≡ apart
unfolding gcd_of
short = refl

-- the same edge twice, and one within the other
twice : meeting (between (at 0 0) (at 2 3)) (between (at 2 3) (at 0 0)) ≡ sharing
twice = refl

within : meeting (between (at 0 0) (at 6 3)) (between (at 2 1) (at 4 2)) ≡ sharing
within = refl

-- both edges are judged for 5 before 7
five_first : meet (pos 0) (pos 0) (pos 0) (pos 0) (pos 16001) (pos 0) (pos 1) (pos 1) ≡ refused (record { number = 5; map = 0; place = 1; other = 0 })
five_first = refl

seven : meet (pos 0) (pos 0) (pos 1) (pos 1) (pos 2) (pos 2) (pos 2) (pos 2) ≡ refused (record { number = 7; map = 0; place = 1; other = 0 })
seven = refl

asked : meet (pos 0) (pos 0) (pos 3) (pos 2) (pos 0) (pos 2) (pos 3) (pos 1) ≡ done (crossing (point 6 4 3))
unfolding gcd_of
asked = refl

-- edges 0 and 1 share an end; edges 2 and 3 both cross edge 1: it is the least that clashes, and the other is edge 2
clash-named :
    fault (
    map_file (at 0 9 ∷ at 0 2 ∷ at 6 2 ∷ at 2 0 ∷ at 2 4 ∷ at 4 0 ∷ at 4 4 ∷ [])
    (arc 0 1 0 0 ∷ arc 1 2 0 0 ∷ arc 3 4 0 0 ∷ arc 5 6 0 0 ∷ [])
    ) ≡ some (record { number = 8; map = 0; place = 1; other = 2 })
unfolding fault
clash-named = refl
