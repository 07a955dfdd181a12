-- Of SoundingsSample of specs/, what rests on its definitions.
use Rattle.std.specs.Prelude.{◌≡◌, refl, ◌∷◌, ◌++◌}
use Rattle.seq.specs.Seq.{List, map, ℕ, negsuc, pos, gather, []}
use Rattle.paper.specs.Plane.{Vec, vec}
use Rattle.paper.specs.Bytes.{le_signed}
use Rattle.paper.specs.Refusal.{Answer, done, refused}
use Rattle.paper.specs.Map.{fault}
use Rattle.paper.specs.Sample.{at}
use Rattle.paper.specs.Soundings.{Cells, CountRoom, Counted, soundings}
use Rattle.paper.specs.SoundingsSample.{zones, blocks}

-- the list of these soundings
abbrev list_of : List Vec → List ℕ
list_of = gather (λ c. le_signed 2 c.x ++ le_signed 2 c.y)

-- room for three pairs
abbrev lent : CountRoom
lent = record { labels = 7; counts = 4 }

abbrev empty : Answer Cells → Counted
empty a = record { answer = a; labels = 0 ∷ 0 ∷ 0 ∷ 0 ∷ 0 ∷ 0 ∷ 0 ∷ []; counts = 0 ∷ 0 ∷ 0 ∷ 0 ∷ [] }

abbrev run : List ℕ → Counted
run s = soundings lent (zones ∷ blocks ∷ []) s

abbrev refusal : ℕ → ℕ → ℕ → Answer Cells
refusal n m k = refused (record { number = n; map = m; place = k; other = 0 })

-- of the ten edges eight start at height 0, three of them level, and two level ones at height 2: all ten are read from (9, 9), eight from the others
counts : run (list_of (at 3 1 ∷ at 1 1 ∷ at 9 9 ∷ vec (negsuc 0) (pos 1) ∷ at 1 0 ∷ at 0 0 ∷ []))
    ≡ record { answer = done (record { entries = 3; soundings = 6; read = 50 }); labels = 0 ∷ 0 ∷ 5 ∷ 7 ∷ 6 ∷ 0 ∷ 0 ∷ []; counts = 2 ∷ 3 ∷ 1 ∷ 0 ∷ [] }
unfolding soundings fault
counts = refl

-- 13 for the first that is too far, at the very end of the range and beyond
thirteen : run (list_of (at 16000 1 ∷ at 1 16000 ∷ vec (pos 1) (negsuc 16000) ∷ at 16001 1 ∷ [])) ≡ empty (refusal 13 0 2)
unfolding soundings fault
thirteen = refl

-- 12 is before 13
twelve : run (list_of (at 16001 1 ∷ []) ++ (0 ∷ [])) ≡ empty (refusal 12 0 0)
unfolding soundings fault
twelve = refl

-- a fourth pair: 11, place 6; with one too far it is 13
eleven : run (list_of (at 3 1 ∷ at 1 1 ∷ at 9 9 ∷ at 2 1 ∷ [])) ≡ empty (refusal 11 0 6)
unfolding soundings fault
eleven = refl

thirteen_before_eleven : run (list_of (at 3 1 ∷ at 1 1 ∷ at 9 9 ∷ at 2 1 ∷ at 1 17000 ∷ [])) ≡ empty (refusal 13 0 4)
unfolding soundings fault
thirteen_before_eleven = refl

-- the maps are judged before the list
second-map : soundings lent (zones ∷ [] ∷ []) (0 ∷ []) ≡ empty (refusal 1 2 0)
unfolding soundings fault
second-map = refl
