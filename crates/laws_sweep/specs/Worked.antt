-- The sweep at work on small maps, computed: each list is what `vertices_of` gives, worked out by other means. Assumes nothing.
use Rattle.std.specs.Prelude.{◌≡◌, refl, ◌∷◌}
use Rattle.exact.specs.Exact.{gcd_of}
use Rattle.seq.specs.Seq.{List, [], ℕ, ℤ, pos, negsuc}
use Rattle.paper.specs.Plane.{Pt, vec}
use Rattle.paper.specs.Map.{map_of}
use Rattle.paper.specs.Sample.{arc, map_file, zone}
use Rattle.laws_sweep.specs.Sweep.{sweep, swept}

abbrev at : ℤ → ℤ → ℤ → Pt
at x y d = record { X = x; Y = y; D = d }

abbrev over : List ℕ → List ℕ → List Pt
over a b = swept 100 (map_of a ∷ map_of b ∷ [])

-- S1: one crossing inside both
s1 : over (map_file (vec (pos 0) (pos 0) ∷ vec (pos 3) (pos 2) ∷ []) (arc 0 1 0 0 ∷ [])) (map_file (vec (pos 0) (pos 2) ∷ vec (pos 3) (pos 1) ∷ []) (arc 1 0 0 0 ∷ []))
    ≡ at (pos 0) (pos 0) (pos 1) ∷ at (pos 3) (pos 1) (pos 1) ∷ at (pos 6) (pos 4) (pos 3) ∷ at (pos 0) (pos 2) (pos 1) ∷ at (pos 3) (pos 2) (pos 1) ∷ []
unfolding sweep gcd_of
s1 = refl

-- S3: a shared stretch of two level edges
s3 : over (map_file (vec (pos 0) (pos 0) ∷ vec (pos 4) (pos 0) ∷ []) (arc 0 1 0 0 ∷ [])) (map_file (vec (pos 2) (pos 0) ∷ vec (pos 6) (pos 0) ∷ []) (arc 0 1 0 0 ∷ []))
    ≡ at (pos 0) (pos 0) (pos 1) ∷ at (pos 2) (pos 0) (pos 1) ∷ at (pos 4) (pos 0) (pos 1) ∷ at (pos 6) (pos 0) (pos 1) ∷ []
unfolding sweep gcd_of
s3 = refl

-- an edge that lies along two of the other map, with two more at their common end
equal : over (map_file (vec (pos 0) (pos 0) ∷ vec (pos 4) (pos 0) ∷ vec (pos 4) (pos 8) ∷ []) (arc 0 2 0 0 ∷ arc 1 2 0 0 ∷ [])) (map_file (vec (pos 0) (pos 0) ∷ vec (pos 0) (pos 8) ∷ vec (pos 2) (pos 4) ∷ vec (pos 4) (pos 0) ∷ vec (pos 4) (pos 8) ∷ []) (arc 0 2 0 0 ∷ arc 2 4 0 0 ∷ arc 2 1 0 0 ∷ arc 3 2 0 0 ∷ []))
    ≡ at (pos 0) (pos 0) (pos 1) ∷ at (pos 4) (pos 0) (pos 1) ∷ at (pos 2) (pos 4) (pos 1) ∷ at (pos 0) (pos 8) (pos 1) ∷ at (pos 4) (pos 8) (pos 1) ∷ []
unfolding sweep gcd_of
equal = refl

-- four edges through one point, one of them level, and an edge that starts there
star : over (map_file (vec (negsuc 1) (negsuc 1) ∷ vec (negsuc 1) (pos 2) ∷ vec (pos 0) (pos 0) ∷ vec (pos 2) (negsuc 1) ∷ vec (pos 2) (pos 2) ∷ []) (arc 0 2 0 0 ∷ arc 2 4 0 0 ∷ arc 2 1 0 0 ∷ arc 3 2 0 0 ∷ [])) (map_file (vec (negsuc 2) (pos 0) ∷ vec (pos 0) (pos 3) ∷ vec (pos 3) (pos 0) ∷ []) (arc 0 2 0 0 ∷ arc 2 1 0 0 ∷ []))
    ≡ at (negsuc 1) (negsuc 1) (pos 1) ∷ at (pos 2) (negsuc 1) (pos 1) ∷ at (negsuc 2) (pos 0) (pos 1) ∷ at (pos 0) (pos 0) (pos 1) ∷ at (pos 3) (pos 0) (pos 1) ∷ at (pos 3) (pos 3) (pos 2) ∷ at (negsuc 1) (pos 2) (pos 1) ∷ at (pos 2) (pos 2) (pos 1) ∷ at (pos 0) (pos 3) (pos 1) ∷ []
unfolding sweep gcd_of
star = refl

-- an end of the one map inside an edge of the other, level and upright
tee : over (map_file (vec (pos 0) (pos 0) ∷ vec (pos 6) (pos 0) ∷ vec (pos 6) (pos 3) ∷ []) (arc 0 1 0 0 ∷ arc 1 2 0 0 ∷ [])) (map_file (vec (pos 2) (negsuc 1) ∷ vec (pos 3) (pos 0) ∷ vec (pos 3) (pos 3) ∷ vec (pos 6) (pos 3) ∷ []) (arc 1 2 0 0 ∷ arc 2 3 0 0 ∷ arc 0 1 0 0 ∷ []))
    ≡ at (pos 2) (negsuc 1) (pos 1) ∷ at (pos 0) (pos 0) (pos 1) ∷ at (pos 3) (pos 0) (pos 1) ∷ at (pos 6) (pos 0) (pos 1) ∷ at (pos 3) (pos 3) (pos 1) ∷ at (pos 6) (pos 3) (pos 1) ∷ []
unfolding sweep gcd_of
tee = refl

-- crossings on one height with corners between
rows : over (map_file (vec (pos 0) (pos 0) ∷ vec (pos 1) (pos 2) ∷ vec (pos 2) (pos 0) ∷ vec (pos 3) (pos 2) ∷ vec (pos 4) (pos 0) ∷ vec (pos 5) (pos 2) ∷ []) (arc 0 1 0 0 ∷ arc 2 3 0 0 ∷ arc 4 5 0 0 ∷ [])) (map_file (vec (negsuc 0) (pos 1) ∷ vec (pos 2) (pos 1) ∷ vec (pos 6) (pos 1) ∷ []) (arc 0 1 0 0 ∷ arc 1 2 0 0 ∷ []))
    ≡ at (pos 0) (pos 0) (pos 1) ∷ at (pos 2) (pos 0) (pos 1) ∷ at (pos 4) (pos 0) (pos 1) ∷ at (negsuc 0) (pos 1) (pos 1) ∷ at (pos 1) (pos 2) (pos 2) ∷ at (pos 2) (pos 1) (pos 1) ∷ at (pos 5) (pos 2) (pos 2) ∷ at (pos 9) (pos 2) (pos 2) ∷ at (pos 6) (pos 1) (pos 1) ∷ at (pos 1) (pos 2) (pos 1) ∷ at (pos 3) (pos 2) (pos 1) ∷ at (pos 5) (pos 2) (pos 1) ∷ []
unfolding sweep gcd_of
rows = refl

-- a random one
any1 : over (map_file (vec (negsuc 1) (negsuc 0) ∷ vec (pos 0) (pos 2) ∷ vec (pos 3) (pos 1) ∷ vec (pos 3) (pos 2) ∷ []) (arc 2 1 0 0 ∷ arc 1 3 0 0 ∷ arc 0 2 0 0 ∷ arc 0 1 0 0 ∷ arc 2 3 0 0 ∷ [])) (map_file (vec (negsuc 2) (pos 0) ∷ vec (negsuc 2) (pos 1) ∷ vec (pos 0) (negsuc 0) ∷ vec (pos 0) (pos 1) ∷ vec (pos 1) (negsuc 0) ∷ vec (pos 2) (negsuc 0) ∷ vec (pos 3) (pos 2) ∷ []) (arc 1 3 0 0 ∷ arc 4 5 0 0 ∷ arc 2 0 0 0 ∷ arc 4 3 0 0 ∷ arc 1 6 0 0 ∷ arc 0 3 0 0 ∷ arc 3 6 0 0 ∷ []))
    ≡ at (negsuc 1) (negsuc 0) (pos 1) ∷ at (pos 0) (negsuc 0) (pos 1) ∷ at (pos 1) (negsuc 0) (pos 1) ∷ at (pos 2) (negsuc 0) (pos 1) ∷ at (negsuc 11) (negsuc 6) (pos 11) ∷ at (negsuc 17) (negsuc 4) (pos 11) ∷ at (negsuc 2) (pos 0) (pos 1) ∷ at (pos 1) (pos 0) (pos 2) ∷ at (negsuc 5) (pos 5) (pos 7) ∷ at (negsuc 2) (pos 1) (pos 1) ∷ at (negsuc 1) (pos 3) (pos 3) ∷ at (pos 0) (pos 1) (pos 1) ∷ at (pos 3) (pos 1) (pos 1) ∷ at (negsuc 5) (pos 23) (pos 16) ∷ at (pos 3) (pos 3) (pos 2) ∷ at (pos 3) (pos 5) (pos 3) ∷ at (pos 0) (pos 2) (pos 1) ∷ at (pos 3) (pos 2) (pos 1) ∷ []
unfolding sweep gcd_of
any1 = refl

-- a random one
any2 : over (map_file (vec (negsuc 2) (negsuc 1) ∷ vec (negsuc 2) (pos 2) ∷ vec (negsuc 0) (pos 0) ∷ vec (pos 1) (pos 1) ∷ vec (pos 2) (negsuc 0) ∷ []) (arc 3 1 0 0 ∷ arc 4 1 0 0 ∷ arc 0 4 0 0 ∷ arc 4 3 0 0 ∷ arc 2 1 0 0 ∷ arc 0 1 0 0 ∷ arc 4 2 0 0 ∷ [])) (map_file (vec (negsuc 2) (pos 0) ∷ vec (negsuc 1) (negsuc 1) ∷ vec (negsuc 1) (negsuc 0) ∷ vec (negsuc 0) (negsuc 0) ∷ vec (pos 0) (pos 2) ∷ vec (pos 1) (negsuc 1) ∷ vec (pos 2) (pos 2) ∷ []) (arc 5 2 0 0 ∷ arc 4 6 0 0 ∷ arc 5 3 0 0 ∷ arc 1 5 0 0 ∷ arc 3 6 0 0 ∷ arc 2 3 0 0 ∷ arc 1 0 0 0 ∷ []))
    ≡ at (negsuc 2) (negsuc 1) (pos 1) ∷ at (negsuc 1) (negsuc 1) (pos 1) ∷ at (pos 1) (negsuc 1) (pos 1) ∷ at (negsuc 22) (negsuc 19) (pos 11) ∷ at (negsuc 0) (negsuc 2) (pos 2) ∷ at (negsuc 0) (negsuc 9) (pos 7) ∷ at (negsuc 1) (negsuc 0) (pos 1) ∷ at (negsuc 0) (negsuc 0) (pos 1) ∷ at (pos 2) (negsuc 0) (pos 1) ∷ at (negsuc 0) (negsuc 0) (pos 4) ∷ at (negsuc 2) (pos 0) (pos 1) ∷ at (negsuc 0) (pos 0) (pos 1) ∷ at (pos 1) (pos 1) (pos 8) ∷ at (pos 1) (pos 1) (pos 1) ∷ at (negsuc 2) (pos 2) (pos 1) ∷ at (pos 0) (pos 2) (pos 1) ∷ at (pos 2) (pos 2) (pos 1) ∷ []
unfolding sweep gcd_of
any2 = refl

-- a random one
any3 : over (map_file (vec (negsuc 2) (negsuc 1) ∷ vec (negsuc 2) (pos 1) ∷ vec (negsuc 0) (pos 0) ∷ vec (pos 1) (negsuc 1) ∷ vec (pos 1) (negsuc 0) ∷ []) (arc 3 1 0 0 ∷ arc 0 1 0 0 ∷ arc 3 2 0 0 ∷ arc 2 1 0 0 ∷ arc 0 3 0 0 ∷ arc 4 2 0 0 ∷ arc 3 4 0 0 ∷ [])) (map_file (vec (negsuc 2) (pos 0) ∷ vec (negsuc 2) (pos 2) ∷ vec (negsuc 1) (negsuc 1) ∷ vec (pos 0) (negsuc 1) ∷ vec (pos 0) (pos 2) ∷ vec (pos 1) (negsuc 1) ∷ vec (pos 3) (pos 2) ∷ []) (arc 0 1 0 0 ∷ arc 3 1 0 0 ∷ arc 4 6 0 0 ∷ arc 5 6 0 0 ∷ arc 2 3 0 0 ∷ arc 2 0 0 0 ∷ arc 2 1 0 0 ∷ []))
    ≡ at (negsuc 2) (negsuc 1) (pos 1) ∷ at (negsuc 1) (negsuc 1) (pos 1) ∷ at (pos 0) (negsuc 1) (pos 1) ∷ at (pos 1) (negsuc 1) (pos 1) ∷ at (pos 1) (negsuc 0) (pos 1) ∷ at (negsuc 8) (negsuc 1) (pos 7) ∷ at (negsuc 2) (pos 0) (pos 1) ∷ at (negsuc 0) (pos 0) (pos 1) ∷ at (negsuc 8) (pos 2) (pos 5) ∷ at (negsuc 34) (pos 10) (pos 13) ∷ at (negsuc 18) (pos 6) (pos 7) ∷ at (negsuc 2) (pos 1) (pos 1) ∷ at (negsuc 2) (pos 2) (pos 1) ∷ at (pos 0) (pos 2) (pos 1) ∷ at (pos 3) (pos 2) (pos 1) ∷ []
unfolding sweep gcd_of
any3 = refl

-- S12: two squares
s12 : over (zone 0 0 4 1) (zone 2 2 4 7)
    ≡ at (pos 0) (pos 0) (pos 1) ∷ at (pos 4) (pos 0) (pos 1) ∷ at (pos 2) (pos 2) (pos 1) ∷ at (pos 4) (pos 2) (pos 1) ∷ at (pos 6) (pos 2) (pos 1) ∷ at (pos 0) (pos 4) (pos 1) ∷ at (pos 2) (pos 4) (pos 1) ∷ at (pos 4) (pos 4) (pos 1) ∷ at (pos 2) (pos 6) (pos 1) ∷ at (pos 6) (pos 6) (pos 1) ∷ []
unfolding sweep gcd_of
s12 = refl
