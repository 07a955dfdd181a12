-- Rules 5 to 7 on flat tables: what the code tests of one vertex or edge of n vertices and e edges. On the tables of a map these are the definitions of 01
-- (proofs/PartsLaws.antt). Then what they leave: corners within range, from which the carriers are made. Assumes nothing.
use Rattle.std.specs.Prelude.{◌≤◌, ◌<◌, ◌||◌, ◌∷◌, ◌+◌, ◌*◌}
use Rattle.seq.specs.Seq.{Bool, List, [], Option, ℕ, ltb, leb, eqb, length, ℤ, nat_abs, the_some_below}
use Rattle.paper.specs.Limits.{reach}
use Rattle.paper.specs.Plane.{Vec, vec, whole, same, between, Seg}
use Rattle.paper.specs.Refusal.{first_at, Refusal}
use Rattle.plane.specs.Bounds.{Corner}
use Rattle.graph.specs.Flat.{number_at, origin_at}

-- the corner in row v
abbrev pub corner_in : List ℤ → ℕ → Vec
corner_in ps v = vec (number_at ps v 0) (number_at ps v 1)

-- 5 "a coordinate beyond its range"
abbrev pub far_at : List ℤ → ℕ → Bool
far_at ps v = ltb reach (nat_abs (number_at ps v 0)) || ltb reach (nat_abs (number_at ps v 1))

-- vertex v lies on vertex u
abbrev pub lies_on : List ℤ → ℕ → ℕ → Bool
lies_on ps v u = same (whole (corner_in ps v)) (whole (corner_in ps u))

-- 6 "a vertex lies on one of lower number"
abbrev pub doubled_at : List ℤ → ℕ → Bool
doubled_at ps v = the_some_below (lies_on ps v) v

-- 7 "an end names no vertex, or both ends are the same"
abbrev pub bad_ends_at : List ℕ → ℕ → ℕ → Bool
bad_ends_at os n k = let a = origin_at os (2 * k) in let b = origin_at os (2 * k + 1) in
    (leb n a || leb n b) || eqb a b

abbrev pub part_faults_at : List ℤ → List ℕ → ℕ → ℕ → List (Option Refusal)
part_faults_at ps os n e = first_at 5 (far_at ps) n ∷ first_at 6 (doubled_at ps) n ∷ first_at 7 (bad_ends_at os n) e ∷ []

-- ── what they leave ──

-- n corners within range
pub record Corners (ps : List ℤ) (n : ℕ) : Type 0 where
  pub long : 4 * n ≤ length ps
  pub near : (v : ℕ) → v < n → Corner (corner_in ps v)

-- edge k from its lower end
abbrev pub carrier_by : List ℤ → List ℕ → ℕ → Seg
carrier_by ps os k = between (corner_in ps (origin_at os (2 * k))) (corner_in ps (origin_at os (2 * k + 1)))

abbrev pub carrier_row_by : List ℤ → List ℕ → ℕ → List ℤ
carrier_row_by ps os k = let c = carrier_by ps os k in c.foot.x ∷ c.foot.y ∷ c.up.x ∷ c.up.y ∷ []
