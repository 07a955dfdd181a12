-- Rule 10 on flat tables: what the code tests of one half-edge, and what its tables are (`Linked`). Assumes nothing.
use Rattle.std.specs.Prelude.{◌≤◌, ◌<◌, ◌&&◌, ◌||◌, ◌∷◌, ◌*◌}
use Rattle.seq.specs.Seq.{Bool, true, not, List, [], ℕ, eqb, length, get_or, ℤ, walk_from}
use Rattle.paper.specs.Limits.{absent}
use Rattle.paper.specs.Plane.{nowhere, before}
use Rattle.graph.specs.Flat.{origin_at, start_at, flat_graph, Flat, Starts, Numbers}
use Rattle.graph.specs.Look.{seen_label}

-- no element of a list has p
abbrev pub the_none_of : (ℕ → Bool) → List ℕ → Bool
the_none_of p [] = true
the_none_of p (x ∷ xs) = not (p x) && the_none_of p xs

-- its label differs from its follower's
abbrev pub unlike : List ℕ → List ℕ → ℕ → Bool
unlike ls nx h = not (eqb (get_or ls h 0) (get_or ls (get_or nx h 0) 0))

-- x starts at a smaller vertex than h
abbrev pub earlier_at : List ℤ → List ℕ → ℕ → ℕ → Bool
earlier_at ps os h x = before (start_at ps os x) (start_at ps os h)

-- no half-edge of the walk of h, in at most m steps, starts at a smaller vertex
abbrev pub smallest_at : List ℤ → List ℕ → List ℕ → ℕ → ℕ → Bool
smallest_at ps os nx m h = the_none_of (earlier_at ps os h) (walk_from nx h m (get_or nx h 0))

-- the table gs has h as the half-edge of greatest angle out of its origin
abbrev pub top_at : List ℕ → List ℕ → ℕ → Bool
top_at os gs h = eqb (get_or gs (origin_at os h) 0) h

-- it does, and of m half-edges none on the walk of h starts at a smaller vertex
abbrev pub makes_hole_at : List ℤ → List ℕ → List ℕ → List ℕ → ℕ → ℕ → Bool
makes_hole_at ps os gs nx m h = top_at os gs h && smallest_at ps os nx m h

-- the label of what is seen strictly west of where h starts, or 0 "where the outside is seen"
abbrev pub seen_west : List ℤ → List ℕ → List ℤ → List ℕ → ℕ → ℕ → ℕ → ℕ
seen_west ps os cs ls n e h = seen_label (flat_graph ps os cs n e) ls (start_at ps os h) nowhere

-- 10 "Labels disagree at a half-edge"
abbrev pub disagrees_at : List ℤ → List ℕ → List ℤ → List ℕ → List ℕ → List ℕ → ℕ → ℕ → ℕ → Bool
disagrees_at ps os cs ls gs nx n e h = unlike ls nx h || (makes_hole_at ps os gs nx (2 * e) h && not (eqb (get_or ls h 0) (seen_west ps os cs ls n e h)))

-- ── the tables ──

-- where each of m half-edges starts, and what follows it
pub record Walked (ps : List ℤ) (os nx : List ℕ) (m : ℕ) : Type 0 where
  pub starts : (x : ℕ) → x < m → Starts ps os x
  pub next : Numbers nx m m

-- a graph of n points and e edges with its labels, a half-edge for each point and followers
pub record Linked (ps : List ℤ) (os : List ℕ) (cs : List ℤ) (ls gs nx : List ℕ) (n e : ℕ) : Type 0 where
  pub flat : Flat ps os cs n e
  pub few : 2 * e ≤ absent
  pub labels : 2 * e ≤ length ls
  pub heads : n ≤ length gs
  pub next : Numbers nx (2 * e) (2 * e)
