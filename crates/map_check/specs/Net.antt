-- Rules 8 and 9 on flat tables: what the code tests of one edge or vertex. Assumes nothing.
use Rattle.std.specs.Prelude.{◌&&◌}
use Rattle.seq.specs.Seq.{Bool, not, List, Option, ℕ, eqb, ℤ, least, the_some_below}
use Rattle.paper.specs.Plane.{clash}
use Rattle.paper.specs.Refusal.{beside, Refusal}
use Rattle.graph.specs.Flat.{carrier_at, origin_at}

-- edges k and j are two, and share a point that is not an end of both
abbrev pub clash_at : List ℤ → ℕ → ℕ → Bool
clash_at cs k j = not (eqb k j) && clash (carrier_at cs k) (carrier_at cs j)

-- 8 "an edge shares with another any point that is not an end of both", of e edges
abbrev pub clashing_at : List ℤ → ℕ → ℕ → Bool
clashing_at cs e k = the_some_below (clash_at cs k) e

-- its place, of e edges, and "the other edge's number, the least one that clashes with it"
abbrev pub clash_place_at : List ℤ → ℕ → ℕ
clash_place_at cs e = least (clashing_at cs e) e

abbrev pub clash_fault_at : List ℤ → ℕ → Option Refusal
clash_fault_at cs e = let k = clash_place_at cs e in beside 8 k (least (clash_at cs k) e) (the_some_below (clashing_at cs e) e)

-- half-edge h starts from vertex v
abbrev pub starts_at : List ℕ → ℕ → ℕ → Bool
starts_at os v h = eqb (origin_at os h) v

-- 9 "a vertex has no edge", of m half-edges
abbrev pub lonely_at : List ℕ → ℕ → ℕ → Bool
lonely_at os m v = not (the_some_below (starts_at os v) m)
