-- A half-edge out of each walk's smallest vertex, and from it and the half-edge of greatest angle out of each vertex the one out of the smallest vertex of each
-- half-edge's walk: what the code computes, over tables. Assumes nothing.
use Rattle.seq.specs.Seq.{Bool, List, ℕ, get_or, ℤ}
use Rattle.seq.specs.Loops.Choosing.{chosen_or}
use Rattle.paper.specs.Limits.{absent}
use Rattle.paper.specs.Plane.{before}
use Rattle.graph.specs.Flat.{origin_at, start_at}

-- h starts before r
abbrev pub earlier_at : List ℤ → List ℕ → ℕ → ℕ → Bool
earlier_at ps os h r = before (start_at ps os h) (start_at ps os r)

-- a half-edge of the walk that l leads, out of its smallest vertex
abbrev pub low_at : List ℤ → List ℕ → List ℕ → ℕ → ℕ → ℕ
low_at ps os ls m l = chosen_or (λ h. get_or ls h 0) (earlier_at ps os) absent m l

-- from the leaders ls, the low half-edges lo and the greatest gs
abbrev pub top_at : List ℕ → List ℕ → List ℕ → List ℕ → ℕ → ℕ
top_at os ls lo gs h = get_or gs (origin_at os (get_or lo (get_or ls h 0) 0)) 0
