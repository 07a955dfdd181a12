-- How many edges a look reads (02, Ask 8): "Keep each map's edges ordered by lower end. A look takes them from the start and stops at the first whose lower end is higher than the sounding."
-- What it reports is said here, and not how it is found. Assumes nothing.
use Rattle.seq.specs.Seq.{not, List, ℕ, count}
use Rattle.seq.specs.Total.{total}
use Rattle.paper.specs.Plane.{Pt, Vec, whole, below}
use Rattle.paper.specs.Graph.{Graph, edge_count, low}
use Rattle.paper.specs.Map.{Map}

-- "the number of edges of that map whose lower y is not above the sounding's y"; a level edge has one y
abbrev pub edges_read : Graph → Pt → ℕ
edges_read g p = count (λ k. not (below p (low g k))) (edge_count g)

-- of a sounding at the corner c, in all maps
abbrev pub read_for : List Map → Vec → ℕ
read_for ms c = total (λ m. edges_read m.graph (whole c)) ms
