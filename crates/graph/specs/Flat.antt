-- A graph as the code holds it: flat tables of numbers, and the graph of document 01's definitions that they are. A point is a row of four
-- numbers (X, Y, D and a spare cell), an origin one number for each half-edge, a carrier a row of four (foot and direction).
-- Then how large the numbers are, by document 01's limits. Assumes nothing.
use Rattle.std.specs.Prelude.{◌<◌, ◌≤◌, ◌+◌, ◌*◌}
use Rattle.seq.specs.Seq.{List, ℕ, length, get_or, ℤ, pos, cell, table}
use Rattle.exact.specs.Lowest.{pt}
use Rattle.paper.specs.Plane.{Pt, Seg}
use Rattle.paper.specs.Graph.{Graph, Edge}
use Rattle.plane.specs.Values.{seg}
use Rattle.plane.specs.Bounds as Bounds

abbrev pub point_width : ℕ
point_width = 4

abbrev pub carrier_width : ℕ
carrier_width = 4

abbrev pub number_at : List ℤ → ℕ → ℕ → ℤ
number_at t i j = cell (pos 0) 4 t i j

-- the point in row v
abbrev pub the_point_at : List ℤ → ℕ → Pt
the_point_at ps v = pt (number_at ps v 0) (number_at ps v 1) (number_at ps v 2)

-- the carrier in row k
abbrev pub carrier_at : List ℤ → ℕ → Seg
carrier_at cs k = seg (number_at cs k 0) (number_at cs k 1) (number_at cs k 2) (number_at cs k 3)

abbrev pub origin_at : List ℕ → ℕ → ℕ
origin_at os h = get_or os h 0

-- edge k
abbrev pub the_edge_at : List ℕ → List ℤ → ℕ → Edge
the_edge_at os cs k = record { from = origin_at os (2 * k); to = origin_at os (2 * k + 1); carrier = carrier_at cs k }

-- the graph of n points and e edges
unfoldable pub flat_graph : List ℤ → List ℕ → List ℤ → ℕ → ℕ → Graph
flat_graph ps os cs n e = record { points = table (the_point_at ps) n; edges = table (the_edge_at os cs) e }

-- ── how large ──

-- row v of the points is a point of an edge between corners
abbrev pub NearAt : List ℤ → ℕ → Type 0
NearAt ps v = Bounds.Near (the_point_at ps v)

-- row k of the carriers is an edge between corners
abbrev pub EdgeAt : List ℤ → ℕ → Type 0
EdgeAt cs k = Bounds.Edge (carrier_at cs k)

-- n points
pub record Points (ps : List ℤ) (n : ℕ) : Type 0 where
  pub long : 4 * n ≤ length ps
  pub near : (v : ℕ) → v < n → NearAt ps v

-- m numbers, each below n
pub record Numbers (xs : List ℕ) (m n : ℕ) : Type 0 where
  pub long : m ≤ length xs
  pub named : (i : ℕ) → i < m → get_or xs i 0 < n

-- the origins of m half-edges among n points
abbrev pub Origins : List ℕ → ℕ → ℕ → Type 0
Origins os m n = Numbers os m n

-- e carriers
pub record Carriers (cs : List ℤ) (e : ℕ) : Type 0 where
  pub long : 4 * e ≤ length cs
  pub near : (k : ℕ) → k < e → EdgeAt cs k

-- the tables of a graph of n points and e edges
pub record Flat (ps : List ℤ) (os : List ℕ) (cs : List ℤ) (n e : ℕ) : Type 0 where
  pub points : Points ps n
  pub origins : Origins os (2 * e) n
  pub carriers : Carriers cs e

-- ── how a function reads the tables ──

-- where half-edge h starts
abbrev pub start_at : List ℤ → List ℕ → ℕ → Pt
start_at ps os h = the_point_at ps (origin_at os h)

-- half-edge h has an origin, that has a row, and it is a point
pub record Starts (ps : List ℤ) (os : List ℕ) (h : ℕ) : Type 0 where
  pub named : h < length os
  pub row : 4 * origin_at os h + 4 ≤ length ps
  pub near : NearAt ps (origin_at os h)

-- edge k has a carrier
pub record Carried (cs : List ℤ) (k : ℕ) : Type 0 where
  pub row : 4 * k + 4 ≤ length cs
  pub near : EdgeAt cs k
