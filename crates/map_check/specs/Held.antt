-- The map that flat tables hold; and the tables of a file's map: room for them, what is read of the file (`MapRead`), and all of them (`MapLaid`). Assumes nothing.
use Rattle.std.specs.Prelude.{◌≡◌, ◌≤◌, ◌<◌, ◌*◌}
use Rattle.seq.specs.Seq.{Option, none, some, List, ℕ, length, take, ℤ, filled, laid}
use Rattle.paper.specs.Refusal.{Refusal, first_of}
use Rattle.paper.specs.Graph.{point, origin}
use Rattle.paper.specs.Map.{Map, label, vertex_count, edges_in, map_of, form_faults}
use Rattle.graph.specs.Flat.{the_point_at, origin_at, flat_graph}
use Rattle.map_file.specs.Rows.{point_row, carrier_row}

-- n points, e edges, and of each half-edge its label
abbrev pub flat_map : List ℤ → List ℕ → List ℤ → List ℕ → ℕ → ℕ → Map
flat_map ps os cs ls n e = record { graph = flat_graph ps os cs n e; labels = ls }

-- room for v vertices and e edges
pub record MapRoom (v e : ℕ) (ps : List ℤ) (os : List ℕ) (cs : List ℤ) (ls : List ℕ) : Type 0 where
  pub corners : 4 * v ≤ length ps
  pub origins : 2 * e ≤ length os
  pub carriers : 4 * e ≤ length cs
  pub labels : 2 * e ≤ length ls

-- a number, and nothing where there is a refusal
abbrev pub unless_refused : Option Refusal → ℕ → ℕ
unless_refused none n = n
unless_refused (some r) n = 0

-- of the rows that a file's header counts, those for which room is needed: none where it breaks one of rules 1 to 4, as then nothing is stored
unfoldable pub stored : (List ℕ → ℕ) → List ℕ → ℕ
stored count s = unless_refused (first_of (form_faults s)) (count s)

-- the points, origins and labels of the file's map stand in the tables
pub record MapRead (s : List ℕ) (ps : List ℤ) (os ls : List ℕ) : Type 0 where
  pub points_long : 4 * vertex_count s ≤ length ps
  pub point_is : (v : ℕ) → v < vertex_count s → the_point_at ps v ≡ point (map_of s).graph v
  pub origins_long : 2 * edges_in s ≤ length os
  pub origin_is : (h : ℕ) → h < 2 * edges_in s → origin_at os h ≡ origin (map_of s).graph h
  pub labels_long : 2 * edges_in s ≤ length ls
  pub labels-are : take (2 * edges_in s) ls ≡ (map_of s).labels

-- all tables of the file's map stand over what was there before
pub record MapLaid (s : List ℕ) (dps : List ℤ) (dos : List ℕ) (dcs : List ℤ) (dls : List ℕ) (ps : List ℤ) (os : List ℕ) (cs : List ℤ) (ls : List ℕ) : Type 0 where
  pub corners-are : ps ≡ laid (vertex_count s) (point_row (map_of s).graph) dps
  pub origins-are : os ≡ filled (2 * edges_in s) (origin (map_of s).graph) dos
  pub carriers-are : cs ≡ laid (edges_in s) (carrier_row (map_of s).graph) dcs
  pub labels-are : ls ≡ filled (2 * edges_in s) (label (map_of s)) dls
