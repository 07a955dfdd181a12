-- The tables of all maps, one map after the other: a record of lists, which contracts name and no function holds; and what stands in them of a list of files.
-- In order: the tables; one file's map; a map behind others; all of them. Assumes nothing.
use Rattle.std.specs.Prelude.{◌≡◌, ◌<◌, ◌∷◌, ◌+◌, ◌*◌}
use Rattle.seq.specs.Seq.{List, [], ℕ, length, sets, ℤ, rows, table, gather, over}
use Rattle.seq.specs.Total.{total}
use Rattle.paper.specs.Limits.{maps}
use Rattle.paper.specs.Graph.{origin}
use Rattle.paper.specs.Map.{map_of, vertex_count, edges_in, label}
use Rattle.map_file.specs.Rows.{point_row, carrier_row}
use Rattle.map_check.specs.Held.{MapRoom, stored}

-- where each map's vertices and edges start, and after the last where they end; then the rows and cells of the maps
pub record Layers : Type 0 where
  pub vertices : List ℕ
  pub edges : List ℕ
  pub corners : List ℤ
  pub origins : List ℕ
  pub carriers : List ℤ
  pub labels : List ℕ

-- of the tables that a function is lent
abbrev pub layers_by : List ℕ → List ℕ → List ℤ → List ℕ → List ℤ → List ℕ → Layers
layers_by vs es ps os cs ls = record { vertices = vs; edges = es; corners = ps; origins = os; carriers = cs; labels = ls }

-- ── one file's map ──

abbrev pub corners_of : List ℕ → List ℤ
corners_of s = rows (point_row (map_of s).graph) (vertex_count s)

abbrev pub origins_of : List ℕ → List ℕ
origins_of s = table (origin (map_of s).graph) (2 * edges_in s)

abbrev pub carriers_of : List ℕ → List ℤ
carriers_of s = rows (carrier_row (map_of s).graph) (edges_in s)

abbrev pub labels_of : List ℕ → List ℕ
labels_of s = table (label (map_of s)) (2 * edges_in s)

-- ── a map behind v vertices and e edges ──

-- room for the file's map there
abbrev pub RoomFrom : List ℕ → ℕ → ℕ → List ℤ → List ℕ → List ℤ → List ℕ → Type 0
RoomFrom s v e ps os cs ls = MapRoom (v + stored vertex_count s) (e + stored edges_in s) ps os cs ls

-- the file's map is stored there
pub record LaidFrom (s : List ℕ) (v e : ℕ) (dps : List ℤ) (dos : List ℕ) (dcs : List ℤ) (dls : List ℕ) (ps : List ℤ) (os : List ℕ) (cs : List ℤ) (ls : List ℕ) : Type 0 where
  pub corners-are : ps ≡ sets dps (4 * v) (corners_of s)
  pub origins-are : os ≡ sets dos (2 * e) (origins_of s)
  pub carriers-are : cs ≡ sets dcs (4 * e) (carriers_of s)
  pub labels-are : ls ≡ sets dls (2 * e) (labels_of s)

-- ── the maps of a list of files ──

-- where each starts when the first starts at n, and after the last where it ends
abbrev pub starts : (List ℕ → ℕ) → ℕ → List (List ℕ) → List ℕ
starts count n [] = n ∷ []
starts count n (s ∷ files) = n ∷ starts count (n + count s) files

-- the maps stand one after the other, over what was there before
pub record Stacked (files : List (List ℕ)) (dps : List ℤ) (dos : List ℕ) (dcs : List ℤ) (dls : List ℕ) (ps : List ℤ) (os : List ℕ) (cs : List ℤ) (ls : List ℕ) : Type 0 where
  pub corners-are : ps ≡ over (gather corners_of files) dps
  pub origins-are : os ≡ over (gather origins_of files) dos
  pub carriers-are : cs ≡ over (gather carriers_of files) dcs
  pub labels-are : ls ≡ over (gather labels_of files) dls

-- so they do in the layers l, over d, with their starts
pub record Layered (files : List (List ℕ)) (d l : Layers) : Type 0 where
  pub vertices-are : l.vertices ≡ over (starts vertex_count 0 files) d.vertices
  pub edges_are : l.edges ≡ over (starts edges_in 0 files) d.edges
  pub stacked : Stacked files d.corners d.origins d.carriers d.labels l.corners l.origins l.carriers l.labels

-- ── room for them ──

abbrev pub StackRoom : List (List ℕ) → List ℤ → List ℕ → List ℤ → List ℕ → Type 0
StackRoom files ps os cs ls = MapRoom (total (stored vertex_count) files) (total (stored edges_in) files) ps os cs ls

-- with their starts
pub record LayerRoom (files : List (List ℕ)) (d : Layers) : Type 0 where
  pub vertices : maps < length d.vertices
  pub edges : maps < length d.edges
  pub tables : StackRoom files d.corners d.origins d.carriers d.labels
