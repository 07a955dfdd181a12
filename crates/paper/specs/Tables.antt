-- The overlay's tables as flat lists of numbers: rows of vertices, half-edges, sources and faces. Assumes nothing.
use Rattle.std.specs.Prelude.{◌∷◌, ◌++◌, ◌+◌, ◌*◌}
use Rattle.seq.specs.Seq.{Bool, cond, List, [], map, Option, none, some, ℕ, zero, suc, ltb, length, get_or, replicate, ℤ, pos, least, rows, position, cell}
use Rattle.paper.specs.Limits.{absent}
use Rattle.paper.specs.Graph.{edge_count, the_half_count, point, twin, origin, leaves, Graph}
use Rattle.paper.specs.Map.{Map}
use Rattle.paper.specs.Faces.{net, sources_of, labels_of, holes_of, Overlay}

-- "the three counts"
pub record Counts : Type 0 where
  pub vertices : ℕ
  pub edges : ℕ
  pub faces : ℕ

-- the numbers in a vertex's, a half-edge's and a face's row, of n maps. An edge has n sources
abbrev pub vertex_width : ℕ
vertex_width = 4

abbrev pub half_width : ℕ
half_width = 5

abbrev pub face_width : ℕ → ℕ
face_width n = n + 2

-- the four flat tables, rows end to end
pub record Tables : Type 0 where
  pub vertices : List ℤ
  pub halves : List ℕ
  pub sources : List ℕ
  pub faces : List ℕ

-- ── a table's cells by name ──

abbrev pub vertex_cell : Tables → ℕ → ℕ → ℤ
vertex_cell t v j = cell (pos 0) vertex_width t.vertices v j

abbrev pub half_cell : Tables → ℕ → ℕ → ℕ
half_cell t h j = cell 0 half_width t.halves h j

-- "A half-edge holds origin, twin, follower, predecessor, face"
abbrev pub origin_of : Tables → ℕ → ℕ
origin_of t h = half_cell t h 0

abbrev pub twin_of : Tables → ℕ → ℕ
twin_of t h = half_cell t h 1

abbrev pub follower_of : Tables → ℕ → ℕ
follower_of t h = half_cell t h 2

abbrev pub predecessor_of : Tables → ℕ → ℕ
predecessor_of t h = half_cell t h 3

abbrev pub face_of : Tables → ℕ → ℕ
face_of t h = half_cell t h 4

-- of n maps, source i of edge k: a number + 1 or 0
abbrev pub source_cell : ℕ → Tables → ℕ → ℕ → ℕ
source_cell n t k i = cell 0 n t.sources k i

-- of n maps, face f: its labels, then "that number (65,535 for face 0), and its count of hole walks"
abbrev pub face_cell : ℕ → Tables → ℕ → ℕ → ℕ
face_cell n t f j = cell 0 (face_width n) t.faces f j

-- ── the tables of an overlay ──

-- the least half-edge below n that has p, "65,535 if none"
abbrev pub least_half : (ℕ → Bool) → ℕ → ℕ
least_half p n = let h = least p n in cond (ltb h n) h absent

-- "each with its least outgoing half-edge"
abbrev pub vertex_row : Graph → ℕ → List ℤ
vertex_row g v = let p = point g v in
    p.X ∷ p.Y ∷ p.D ∷ pos (least_half (leaves g v) (the_half_count g)) ∷ []

-- "The predecessor is the inverse": where h stands in the list of followers
abbrev pub half_row : Overlay → ℕ → List ℕ
half_row o h = let nx = o.walks.next in
    origin (net o) h ∷ twin h ∷ get_or nx h 0 ∷ position h nx ∷ get_or o.face h 0 ∷ []

abbrev pub the_plus_one : Option ℕ → ℕ
the_plus_one none = 0
the_plus_one (some k) = suc k

abbrev pub the_source_row : Overlay → ℕ → List ℕ
the_source_row o k = map the_plus_one (sources_of o k)

-- "Face 0 is the outside, pair (0, 0)"; "A face holds the pair of its least outer half-edge, that number .. and its count of hole walks"
abbrev pub face_row : List Map → Overlay → ℕ → List ℕ
face_row ms o zero = replicate (length ms) 0 ++ (absent ∷ holes_of o 0 ∷ [])
face_row ms o (suc f) = let h = get_or o.outers f 0 in labels_of ms o h ++ (h ∷ holes_of o (suc f) ∷ [])

abbrev pub counts_of : Overlay → Counts
counts_of o = record { vertices = length (net o).points; edges = edge_count (net o); faces = suc (length o.outers) }

unfoldable pub tables_of : List Map → Overlay → Tables
tables_of ms o = let c = counts_of o in record {
  vertices = rows (vertex_row (net o)) c.vertices;
  halves = rows (half_row o) (2 * c.edges);
  sources = rows (the_source_row o) c.edges;
  faces = rows (face_row ms o) c.faces;
}
