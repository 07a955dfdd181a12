-- The overlay file (01, "Overlay file"): its versions' layouts, which edge records are sound, and its writer, which "takes any counts and tables". Assumes nothing.
use Rattle.std.specs.Prelude.{◌&&◌, ◌∷◌, ◌++◌, ◌+◌, ◌*◌, ◌||◌, ◌-◌}
use Rattle.seq.specs.Seq.{Bool, List, [], ℕ, ltb, get_or, table, not, eqb, the_some_below, rows, gather}
use Rattle.paper.specs.Limits.{overlay_head, first_coordinate_bytes, coordinate_bytes, denominator_bytes, maps}
use Rattle.paper.specs.Graph.{twin}
use Rattle.paper.specs.Bytes.{ascii, le, le_signed}
use Rattle.paper.specs.Tables.{face_width, vertex_cell, origin_of, follower_of, face_of, source_cell, face_cell, least_half, Counts, Tables}

-- a version: how many bytes X and Y have each, and how many sources and labels are stored
pub record Layout : Type 0 where
  pub coordinate : ℕ
  pub maps : ℕ

-- the layouts of version 1, 2, 3: "overlay files get version 2 with six bytes each" (02, Ask 7); "version 3: a third source after the second and a third label after the second" (02, Ask 13).
-- "The writer writes 3, the reader takes all three versions": the last is written
abbrev pub layouts : List Layout
layouts =
    record { coordinate = first_coordinate_bytes; maps = 2 }
    ∷ record { coordinate = coordinate_bytes; maps = 2 }
    ∷ record { coordinate = coordinate_bytes; maps = maps }
    ∷ []

-- the bytes of one vertex, edge and face
abbrev pub vertex_size : Layout → ℕ
vertex_size l = 2 * l.coordinate + denominator_bytes

abbrev pub edge_size : Layout → ℕ
edge_size l = 12 + 2 * l.maps

abbrev pub face_size : Layout → ℕ
face_size l = 4 + 2 * l.maps

-- "Length is 11 + 14 per vertex + 16 per edge + 8 per face" in version 1, "11 + 16 per vertex + 16 per edge + 8 per face" in version 2, "11 + 16 per vertex + 18 per edge + 10 per face" in version 3: where edges and faces start, and the whole
abbrev pub edges_at : Layout → Counts → ℕ
edges_at l c = overlay_head + vertex_size l * c.vertices

abbrev pub faces_at : Layout → Counts → ℕ
faces_at l c = edges_at l c + edge_size l * c.edges

abbrev pub file_length : Layout → Counts → ℕ
file_length l c = faces_at l c + face_size l * c.faces

-- ── sound edge records, in tables of n maps ──

-- "each follower is a half-edge of the file, starts where its half-edge ends, and follows no half-edge of lower number"
abbrev pub sound_follower : Counts → Tables → ℕ → Bool
sound_follower c t h = let f = follower_of t h in
    ltb f (2 * c.edges)
    && (eqb (origin_of t f) (origin_of t (twin h)) && not (the_some_below (λ j. eqb (follower_of t j) f) h))

-- "a source is not 0"
abbrev pub has_source : ℕ → Tables → ℕ → Bool
has_source n t k = the_some_below (λ i. not (eqb (source_cell n t k i) 0)) n

-- "its lower number is below its upper and both are below the vertex count, a source is not 0, both faces are below the face count"
abbrev pub sound_edge : ℕ → Counts → Tables → ℕ → Bool
sound_edge n c t k = let a = 2 * k in let b = 2 * k + 1 in
    (ltb (origin_of t a) (origin_of t b) && ltb (origin_of t b) c.vertices)
    && (has_source n t k
    && ((ltb (face_of t a) c.faces && ltb (face_of t b) c.faces)
    && (sound_follower c t a && sound_follower c t b)))

-- the least of the counted half-edges that starts at v, "65,535 if none"
abbrev pub least_start : Counts → Tables → ℕ → ℕ
least_start c t v = least_half (λ h. eqb (origin_of t h) v) (2 * c.edges)

-- ── the bytes ──

-- "X and Y in five bytes each (two's complement) and D in four (unsigned)"; in version 2 in six each
abbrev pub vertex_bytes : Layout → Tables → ℕ → List ℕ
vertex_bytes l t v =
    le_signed l.coordinate (vertex_cell t v 0) ++ le_signed l.coordinate (vertex_cell t v 1)
    ++ le_signed denominator_bytes (vertex_cell t v 2)

-- "lower and upper, .. first source + 1 or 0, second source + 1 or 0, .. follower of 2k, of 2k+1, face of 2k, of 2k+1"
abbrev pub edge_fields : ℕ → Tables → ℕ → List ℕ
edge_fields n t k = let a = 2 * k in let b = 2 * k + 1 in
    origin_of t a ∷ origin_of t b
    ∷ (table (source_cell n t k) n ++ (follower_of t a ∷ follower_of t b ∷ face_of t a ∷ face_of t b ∷ []))

-- "faces as four (labels, least half-edge, holes)", of three maps as five
abbrev pub face_fields : ℕ → Tables → ℕ → List ℕ
face_fields n t f = table (face_cell n t f) (face_width n)

-- "mark `ZOV`, 16-bit version .., three counts"
unfoldable pub overlay_file : ℕ → Layout → Counts → Tables → List ℕ
overlay_file version l c t =
    ascii "ZOV" ++ gather (le 2) (version ∷ c.vertices ∷ c.edges ∷ c.faces ∷ [])
    ++ rows (vertex_bytes l t) c.vertices
    ++ rows (λ k. gather (le 2) (edge_fields l.maps t k)) c.edges
    ++ rows (λ f. gather (le 2) (face_fields l.maps t f)) c.faces

-- counts over room: 3 "a count over its number or its table"
abbrev pub over : Counts → Counts → Bool
over room c = ltb room.vertices c.vertices || (ltb room.edges c.edges || ltb room.faces c.faces)

-- the layout of a version, among the known ones
abbrev pub layout_of : List Layout → ℕ → Layout
layout_of known version = get_or known (version - 1) (record { coordinate = 0; maps = 0 })
