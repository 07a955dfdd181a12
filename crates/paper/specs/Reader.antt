-- The overlay file's reader (01, "Overlay file"), of all known versions. Assumes nothing.
use Rattle.std.specs.Prelude.{◌||◌, ◌∷◌, ◌++◌, ◌+◌, ◌*◌, ◌/◌, ◌%◌}
use Rattle.seq.specs.Seq.{cond, not, List, [], Option, ℕ, ltb, eqb, length, get_or, ℤ, pos, rows, table, position}
use Rattle.paper.specs.Limits.{overlay_vertices, overlay_edges, overlay_faces, overlay_head, denominator_bytes, maps}
use Rattle.paper.specs.Graph.{twin}
use Rattle.paper.specs.Bytes.{ascii, marked, number, u16, signed_at}
use Rattle.paper.specs.Refusal.{given, first_at, first_of, Refusal}
use Rattle.paper.specs.Tables.{least_half, Counts, Tables}
use Rattle.paper.specs.Lent.{room_in, room_faults, outcome, Lengths, Outcome}
use Rattle.paper.specs.Ovfile.{layouts, vertex_size, edge_size, face_size, edges_at, faces_at, file_length, sound_edge, over, Layout, layout_of}

-- ── the stored fields ──

abbrev pub counts_in : List ℕ → Counts
counts_in s = record { vertices = u16 s 5; edges = u16 s 7; faces = u16 s 9 }

-- the 16-bit number j of edge k; of face f
abbrev pub edge_field : Layout → List ℕ → ℕ → ℕ → ℕ
edge_field l s k j = u16 s (edges_at l (counts_in s) + edge_size l * k + 2 * j)

abbrev pub face_field : Layout → List ℕ → ℕ → ℕ → ℕ
face_field l s f j = u16 s (faces_at l (counts_in s) + face_size l * f + 2 * j)

abbrev pub stored_origin : Layout → List ℕ → ℕ → ℕ
stored_origin l s h = edge_field l s (h / 2) (h % 2)

abbrev pub stored_follower : Layout → List ℕ → ℕ → ℕ
stored_follower l s h = edge_field l s (h / 2) (2 + l.maps + h % 2)

abbrev pub stored_face : Layout → List ℕ → ℕ → ℕ
stored_face l s h = edge_field l s (h / 2) (4 + l.maps + h % 2)

-- "a missing third source or label is 0" (02, Ask 13)
abbrev pub stored_source : Layout → List ℕ → ℕ → ℕ → ℕ
stored_source l s k i = cond (ltb i l.maps) (edge_field l s k (2 + i)) 0

abbrev pub stored_label : Layout → List ℕ → ℕ → ℕ → ℕ
stored_label l s f i = cond (ltb i l.maps) (face_field l s f i) 0

-- ── the rows, with what is "worked out": origin, twin, predecessor and least outgoing half-edge ──

abbrev pub vertex_read : Layout → List ℕ → List ℕ → ℕ → List ℤ
vertex_read l s starts v = let w = l.coordinate in let b = overlay_head + vertex_size l * v in
    signed_at w s b ∷ signed_at w s (b + w) ∷ pos (number denominator_bytes s (b + 2 * w))
    ∷ pos (least_half (λ h. eqb (get_or starts h 0) v) (length starts)) ∷ []

abbrev pub half_read : Layout → List ℕ → List ℕ → ℕ → List ℕ
half_read l s nx h = stored_origin l s h ∷ twin h ∷ get_or nx h 0 ∷ position h nx ∷ stored_face l s h ∷ []

abbrev pub face_read : ℕ → Layout → List ℕ → ℕ → List ℕ
face_read n l s f = table (stored_label l s f) n ++ (face_field l s f l.maps ∷ face_field l s f (1 + l.maps) ∷ [])

-- "gives back every stored field as it stands": into tables of n maps
unfoldable pub tables_in : ℕ → Layout → List ℕ → Tables
tables_in n l s =
    let c = counts_in s in
    let starts = table (stored_origin l s) (2 * c.edges) in
    let nx = table (stored_follower l s) (2 * c.edges) in
    record {
      vertices = rows (vertex_read l s starts) c.vertices;
      halves = rows (half_read l s nx) (2 * c.edges);
      sources = rows (λ k. table (stored_source l s k) n) c.edges;
      faces = rows (face_read n l s) c.faces;
    }

-- ── refusals ──

abbrev pub numbers : Counts
numbers = record { vertices = overlay_vertices; edges = overlay_edges; faces = overlay_faces }

-- "1 (under 11 bytes or wrong mark), 2 (version), 3 (a count over its number above), 4 (length)"
abbrev pub head_faults : ℕ → Layout → List ℕ → List (Option Refusal)
head_faults versions l s =
    given 1 0 (ltb (length s) overlay_head || not (marked (ascii "ZOV") s 0))
    ∷ given 2 0 (eqb (u16 s 3) 0 || ltb versions (u16 s 3))
    ∷ given 3 0 (over numbers (counts_in s))
    ∷ given 4 0 (not (eqb (length s) (file_length l (counts_in s))))
    ∷ []

-- "21 or 11 (places 1 to 3), in that order"
abbrev pub read_fault : ℕ → ℕ → Layout → Lengths → List ℕ → Tables → Option Refusal
read_fault n versions l ls s t = let c = counts_in s in
    first_of (head_faults versions l s
    ++ (first_at 21 (λ k. not (sound_edge n c t k)) c.edges ∷ room_faults (room_in n ls) c))

-- ── the reader ──

-- into tables of n maps, of any of the known versions
abbrev pub read_by : ℕ → List Layout → Lengths → List ℕ → Outcome
read_by n known ls s =
    let l = layout_of known (u16 s 3) in
    let t = tables_in n l s in
    outcome ls (counts_in s) t (read_fault n (length known) l ls s t)

abbrev pub read : Lengths → List ℕ → Outcome
read = read_by maps layouts
