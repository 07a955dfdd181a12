-- What is stored is the tables of the overlay of the points and pieces that the stages hold: `stored_is`. In order: the counts; rows of vertices, half-edges and sources. Assumes nothing.
use Rattle.std.specs.Prelude.{◌∷◌, ◌+◌, ◌*◌}
use mathlib.Core.Path.{◌≡◌, refl, sym, ◌∙◌, ap}
use Prim.Native.Nat.{◌<◌}
use native.Mathlib.Numerals.{add-one}
use Rattle.seq.specs.Seq.{List, [], map, ℕ, zero, suc, length, get_or, pos, padded, rows}
use Rattle.seq.specs.Table.{table_at, table-ext, table-map}
use Rattle.seq.specs.Rows.{rows_ext}
use Rattle.paper.specs.Limits.{maps}
use Rattle.paper.specs.Graph.{Graph, edge_count, point, origin, twin}
use Rattle.paper.specs.Map.{Map}
use Rattle.paper.specs.Pieces.{Piece}
use Rattle.paper.specs.Faces.{Overlay, net}
use Rattle.paper.specs.Tables.{the_plus_one, vertex_row, half_row, the_source_row, face_row, counts_of, tables_of}
use Rattle.laws_file.specs.Agree.{padded-cell}
use Rattle.graph.specs.Flat.{the_point_at, flat_graph}
use Rattle.graph.specs.Laws.Decode.{flat-points, flat-edges, flat-point, flat_origin}
use Rattle.overlay_cut.specs.PieceRows.{minus_one, piece_at, no_piece}
use Rattle.overlay_cut.specs.Net.{the_source_in}
use Rattle.tables.specs.Rows.{vertex_of, half_of, source_of, face_by}
use Rattle.overlay_graph.specs.Cut.{Cut, overlay_in}
use Rattle.overlay_graph.specs.Traced.{Traced, TracedOf}
use Rattle.overlay_fill.specs.Stored.{stored, stored_counts}

stored-source : (n : ℕ) → the_plus_one (minus_one n) ≡ n
stored-source zero = refl
stored-source (suc k) = refl

module _ (ms : List Map) (c : Cut) where
  abbrev o : Overlay
  o = overlay_in ms c

  -- ── the pieces ──

  source_row : (k : ℕ) → k < c.edges → source_of c.pieces k ≡ the_source_row o k
  unfolding overlay_in
  source_row k l =
      let at : get_or o.pieces k no_piece ≡ piece_at c.pieces k = table_at (piece_at c.pieces) c.edges k no_piece l in
      let in_map : ℕ → ℕ = λ m. the_source_in c.pieces k m in
      table-ext in_map (λ m. the_plus_one (minus_one (in_map m))) maps (λ m h. sym (stored-source (in_map m)))
      ∙ sym (table-map the_plus_one (λ m. minus_one (in_map m)) maps) ∙ ap (λ (p : Piece). map the_plus_one p.sources) (sym at)

  module _ (t : Traced) (T : TracedOf ms c t) where
    abbrev flat : Graph
    flat = flat_graph c.points t.origins t.carriers c.vertices c.edges

    -- ── the counts ──

    vertices-count : c.vertices ≡ length (net o).points
    vertices-count = sym (flat-points c.points t.origins t.carriers c.vertices c.edges) ∙ ap (λ (g : Graph). length g.points) T.net_by.net_is

    edges-count : c.edges ≡ edge_count (net o)
    edges-count = sym (flat-edges c.points t.origins t.carriers c.vertices c.edges) ∙ ap edge_count T.net_by.net_is

    -- ── rows ──

    point_is : (v : ℕ) → v < c.vertices → the_point_at c.points v ≡ point (net o) v
    point_is v l = sym (flat-point c.points t.origins t.carriers c.vertices c.edges v l) ∙ ap (λ (g : Graph). point g v) T.net_by.net_is

    vertex-row : (v : ℕ) → v < c.vertices → vertex_of c.points t.least v ≡ vertex_row (net o) v
    vertex-row v l = λ i. (point_is v l i).X ∷ (point_is v l i).Y ∷ (point_is v l i).D ∷ pos (T.least_is v l i) ∷ []

    origin_is : (h : ℕ) → h < 2 * c.edges → get_or t.origins h 0 ≡ origin (net o) h
    origin_is h l = sym (flat_origin c.points t.origins t.carriers c.vertices c.edges h l) ∙ ap (λ (g : Graph). origin g h) T.net_by.net_is

    cell_is : (xs ys : List ℕ) (n h : ℕ) → xs ≡ padded 0 n ys → get_or xs h 0 ≡ get_or ys h 0
    cell_is xs ys n h e = ap (λ (l : List ℕ). get_or l h 0) e ∙ padded-cell 0 n ys h

    half-row : (h : ℕ) → h < 2 * c.edges → half_of t.origins t.next t.prev t.face h ≡ half_row o h
    half-row h l =
        let next = cell_is t.next o.walks.next _ h T.faces_by.next_is.is in
        let face = cell_is t.face o.face _ h T.faces_by.face_is.is in
        λ i. origin_is h l i ∷ twin h ∷ next i ∷ T.prev_is h l i ∷ face i ∷ []

    -- ── the tables ──

    module _ (labels outer counts : List ℕ) (faces : rows (face_by labels outer counts) (t.count + 1) ≡ rows (face_row ms o) (t.count + 1)) where
      faces-count : t.count + 1 ≡ suc (length o.outers)
      faces-count = add-one t.count ∙ ap suc T.faces_by.count_is

      pub counts-are : stored_counts c (t.count + 1) ≡ counts_of o
      counts-are = λ i. record { vertices = vertices-count i; edges = edges-count i; faces = faces-count i }

      pub stored_is : stored c t labels outer counts (t.count + 1) ≡ tables_of ms o
      unfolding tables_of
      stored_is =
          let vs = rows_ext (vertex_of c.points t.least) (vertex_row (net o)) c.vertices vertex-row ∙ ap (rows (vertex_row (net o))) vertices-count in
          let hs = rows_ext (half_of t.origins t.next t.prev t.face) (half_row o) (2 * c.edges) half-row ∙ ap (λ (n : ℕ). rows (half_row o) (2 * n)) edges-count in
          let ss = rows_ext (source_of c.pieces) (the_source_row o) c.edges source_row ∙ ap (rows (the_source_row o)) edges-count in
          let fs = faces ∙ ap (rows (face_row ms o)) faces-count in
          λ i. record { vertices = vs i; halves = hs i; sources = ss i; faces = fs i }
