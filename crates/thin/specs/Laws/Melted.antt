-- An overlay's tables thinned are the melted tables (Ask 12): where the tables hold the overlay of a list of maps that keep the rules, with the face of each half-edge and the labels of
-- each face, an edge is separated by its faces exactly if it is by its own labels (`separated`: the labels of a half-edge are those of its face), so that what stays is paper's
-- `kept_pieces`, and the thinned tables hold `melted_of` (`thinned-melted`). Then what is known of it: it is plane, its points are among the overlay's, there are no more of them.
-- Assumes nothing.
use Rattle.std.specs.Prelude.{◌≡◌, ◌≤◌, ◌<◌, ◌+◌, ◌*◌, ◌/◌}
use Rattle.std.proofs.Common.{sym, ◌∙◌, ap, arith}
use Rattle.std.proofs.Math.Path.{subst}
use Rattle.std.proofs.lemmas.List.{length-map, get_or-replicate}
use Rattle.exact.specs.Lowest.{Pt}
use Rattle.seq.specs.Seq.{not, List, map, none, ℕ, zero, suc, eqb, length, get_or, cell, select, the_some_below}
use Rattle.seq.specs.Terms.{Among}
use Rattle.seq.specs.Members.{map-ext, map-among}
use Rattle.seq.proofs.Least.{some_ext}
use Rattle.seq.specs.Table.{length-table, table_at}
use Rattle.seq.specs.Count.{count-le}
use Rattle.seq.specs.Select.{select-ext, select_from_lem}
use Rattle.paper.specs.Limits.{maps, overlay_vertices, overlay_edges}
use Rattle.paper.specs.Plane.{whole, nowhere}
use Rattle.paper.specs.Graph.{Graph, the_half_count, point}
use Rattle.paper.specs.Map.{Map}
use Rattle.paper.specs.Pieces.{Piece, layer, vertices_of, edges_of, edge_of, graph_of}
use Rattle.paper.specs.Faces.{Overlay, overlay_of, overlay_by, walks_of, net, labels_of, label_in, sources_of}
use Rattle.paper.specs.Tables.{counts_of}
use Rattle.paper.specs.Melt.{separates, kept_pieces, is_end, afresh, kept_vertices, melted_pieces, melted_graph, melted_of}
use Rattle.plane.specs.Bounds.{Near}
use Rattle.laws_graph.specs.Plane.{Plane}
use Rattle.laws_graph.specs.Faces.{face_below}
use Rattle.laws_overlay.specs.Maps.{AllKeep}
use Rattle.laws_overlay.specs.Places.{places}
use Rattle.laws_overlay.proofs.Pieces.{piece_ends}
use Rattle.laws_overlay.proofs.NetPlane.{net-plane}
use Rattle.laws_overlay.specs.Inside.{overlaid}
use Rattle.laws_overlay.specs.Cells.{face_labels}
use Rattle.laws_overlay.specs.Parts.{net_is, pieces_are, face_is, face-count}
use Rattle.laws_labels.proofs.Agree.{held-labels}
use Rattle.laws_melt.specs.Melts.{melted-drawn}
use Rattle.graph.specs.Flat.{point_width, the_point_at, Points}
use Rattle.overlay_cut.specs.Points.{points_of, points_by}
use Rattle.overlay_cut.specs.PieceRows.{piece_width, no_piece, piece_at, pieces_in}
use Rattle.overlay_graph.specs.Cut.{Cut, CutOf, overlay_in}
use Rattle.overlay_pairs.specs.Pairs.{label_of}
use Rattle.thin.specs.Thinned.{separates_in, kept_in, Thinnable, Thinned}

-- the tables hold the overlay of the maps ms: its vertices and edges, the face of each half-edge, and the labels of each face
pub record Labelled (ms : List Map) (c : Cut) (face triples : List ℕ) : Type 0 where
  pub of_maps : length ms ≡ maps
  pub keep : AllKeep ms
  pub cut : CutOf ms c
  pub few_vertices : c.vertices ≤ overlay_vertices
  pub few_edges : c.edges ≤ overlay_edges
  pub faces-are : (h : ℕ) → h < 2 * c.edges → get_or face h 0 ≡ get_or (overlay_of ms).face h 0
  pub labels-are : (f : ℕ) → f < (counts_of (overlay_of ms)).faces → (i : ℕ) → i < maps → cell 0 maps triples f i ≡ label_of ms (overlay_of ms) i f

-- the labels of a face, one by one
label_of_lem : (ms : List Map) (o : Overlay) (i f : ℕ) → i < length ms → label_of ms o i f ≡ get_or (face_labels ms o f) i 0
label_of_lem ms o i zero l = sym (get_or-replicate (length ms) i 0 0 l)
label_of_lem ms o i (suc f) l =
    let h = get_or o.outers f 0 in
    sym (table_at (λ j. label_in (layer ms j) (net o) h (get_or (sources_of o (h / 2)) j none)) (length ms) i 0 l)

module _ (ms : List Map) (c : Cut) (face triples : List ℕ) (L : Labelled ms c face triples) where
  abbrev K : AllKeep ms
  K = L.keep

  abbrev o : Overlay
  o = overlay_of ms

  -- ── how many ──

  pieces_is : pieces_in c.pieces c.edges ≡ edges_of ms (vertices_of ms)
  pieces_is = L.cut.edges_are L.few_vertices L.few_edges

  points_is : points_of c.points c.vertices ≡ vertices_of ms
  points_is = L.cut.vertices-are L.few_vertices

  edges_long : c.edges ≡ length (edges_of ms (vertices_of ms))
  edges_long = sym (length-table (piece_at c.pieces) c.edges) ∙ ap length pieces_is

  vertices_long : c.vertices ≡ length (vertices_of ms)
  vertices_long = sym (length-table (the_point_at c.points) c.vertices) ∙ ap length points_is

  half_in : (h : ℕ) → h < 2 * c.edges → h < the_half_count (overlaid ms)
  half_in h l = omega (arith, edges_long, length-map (edges_of ms (vertices_of ms)) (edge_of ms))

  -- ── which edges stay ──

  face_in_lem : (h : ℕ) → h < 2 * c.edges → get_or face h 0 < (counts_of (overlay_of ms)).faces
  face_in_lem h l =
      omega (arith, L.faces-are h l, face_is ms h (half_in h l), face_below (overlaid ms) (net-plane ms K (vertices_of ms) (places ms K)) h (half_in h l), face-count ms)

  -- the labels stored for the face of a half-edge are its own
  side : (h i : ℕ) → h < 2 * c.edges → i < maps → cell 0 maps triples (get_or face h 0) i ≡ get_or (labels_of ms o h) i 0
  side h i l b =
      L.labels-are (get_or face h 0) (face_in_lem h l) i b ∙ label_of_lem ms o i (get_or face h 0) (omega (arith, L.of_maps))
      ∙ ap (λ (f : ℕ). get_or (face_labels ms o f) i 0) (L.faces-are h l ∙ face_is ms h (half_in h l)) ∙ ap (λ (t : List ℕ). get_or t i 0) (sym (held-labels ms K h (half_in h l)))

  pub separated : (k : ℕ) → k < c.edges → separates_in face triples k ≡ separates ms (overlay_of ms) k
  separated k l =
      some_ext (λ i. not (eqb (cell 0 maps triples (get_or face (2 * k) 0) i) (cell 0 maps triples (get_or face (2 * k + 1) 0) i)))
      (λ i. not (eqb (get_or (labels_of ms o (2 * k)) i 0) (get_or (labels_of ms o (2 * k + 1)) i 0))) maps
      (λ i b j. not (eqb (side (2 * k) i (omega arith) b j) (side (2 * k + 1) i (omega arith) b j)))
      ∙ ap (the_some_below (λ i. not (eqb (get_or (labels_of ms o (2 * k)) i 0) (get_or (labels_of ms o (2 * k + 1)) i 0)))) (sym L.of_maps)

  all_long : c.edges ≡ length o.pieces
  all_long = edges_long ∙ ap length (sym (pieces_are ms))

  piece_is : (k : ℕ) → k < c.edges → piece_at c.pieces k ≡ get_or o.pieces k no_piece
  piece_is k l =
      sym (table_at (piece_at c.pieces) c.edges k no_piece l) ∙ ap (λ (ps : List Piece). get_or ps k no_piece) (pieces_is ∙ sym (pieces_are ms))

  pub kept-are : kept_in c.pieces face triples c.edges ≡ kept_pieces ms (overlay_of ms)
  kept-are =
      ap (map (piece_at c.pieces)) (select-ext (separates_in face triples) (separates ms o) c.edges separated)
      ∙ map-ext (piece_at c.pieces) (λ k. get_or o.pieces k no_piece) (select (separates ms o) c.edges) (λ k i. piece_is k (select_from_lem (separates ms o) c.edges k i).0)
      ∙ ap (λ (n : ℕ). map (λ k. get_or o.pieces k no_piece) (select (separates ms o) n)) all_long

  -- ── what is asked of the tables ──

  pub thinnable : point_width * c.vertices ≤ length c.points → piece_width * c.edges ≤ length c.pieces → 2 * c.edges ≤ length face → maps * (counts_of (overlay_of ms)).faces ≤ length triples
      → Thinnable c face triples
  thinnable points_long pieces_long face_long triples-long = record {
    few_vertices = L.few_vertices;
    few_edges = L.few_edges;
    points_long = points_long;
    edges_in_lem = record {
      sides = λ k l. record {
        long = omega arith;
        left = omega (arith, face_in_lem (2 * k) (omega arith));
        right = omega (arith, face_in_lem (2 * k + 1) (omega arith));
      };
      ends = λ k l. let (a, b) = piece_ends ms K (vertices_of ms) (places ms K) k (omega (arith, edges_long)) in
          let q : piece_at c.pieces k ≡ get_or (edges_of ms (vertices_of ms)) k no_piece = piece_is k l ∙ ap (λ (ps : List Piece). get_or ps k no_piece) (pieces_are ms) in
          record {
            row = omega arith;
            lower = omega (arith, ap (λ (p : Piece). p.lo) q, vertices_long);
            upper = omega (arith, ap (λ (p : Piece). p.hi) q, vertices_long);
          };
    };
  }

  -- ── thinned ──

  module _ (d : Cut) (T : Thinned c face triples d) where
    pub thinned-pieces : pieces_in d.pieces d.edges ≡ melted_pieces ms (overlay_of ms)
    thinned-pieces = T.pieces_are ∙ ap (λ (ps : List Piece). map (afresh (is_end ps)) ps) kept-are

    point_is : (v : ℕ) → v < c.vertices → the_point_at c.points v ≡ point (net o) v
    point_is v l =
        sym (table_at (the_point_at c.points) c.vertices v (whole nowhere) l) ∙ ap (λ (ps : List Pt). get_or ps v (whole nowhere)) points_is ∙ ap (λ (g : Graph). point g v) (sym (net_is ms))

    pub thinned-points : points_of d.points d.vertices ≡ kept_vertices (is_end (kept_pieces ms (overlay_of ms))) (net (overlay_of ms))
    thinned-points =
        let used = is_end (kept_pieces ms o) in
        T.points-are ∙ ap (λ (ps : List Piece). map (the_point_at c.points) (select (is_end ps) c.vertices)) kept-are
        ∙ map-ext (the_point_at c.points) (point (net o)) (select used c.vertices) (λ v i. point_is v (select_from_lem used c.vertices v i).0)
        ∙ ap (λ (n : ℕ). map (point (net o)) (select used n)) (vertices_long ∙ ap (λ (g : Graph). length g.points) (sym (net_is ms)))

    thinned-graph : graph_of ms (points_of d.points d.vertices) (pieces_in d.pieces d.edges) ≡ melted_graph ms (overlay_of ms)
    thinned-graph = λ i. graph_of ms (thinned-points i) (thinned-pieces i)

    -- the overlay in the thinned tables is the melted one
    pub thinned-melted : overlay_in ms d ≡ melted_of ms
    unfolding overlay_in melted_of
    thinned-melted = λ i. overlay_by (thinned-pieces i) (walks_of (thinned-graph i))

    pub thinned-plane : Plane (net (overlay_in ms d))
    unfolding overlay_in
    thinned-plane = subst Plane (sym thinned-graph) (melted-drawn ms K).plane

    -- its points are among the overlay's
    pub thinned-near : Points c.points c.vertices → point_width * d.vertices ≤ length d.points → Points d.points d.vertices
    thinned-near P h =
        points_by d.points d.vertices h
        (λ p i. let used = is_end (kept_in c.pieces face triples c.edges) in
        let (v, j, e) = map-among (the_point_at c.points) p (select used c.vertices) (subst (Among p) T.points-are i) in
        subst Near e (P.near v (select_from_lem used c.vertices v j).0))

    -- and there are no more of them, and no more edges
    pub fewer-vertices : d.vertices ≤ c.vertices
    fewer-vertices = omega (arith, T.vertices_is, count-le (is_end (kept_in c.pieces face triples c.edges)) c.vertices)

    pub fewer-edges : d.edges ≤ c.edges
    fewer-edges = omega (arith, T.edges_is, count-le (separates_in face triples) c.edges)
