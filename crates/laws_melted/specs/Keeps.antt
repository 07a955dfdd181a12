-- Ask 12 from the two promises alone (`Promised` and `PromisedMelted`, crates/tables/specs/Promise.antt), of any list of map files, in lent tables of any lengths: q and u come out of the overlay, r and t of melting,
-- both done. Each kept half-edge keeps its pair, no edge is left with the same pair on both sides, and none else is missing (`melted-keeps`, said in Kept); no more vertices, edges and faces than the overlay's
-- (`melted-fewer`). Numbered afresh by 01's rules: vertices and edges (`melted-numbered`, said in Order), followers and faces as Defined of laws_promise says them of
-- the overlay's tables (`melted-half-rows`, `melted-face-rows`, `melted-labelled`). Assumes nothing.
use Rattle.std.specs.Prelude.{◌≡◌, ◌<◌, ◌*◌}
use Rattle.std.proofs.Common.{sym, ap, subst, arith}
use Rattle.std.proofs.lemmas.List.{length-map}
use Rattle.seq.specs.Seq.{List, ℕ, length, get_or}
use Rattle.paper.specs.Refusal.{done}
use Rattle.paper.specs.Map.{Map}
use Rattle.paper.specs.Pieces.{vertices_of, edges_of, edge_of}
use Rattle.paper.specs.Faces.{overlay_of}
use Rattle.paper.specs.Tables.{Counts, Tables}
use Rattle.paper.specs.Lent.{Lengths}
use Rattle.paper.specs.Melt.{melted_pieces, melted_graph, melted_of}
use Rattle.laws_refusals.specs.Room.{Fits}
use Rattle.laws_overlay.specs.Maps.{AllKeep}
use Rattle.laws_overlay.specs.Parts.{vertex-count, edge-count}
use Rattle.laws_overlay.specs.Files.{maps_of, maps-count, files-keep, files-bounded}
use Rattle.laws_labels.specs.Demand3.{Agrees}
use Rattle.laws_melt.specs.Stored.{fewer-vertices, fewer-edges}
use Rattle.laws_melt.specs.Fewer.{melted-faces}
use Rattle.laws_promise.specs.Defined.{Labelled, HalfRows, FaceRows}
use Rattle.laws_promise.specs.Rows.{Rows}
use Rattle.laws_promise.proofs.HalfRows.{half-rows}
use Rattle.laws_promise.proofs.FaceRows.{pair-labelled, face-rows}
use Rattle.laws_promise.specs.Demands.{Overlaid, done_is-overlaid}
use Rattle.tables.specs.Answers as code
use Rattle.tables.specs.Values.{answer_of}
use Rattle.tables.specs.Promise.{Promised, PromisedMelted}
use Rattle.laws_melted.specs.Rows.{melted-pieced, melted-rows}
use Rattle.laws_melted.specs.Answers.{Melted, melted_counts, melted_pair, melted-passes}
use Rattle.laws_melted.specs.Order.{Ordered, melted-ordered}

-- ── the melted tables ──

module _ (l : Lengths) (files : List (List ℕ)) (r : code.Answer) (t : Tables) (promise : PromisedMelted l files r t) (c : Counts) (e : answer_of r ≡ done c) where
  M : Melted l files c t
  M = melted-passes l files r t promise c e

  pub melted-keep : AllKeep (maps_of files)
  melted-keep = files-keep files M.passes

  -- they hold the melted pieces and their graph
  pub melted-hold : Rows (maps_of files) (melted_pieces (maps_of files) (overlay_of (maps_of files))) (melted_graph (maps_of files) (overlay_of (maps_of files))) c t
  melted-hold =
      let ms = maps_of files in
      let o = overlay_of ms in
      subst (λ (k : Counts). Rows ms (melted_pieces ms o) (melted_graph ms o) k t) (sym M.counts-are)
      (subst (λ (u : Tables). Rows ms (melted_pieces ms o) (melted_graph ms o) (melted_counts files) u) (sym M.tables-are) (melted-rows ms melted-keep l))

  -- demand 3
  pub melted-agrees : Agrees (length (maps_of files)) c t (melted_pair files)
  melted-agrees = subst (λ (n : ℕ). Agrees n c t (melted_pair files)) (sym (maps-count files)) M.agrees

  -- "vertices, edges, followers and faces are numbered afresh by 01's rules": vertices and edges;
  pub melted-numbered : Ordered c t
  melted-numbered = melted-ordered (maps_of files) melted-keep c t melted-hold (files-bounded files M.passes)

  -- half-edges, followers and predecessors, in 01's words over the tables' own points;
  pub melted-half-rows : HalfRows c t
  melted-half-rows =
      let ms = maps_of files in
      half-rows ms (melted_pieces ms (overlay_of ms)) (melted_graph ms (overlay_of ms)) (melted-pieced ms melted-keep) c t melted-hold

  -- faces: outer walks and hole walks, least half-edges, counts of hole walks, labels
  pub melted-face-rows : FaceRows (maps_of files) c t
  melted-face-rows =
      let ms = maps_of files in
      face-rows ms melted-keep (melted_pieces ms (overlay_of ms)) (melted_graph ms (overlay_of ms)) (melted-pieced ms melted-keep) c t melted-hold

  -- the labels of each half-edge, in 01's words: along an edge of the map, or seen looking west in it
  pub melted-labelled : (h i : ℕ) → h < 2 * c.edges → i < length (maps_of files) → Labelled (maps_of files) c t i h (get_or (melted_pair files h) i 0)
  unfolding melted_of
  melted-labelled =
      let ms = maps_of files in
      pair-labelled ms melted-keep (melted_pieces ms (overlay_of ms)) (melted_graph ms (overlay_of ms)) (melted-pieced ms melted-keep) c t melted-hold

-- ── beside the overlay's ──

module _ (k l : Lengths) (files : List (List ℕ)) (q r : code.Answer) (u t : Tables) (overlay : Promised k files q u) (d : Counts) (e : answer_of q ≡ done d)
    (promise : PromisedMelted l files r t) (c : Counts) (f : answer_of r ≡ done c) where
  abbrev pub ms : List Map
  ms = maps_of files

  pub O : Overlaid k files d u
  O = done_is-overlaid k files q u overlay d e

  pub keep : AllKeep (maps_of files)
  keep = melted-keep l files r t promise c f

  -- no more vertices, edges and faces
  pub melted-fewer : Fits d c
  melted-fewer =
      let m = (melted-passes l files r t promise c f).counts-are in
      record {
        vertices = omega (arith, ap (λ (x : Counts). x.vertices) m, ap (λ (x : Counts). x.vertices) O.counts-are, fewer-vertices ms keep, vertex-count ms);
        edges = omega (arith, ap (λ (x : Counts). x.edges) m, ap (λ (x : Counts). x.edges) O.counts-are, fewer-edges ms keep, edge-count ms, length-map (edges_of ms (vertices_of ms)) (edge_of ms));
        faces = omega (arith, ap (λ (x : Counts). x.faces) m, ap (λ (x : Counts). x.faces) O.counts-are, melted-faces ms keep);
      }
