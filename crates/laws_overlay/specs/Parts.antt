-- The parts of the overlay of a list of maps, and the cells of its tables, by the overlay's graph: counts, pieces, followers, faces. Assumes nothing.
use Rattle.std.specs.Prelude.{◌≡◌, ◌<◌, ◌*◌}
use Rattle.std.proofs.Math.Path.{refl}
use Rattle.std.proofs.Common.{sym, ◌∙◌, ap, subst, arith}
use Rattle.seq.specs.Seq.{List, ℕ, suc, length, get_or, select, position}
use Rattle.seq.specs.Table.{table_at}
use Rattle.paper.specs.Graph.{edge_count, the_half_count, twin, origin, followers}
use Rattle.paper.specs.Map.{Map}
use Rattle.paper.specs.Pieces.{vertices_of, edges_of}
use Rattle.paper.specs.Faces.{walks_of, leads_outer, face_in, overlay_of, net, sources_of}
use Rattle.paper.specs.Tables.{Tables, origin_of, twin_of, predecessor_of, counts_of, tables_of}
use Rattle.paper.specs.Tables as T
use Rattle.laws_graph.specs.Faces.{face_of}
use Rattle.laws_overlay.specs.Pieces.{piece_at}
use Rattle.laws_overlay.specs.Inside.{overlaid}
use Rattle.laws_overlay.specs.Cells.{half-cell}

module _ (ms : List Map) where
  -- ── the parts ──

  pub net_is : net (overlay_of ms) ≡ overlaid ms
  unfolding overlay_of
  net_is = refl

  pub walks-are : (overlay_of ms).walks ≡ walks_of (overlaid ms)
  unfolding overlay_of
  walks-are = refl

  pub pieces_are : (overlay_of ms).pieces ≡ edges_of ms (vertices_of ms)
  unfolding overlay_of
  pieces_are = refl

  pub sources-are : (k : ℕ) → sources_of (overlay_of ms) k ≡ (piece_at (edges_of ms (vertices_of ms)) k).sources
  unfolding overlay_of
  sources-are k = refl

  pub outers-are : (overlay_of ms).outers ≡ select (leads_outer (walks_of (overlaid ms))) (the_half_count (overlaid ms))
  unfolding overlay_of
  outers-are = refl

  pub face_is : (h : ℕ) → h < the_half_count (overlaid ms) → get_or (overlay_of ms).face h 0 ≡ face_of (overlaid ms) h
  unfolding overlay_of
  face_is h l = table_at (face_in (walks_of (overlaid ms)) (length (vertices_of ms))) (the_half_count (overlaid ms)) h 0 l

  -- ── the counts ──

  pub vertex-count : (counts_of (overlay_of ms)).vertices ≡ length (vertices_of ms)
  unfolding overlay_of
  vertex-count = refl

  pub edge-count : (counts_of (overlay_of ms)).edges ≡ edge_count (overlaid ms)
  unfolding overlay_of
  edge-count = refl

  pub face-count : (counts_of (overlay_of ms)).faces ≡ suc (length (select (leads_outer (walks_of (overlaid ms))) (the_half_count (overlaid ms))))
  unfolding overlay_of
  face-count = refl

  pub half_count : 2 * (counts_of (overlay_of ms)).edges ≡ the_half_count (overlaid ms)
  half_count = ap (λ (n : ℕ). 2 * n) edge-count

  pub half-there : {h : ℕ} → h < 2 * (counts_of (overlay_of ms)).edges → h < the_half_count (overlaid ms)
  half-there {h} = subst (λ (n : ℕ). h < n) half_count

  abbrev pub made : Tables
  made = tables_of ms (overlay_of ms)

  -- ── the row of half-edge h ──

  module _ (h : ℕ) (l : h < the_half_count (overlaid ms)) where
    pub counted : h < 2 * (counts_of (overlay_of ms)).edges
    counted = subst (λ (n : ℕ). h < n) (sym half_count) l

    pub origin_is : origin_of made h ≡ origin (overlaid ms) h
    unfolding overlay_of
    origin_is = half-cell ms (overlay_of ms) h 0 counted (omega arith)

    pub twin_is : twin_of made h ≡ twin h
    twin_is = half-cell ms (overlay_of ms) h 1 counted (omega arith)

    pub predecessor_is : predecessor_of made h ≡ position h (followers (overlaid ms))
    unfolding overlay_of
    predecessor_is = half-cell ms (overlay_of ms) h 3 counted (omega arith)

    pub face-cell_is : T.face_of made h ≡ face_of (overlaid ms) h
    face-cell_is = half-cell ms (overlay_of ms) h 4 counted (omega arith) ∙ face_is h l
