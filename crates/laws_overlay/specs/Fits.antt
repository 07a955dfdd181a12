-- The numbers in the overlay's tables fit 16 bits, given 01's limits on vertices and edges: origins, twins, followers, predecessors, faces, least half-edges and hole counts are
-- below 65,535, which stands for none. A face's labels are labels of the maps, or 0, and fit where those do. Assumes nothing.
use Rattle.std.proofs.Common.{sym, subst, arith}
use Rattle.std.specs.Prelude.{◌<◌, ◌≤◌, ◌&&◌, ◌+◌, ◌*◌, ◌/◌}
use Rattle.std.proofs.lemmas.List.{get_or-replicate}
use Rattle.seq.specs.Seq.{cond, List, Option, none, some, ℕ, zero, suc, eqb, length, get_or, or_zero}
use Rattle.seq.specs.Count.{count-le}
use Rattle.seq.specs.Select.{length-select}
use Rattle.seq.specs.Table.{table_at}
use Rattle.paper.specs.Limits.{absent, overlay_vertices, overlay_edges}
use Rattle.paper.specs.Graph.{the_half_count, even, twin, east_side, west, low, upward}
use Rattle.paper.specs.Map.{Map, label}
use Rattle.paper.specs.Pieces.{layer}
use Rattle.paper.specs.Faces.{Overlay, walks_of, leads_outer, leads_hole, overlay_of, net, sources_of, label_in, labels_of}
use Rattle.paper.specs.Tables as T
use Rattle.paper.specs.Tables.{Counts, Tables, face_cell, origin_of, twin_of, follower_of, predecessor_of, counts_of, tables_of}
use Rattle.laws_overlay.specs.Maps.{AllKeep}
use Rattle.laws_overlay.specs.Inside.{overlaid}
use Rattle.laws_overlay.specs.Cells.{label-cell, holes-cell, face_labels}
use Rattle.laws_overlay.specs.Parts.{edge-count, face-count}

-- half-edge h of tables t: all its numbers are below 65,535
pub record HalfFits (t : Tables) (h : ℕ) : Type 0 where
  pub origin_fits : origin_of t h < absent
  pub twin_fits : twin_of t h < absent
  pub follower_fits : follower_of t h < absent
  pub predecessor_fits : predecessor_of t h < absent
  pub face_fits : T.face_of t h < absent

module _ (ms : List Map) where
  abbrev o : Overlay
  o = overlay_of ms

  abbrev c : Counts
  c = counts_of (overlay_of ms)

  abbrev t : Tables
  t = tables_of ms (overlay_of ms)

  -- at most one face for each half-edge, and face 0
  pub faces-most : (counts_of (overlay_of ms)).faces ≤ suc (2 * (counts_of (overlay_of ms)).edges)
  faces-most = omega (arith, face-count ms, edge-count ms, length-select (leads_outer (walks_of (overlaid ms))) (the_half_count (overlaid ms)), count-le (leads_outer (walks_of (overlaid ms))) (the_half_count (overlaid ms)))

  -- at most one hole walk for each half-edge
  pub holes-most : (f : ℕ) → f < (counts_of (overlay_of ms)).faces → face_cell (length ms) (tables_of ms (overlay_of ms)) f (length ms + 1) ≤ 2 * (counts_of (overlay_of ms)).edges
  holes-most f l = omega (arith, holes-cell ms o f l, count-le (λ h. leads_hole o.walks h && eqb (get_or o.face h 0) f) (the_half_count (net o)))

  -- ── labels ──

  module _ (B : ℕ) (some-B : 0 < B) (L : (i h : ℕ) → label (layer ms i) h < B) where
    seen_fits : (i : ℕ) (s : Option ℕ) → or_zero (label (layer ms i)) s < B
    seen_fits i none = some-B
    seen_fits i (some h) = L i h

    label_in_fits : (i h : ℕ) (s : Option ℕ) → label_in (layer ms i) (net o) h s < B
    label_in_fits i h none = seen_fits i (west (layer ms i).graph (low (net o) (h / 2)) (upward (net o) (h / 2)))
    label_in_fits i h (some k) = let down = east_side (layer ms i).graph k in L i (cond (even h) (twin down) down)

    -- a label of a half-edge
    pub label_fits : (h i : ℕ) → i < length ms → get_or (labels_of ms (overlay_of ms) h) i 0 < B
    label_fits h i l =
        subst (λ (x : ℕ). x < B) (sym (table_at (λ i. label_in (layer ms i) (net o) h (get_or (sources_of o (h / 2)) i none)) (length ms) i 0 l))
        (label_in_fits i h (get_or (sources_of o (h / 2)) i none))

    labels-fit_by : (f i : ℕ) → i < length ms → get_or (face_labels ms o f) i 0 < B
    labels-fit_by zero i l = subst (λ (x : ℕ). x < B) (sym (get_or-replicate (length ms) i 0 0 l)) some-B
    labels-fit_by (suc f) i l = label_fits (get_or o.outers f 0) i l

    -- and of a face
    pub face-label_fits : (f i : ℕ) → f < (counts_of (overlay_of ms)).faces → i < length ms → face_cell (length ms) (tables_of ms (overlay_of ms)) f i < B
    face-label_fits f i l b = subst (λ (x : ℕ). x < B) (sym (label-cell ms o f i l b)) (labels-fit_by f i b)

  -- ── by the limits ──

  module _ (K : AllKeep ms) (lv : (counts_of (overlay_of ms)).vertices ≤ overlay_vertices) (le : (counts_of (overlay_of ms)).edges ≤ overlay_edges) where
    pub holes-fit : (f : ℕ) → f < (counts_of (overlay_of ms)).faces → face_cell (length ms) (tables_of ms (overlay_of ms)) f (length ms + 1) < absent
    holes-fit f l = omega (arith, holes-most f l)
