-- Of Exchange of specs/, what rests on its definitions.
use Rattle.std.specs.Prelude.{◌≡◌, refl, ◌<◌, pos, ◌&&◌, ◌∷◌, ◌*◌, ◌/◌}
use Rattle.std.proofs.Common.{sym, ◌∙◌, ap, subst, arith}
use Rattle.std.proofs.lemmas.List.{get_or-replicate}
use Rattle.seq.specs.Seq.{List, [], Option, none, some, ℕ, zero, suc, eqb, length, get_or, count, select, table, rows, or_zero, position}
use Rattle.seq.specs.Table.{table_at}
use Rattle.seq.specs.Select.{length-select, select-nth}
use Rattle.paper.specs.Plane.{Pt}
use Rattle.paper.specs.Graph.{edge_count, the_half_count, point_in, twin, low, upward, west}
use Rattle.paper.specs.Map.{Map, label}
use Rattle.paper.specs.Pieces.{layer, vertices_of, edges_of}
use Rattle.paper.specs.Faces.{walks_of, leads_outer, overlay_of, net, sources_of, label_in, labels_of, holes_of}
use Rattle.paper.specs.Tables.{Counts, vertex_row, least_half, counts_of, tables_of}
use Rattle.laws_graph.specs.Halves.{half_below}
use Rattle.laws_overlay.specs.Maps.{AllKeep}
use Rattle.laws_overlay.specs.Places.{places}
use Rattle.laws_overlay.specs.Sources.{source_at}
use Rattle.laws_overlay.specs.Pieces.{piece_at}
use Rattle.laws_overlay.specs.Net.{net-edges}
use Rattle.laws_overlay.specs.Inside.{overlaid}
use Rattle.laws_overlay.specs.Alike.{Alike, origin_same, low_same, followers_same, leads_outer_same, leads_hole_same, face_same}
use Rattle.laws_overlay.specs.Renumber.{Renumbers, renumber_vertices}
use Rattle.laws_overlay.proofs.Renumber.{renumber_source, renumber_alike}
use Rattle.laws_overlay.specs.Cells.{label-cell, least-cell, holes-cell, face_labels, face_half}
use Rattle.laws_overlay.specs.Parts.{sources-are, outers-are, face-count}
use Rattle.laws_overlay.specs.Exchange.{west-ray, Unchanged, FaceUnchanged}

-- ── the overlay of alike graphs ──

module _ (ms ns : List Map) (A : Alike (overlaid ms) (overlaid ns)) where
  same_halves : the_half_count (overlaid ns) ≡ the_half_count (overlaid ms)
  same_halves = ap (λ (n : ℕ). 2 * n) A.count

  pub alike-followers : (overlay_of ns).walks.next ≡ (overlay_of ms).walks.next
  unfolding overlay_of
  alike-followers = followers_same (overlaid ms) (overlaid ns) A

  pub alike-faces : (overlay_of ns).face ≡ (overlay_of ms).face
  unfolding overlay_of
  alike-faces = λ i. table (λ h. face_same (overlaid ms) (overlaid ns) A (length (A.points i)) h i) (same_halves i)

  pub alike-outers : (overlay_of ns).outers ≡ (overlay_of ms).outers
  unfolding overlay_of
  alike-outers = λ i. select (λ h. leads_outer_same (overlaid ms) (overlaid ns) A h i) (same_halves i)

  pub alike-holes : (f : ℕ) → holes_of (overlay_of ns) f ≡ holes_of (overlay_of ms) f
  unfolding overlay_of
  alike-holes f = λ i. count (λ h. leads_hole_same (overlaid ms) (overlaid ns) A h i && eqb (get_or (alike-faces i) h 0) f) (same_halves i)

  pub alike-counts : counts_of (overlay_of ns) ≡ counts_of (overlay_of ms)
  unfolding overlay_of
  alike-counts = λ i. record { vertices = length (A.points i); edges = A.count i; faces = suc (length (alike-outers i)) }

  -- ── vertices and half-edges, cell by cell ──

  vertex-row : (v : ℕ) → vertex_row (overlaid ns) v ≡ vertex_row (overlaid ms) v
  vertex-row v = λ i. let p = point_in (A.points i) v in
      p.X ∷ p.Y ∷ p.D ∷ pos (least_half (λ h. eqb (origin_same (overlaid ms) (overlaid ns) A h i) v) (same_halves i)) ∷ []

  pub alike-vertices : (tables_of ns (overlay_of ns)).vertices ≡ (tables_of ms (overlay_of ms)).vertices
  unfolding tables_of overlay_of
  alike-vertices = λ i. rows (λ v. vertex-row v i) (length (A.points i))

  pub alike-half-rows : (tables_of ns (overlay_of ns)).halves ≡ (tables_of ms (overlay_of ms)).halves
  unfolding tables_of overlay_of
  alike-half-rows = λ i. rows
      (λ h. origin_same (overlaid ms) (overlaid ns) A h i ∷ twin h ∷ get_or (alike-followers i) h 0 ∷ position h (alike-followers i) ∷ get_or (alike-faces i) h 0 ∷ [])
      (2 * A.count i)

  -- ── the label of a half-edge in a map does not depend on which edge carries its piece ──

  alike-label : (m : Map) (h : ℕ) → h < the_half_count (overlaid ms) → (s : Option ℕ) → label_in m (overlaid ns) h s ≡ label_in m (overlaid ms) h s
  alike-label m h l (some k) = refl
  alike-label m h l none =
      ap (or_zero (label m))
      (ap (λ (p : Pt). west m.graph p (upward (overlaid ns) (h / 2))) (low_same (overlaid ms) (overlaid ns) A (h / 2))
      ∙ west-ray m.graph (low (overlaid ms) (h / 2)) (upward (overlaid ms) (h / 2)) (upward (overlaid ns) (h / 2)) (A.carry (h / 2) (half_below (overlaid ms) h l)).ray)

-- ── in another order ──

module _ (ms ns : List Map) (to back : ℕ → ℕ) (R : Renumbers ms ns to back) (K : AllKeep ms) where
  A : Alike (overlaid ms) (overlaid ns)
  A = renumber_alike ms ns to back R K

  pub renumber_tables : Unchanged ms ns to back R K
  renumber_tables = record { counts = alike-counts ms ns A; vertices = alike-vertices ms ns A; halves = alike-half-rows ms ns A }

  -- the source of edge k in a map
  module _ (k : ℕ) (l : k < edge_count (overlaid ms)) (i : ℕ) (li : i < length ms) where
    pub renumber_sources : source_at (sources_of (overlay_of ns) k) (to i) ≡ source_at (sources_of (overlay_of ms) k) i
    renumber_sources =
        ap (λ (ss : List (Option ℕ)). source_at ss (to i)) (sources-are ns k)
        ∙ ap (λ (vs : List Pt). source_at (piece_at (edges_of ns vs) k).sources (to i)) (renumber_vertices ms ns to back R K)
        ∙ renumber_source (vertices_of ms) (places ms K) ms ns to back R K k (subst (λ (n : ℕ). k < n) (net-edges ms (vertices_of ms)) l) i li
        ∙ ap (λ (ss : List (Option ℕ)). source_at ss i) (sym (sources-are ms k))

  -- the label of half-edge h in a map
  module _ (h : ℕ) (l : h < the_half_count (overlaid ms)) (i : ℕ) (li : i < length ms) where
    same_label : label_in (layer ns (to i)) (net (overlay_of ns)) h (source_at (sources_of (overlay_of ns) (h / 2)) (to i)) ≡ label_in (layer ms i) (net (overlay_of ms)) h (source_at (sources_of (overlay_of ms) (h / 2)) i)
    unfolding overlay_of
    same_label =
        (λ x. label_in (R.same i li x) (overlaid ns) h (renumber_sources (h / 2) (half_below (overlaid ms) h l) i li x))
        ∙ alike-label ms ns A (layer ms i) h l (source_at (sources_of (overlay_of ms) (h / 2)) i)

    pub renumber_label : get_or (labels_of ns (overlay_of ns) h) (to i) 0 ≡ get_or (labels_of ms (overlay_of ms) h) i 0
    renumber_label =
        table_at (λ j. label_in (layer ns j) (net (overlay_of ns)) h (source_at (sources_of (overlay_of ns) (h / 2)) j)) (length ns) (to i) 0 (subst (λ (n : ℕ). to i < n) (sym R.count) (R.to_in i li))
        ∙ same_label ∙ sym (table_at (λ j. label_in (layer ms j) (net (overlay_of ms)) h (source_at (sources_of (overlay_of ms) (h / 2)) j)) (length ms) i 0 li)

  -- ── faces ──

  half_same : (f : ℕ) → face_half ns (overlay_of ns) f ≡ face_half ms (overlay_of ms) f
  half_same zero = refl
  half_same (suc f) = ap (λ (l : List ℕ). get_or l f 0) (alike-outers ms ns A)

  labels_same : (f : ℕ) → f < (counts_of (overlay_of ms)).faces → (i : ℕ) → i < length ms → get_or (face_labels ns (overlay_of ns) f) (to i) 0 ≡ get_or (face_labels ms (overlay_of ms) f) i 0
  labels_same zero l i li =
      get_or-replicate (length ns) (to i) 0 0 (subst (λ (n : ℕ). to i < n) (sym R.count) (R.to_in i li)) ∙ sym (get_or-replicate (length ms) i 0 0 li)
  labels_same (suc f) l i li =
      let w = walks_of (overlaid ms) in
      let below : get_or (overlay_of ms).outers f 0 < the_half_count (overlaid ms) = subst (λ (os : List ℕ). get_or os f 0 < the_half_count (overlaid ms)) (sym (outers-are ms))
      (select-nth (leads_outer w) (the_half_count (overlaid ms)) f 0 (omega (arith, face-count ms, length-select (leads_outer w) (the_half_count (overlaid ms))))).0 in
      ap (λ (x : ℕ). get_or (labels_of ns (overlay_of ns) x) (to i) 0) (half_same (suc f)) ∙ renumber_label (get_or (overlay_of ms).outers f 0) below i li

  pub renumber_face : (f : ℕ) → f < (counts_of (overlay_of ms)).faces → FaceUnchanged ms ns to back R K f
  renumber_face f l =
      let l' : f < (counts_of (overlay_of ns)).faces = subst (λ (c : Counts). f < c.faces) (sym (alike-counts ms ns A)) l in
      record {
        labels = λ i li. label-cell ns (overlay_of ns) f (to i) l' (subst (λ (n : ℕ). to i < n) (sym R.count) (R.to_in i li)) ∙ labels_same f l i li ∙ sym (label-cell ms (overlay_of ms) f i l li);
        least = least-cell ns (overlay_of ns) f l' ∙ half_same f ∙ sym (least-cell ms (overlay_of ms) f l);
        holes = holes-cell ns (overlay_of ns) f l' ∙ alike-holes ms ns A f ∙ sym (holes-cell ms (overlay_of ms) f l);
      }
