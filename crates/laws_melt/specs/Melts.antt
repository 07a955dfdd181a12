-- Ask 12, over any list of maps that keep the rules, so of three too: "Ask 12 compares triples, those of soundings found by the same look in each map" (02, Ask 13). Of the melted tables:
--     melted-labels     a kept half-edge has the labels that it had in the overlay
--     melted-face       they are the labels stored for its face
--     melted-differ     no edge has the same labels on both sides
--     melted-seen       what is seen looking west from any point along any direction that does not fall has the labels that the maps give there; so has the face that is stored for it (`melted-cell`)
-- A dropped piece that lies along an edge of a map has the same label of that map on both sides, so that edge has no jump and counts in no potential: the melted graph covers every map
-- (`melted-covers`), and all that is proved of a covering graph holds in it. No geometry is here. Assumes nothing.
use Rattle.std.specs.Prelude.{◌≡◌, ◌<◌, pos, ◌-ℤ◌, ◌≤ℤ◌, ◌<ℤ◌, ◌+◌, ◌*◌, ◌/◌}
use Rattle.std.proofs.Math.Path.{refl, sym, ap}
use Rattle.std.proofs.Common.{◌∙◌, subst, arith, eq-eqb, ne_eqb}
use Rattle.std.proofs.Math.IntN.{+ℤ_invr}
use Rattle.std.proofs.lemmas.List.{length-map}
use Rattle.seq.specs.Seq.{Bool, true, cond, not, List, Option, none, some, ℕ, eqb, length, get_or, or_zero}
use Rattle.seq.specs.Tests.{clash}
use Rattle.seq.proofs.Least.{some_has, some_witness}
use Rattle.seq.specs.Table.{table_at, table-ext}
use Rattle.paper.specs.Plane.{Pt, Vec, cross, before, the_left_by}
use Rattle.paper.specs.Graph.{Graph, edge_count, the_half_count, twin, low, upward, east_side, west}
use Rattle.paper.specs.Map.{Map, label}
use Rattle.paper.specs.Pieces.{layer, Piece, edge_of, vertices_of, edges_of}
use Rattle.paper.specs.Faces.{label_in, overlay_of, labels_of}
use Rattle.laws_graph.specs.Halves.{half_below, half_first, half-second, even_double, odd_double}
use Rattle.laws_graph.specs.East.{east_below}
use Rattle.laws_graph.specs.West.{Sees, west-sees}
use Rattle.laws_graph.specs.Faces.{face_of}
use Rattle.laws_map.specs.Keeps.{seg}
use Rattle.laws_overlay.specs.Maps.{AllKeep}
use Rattle.laws_overlay.specs.Places.{places}
use Rattle.laws_overlay.specs.Sources.{source_at}
use Rattle.laws_overlay.specs.Pieces.{piece_at}
use Rattle.laws_overlay.proofs.Net.{goes-even}
use Rattle.laws_overlay.proofs.NetPlane.{net-plane}
use Rattle.laws_overlay.specs.Inside.{overlaid}
use Rattle.laws_overlay.specs.Along.{sources_at}
use Rattle.laws_overlay.specs.Cells.{face_labels}
use Rattle.laws_labels.specs.Pot.{Jumps}
use Rattle.laws_labels.specs.Spans.{span}
use Rattle.laws_labels.specs.Cuts.{lo, hi, Leaves}
use Rattle.laws_labels.specs.Covers.{Covers}
use Rattle.laws_labels.specs.LabelIn.{AlongEdge, Source, along, off}
use Rattle.laws_labels.specs.Overlay.{piece-leaving, overlay-covers, source_is}
use Rattle.laws_melt.specs.Part.{Part, half_as, as_even, as_half, old, old_below, up_old, low_old, along_old, part-plane, HasJumps, part-covers}
use Rattle.laws_labels.specs.Drawn.{Drawn, seen_in_maps, seen_labels}
use Rattle.laws_labels.proofs.Drawn.{drawn-held, drawn-seen}
use Rattle.paper.specs.Melt.{separates, melted_pieces, melted_graph, melted_of}
use Rattle.laws_melt.specs.Thin.{was, stood, was-kept, kept-was, melted-piece, melted-part}

-- ── the source of a piece goes with it ──

module _ (g s : Graph) (Edge-of vertex_of_lem : ℕ → ℕ) (S : Part g s Edge-of vertex_of_lem) (m : Map) (k : ℕ) (l : k < edge_count s) where
  along-part : (W : ℕ) → AlongEdge g m (Edge-of k) W → AlongEdge s m k W
  along-part W a = record {
    below = a.below;
    parallel = ap (λ (u : Vec). cross u (seg m W).up) (along_old g s Edge-of vertex_of_lem S k l) ∙ a.parallel;
    on = ap (the_left_by (seg m W)) (low_old g s Edge-of vertex_of_lem S k l) ∙ a.on;
    from_low = ap (λ (p : Pt). before p (lo (span m W))) (low_old g s Edge-of vertex_of_lem S k l) ∙ a.from_low;
    to_high = ap (λ (p : Pt). before p (hi (span m W))) (low_old g s Edge-of vertex_of_lem S k l) ∙ a.to_high;
  }

  pub source-part : (o : Option ℕ) → Source g m (Edge-of k) o → Source s m k o
  source-part (some W) (along _ a) = along W (along-part W a)
  source-part none (off n) = off (λ j lj o p. n j lj (subst (λ (x : Pt). Leaves x true (span m j)) (low_old g s Edge-of vertex_of_lem S k l) o) (sym (ap (λ (u : Vec). cross u (seg m j).up) (along_old g s Edge-of vertex_of_lem S k l)) ∙ p))

  -- and so does the label that a half-edge has by it
  pub label-part : (h : ℕ) → h / 2 ≡ k → (o : Option ℕ) → label_in m s h o ≡ label_in m g (half_as (Edge-of k) h) o
  label-part h e (some W) = ap (λ (c : Bool). label m (cond c (twin (east_side m.graph W)) (east_side m.graph W))) (sym (as_even (Edge-of k) h))
  label-part h e none =
      ap (λ (x : ℕ). or_zero (label m) (west m.graph (low s x) (upward s x))) e
      ∙ (λ i. or_zero (label m) (west m.graph (low_old g s Edge-of vertex_of_lem S k l i) (along_old g s Edge-of vertex_of_lem S k l i)))
      ∙ ap (λ (x : ℕ). or_zero (label m) (west m.graph (low g x) (upward g x))) (sym (as_half (Edge-of k) h))

module _ (ms : List Map) (K : AllKeep ms) where
  abbrev g : Graph
  g = overlaid ms

  abbrev s : Graph
  s = melted_graph ms (overlay_of ms)

  abbrev S : Part g s (was ms K) (stood ms K)
  S = melted-part ms K

  -- the half-edge of the overlay that half-edge h of the melted tables was
  abbrev pub was_half : ℕ → ℕ
  was_half h = half_as (was ms K (h / 2)) h

  -- ── labels in the overlay ──

  label_at_lem : (h i : ℕ) → i < length ms → get_or (labels_of ms (overlay_of ms) h) i 0 ≡ label_in (layer ms i) g h (sources_at ms (h / 2) i)
  unfolding overlay_of
  label_at_lem h i li = table_at (λ j. label_in (layer ms j) g h (sources_at ms (h / 2) j)) (length ms) i 0 li

  -- on the two sides of a piece that lies along edge j of map i
  module _ (i j k : ℕ) (li : i < length ms) (e : sources_at ms k i ≡ some j) where
    abbrev m : Map
    m = layer ms i

    west-side : get_or (labels_of ms (overlay_of ms) (2 * k)) i 0 ≡ label m (twin (east_side m.graph j))
    west-side =
        label_at_lem (2 * k) i li ∙ ap (λ (x : ℕ). label_in m g (2 * k) (sources_at ms x i)) (half_first k) ∙ ap (label_in m g (2 * k)) e
        ∙ ap (λ (c : Bool). label m (cond c (twin (east_side m.graph j)) (east_side m.graph j))) (even_double k)

    east-side : get_or (labels_of ms (overlay_of ms) (2 * k + 1)) i 0 ≡ label m (east_side m.graph j)
    east-side =
        label_at_lem (2 * k + 1) i li ∙ ap (λ (x : ℕ). label_in m g (2 * k + 1) (sources_at ms x i)) (half-second k) ∙ ap (label_in m g (2 * k + 1)) e
        ∙ ap (λ (c : Bool). label m (cond c (twin (east_side m.graph j)) (east_side m.graph j))) (odd_double k)

    -- where the labels jump the piece is kept
    jumps_kept : Jumps m j → separates ms (overlay_of ms) k ≡ true
    jumps_kept w =
        some_has (λ x. not (eqb (get_or (labels_of ms (overlay_of ms) (2 * k)) x 0) (get_or (labels_of ms (overlay_of ms) (2 * k + 1)) x 0))) (length ms) i li
        (ap not (ne_eqb (get_or (labels_of ms (overlay_of ms) (2 * k)) i 0) (get_or (labels_of ms (overlay_of ms) (2 * k + 1)) i 0)
        (λ q. w (ap (λ (x : ℕ). pos (label m (east_side m.graph j)) -ℤ pos x) (sym west-side ∙ q ∙ east-side) ∙ +ℤ_invr (pos (label m (east_side m.graph j)))))))

  -- ── the melted graph covers every map ──

  has_jumps : (i : ℕ) → i < length ms → HasJumps g s (was ms K) (stood ms K) S (layer ms i)
  has_jumps i li j lj w q hq b o =
      let (r, e) = piece-leaving ms K i j li lj q b o in
      let (k, l, f) = kept-was ms K r.piece (omega (arith, r.below, length-map (edges_of ms (vertices_of ms)) (edge_of ms))) (jumps_kept i j r.piece li e w) in
      (r, k, l, f)

  pub melted-covers : (i : ℕ) → i < length ms → Covers (melted_graph ms (overlay_of ms)) (layer ms i)
  melted-covers i li = part-covers g s (was ms K) (stood ms K) S (layer ms i) (overlay-covers ms K i li) (has_jumps i li)

  source-was : (i k : ℕ) → k < edge_count s → source_at (piece_at (melted_pieces ms (overlay_of ms)) k).sources i ≡ sources_at ms (was ms K k) i
  source-was i k l = ap (λ (p : Piece). source_at p.sources i) (melted-piece ms K k l)

  pub melted-drawn : Drawn ms (melted_pieces ms (overlay_of ms)) (melted_graph ms (overlay_of ms))
  melted-drawn = record {
    plane = part-plane g s (was ms K) (stood ms K) S (net-plane ms K (vertices_of ms) (places ms K));
    goes = λ h l. up_old g s (was ms K) (stood ms K) S h l ∙ goes-even ms K (vertices_of ms) (places ms K) (old g s (was ms K) (stood ms K) S h) (old_below g s (was ms K) (stood ms K) S h l) ∙ as_even (was ms K (h / 2)) h;
    covers = melted-covers;
    source = λ i k li l. subst (Source s (layer ms i) k) (sym (source-was i k l)) (source-part g s (was ms K) (stood ms K) S (layer ms i) k l (sources_at ms (was ms K k) i) (source_is ms K i (was ms K k) li (S.edge_below k l)));
  }

  -- ── the theorems ──

  pub melted-labels : (h : ℕ) → h < the_half_count (melted_graph ms (overlay_of ms)) → labels_of ms (melted_of ms) h ≡ labels_of ms (overlay_of ms) (was_half h)
  unfolding melted_of overlay_of
  melted-labels h l =
      table-ext (λ i. label_in (layer ms i) s h (source_at (piece_at (melted_pieces ms (overlay_of ms)) (h / 2)).sources i))
      (λ i. label_in (layer ms i) g (was_half h) (sources_at ms (was_half h / 2) i)) (length ms)
      (λ i li. ap (label_in (layer ms i) s h) (source-was i (h / 2) (half_below s h l))
      ∙ label-part g s (was ms K) (stood ms K) S (layer ms i) (h / 2) (half_below s h l) h refl (sources_at ms (was ms K (h / 2)) i)
      ∙ ap (λ (x : ℕ). label_in (layer ms i) g (was_half h) (sources_at ms x i)) (sym (as_half (was ms K (h / 2)) h)))

  -- "Each kept half-edge keeps its pair": it is what its face stores
  pub melted-face : (h : ℕ) → h < the_half_count (melted_graph ms (overlay_of ms)) →
      face_labels ms (melted_of ms) (face_of (melted_graph ms (overlay_of ms)) h) ≡ labels_of ms (overlay_of ms) (was_half h)
  unfolding melted_of
  melted-face h l = sym (drawn-held ms K (melted_pieces ms (overlay_of ms)) s melted-drawn h l) ∙ melted-labels h l

  -- "no edge is left with the same pair on both sides"
  pub melted-differ : (k : ℕ) → k < edge_count (melted_graph ms (overlay_of ms)) → labels_of ms (melted_of ms) (2 * k) ≡ labels_of ms (melted_of ms) (2 * k + 1) → ⊥
  melted-differ k l e =
      let r = was ms K k in
      let (i, li, w) = some_witness (λ x. not (eqb (get_or (labels_of ms (overlay_of ms) (2 * r)) x 0) (get_or (labels_of ms (overlay_of ms) (2 * r + 1)) x 0))) (length ms) (was-kept ms K k l).1 in
      clash w (ap not (eq-eqb (get_or (labels_of ms (overlay_of ms) (2 * r)) i 0) (get_or (labels_of ms (overlay_of ms) (2 * r + 1)) i 0)
      (ap (λ (t : List ℕ). get_or t i 0) (sym first ∙ e ∙ second))))
    where
      first : labels_of ms (melted_of ms) (2 * k) ≡ labels_of ms (overlay_of ms) (2 * was ms K k)
      first = melted-labels (2 * k) (omega arith) ∙ ap (labels_of ms (overlay_of ms)) (λ i. cond (even_double k i) (2 * was ms K (half_first k i)) (2 * was ms K (half_first k i) + 1))

      second : labels_of ms (melted_of ms) (2 * k + 1) ≡ labels_of ms (overlay_of ms) (2 * was ms K k + 1)
      second = melted-labels (2 * k + 1) (omega arith) ∙ ap (labels_of ms (overlay_of ms)) (λ i. cond (odd_double k i) (2 * was ms K (half-second k i)) (2 * was ms K (half-second k i) + 1))

  -- "every sounding looked up west in the melted tables has the pair that Ask 3 gives it"
  module _ (p : Pt) (hp : pos 0 <ℤ p.D) (d : Vec) (hd : pos 0 ≤ℤ d.y) where
    pub melted-seen : seen_labels ms (melted_of ms) (west (melted_graph ms (overlay_of ms)) p d) ≡ seen_in_maps ms p d
    unfolding melted_of
    melted-seen = sym (drawn-seen ms K (melted_pieces ms (overlay_of ms)) s melted-drawn p hp d hd)

    cell_by : (o : Option ℕ) → Sees s p d o → face_labels ms (melted_of ms) (or_zero (face_of s) o) ≡ seen_labels ms (melted_of ms) o
    unfolding melted_of
    cell_by none n = refl
    cell_by (some h) (W, t, q) = sym (drawn-held ms K (melted_pieces ms (overlay_of ms)) s melted-drawn h (subst (λ (x : ℕ). x < the_half_count s) q (east_below s W t.is.below)))

    pub melted-cell : face_labels ms (melted_of ms) (or_zero (face_of (melted_graph ms (overlay_of ms))) (west (melted_graph ms (overlay_of ms)) p d)) ≡ seen_in_maps ms p d
    melted-cell = cell_by (west s p d) (west-sees s melted-drawn.plane p hp d) ∙ melted-seen
