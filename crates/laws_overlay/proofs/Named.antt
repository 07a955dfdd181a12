-- Of Named of specs/, what rests on its definitions.
use Rattle.std.specs.Prelude.{◌≡◌, refl, ◌<◌, ◌≤◌, ◌+◌, ◌*◌}
use Rattle.std.proofs.Common.{sym, ◌∙◌, subst, subst₂, arith, eq-eqb, eqb-true, lt-ltb}
use Rattle.std.proofs.Math.Path.{ap}
use Rattle.seq.specs.Seq.{Bool, cond, List, Option, none, some, ℕ, suc, length, get_or, pos, select}
use Rattle.seq.proofs.Least.{least_below, least-holds}
use Rattle.paper.specs.Limits.{absent}
use Rattle.paper.specs.Graph.{edge_count, the_half_count, twin, origin, leaves, follower}
use Rattle.paper.specs.Map.{Map}
use Rattle.paper.specs.Pieces.{layer, vertices_of, edges_of}
use Rattle.paper.specs.Faces.{walks_of, leads_outer, overlay_of}
use Rattle.paper.specs.Tables as T
use Rattle.paper.specs.Tables.{Counts, Tables, vertex_cell, source_cell, face_cell, origin_of, follower_of, predecessor_of, the_plus_one, counts_of, tables_of}
use Rattle.laws_graph.specs.Halves.{twin_below, first_below, second_below, origin_first, origin-second}
use Rattle.laws_graph.specs.Plane.{Plane}
use Rattle.laws_graph.specs.Follow.{follower-origin, follower_below, predecessor-follower, follower-predecessor, predecessor_below}
use Rattle.laws_graph.specs.Faces.{face_below}
use Rattle.laws_graph.proofs.Faces.{face-onto}
use Rattle.laws_map.specs.Keeps.{edges}
use Rattle.laws_overlay.specs.Maps.{AllKeep}
use Rattle.laws_overlay.specs.Places.{places}
use Rattle.laws_overlay.specs.Sources.{source_at}
use Rattle.laws_overlay.specs.Pieces.{Sourced, piece_at}
use Rattle.laws_overlay.proofs.Net.{near, sourced}
use Rattle.laws_overlay.proofs.NetPlane.{net-plane}
use Rattle.laws_overlay.specs.Inside.{overlaid}
use Rattle.laws_overlay.proofs.Round.{vertex_left}
use Rattle.laws_overlay.specs.Cells.{vertex-cell, source-cell, least-cell}
use Rattle.laws_overlay.specs.Parts.{sources-are, outers-are, vertex-count, edge-count, face-count, half_count, half-there, origin_is, twin_is, predecessor_is, face-cell_is}
use Rattle.laws_overlay.proofs.Parts.{sources-wide, follower_is}
use Rattle.laws_overlay.specs.Named.{g, c, t, HalfNamed, EdgeNamed, h}

module _ (ms : List Map) (K : AllKeep ms) where
  plane : Plane (overlaid ms)
  plane = net-plane ms K (vertices_of ms) (places ms K)

  -- ── half-edges ──

  module _ (h : ℕ) (l : h < the_half_count (overlaid ms)) where
    below : {x : ℕ} → x < the_half_count (g ms K) → x < 2 * (c ms K).edges
    below {x} = subst (λ (n : ℕ). x < n) (sym (half_count ms))

    fol : follower_of (t ms K) h ≡ follower (g ms K) h
    fol = follower_is ms h l K

    fol_below : follower (g ms K) h < the_half_count (g ms K)
    fol_below = follower_below (g ms K) plane h l

    half-named_by : HalfNamed (c ms K) (t ms K) h
    half-named_by = record {
      origin_below = subst₂ ◌<◌ (sym (origin_is ms h l)) (sym (vertex-count ms)) (plane.starts h l);
      twin_below = below (subst (λ (x : ℕ). x < the_half_count (g ms K)) (sym (twin_is ms h l)) (twin_below (g ms K) h l));
      follower_below = below (subst (λ (x : ℕ). x < the_half_count (g ms K)) (sym fol) fol_below);
      predecessor_below = below (subst (λ (x : ℕ). x < the_half_count (g ms K)) (sym (predecessor_is ms h l)) (predecessor_below (g ms K) plane h l));
      face_below = subst₂ ◌<◌ (sym (face-cell_is ms h l)) (sym (face-count ms)) (face_below (g ms K) plane h l);
      follows = ap (origin_of (t ms K)) fol ∙ origin_is ms (follower (g ms K) h) fol_below ∙ follower-origin (g ms K) plane h ∙ sym (origin_is ms (twin h) (twin_below (g ms K) h l)) ∙ ap (origin_of (t ms K)) (sym (twin_is ms h l));
      back = ap (predecessor_of (t ms K)) fol ∙ predecessor_is ms (follower (g ms K) h) fol_below ∙ predecessor-follower (g ms K) plane h l;
      forth = ap (follower_of (t ms K)) (predecessor_is ms h l) ∙ follower_is ms _ (predecessor_below (g ms K) plane h l) K ∙ follower-predecessor (g ms K) plane h l;
    }

  pub half-named : (h : ℕ) → h < 2 * (counts_of (overlay_of ms)).edges → HalfNamed (counts_of (overlay_of ms)) (tables_of ms (overlay_of ms)) h
  half-named h l = half-named_by h (half-there ms l)

  -- "follows no half-edge of lower number"
  pub followed-once : (h r : ℕ) → h < 2 * (counts_of (overlay_of ms)).edges → r < 2 * (counts_of (overlay_of ms)).edges → follower_of (tables_of ms (overlay_of ms)) h ≡ follower_of (tables_of ms (overlay_of ms)) r → h ≡ r
  followed-once h r lh lr e = sym (half-named h lh).back ∙ ap (predecessor_of (t ms K)) e ∙ (half-named r lr).back

  -- ── edges ──

  module _ (k : ℕ) (l : k < edge_count (overlaid ms)) where
    s : Sourced ms (vertices_of ms) (piece_at (edges_of ms (vertices_of ms)) k)
    s = sourced ms K (vertices_of ms) (places ms K) k l

    source_is : (i : ℕ) → i < length ms → source_cell (length ms) (t ms K) k i ≡ the_plus_one (source_at (piece_at (edges_of ms (vertices_of ms)) k).sources i)
    source_is i b = source-cell ms (overlay_of ms) (sources-wide ms K) k i (subst (λ (n : ℕ). k < n) (sym (edge-count ms)) l) b ∙ ap (λ (ss : List (Option ℕ)). the_plus_one (source_at ss i)) (sources-are ms k)

    most : (i : ℕ) → i < length ms → source_cell (length ms) (t ms K) k i ≤ edges (layer ms i)
    most i b = go (source_at (piece_at (edges_of ms (vertices_of ms)) k).sources i) refl
      where
        go : (o : Option ℕ) → source_at (piece_at (edges_of ms (vertices_of ms)) k).sources i ≡ o → source_cell (length ms) (t ms K) k i ≤ edges (layer ms i)
        go none e = omega (arith, source_is i b ∙ ap the_plus_one e)
        go (some r) e = omega (arith, source_is i b ∙ ap the_plus_one e, (s.from i r e).of_map)

    edge-named_by : EdgeNamed ms (c ms K) (t ms K) k
    edge-named_by =
        let (i, r, e) = s.one in
        let li = (s.from i r e).in_list in
        record {
          rises = subst₂ ◌<◌ (sym (origin_is ms (2 * k) (first_below k (g ms K) l) ∙ origin_first k (g ms K))) (sym (origin_is ms (2 * k + 1) (second_below k (g ms K) l) ∙ origin-second k (g ms K))) (near ms K (vertices_of ms) (places ms K) k l).rises;
          source-most = most;
          sourced = (i, li, λ z. omega (arith, sym z ∙ source_is i li ∙ ap the_plus_one e));
        }

  pub edge-named : (k : ℕ) → k < (counts_of (overlay_of ms)).edges → EdgeNamed ms (counts_of (overlay_of ms)) (tables_of ms (overlay_of ms)) k
  edge-named k l = edge-named_by k (subst (λ (n : ℕ). k < n) (edge-count ms) l)

  -- ── vertices ──

  module _ (v : ℕ) (l : v < length (vertices_of ms)) where
    h_below : h ms K v l < the_half_count (g ms K)
    h_below = let (r, b, e) = vertex_left ms K v l in least_below (leaves (g ms K) v) (the_half_count (g ms K)) r b (eq-eqb (origin (g ms K) r) v e)

    h_leaves : origin (g ms K) (h ms K v l) ≡ v
    h_leaves = eqb-true (origin (g ms K) (h ms K v l)) v (least-holds (leaves (g ms K) v) (the_half_count (g ms K)) h_below)

    out_cell : vertex_cell (t ms K) v 3 ≡ pos (h ms K v l)
    unfolding overlay_of
    out_cell =
        vertex-cell ms (overlay_of ms) v 3 (subst (λ (n : ℕ). v < n) (sym (vertex-count ms)) l) (omega arith)
        ∙ ap (λ (b : Bool). pos (cond b (h ms K v l) absent)) (lt-ltb (h ms K v l) (the_half_count (g ms K)) h_below)

  -- "each with its least outgoing half-edge": every vertex has one
  pub vertex-named : (v : ℕ) → v < (counts_of (overlay_of ms)).vertices →
      (h : ℕ) × (vertex_cell (tables_of ms (overlay_of ms)) v 3 ≡ pos h) × (h < 2 * (counts_of (overlay_of ms)).edges) × (origin_of (tables_of ms (overlay_of ms)) h ≡ v)
  vertex-named v l =
      let b : v < length (vertices_of ms) = subst (λ (n : ℕ). v < n) (vertex-count ms) l in
      (h ms K v b, out_cell v b, subst (λ (n : ℕ). (h ms K) v b < n) (sym (half_count ms)) (h_below v b), origin_is ms (h ms K v b) (h_below v b) ∙ h_leaves v b)

  -- ── faces ──

  -- the least outer half-edge of a face other than 0 is one, and has that face
  pub face-named : (f : ℕ) → suc f < (counts_of (overlay_of ms)).faces →
      (face_cell (length ms) (tables_of ms (overlay_of ms)) (suc f) (length ms) < 2 * (counts_of (overlay_of ms)).edges)
      × (T.face_of (tables_of ms (overlay_of ms)) (face_cell (length ms) (tables_of ms (overlay_of ms)) (suc f) (length ms)) ≡ suc f)
  face-named f l =
      let x : ℕ = get_or (select (leads_outer (walks_of (g ms K))) (the_half_count (g ms K))) f 0 in
      let (b, e) = face-onto (g ms K) plane f (omega (arith, face-count ms)) in
      let q : face_cell (length ms) (t ms K) (suc f) (length ms) ≡ x = least-cell ms (overlay_of ms) (suc f) l ∙ ap (λ (os : List ℕ). get_or os f 0) (outers-are ms) in
      (subst₂ ◌<◌ (sym q) (sym (half_count ms)) b, ap (T.face_of (t ms K)) q ∙ face-cell_is ms x b ∙ e)
