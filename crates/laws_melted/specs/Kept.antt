-- Ask 12 in the lent tables, beside those of the overlay of the same files: what stands in the melted tables, and that nothing is missing (`Kept`). A half-edge is told by its place: where it starts, where it ends, its
-- sources (`SamePlace`). An edge of the overlay stays exactly if the labels stored for its two faces differ (`OneSide`). From the rows of both tables; from the two promises: Keeps. Assumes nothing.
use Rattle.std.specs.Prelude.{◌≡◌, ◌<◌, ◌≤◌, ◌+◌, ◌*◌, ◌/◌}
use Rattle.std.proofs.Common.{sym, ◌∙◌, ap, subst, arith, eqb-true}
use Rattle.std.proofs.Math.Decide.{dec_lt}
use Rattle.seq.specs.Seq.{Bool, true, false, not, cond, List, ℕ, eqb, length, get_or, table}
use Rattle.seq.specs.Tests.{not-false, was-true}
use Rattle.seq.proofs.Least.{no_some_is}
use Rattle.seq.specs.Count.{count_before}
use Rattle.seq.specs.Table.{length-table, table-ext, table_of}
use Rattle.paper.specs.Plane.{same}
use Rattle.paper.specs.Graph.{Graph, edge_count, the_half_count, even, twin, origin, start}
use Rattle.paper.specs.Map.{Map}
use Rattle.paper.specs.Pieces.{Piece, vertices_of, edges_of}
use Rattle.paper.specs.Faces.{overlay_of, labels_of}
use Rattle.paper.specs.Tables.{Counts, Tables, origin_of, twin_of, source_cell, the_plus_one}
use Rattle.paper.specs.Tables as T
use Rattle.paper.specs.Melt.{separates, melted_pieces, melted_graph, melted_of}
use Rattle.laws_plane.specs.Points.{same_self}
use Rattle.laws_graph.specs.Halves.{even_double, odd_double, half_first, half-second, half_below, origin_first, origin-second, Which, first, second, which}
use Rattle.laws_overlay.specs.Maps.{AllKeep}
use Rattle.laws_overlay.specs.Places.{places}
use Rattle.laws_overlay.specs.Sources.{source_at}
use Rattle.laws_overlay.specs.Net.{net-edges}
use Rattle.laws_overlay.specs.NetPlane.{edge-number}
use Rattle.laws_overlay.specs.Inside.{overlaid}
use Rattle.laws_labels.specs.Demand3.{stored, Agrees}
use Rattle.laws_melt.specs.Part.{Part, as_half, old_below, start_old, end_old}
use Rattle.laws_melt.specs.Thin.{was, stood, was-kept, kept-was, melted-piece, melted-part}
use Rattle.laws_melt.specs.Melts.{was_half, melted-labels, melted-differ}
use Rattle.laws_melt.specs.Fewer.{melted-joins}
use Rattle.laws_promise.specs.Defined.{the_point_at, the_from_at}
use Rattle.laws_promise.specs.Rows.{Pieced, Rows}
use Rattle.laws_promise.specs.Held.{Held, overlay-pieced}
use Rattle.laws_promise.specs.Ways.{in_net, of_net, origin-counted, twin-counted, from_start}
use Rattle.laws_melted.specs.Rows.{melted-pieced}
use Rattle.laws_melted.specs.Order.{melted-used}

-- of n maps: half-edge w of the tables u and half-edge h of the tables t lie at one place
pub record SamePlace (n : ℕ) (u t : Tables) (w h : ℕ) : Type 0 where
  pub starts : the_from_at u w ≡ the_from_at t h
  pub ends : the_from_at u (twin_of u w) ≡ the_from_at t (twin_of t h)
  pub sources : (i : ℕ) → i < n → source_cell n u (w / 2) i ≡ source_cell n t (h / 2) i

-- "the same pair on both sides": of edge k, what is stored for its two faces
abbrev pub OneSide : ℕ → Tables → ℕ → Type 0
OneSide n t k = stored n t (T.face_of t (2 * k)) ≡ stored n t (T.face_of t (2 * k + 1))

-- of n maps: the overlay's tables u, with counts d, and the melted tables t, with counts c
pub record Kept (n : ℕ) (d : Counts) (u : Tables) (c : Counts) (t : Tables) : Type 0 where
  -- which half-edge of the overlay half-edge h of the melted tables is: it lies where that one lies, and they stand in one order
  pub of_overlay : ℕ → ℕ
  pub there : (h : ℕ) → h < 2 * c.edges → of_overlay h < 2 * d.edges
  pub place : (h : ℕ) → h < 2 * c.edges → SamePlace n u t (of_overlay h) h
  pub in_step : (h r : ℕ) → h < r → r < 2 * c.edges → of_overlay h < of_overlay r
  -- "Each kept half-edge keeps its pair"
  pub keeps-pair : (h : ℕ) → h < 2 * c.edges → stored n t (T.face_of t h) ≡ stored n u (T.face_of u (of_overlay h))
  -- "no edge is left with the same pair on both sides"
  pub differ : (k : ℕ) → k < c.edges → OneSide n t k → ⊥
  -- every other edge is left
  pub none_missing : (k : ℕ) → k < d.edges → (OneSide n u k → ⊥) → (j : ℕ) × (j < c.edges) × SamePlace n u t (2 * k) (2 * j) × SamePlace n u t (2 * k + 1) (2 * j + 1)
  -- "every edge with the same pair on both sides is dropped"
  pub dropped : (k j : ℕ) → k < d.edges → j < c.edges → OneSide n u k → the_from_at u (2 * k) ≡ the_from_at t (2 * j) → the_from_at u (2 * k + 1) ≡ the_from_at t (2 * j + 1) → ⊥
  -- "then vertices left without an edge": a vertex that is left is where an edge that is left starts or ends, and each such is left
  pub vertex-used : (v : ℕ) → v < c.vertices → (h : ℕ) × (h < 2 * c.edges) × (origin_of t h ≡ v)
  pub vertex_of_lem : (v : ℕ) → v < c.vertices → (w : ℕ) × (w < 2 * d.edges) × (the_from_at u w ≡ the_point_at t v) × (OneSide n u (w / 2) → ⊥)
  pub vertex-there : (w : ℕ) → w < 2 * d.edges → (OneSide n u (w / 2) → ⊥) → (v : ℕ) × (v < c.vertices) × (the_point_at t v ≡ the_from_at u w)
  -- cells are only put together: half-edges that are left and were of one face are of one face
  pub joins : (h r : ℕ) → h < 2 * c.edges → r < 2 * c.edges → T.face_of u (of_overlay h) ≡ T.face_of u (of_overlay r) → T.face_of t h ≡ T.face_of t r

module _ (ms : List Map) (K : AllKeep ms) (d : Counts) (u : Tables) (H : Held ms d u) (A : Agrees (length ms) d u (labels_of ms (overlay_of ms)))
    (c : Counts) (t : Tables) (R : Rows ms (melted_pieces ms (overlay_of ms)) (melted_graph ms (overlay_of ms)) c t) (B : Agrees (length ms) c t (labels_of ms (melted_of ms))) where
  abbrev n : ℕ
  n = length ms

  abbrev g : Graph
  g = overlaid ms

  abbrev s : Graph
  s = melted_graph ms (overlay_of ms)

  abbrev mps : List Piece
  mps = melted_pieces ms (overlay_of ms)

  abbrev S : Part g s (was ms K) (stood ms K)
  S = melted-part ms K

  abbrev ops : List Piece
  ops = edges_of ms (vertices_of ms)

  O : Pieced ms (edges_of ms (vertices_of ms)) (overlaid ms)
  O = overlay-pieced ms K

  N : Pieced ms (melted_pieces ms (overlay_of ms)) (melted_graph ms (overlay_of ms))
  N = melted-pieced ms K

  in_melted : {h : ℕ} → h < 2 * c.edges → h < the_half_count s
  in_melted {h} = subst (λ (z : ℕ). h < 2 * z) R.edges_are

  of_melted : {k : ℕ} → k < edge_count s → k < c.edges
  of_melted {k} = subst (λ (z : ℕ). k < z) (sym R.edges_are)

  -- ── places ──

  there_by : (h : ℕ) → h < 2 * c.edges → was_half ms K h < 2 * d.edges
  there_by h l = of_net ms ops g O d u H (old_below g s (was ms K) (stood ms K) S h (in_melted l))

  source_by_lem : (h i : ℕ) → h < 2 * c.edges → i < n → source_cell n u (was_half ms K h / 2) i ≡ source_cell n t (h / 2) i
  source_by_lem h i l b =
      let lk : h / 2 < edge_count s = half_below s h (in_melted l) in
      ap (λ (x : ℕ). source_cell n u x i) (as_half (was ms K (h / 2)) h)
      ∙ H.source_at_lem (was ms K (h / 2)) i (subst (λ (z : ℕ). was ms K (h / 2) < z) (sym H.edges_are) (S.edge_below (h / 2) lk)) b
      ∙ ap (λ (p : Piece). the_plus_one (source_at p.sources i)) (sym (melted-piece ms K (h / 2) lk))
      ∙ sym (R.source_at_lem (h / 2) i (of_melted lk) b)

  place_by_lem : (h : ℕ) → h < 2 * c.edges → SamePlace n u t (was_half ms K h) h
  place_by_lem h l = record {
    starts = from_start ms ops g O d u H (was_half ms K h) (there_by h l) ∙ sym (start_old g s (was ms K) (stood ms K) S h (in_melted l)) ∙ sym (from_start ms mps s N c t R h l);
    ends = ap (the_from_at u) (H.twin_at (was_half ms K h) (there_by h l))
        ∙ from_start ms ops g O d u H (twin (was_half ms K h)) (twin-counted ms ops g O d u H (was_half ms K h) (there_by h l))
        ∙ sym (end_old g s (was ms K) (stood ms K) S h (in_melted l)) ∙ sym (ap (the_from_at t) (R.twin_at h l) ∙ from_start ms mps s N c t R (twin h) (twin-counted ms mps s N c t R h l));
    sources = λ i b. source_by_lem h i l b;
  }

  -- the two half-edges of an edge
  was_first : (k : ℕ) → was_half ms K (2 * k) ≡ 2 * was ms K k
  was_first k = λ i. cond (even_double k i) (2 * was ms K (half_first k i)) (2 * was ms K (half_first k i) + 1)

  was-second : (k : ℕ) → was_half ms K (2 * k + 1) ≡ 2 * was ms K k + 1
  was-second k = λ i. cond (odd_double k i) (2 * was ms K (half-second k i)) (2 * was ms K (half-second k i) + 1)

  -- they stand in one order
  was-rises : (j k : ℕ) → j < k → k < edge_count s → was ms K j < was ms K k
  was-rises j k a l =
      let x = was-kept ms K j (omega arith) in
      let y = was-kept ms K k l in
      count_before (separates ms (overlay_of ms)) (was ms K j) (was ms K k) (omega (arith, x.2, y.2))

  module _ (k h : ℕ) where
    as_least : (b : Bool) → 2 * k ≤ cond b (2 * k) (2 * k + 1)
    as_least true = omega arith
    as_least false = omega arith

    as_most : (b : Bool) → cond b (2 * k) (2 * k + 1) ≤ 2 * k + 1
    as_most true = omega arith
    as_most false = omega arith

  in_step_by : (h r : ℕ) → h < r → r < 2 * c.edges → was_half ms K h < was_half ms K r
  in_step_by h r a l =
      elim (dec_lt (h / 2) (r / 2)) [
        | yes q ↦ omega (arith, was-rises (h / 2) (r / 2) q (half_below s r (in_melted l)), as_most (was ms K (h / 2)) h (even h), as_least (was ms K (r / 2)) r (even r))
        | no q ↦ let e : h ≡ 2 * (r / 2) = omega arith in let f : r ≡ 2 * (r / 2) + 1 = omega arith in
            omega (arith, ap (was_half ms K) e ∙ was_first (r / 2), ap (was_half ms K) f ∙ was-second (r / 2))
      ]

  -- ── labels ──

  pair_by : (h : ℕ) → h < 2 * c.edges → stored n t (T.face_of t h) ≡ stored n u (T.face_of u (was_half ms K h))
  pair_by h l = B.stored-pair h l ∙ melted-labels ms K h (in_melted l) ∙ sym (A.stored-pair (was_half ms K h) (there_by h l))

  differ_by : (k : ℕ) → k < c.edges → OneSide n t k → ⊥
  differ_by k l e = melted-differ ms K k (subst (λ (z : ℕ). k < z) R.edges_are l) (sym (B.stored-pair (2 * k) (omega arith)) ∙ e ∙ B.stored-pair (2 * k + 1) (omega arith))

  -- an edge that is left has not the same labels on both sides in the overlay
  kept-differs : (j : ℕ) → j < c.edges → OneSide n u (was ms K j) → ⊥
  kept-differs j l e =
      differ_by j l
      (pair_by (2 * j) (omega arith) ∙ ap (λ (w : ℕ). stored n u (T.face_of u w)) (was_first j) ∙ e ∙ sym (ap (λ (w : ℕ). stored n u (T.face_of u w)) (was-second j)) ∙ sym (pair_by (2 * j + 1) (omega arith)))

  -- and one that has not is left
  module _ (k : ℕ) (l : k < d.edges) where
    abbrev west : List ℕ
    west = labels_of ms (overlay_of ms) (2 * k)

    abbrev east : List ℕ
    east = labels_of ms (overlay_of ms) (2 * k + 1)

    whole : (xs : List ℕ) → length xs ≡ n → table (λ i. get_or xs i 0) n ≡ xs
    whole xs e = ap (table (λ i. get_or xs i 0)) (sym e) ∙ table_of xs 0

    one_side : separates ms (overlay_of ms) k ≡ false → OneSide n u k
    one_side f =
        A.stored-pair (2 * k) (omega arith) ∙ sym (whole west (length-table _ n))
        ∙ table-ext (λ i. get_or west i 0) (λ i. get_or east i 0) n (λ i b. eqb-true (get_or west i 0) (get_or east i 0) (was-true (eqb (get_or west i 0) (get_or east i 0)) (no_some_is (λ i. not (eqb (get_or west i 0) (get_or east i 0))) n f i b)))
        ∙ whole east (length-table _ n) ∙ sym (A.stored-pair (2 * k + 1) (omega arith))

    pub left_by : (OneSide n u k → ⊥) → (j : ℕ) × (j < c.edges) × (was ms K j ≡ k)
    left_by w =
        let (j, lj, e) = kept-was ms K k (subst (λ (z : ℕ). k < z) (H.edges_are ∙ net-edges ms (vertices_of ms)) l) (not-false (separates ms (overlay_of ms) k) (λ f. w (one_side f))) in
        (j, of_melted lj, e)

  missing_by : (k : ℕ) → k < d.edges → (OneSide n u k → ⊥) → (j : ℕ) × (j < c.edges) × SamePlace n u t (2 * k) (2 * j) × SamePlace n u t (2 * k + 1) (2 * j + 1)
  missing_by k l w =
      let (j, lj, e) = left_by k l w in (
        j,
        lj,
        subst (λ (x : ℕ). SamePlace n u t x (2 * j)) (was_first j ∙ ap (λ (x : ℕ). 2 * x) e) (place_by_lem (2 * j) (omega arith)),
        subst (λ (x : ℕ). SamePlace n u t x (2 * j + 1)) (was-second j ∙ ap (λ (x : ℕ). 2 * x + 1) e) (place_by_lem (2 * j + 1) (omega arith)),
      )

  -- ── an edge of the overlay is told by its place ──

  one_origin : (w x : ℕ) → w < 2 * d.edges → x < 2 * d.edges → the_from_at u w ≡ the_from_at u x → origin g w ≡ origin g x
  one_origin w x lw lx e =
      let a = from_start ms ops g O d u H w lw in
      let b = from_start ms ops g O d u H x lx in
      O.plane.distinct (origin g w) (origin g x) (O.plane.starts w (in_net ms ops g O d u H lw)) (O.plane.starts x (in_net ms ops g O d u H lx))
      (ap (same (start g w)) (sym b ∙ sym e ∙ a) ∙ same_self (start g w))

  one_edge : (k r : ℕ) → k < d.edges → r < d.edges → the_from_at u (2 * k) ≡ the_from_at u (2 * r) → the_from_at u (2 * k + 1) ≡ the_from_at u (2 * r + 1) → k ≡ r
  one_edge k r lk lr e f =
      edge-number ms K (vertices_of ms) (places ms K) k r (subst (λ (z : ℕ). k < z) H.edges_are lk) (subst (λ (z : ℕ). r < z) H.edges_are lr)
      (sym (origin_first k g) ∙ one_origin (2 * k) (2 * r) (omega arith) (omega arith) e ∙ origin_first r g)
      (sym (origin-second k g) ∙ one_origin (2 * k + 1) (2 * r + 1) (omega arith) (omega arith) f ∙ origin-second r g)

  dropped_by : (k j : ℕ) → k < d.edges → j < c.edges → OneSide n u k → the_from_at u (2 * k) ≡ the_from_at t (2 * j) → the_from_at u (2 * k + 1) ≡ the_from_at t (2 * j + 1) → ⊥
  dropped_by k j lk lj o a b =
      let r = was ms K j in
      let lr : r < d.edges = subst (λ (z : ℕ). r < z) (sym H.edges_are) (S.edge_below j (subst (λ (z : ℕ). j < z) R.edges_are lj)) in
      let x : the_from_at u (2 * r) ≡ the_from_at t (2 * j) = subst (λ (w : ℕ). the_from_at u w ≡ the_from_at t (2 * j)) (was_first j) (place_by_lem (2 * j) (omega arith)).starts in
      let y : the_from_at u (2 * r + 1) ≡ the_from_at t (2 * j + 1) = subst (λ (w : ℕ). the_from_at u w ≡ the_from_at t (2 * j + 1)) (was-second j) (place_by_lem (2 * j + 1) (omega arith)).starts in
      kept-differs j lj (subst (OneSide n u) (one_edge k r lk lr (a ∙ sym x) (b ∙ sym y)) o)

  -- ── vertices ──

  vertex_by_lem : (v : ℕ) → v < c.vertices → (w : ℕ) × (w < 2 * d.edges) × (the_from_at u w ≡ the_point_at t v) × (OneSide n u (w / 2) → ⊥)
  vertex_by_lem v l =
      let (h, lh, e) = melted-used ms K c t R v l in
      (was_half ms K h, there_by h lh, (place_by_lem h lh).starts ∙ ap (the_point_at t) e, λ o. kept-differs (h / 2) (omega arith) (subst (OneSide n u) (as_half (was ms K (h / 2)) h) o))

  vertex-there_by : (w : ℕ) → w < 2 * d.edges → (OneSide n u (w / 2) → ⊥) → (v : ℕ) × (v < c.vertices) × (the_point_at t v ≡ the_from_at u w)
  vertex-there_by w l o = let (j, lj, p, q) = missing_by (w / 2) (omega arith) o in go j lj p q (which w)
    where
      go : (j : ℕ) → j < c.edges → SamePlace n u t (2 * (w / 2)) (2 * j) → SamePlace n u t (2 * (w / 2) + 1) (2 * j + 1) → Which w → (v : ℕ) × (v < c.vertices) × (the_point_at t v ≡ the_from_at u w)
      go j lj p q (first e) = (origin_of t (2 * j), origin-counted ms mps s N c t R (2 * j) (omega arith), sym p.starts ∙ ap (the_from_at u) (sym e))
      go j lj p q (second e) = (origin_of t (2 * j + 1), origin-counted ms mps s N c t R (2 * j + 1) (omega arith), sym q.starts ∙ ap (the_from_at u) (sym e))

  pub rows-kept : Kept (length ms) d u c t
  rows-kept = record {
    of_overlay = was_half ms K;
    there = there_by;
    place = place_by_lem;
    in_step = in_step_by;
    keeps-pair = pair_by;
    differ = differ_by;
    none_missing = missing_by;
    dropped = dropped_by;
    vertex-used = melted-used ms K c t R;
    vertex_of_lem = vertex_by_lem;
    vertex-there = vertex-there_by;
    joins = λ h r lh lr e.
        R.face_at_lem h lh
        ∙ melted-joins ms K h r (in_melted lh) (in_melted lr) (sym (H.face_at_lem (was_half ms K h) (there_by h lh)) ∙ e ∙ H.face_at_lem (was_half ms K r) (there_by r lr)) ∙ sym (R.face_at_lem r lr);
  }
