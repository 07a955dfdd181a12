-- Melting with an empty map put anywhere into the list: the same edges and vertices are kept, and the melted tables are the same but for one source more, none, at its place (`melted-empty`). So the two maps' melted
-- tables are those of three with an empty third (02, Ask 13). Of any list of maps. Assumes nothing.
use Rattle.std.proofs.lemmas.Simd.{map-map}
use Rattle.std.specs.Prelude.{◌≡◌, ◌<◌, ◌≤◌, ◌||◌, ◌*◌, ◌+◌}
use Rattle.std.proofs.Common.{sym, ◌∙◌, ap, not-suc-le-zero, arith}
use Rattle.std.proofs.Math.Decide.{dec_lt, ℕ_discrete}
use Rattle.std.proofs.lemmas.List.{length-map}
use Rattle.seq.specs.Seq.{Bool, true, false, not, List, map, none, ℕ, zero, suc, eqb, length, get_or, select, the_some_below}
use Rattle.seq.specs.Tests.{bool-ext, clash}
use Rattle.seq.proofs.Least.{some_has, some_witness, some_ext}
use Rattle.seq.specs.Count.{count-ext}
use Rattle.seq.specs.Select.{select-ext, select_from_lem}
use Rattle.seq.specs.Put.{put, put_before, put-default, put_past}
use Rattle.seq.specs.Members.{map-ext, map_at}
use Rattle.paper.specs.Graph.{point}
use Rattle.paper.specs.Map.{Map}
use Rattle.paper.specs.Pieces.{Piece, edge_of}
use Rattle.paper.specs.Faces.{Overlay, overlay_of, overlay_by, walks_of, net, labels_of}
use Rattle.laws_overlay.specs.Pieces.{no_piece, piece_at}
use Rattle.laws_overlay.specs.EmptyMap.{with_empty, with_none, one_more, edges_same}
use Rattle.laws_overlay.specs.EmptyTables.{with_nones, empty-overlay, empty-labels}
use Rattle.paper.specs.Melt.{separates, kept_edges, kept_pieces, is_end, kept_vertices, afresh, melted_pieces, melted_graph, melted_of}

-- ── two lists with the same number put in differ where they did ──

module _ (a n : ℕ) (h : a ≤ n) (l r : List ℕ) where
  abbrev differ : List ℕ → List ℕ → ℕ → Bool
  differ x y i = not (eqb (get_or x i 0) (get_or y i 0))

  before : (i : ℕ) → i < a → differ (put a 0 l) (put a 0 r) i ≡ differ l r i
  before i q = λ t. not (eqb (put_before a 0 l 0 i q t) (put_before a 0 r 0 i q t))

  own : differ (put a 0 l) (put a 0 r) a ≡ false
  own = (λ t. not (eqb (put-default a l 0 t) (put-default a r 0 t)))

  past : (i : ℕ) → a ≤ i → differ (put a 0 l) (put a 0 r) (suc i) ≡ differ l r i
  past i q = λ t. not (eqb (put_past a 0 l 0 i q t) (put_past a 0 r 0 i q t))

  there : the_some_below (differ (put a 0 l) (put a 0 r)) (suc n) ≡ true → the_some_below (differ l r) n ≡ true
  there e =
      let (i, b, w) = some_witness (differ (put a 0 l) (put a 0 r)) (suc n) e in
      elim (dec_lt i a) [
        | yes q ↦ some_has (differ l r) n i (omega arith) (sym (before i q) ∙ w)
        | no q ↦ elim (ℕ_discrete i a) [
          | yes z ↦ absurd (clash (ap (differ (put a 0 l) (put a 0 r)) (sym z) ∙ w) own)
          | no z ↦ later i (omega arith) b w
        ]
      ]
    where
      later : (i : ℕ) → a < i → i < suc n → differ (put a 0 l) (put a 0 r) i ≡ true → the_some_below (differ l r) n ≡ true
      later zero q b w = absurd (not-suc-le-zero q)
      later (suc i) q b w = some_has (differ l r) n i (omega arith) (sym (past i (omega arith)) ∙ w)

  back : the_some_below (differ l r) n ≡ true → the_some_below (differ (put a 0 l) (put a 0 r)) (suc n) ≡ true
  back e =
      let (i, b, w) = some_witness (differ l r) n e in
      elim (dec_lt i a) [
        | yes q ↦ some_has (differ (put a 0 l) (put a 0 r)) (suc n) i (omega arith) (before i q ∙ w)
        | no q ↦ some_has (differ (put a 0 l) (put a 0 r)) (suc n) (suc i) (omega arith) (past i (omega arith) ∙ w)
      ]

  same_differ : the_some_below (differ (put a 0 l) (put a 0 r)) (suc n) ≡ the_some_below (differ l r) n
  same_differ = bool-ext (the_some_below (differ (put a 0 l) (put a 0 r)) (suc n)) (the_some_below (differ l r) n) there back

-- ── what is kept ──

module _ (a : ℕ) where
  -- an end is an end
  end_same : (ps : List Piece) (v : ℕ) → is_end (map (with_none a) ps) v ≡ is_end ps v
  end_same ps v =
      ap (the_some_below (λ k. eqb (piece_at (map (with_none a) ps) k).lo v || eqb (piece_at (map (with_none a) ps) k).hi v)) (length-map ps (with_none a))
      ∙ some_ext (λ k. eqb (piece_at (map (with_none a) ps) k).lo v || eqb (piece_at (map (with_none a) ps) k).hi v) (λ k. eqb (piece_at ps k).lo v || eqb (piece_at ps k).hi v) (length ps)
      (λ k l. ap (λ (p : Piece). eqb p.lo v || eqb p.hi v) (map_at (with_none a) ps k no_piece no_piece l))

module _ (ms : List Map) (a : ℕ) (h : a ≤ length ms) where
  abbrev more : List Map
  more = with_empty a ms

  abbrev o : Overlay
  o = overlay_of ms

  abbrev o' : Overlay
  o' = overlay_of more

  pub separates-empty : (k : ℕ) → separates (with_empty a ms) (overlay_of (with_empty a ms)) k ≡ separates ms (overlay_of ms) k
  separates-empty k =
      (λ t. the_some_below (λ i. not (eqb (get_or (empty-labels ms a h (2 * k) t) i 0) (get_or (empty-labels ms a h (2 * k + 1) t) i 0))) (one_more ms a h t))
      ∙ same_differ a (length ms) h (labels_of ms o (2 * k)) (labels_of ms o (2 * k + 1))

  pieces_are : o'.pieces ≡ map (with_none a) o.pieces
  pieces_are = ap (λ (x : Overlay). x.pieces) (empty-overlay ms a h)

  same_kept : kept_edges more o' ≡ kept_edges ms o
  same_kept =
      ap (λ (l : List Piece). select (separates more o') (length l)) pieces_are
      ∙ ap (select (separates more o')) (length-map o.pieces (with_none a))
      ∙ select-ext (separates more o') (separates ms o) (length o.pieces) (λ k l. separates-empty k)

  same_pieces : kept_pieces more o' ≡ map (with_none a) (kept_pieces ms o)
  same_pieces =
      (λ t. map (piece_at (pieces_are t)) (same_kept t))
      ∙ map-ext (piece_at (map (with_none a) o.pieces)) (λ k. with_none a (piece_at o.pieces k)) (kept_edges ms o)
      (λ k i. map_at (with_none a) o.pieces k no_piece no_piece (select_from_lem (separates ms o) (length o.pieces) k i).0)
      ∙ sym (map-map (with_none a) (piece_at o.pieces) (kept_edges ms o))

  same_used : (v : ℕ) → is_end (kept_pieces more o') v ≡ is_end (kept_pieces ms o) v
  same_used v = ap (λ (l : List Piece). is_end l v) same_pieces ∙ end_same a (kept_pieces ms o) v

  same_afresh : (p : Piece) → afresh (is_end (kept_pieces more o')) (with_none a p) ≡ with_none a (afresh (is_end (kept_pieces ms o)) p)
  same_afresh p = λ t. record {
    lo = count-ext (is_end (kept_pieces more o')) (is_end (kept_pieces ms o)) p.lo (λ v l. same_used v) t;
    hi = count-ext (is_end (kept_pieces more o')) (is_end (kept_pieces ms o)) p.hi (λ v l. same_used v) t;
    sources = put a none p.sources;
  }

  same_melted : melted_pieces more o' ≡ map (with_none a) (melted_pieces ms o)
  same_melted =
      ap (map (afresh (is_end (kept_pieces more o')))) same_pieces
      ∙ map-map (afresh (is_end (kept_pieces more o'))) (with_none a) (kept_pieces ms o)
      ∙ map-ext (λ p. afresh (is_end (kept_pieces more o')) (with_none a p)) (λ p. with_none a (afresh (is_end (kept_pieces ms o)) p)) (kept_pieces ms o) (λ p i. same_afresh p)
      ∙ sym (map-map (with_none a) (afresh (is_end (kept_pieces ms o))) (kept_pieces ms o))

  same_vertices : kept_vertices (is_end (kept_pieces more o')) (net o') ≡ kept_vertices (is_end (kept_pieces ms o)) (net o)
  same_vertices =
      ap (λ (x : Overlay). kept_vertices (is_end (kept_pieces more o')) (net x)) (empty-overlay ms a h)
      ∙ ap (map (point (net o))) (select-ext (is_end (kept_pieces more o')) (is_end (kept_pieces ms o)) (length (net o).points) (λ v l. same_used v))

  pub melted-graph : melted_graph (with_empty a ms) (overlay_of (with_empty a ms)) ≡ melted_graph ms (overlay_of ms)
  melted-graph = λ t. record { points = same_vertices t; edges = (ap (map (edge_of more)) same_melted ∙ edges_same a ms (melted_pieces ms o)) t }

  -- the same but for one source more, none
  pub melted-empty : melted_of (with_empty a ms) ≡ with_nones a (melted_of ms)
  unfolding melted_of
  melted-empty = λ t. overlay_by (same_melted t) (walks_of (melted-graph t))
