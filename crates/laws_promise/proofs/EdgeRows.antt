-- (b) and (e) of Defined: the edges, their sources, and the edge record. Assumes nothing.
use Rattle.std.specs.Prelude.{◌≡◌, ◌⊎◌, ◌<◌, ◌-◌, ◌&&◌, ◌+◌, ◌*◌}
use Rattle.std.proofs.Common.{sym, ◌∙◌, ap, subst, inl, inr, arith, eqb-true, ltb-true}
use Rattle.seq.specs.Seq.{true, List, ℕ, ltb, eqb, length, get_or}
use Rattle.seq.specs.Tests.{or_cases, and_parts}
use Rattle.seq.specs.Members.{at_among}
use Rattle.seq.specs.Pairs.{rising_at}
use Rattle.paper.specs.Plane.{Pt}
use Rattle.paper.specs.Graph.{Graph}
use Rattle.paper.specs.Map.{Map}
use Rattle.paper.specs.Pieces.{layer, Piece, earlier, along, vertices_of, edges_of}
use Rattle.paper.specs.Tables.{Counts, Tables, origin_of, the_plus_one}
use Rattle.laws_map.specs.Keeps.{edges}
use Rattle.laws_overlay.specs.Maps.{AllKeep}
use Rattle.laws_overlay.specs.Places.{places}
use Rattle.laws_overlay.specs.Links.{along_from}
use Rattle.laws_overlay.specs.Pieces.{no_piece, piece_at, pieces-rising}
use Rattle.laws_overlay.proofs.Pieces.{piece_of_lem}
use Rattle.laws_overlay.specs.Net.{net-edges}
use Rattle.laws_overlay.specs.Inside.{overlaid}
use Rattle.laws_overlay.proofs.Chain.{chain}
use Rattle.laws_promise.specs.Defined.{Joined, EdgeRows}
use Rattle.laws_promise.specs.Rows.{Pieced}
use Rattle.laws_promise.specs.Held.{Held, overlay-pieced}
use Rattle.laws_promise.specs.Nears as Nears
use Rattle.laws_promise.specs.Nears.{near-runs}
use Rattle.laws_promise.proofs.Nears.{has_source_lem, cell-near, near-cell}

module _ (ms : List Map) (K : AllKeep ms) (c : Counts) (t : Tables) (H : Held ms c t) where
  abbrev vs : List Pt
  vs = vertices_of ms

  abbrev g : Graph
  g = overlaid ms

  abbrev ps : List Piece
  ps = edges_of ms (vertices_of ms)

  counted : {v : ℕ} → v < length vs → v < c.vertices
  counted {v} = subst (λ (n : ℕ). v < n) (sym H.vertices-are)

  in_pieces : {k : ℕ} → k < c.edges → k < length ps
  in_pieces {k} = subst (λ (n : ℕ). k < n) (H.edges_are ∙ net-edges ms vs)

  of_pieces : {k : ℕ} → k < length ps → k < c.edges
  of_pieces {k} = subst (λ (n : ℕ). k < n) (sym (H.edges_are ∙ net-edges ms vs))

  -- the ends of an edge, and its sources
  N : Pieced ms (edges_of ms (vertices_of ms)) (overlaid ms)
  N = overlay-pieced ms K

  low_end : (k : ℕ) → k < c.edges → origin_of t (2 * k) ≡ (piece_at ps k).lo
  low_end = Nears.low_end ms ps g N c t H

  high_end : (k : ℕ) → k < c.edges → origin_of t (2 * k + 1) ≡ (piece_at ps k).hi
  high_end = Nears.high_end ms ps g N c t H

  -- ── order ──

  earlier_is : (p q : Piece) → earlier p q ≡ true → (p.lo < q.lo) ⊎ ((p.lo ≡ q.lo) × (p.hi < q.hi))
  earlier_is p q e = go (or_cases (ltb p.lo q.lo) (eqb p.lo q.lo && ltb p.hi q.hi) e)
    where
      go : (ltb p.lo q.lo ≡ true) ⊎ ((eqb p.lo q.lo && ltb p.hi q.hi) ≡ true) → (p.lo < q.lo) ⊎ ((p.lo ≡ q.lo) × (p.hi < q.hi))
      go (inl f) = inl (ltb-true p.lo q.lo f)
      go (inr f) = let r = and_parts (eqb p.lo q.lo) (ltb p.hi q.hi) f in inr (eqb-true p.lo q.lo r.0, ltb-true p.hi q.hi r.1)

  in_order : (k r : ℕ) → k < r → r < c.edges → (origin_of t (2 * k) < origin_of t (2 * r)) ⊎ ((origin_of t (2 * k) ≡ origin_of t (2 * r)) × (origin_of t (2 * k + 1) < origin_of t (2 * r + 1)))
  in_order k r h l = go (earlier_is (piece_at ps k) (piece_at ps r) (rising_at earlier ps no_piece (pieces-rising ms vs) k r h (in_pieces l)))
    where
      lk : k < c.edges
      lk = omega arith

      go : ((piece_at ps k).lo < (piece_at ps r).lo) ⊎ (((piece_at ps k).lo ≡ (piece_at ps r).lo) × ((piece_at ps k).hi < (piece_at ps r).hi))
          → (origin_of t (2 * k) < origin_of t (2 * r)) ⊎ ((origin_of t (2 * k) ≡ origin_of t (2 * r)) × (origin_of t (2 * k + 1) < origin_of t (2 * r + 1)))
      go (inl x) = inl (omega (arith, low_end k lk, low_end r l))
      go (inr (e, x)) = inr (low_end k lk ∙ e ∙ sym (low_end r l), omega (arith, high_end k lk, high_end r l))

  -- ── the pieces of an edge join up ──

  join : (i k : ℕ) → i < length ms → k < edges (layer ms i) → Joined ms c t i k
  join i k li lk =
      let l = along vs (layer ms i).graph k in
      let C = chain ms K i k li lk in
      let stop-below : (j : ℕ) → j < length l → get_or l j 0 < c.vertices = λ j b. counted (along_from vs (layer ms i).graph k (get_or l j 0) (at_among l j 0 b)).0 in
      record {
        stops = l;
        two = C.two;
        starts = H.point_is (get_or l 0 0) (stop-below 0 (omega (arith, C.two))) ∙ C.first;
        ends = H.point_is (get_or l (length l - 1) 0) (stop-below (length l - 1) (omega (arith, C.two))) ∙ C.last;
        piece = λ j b. let (r, d, x, y, s) = C.piece j b in
            (r, of_pieces d, low_end r (of_pieces d) ∙ x, high_end r (of_pieces d) ∙ y, H.source_at_lem r i (of_pieces d) li ∙ ap the_plus_one s);
      }

  pub edge-rows : EdgeRows ms c t
  edge-rows = record {
    edge_is = has_source_lem ms ps g N c t H;
    edge-there = λ i j u v n. let (r, b, x, y) = piece_of_lem ms K vs (places ms K) i j u v (near-runs ms ps g N c t H i j u v n) in
        (r, of_pieces b, low_end r (of_pieces b) ∙ x, high_end r (of_pieces b) ∙ y);
    source_is = λ k i j l b e. cell-near ms ps g N c t H k l i j b e;
    source-there = λ k i j l n. near-cell ms ps g N c t H k l i j n;
    sorted = in_order;
    joined = join;
  }
