-- Of Renumber of specs/, what rests on its definitions.
use Rattle.std.specs.Prelude.{◌≡◌, refl, ◌⊎◌, ◌<◌, ◌∷◌}
use Rattle.std.proofs.Common.{sym, ◌∙◌, ap, subst, subst₂, inl, inr}
use Rattle.std.proofs.lemmas.List.{length-map}
use Rattle.std.proofs.Math.ListN.{get_or-map}
use Rattle.seq.specs.Seq.{true, List, [], map, none, some, ℕ, length, get_or}
use Rattle.seq.specs.Terms.{Among, Rising, Asymmetric}
use Rattle.seq.specs.Members.{at_among, among-map, map-among}
use Rattle.seq.specs.Sorted.{rising-unique}
use Rattle.seq.specs.Options.{option_cases}
use Rattle.paper.specs.Plane.{Pt, the_left_by}
use Rattle.paper.specs.Graph.{edge_count, point_in, edge}
use Rattle.paper.specs.Map.{Map}
use Rattle.paper.specs.Pieces.{Piece, earlier, vertices_of, edges_of}
use Rattle.laws_map.specs.Keeps.{seg, edges}
use Rattle.laws_overlay.specs.Maps.{AllKeep}
use Rattle.laws_overlay.specs.Places.{Places, places, at_real}
use Rattle.laws_overlay.specs.Links.{Neighbours, Runs}
use Rattle.laws_overlay.specs.Sources.{source_at}
use Rattle.laws_overlay.specs.Order.{earlier_is, sooner-asym}
use Rattle.laws_overlay.specs.Pieces.{Sourced, no_piece, piece_at, pieces-rising}
use Rattle.laws_overlay.proofs.Pieces.{piece_from, piece_at_lem, piece_of_lem}
use Rattle.laws_overlay.specs.Net.{net_of, net-edges, from_is, to_is}
use Rattle.laws_overlay.proofs.Net.{near, carrier_up, ends_before}
use Rattle.laws_overlay.specs.Inside.{overlaid}
use Rattle.laws_overlay.specs.Rays.{two_carry}
use Rattle.laws_overlay.specs.Alike.{Alike}
use Rattle.laws_overlay.specs.Renumber.{in_ns, Renumbers, renumber_keeps, renumber_back, L, renumber_vertices}

module _ (ms ns : List Map) (to back : ℕ → ℕ) (R : Renumbers ms ns to back) where
  -- ── an edge with two neighbours on it ──

  runs_to : (vs : List Pt) (i k lo hi : ℕ) → Runs ms vs i k lo hi → Runs ns vs (to i) k lo hi
  runs_to vs i k lo hi r =
      let e = sym (R.same i r.in_list) in
      record {
        in_list = in_ns ms ns to back R (R.to_in i r.in_list);
        of_map = subst (λ (m : Map). k < edges m) e r.of_map;
        near = subst (λ (m : Map). Neighbours vs (seg m k) lo hi) e r.near;
      }

-- ── the same ends ──

-- a piece's ends alone
abbrev bare : Piece → Piece
bare q = record { lo = q.lo; hi = q.hi; sources = [] }

earlier_not_both : Asymmetric earlier
earlier_not_both x y e f = sooner-asym (earlier_is x y e) (earlier_is y x f)

bare_above : (x : Piece) (l : List Piece) → ((z : Piece) → Among z l → earlier x z ≡ true) → (z : Piece) → Among z (map bare l) → earlier (bare x) z ≡ true
bare_above x l a z i = let (y, j, e) = map-among bare z l i in subst (λ (w : Piece). earlier (bare x) w ≡ true) e (a y j)

bare-rising : (l : List Piece) → Rising earlier l → Rising earlier (map bare l)
bare-rising [] r = tt
bare-rising (x ∷ xs) r = (bare_above x xs r.0, bare-rising xs r.1)

module _ (vs : List Pt) (O : Places vs) where
  bare-found : (ns : List Map) (q : Piece) → (r : ℕ) × (r < length (edges_of ns vs)) × ((piece_at (edges_of ns vs) r).lo ≡ q.lo) × ((piece_at (edges_of ns vs) r).hi ≡ q.hi) → Among (bare q) (map bare (edges_of ns vs))
  bare-found ns q (r, b, lo, hi) =
      subst (λ (w : Piece). Among w (map bare (edges_of ns vs))) (λ x. record { lo = lo x; hi = hi x; sources = [] })
      (among-map bare (piece_at (edges_of ns vs) r) (edges_of ns vs) (at_among (edges_of ns vs) r no_piece b))

  bare_to : (ms ns : List Map) (to back : ℕ → ℕ) → Renumbers ms ns to back → AllKeep ms → (z : Piece) → Among z (map bare (edges_of ms vs)) → Among z (map bare (edges_of ns vs))
  bare_to ms ns to back R K z i =
      let (q, a, e) = map-among bare z (edges_of ms vs) i in
      let s = piece_from ms K vs O q a in
      let (j, k, f) = s.one in
      subst (λ (w : Piece). Among w (map bare (edges_of ns vs))) e
      (bare-found ns q (piece_of_lem ns (renumber_keeps ms ns to back R K) vs O (to j) k q.lo q.hi (runs_to ms ns to back R vs j k q.lo q.hi (s.from j k f))))

  module _ (ms ns : List Map) (to back : ℕ → ℕ) (R : Renumbers ms ns to back) (K : AllKeep ms) where
    same_bare : map bare (edges_of ns vs) ≡ map bare (edges_of ms vs)
    same_bare =
        rising-unique earlier earlier_not_both (map bare (edges_of ns vs)) (map bare (edges_of ms vs)) (bare-rising (edges_of ns vs) (pieces-rising ns vs)) (bare-rising (edges_of ms vs) (pieces-rising ms vs))
        (bare_to ns ms back to (renumber_back ms ns to back R) (L vs O ms ns to back R K)) (bare_to ms ns to back R K)

    pub renumber_count : length (edges_of ns vs) ≡ length (edges_of ms vs)
    renumber_count = sym (length-map (edges_of ns vs) bare) ∙ ap length same_bare ∙ length-map (edges_of ms vs) bare

    bare_at : (k : ℕ) → bare (piece_at (edges_of ns vs) k) ≡ bare (piece_at (edges_of ms vs) k)
    bare_at k = sym (get_or-map bare (edges_of ns vs) k no_piece) ∙ ap (λ (l : List Piece). get_or l k no_piece) same_bare ∙ get_or-map bare (edges_of ms vs) k no_piece

    pub renumber_low : (k : ℕ) → (piece_at (edges_of ns vs) k).lo ≡ (piece_at (edges_of ms vs) k).lo
    renumber_low k = ap (λ (q : Piece). q.lo) (bare_at k)

    pub renumber_high : (k : ℕ) → (piece_at (edges_of ns vs) k).hi ≡ (piece_at (edges_of ms vs) k).hi
    renumber_high k = ap (λ (q : Piece). q.hi) (bare_at k)

    -- ── sources go with the maps ──

    module _ (k : ℕ) (l : k < length (edges_of ms vs)) where
      s : Sourced ms vs (piece_at (edges_of ms vs) k)
      s = piece_at_lem ms K vs O k l

      s' : Sourced ns vs (piece_at (edges_of ns vs) k)
      s' = piece_at_lem ns (L vs O ms ns to back R K) vs O k (subst (λ (n : ℕ). k < n) (sym renumber_count) l)

      some_to : (i e : ℕ) → source_at (piece_at (edges_of ms vs) k).sources i ≡ some e → source_at (piece_at (edges_of ns vs) k).sources (to i) ≡ some e
      some_to i e q =
          s'.all (to i) e (subst₂ (Runs ns vs (to i) e) (sym (renumber_low k)) (sym (renumber_high k)) (runs_to ms ns to back R vs i e (piece_at (edges_of ms vs) k).lo (piece_at (edges_of ms vs) k).hi (s.from i e q)))

      some_back : (i e : ℕ) → i < length ms → source_at (piece_at (edges_of ns vs) k).sources (to i) ≡ some e → source_at (piece_at (edges_of ms vs) k).sources i ≡ some e
      some_back i e li q =
          s.all i e (subst (λ (j : ℕ). Runs ms vs j e (piece_at (edges_of ms vs) k).lo (piece_at (edges_of ms vs) k).hi) (R.back_to i li)
          (runs_to ns ms back to (renumber_back ms ns to back R) vs (to i) e (piece_at (edges_of ms vs) k).lo (piece_at (edges_of ms vs) k).hi
          (subst₂ (Runs ns vs (to i) e) (renumber_low k) (renumber_high k) (s'.from (to i) e q))))

      pub renumber_source : (i : ℕ) → i < length ms → source_at (piece_at (edges_of ns vs) k).sources (to i) ≡ source_at (piece_at (edges_of ms vs) k).sources i
      renumber_source i li = go (option_cases (source_at (piece_at (edges_of ms vs) k).sources i)) (option_cases (source_at (piece_at (edges_of ns vs) k).sources (to i)))
        where
          go : (source_at (piece_at (edges_of ms vs) k).sources i ≡ none) ⊎ ((e : ℕ) × (source_at (piece_at (edges_of ms vs) k).sources i ≡ some e)) →
              (source_at (piece_at (edges_of ns vs) k).sources (to i) ≡ none) ⊎ ((e : ℕ) × (source_at (piece_at (edges_of ns vs) k).sources (to i) ≡ some e)) →
              source_at (piece_at (edges_of ns vs) k).sources (to i) ≡ source_at (piece_at (edges_of ms vs) k).sources i
          go (inl q) (inl r) = r ∙ sym q
          go (inr (e, q)) r = some_to i e q ∙ sym q
          go (inl q) (inr (e, r)) = r ∙ sym (some_back i e li r)

    -- ── the graphs are alike ──

    net_from : (k : ℕ) → (edge (net_of ns vs) k).from ≡ (edge (net_of ms vs) k).from
    net_from k = from_is ns vs k ∙ renumber_low k ∙ sym (from_is ms vs k)

    net_to : (k : ℕ) → (edge (net_of ns vs) k).to ≡ (edge (net_of ms vs) k).to
    net_to k = to_is ns vs k ∙ renumber_high k ∙ sym (to_is ms vs k)

    net-count : edge_count (net_of ns vs) ≡ edge_count (net_of ms vs)
    net-count = net-edges ns vs ∙ renumber_count ∙ sym (net-edges ms vs)

    pub net-alike : Alike (net_of ms vs) (net_of ns vs)
    net-alike = record {
      points = refl;
      count = net-count;
      from = net_from;
      to = net_to;
      carry = λ k l.
          let l' = subst (λ (n : ℕ). k < n) (sym net-count) l in
          let n = near ms K vs O k l in
          let n' = near ns (L vs O ms ns to back R K) vs O k l' in
          let a = (edge (net_of ms vs) k).from in
          let b = (edge (net_of ms vs) k).to in
          let t = (edge (net_of ns vs) k).carrier in
          two_carry (edge (net_of ms vs) k).carrier t (carrier_up ms K vs O k l) (carrier_up ns (L vs O ms ns to back R K) vs O k l') (point_in vs a) (point_in vs b) (at_real vs O a) (ends_before ms K vs O k l)
          n.on_lo.line n.on_hi.line (ap (λ (v : ℕ). the_left_by t (point_in vs v)) (sym (net_from k)) ∙ n'.on_lo.line) (ap (λ (v : ℕ). the_left_by t (point_in vs v)) (sym (net_to k)) ∙ n'.on_hi.line);
    }

pub renumber_alike : (ms ns : List Map) (to back : ℕ → ℕ) → Renumbers ms ns to back → AllKeep ms → Alike (overlaid ms) (overlaid ns)
renumber_alike ms ns to back R K =
    subst (λ (vs : List Pt). Alike (overlaid ms) (net_of ns vs)) (sym (renumber_vertices ms ns to back R K)) (net-alike (vertices_of ms) (places ms K) ms ns to back R K)
