-- Of Net of specs/, what rests on its definitions.
use Rattle.std.specs.Prelude.{◌≡◌, ◌<◌, ◌+◌, ◌*◌, ◌/◌}
use Rattle.std.proofs.Common.{sym, ◌∙◌, ap, subst}
use Rattle.seq.specs.Seq.{true, List, ℕ}
use Rattle.paper.specs.Plane.{Pt, Seg, before, lower, upper}
use Rattle.paper.specs.Graph.{Graph, Edge, edge_count, the_half_count, point_in, edge, even, twin, origin, start, low, high, goes_up, upward}
use Rattle.paper.specs.Map.{Map}
use Rattle.paper.specs.Pieces.{layer, Piece, edges_of}
use Rattle.laws_plane.specs.Cone.{UpV}
use Rattle.laws_plane.specs.Points.{before_asym}
use Rattle.laws_plane.specs.Ends.{lower_is, upper_is}
use Rattle.laws_graph.specs.Plane.{upward_up}
use Rattle.laws_graph.specs.Halves.{half_below, twin_first, twin-second, even_double, odd_double, origin_first, origin-second, Which, first, second, which}
use Rattle.laws_overlay.specs.Maps.{AllKeep}
use Rattle.laws_overlay.specs.Places.{Places, at_before}
use Rattle.laws_overlay.specs.Links.{Neighbours, Runs}
use Rattle.laws_overlay.specs.Pieces.{Sourced, piece_at}
use Rattle.laws_overlay.proofs.Pieces.{piece_at_lem}
use Rattle.laws_overlay.specs.Net.{net_of, net-edges, Lies, carrier_is, from_is, to_is, edge_is, Goes, up, down}

-- ── edge k ──

module _ (ms : List Map) (K : AllKeep ms) (vs : List Pt) (O : Places vs) where
  abbrev n : Graph
  n = net_of ms vs

  module _ (k : ℕ) (l : k < edge_count (net_of ms vs)) where
    abbrev q : Piece
    q = piece_at (edges_of ms vs) k

    pub sourced : Sourced ms vs (piece_at (edges_of ms vs) k)
    sourced = piece_at_lem ms K vs O k (subst (λ (x : ℕ). k < x) (net-edges ms vs) l)

    pub lies : Lies ms vs k
    lies =
        let (i, r, e) = sourced.one in
        let (j, s, f, c) = carrier_is ms q.sources sourced.width i r e in
        record {
          layer_of = j;
          source = s;
          runs = subst (λ (x : ℕ). Runs ms vs j s x (edge n k).to) (sym (from_is ms vs k)) (subst (λ (x : ℕ). Runs ms vs j s q.lo x) (sym (to_is ms vs k)) (sourced.from j s f));
          along = ap (λ (e : Edge). e.carrier) (edge_is ms vs k) ∙ c;
        }

    -- on its carrier its ends are neighbours
    pub near : Neighbours vs (edge (net_of ms vs) k).carrier (edge (net_of ms vs) k).from (edge (net_of ms vs) k).to
    near = subst (λ (s : Seg). Neighbours vs s (edge n k).from (edge n k).to) (sym lies.along) lies.runs.near

    pub carrier_up : UpV (upward (net_of ms vs) k)
    carrier_up =
        let i = lies.layer_of in
        subst (λ (s : Seg). UpV s.up) (sym lies.along) (upward_up (layer ms i).graph (K i lies.runs.in_list).plane lies.source lies.runs.of_map)

    pub ends_before : before (point_in vs (edge (net_of ms vs) k).from) (point_in vs (edge (net_of ms vs) k).to) ≡ true
    ends_before = at_before vs O (edge n k).from (edge n k).to near.rises near.below

    first_start : start n (2 * k) ≡ point_in vs (edge n k).from
    first_start = ap (point_in vs) (origin_first k n)

    second-start : start n (2 * k + 1) ≡ point_in vs (edge n k).to
    second-start = ap (point_in vs) (origin-second k n)

    -- lower and upper end
    pub low_is : low (net_of ms vs) k ≡ point_in vs (edge (net_of ms vs) k).from
    low_is = (λ i. lower (first_start i) (second-start i)) ∙ lower_is (point_in vs (edge n k).from) (point_in vs (edge n k).to) ends_before

    pub high_is : high (net_of ms vs) k ≡ point_in vs (edge (net_of ms vs) k).to
    high_is = (λ i. upper (first_start i) (second-start i)) ∙ upper_is (point_in vs (edge n k).from) (point_in vs (edge n k).to) ends_before

  -- ── half-edges ──

  module _ (h : ℕ) (l : h < the_half_count (net_of ms vs)) where
    pub goes : Goes ms K vs O h
    goes = go (which h)
      where
        e : before (point_in vs (edge n (h / 2)).from) (point_in vs (edge n (h / 2)).to) ≡ true
        e = ends_before (h / 2) (half_below n h l)

        go : Which h → Goes ms K vs O h
        go (first q) =
            let a : origin n h ≡ (edge n (h / 2)).from = ap (origin n) q ∙ origin_first (h / 2) n in
            let b : origin n (twin h) ≡ (edge n (h / 2)).to = ap (origin n) (ap twin q ∙ twin_first (h / 2)) ∙ origin-second (h / 2) n in
            up q a b ((λ i. before (point_in vs (a i)) (point_in vs (b i))) ∙ e)
        go (second q) =
            let a : origin n h ≡ (edge n (h / 2)).to = ap (origin n) q ∙ origin-second (h / 2) n in
            let b : origin n (twin h) ≡ (edge n (h / 2)).from = ap (origin n) (ap twin q ∙ twin-second (h / 2)) ∙ origin_first (h / 2) n in
            down q a b ((λ i. before (point_in vs (a i)) (point_in vs (b i))) ∙ before_asym (point_in vs (edge n (h / 2)).from) (point_in vs (edge n (h / 2)).to) e)

    -- "Half-edge 2k goes from lower to upper, 2k+1 back"
    pub goes-even : goes_up (net_of ms vs) h ≡ even h
    goes-even = go goes
      where
        go : Goes ms K vs O h → goes_up n h ≡ even h
        go (up q a b u) = u ∙ sym (even_double (h / 2)) ∙ ap even (sym q)
        go (down q a b u) = u ∙ sym (odd_double (h / 2)) ∙ ap even (sym q)
