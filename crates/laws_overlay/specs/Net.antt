-- The graph of the overlay, edge by edge: edge k joins the ends of piece k and lies along an edge of an input map, its carrier, on which they are neighbours (`Lies`). So
-- half-edge 2k goes up, 2k + 1 goes down, and lower and upper end are the vertices of lesser and greater number. Assumes nothing.
use Rattle.std.specs.Prelude.{◌≡◌, refl, ◌∷◌, ◌+◌, ◌*◌, ◌/◌}
use Rattle.std.proofs.Common.{sym, ◌∙◌, ap, arith}
use Rattle.std.proofs.lemmas.List.{length-map}
use Rattle.std.proofs.Math.ListN.{get_or-map}
use Rattle.seq.specs.Seq.{true, false, List, [], map, Option, none, some, ℕ, zero, suc, length, get_or}
use Rattle.seq.specs.Options.{none_some}
use Rattle.paper.specs.Plane.{Pt, Seg}
use Rattle.paper.specs.Graph.{Graph, Edge, no_edge, edge_count, edge, twin, origin, goes_up}
use Rattle.paper.specs.Map.{Map}
use Rattle.paper.specs.Pieces.{layer, carrier_of, edge_of, edges_of, graph_of}
use Rattle.laws_map.specs.Keeps.{seg}
use Rattle.laws_overlay.specs.Maps.{AllKeep}
use Rattle.laws_overlay.specs.Places.{Places}
use Rattle.laws_overlay.specs.Links.{Runs}
use Rattle.laws_overlay.specs.Sources.{source_at}
use Rattle.laws_overlay.specs.Pieces.{no_piece, piece_at}

-- the overlay's graph over the points vs
abbrev pub net_of : List Map → List Pt → Graph
net_of ms vs = graph_of ms vs (edges_of ms vs)

-- ── carriers ──

-- the carrier is an edge that is a source
pub carrier_is : (ms : List Map) (ss : List (Option ℕ)) → length ss ≡ length ms → (i k : ℕ) → source_at ss i ≡ some k → (j : ℕ) × (r : ℕ) × (source_at ss j ≡ some r) × (carrier_of ms ss ≡ seg (layer ms j) r)
carrier_is [] [] w i k e = absurd (none_some e)
carrier_is [] (s ∷ ss) w i k e = absurd (omega arith)
carrier_is (m ∷ ms) [] w i k e = absurd (none_some e)
carrier_is (m ∷ ms) (none ∷ ss) w zero k e = absurd (none_some e)
carrier_is (m ∷ ms) (none ∷ ss) w (suc i) k e = let (j, r, f, c) = carrier_is ms ss (omega arith) i k e in (suc j, r, f, c)
carrier_is (m ∷ ms) (some r ∷ ss) w i k e = (0, r, refl, refl)

no_carrier : (ms : List Map) → carrier_of ms [] ≡ no_edge.carrier
no_carrier [] = refl
no_carrier (m ∷ ms) = refl

-- ── edge k ──

module _ (ms : List Map) (vs : List Pt) where
  abbrev g : Graph
  g = net_of ms vs

  pub net-edges : edge_count (net_of ms vs) ≡ length (edges_of ms vs)
  net-edges = length-map (edges_of ms vs) (edge_of ms)

  -- edge k is that of piece k, also past the last
  pub edge_is : (k : ℕ) → edge (net_of ms vs) k ≡ edge_of ms (piece_at (edges_of ms vs) k)
  edge_is k =
      ap (λ (c : Seg). get_or (map (edge_of ms) (edges_of ms vs)) k (record { from = 0; to = 0; carrier = c })) (sym (no_carrier ms))
      ∙ get_or-map (edge_of ms) (edges_of ms vs) k no_piece

  pub from_is : (k : ℕ) → (edge (net_of ms vs) k).from ≡ (piece_at (edges_of ms vs) k).lo
  from_is k = ap (λ (e : Edge). e.from) (edge_is k)

  pub to_is : (k : ℕ) → (edge (net_of ms vs) k).to ≡ (piece_at (edges_of ms vs) k).hi
  to_is k = ap (λ (e : Edge). e.to) (edge_is k)

-- edge k of the overlay lies along an edge of a map, between neighbours on it
pub record Lies (ms : List Map) (vs : List Pt) (k : ℕ) : Type 0 where
  pub layer_of : ℕ
  pub source : ℕ
  pub runs : Runs ms vs layer_of source (edge (net_of ms vs) k).from (edge (net_of ms vs) k).to
  pub along : (edge (net_of ms vs) k).carrier ≡ seg (layer ms layer_of) source

module _ (ms : List Map) (K : AllKeep ms) (vs : List Pt) (O : Places vs) where
  -- ── half-edges ──

  -- half-edge h of edge k goes up from its lower end, or down from its upper
  pub data Goes (h : ℕ) : Type 0 where
    up : h ≡ 2 * (h / 2) → origin (net_of ms vs) h ≡ (edge (net_of ms vs) (h / 2)).from → origin (net_of ms vs) (twin h) ≡ (edge (net_of ms vs) (h / 2)).to → goes_up (net_of ms vs) h ≡ true → Goes h
    down : h ≡ 2 * (h / 2) + 1 → origin (net_of ms vs) h ≡ (edge (net_of ms vs) (h / 2)).to → origin (net_of ms vs) (twin h) ≡ (edge (net_of ms vs) (h / 2)).from → goes_up (net_of ms vs) h ≡ false → Goes h
