-- The tables of a file that passes the check: its graph is plane, no two edges of it share a stretch, and each edge's carrier goes from its lower to its upper end. So with its edges in the order of lower
-- ends, laid for looks, the map is `Railed` (`file-railed`). Assumes nothing.
use Rattle.std.specs.Prelude.{◌≡◌, refl, ◌≤◌, ◌<◌, ◌*◌}
use Rattle.std.proofs.Common.{sym, ◌∙◌, ap, subst, arith, get_or-take}
use Rattle.seq.specs.Seq.{List, none, ℕ, length, get_or, take, ℤ, pos, cell, filled, laid}
use Rattle.seq.specs.Filled.{filled_at, length-filled}
use Rattle.seq.specs.Laid.{laid_at, length-laid}
use Rattle.paper.specs.Graph.{Graph, edge, goes_up, east_side}
use Rattle.paper.specs.Map.{fault, map_of, label, vertex_count, edges_in}
use Rattle.laws_graph.specs.Corners.{Corners, corners-clear}
use Rattle.laws_graph.specs.Laid.{foot_low, head_high}
use Rattle.laws_graph.specs.Reading.{edges-count}
use Rattle.laws_map.specs.Passes.{passes-rules}
use Rattle.laws_map.specs.Files.{file-corners}
use Rattle.laws_map.proofs.Files.{passes-keeps}
use Rattle.laws_looks.specs.Ordered.{InOrder}
use Rattle.plane.specs.Bounds as Bounds
use Rattle.plane.specs.Values.{seg}
use Rattle.graph.specs.Flat.{flat_graph, Flat, carrier_at, Carriers}
use Rattle.graph.specs.Laws.Decode.{flat-carrier}
use Rattle.graph.specs.Look.{east_at, flat-east}
use Rattle.looks.specs.Ordering.{the_edge_in, ByLowerEnds}
use Rattle.looks.specs.Ordered.{in_order}
use Rattle.looks.specs.Rails.{seg_row, side_below}
use Rattle.looks.specs.Railed.{Railed}

module _ (s : List ℕ) (ok : fault s ≡ none) (ps : List ℤ) (os : List ℕ) (cs : List ℤ) (ls xs : List ℕ) (F : Flat ps os cs (vertex_count s) (edges_in s)) (is : flat_graph ps os cs (vertex_count s) (edges_in s) ≡ (map_of s).graph)
    (labels-are : take (2 * edges_in s) ls ≡ (map_of s).labels) (B : ByLowerEnds ps os (edges_in s) xs) (rs₀ rs : List ℤ) (es₀ es : List ℕ) (room_rows : 4 * edges_in s ≤ length rs₀) (room-easts : edges_in s ≤ length es₀)
    (rows_are : rs ≡ laid (edges_in s) (λ i. seg_row (carrier_at cs (the_edge_in xs i))) rs₀) (easts-are : es ≡ filled (edges_in s) (λ i. get_or ls (east_at ps os (the_edge_in xs i)) 0) es₀) where
  abbrev e : ℕ
  e = edges_in s

  abbrev n : ℕ
  n = vertex_count s

  abbrev g : Graph
  g = (map_of s).graph

  C : Corners g
  C = file-corners s (passes-rules s ok)

  named : (i : ℕ) → i < e → the_edge_in xs i < e
  named i l = B.numbers.named i l

  row_is : (i : ℕ) → i < e → carrier_at rs i ≡ carrier_at cs (the_edge_in xs i)
  row_is i l = ap (λ (t : List ℤ). carrier_at t i) rows_are ∙ (λ t. seg (at 0 (omega arith) t) (at 1 (omega arith) t) (at 2 (omega arith) t) (at 3 (omega arith) t))
    where
      at : (j : ℕ) → j < 4 → cell (pos 0) 4 (laid e (λ i. seg_row (carrier_at cs (the_edge_in xs i))) rs₀) i j ≡ get_or (seg_row (carrier_at cs (the_edge_in xs i))) j (pos 0)
      at j b = laid_at 4 (λ i. seg_row (carrier_at cs (the_edge_in xs i))) (λ k. refl) e i j rs₀ (pos 0) l b

  carrier_is : (k : ℕ) → k < e → carrier_at cs k ≡ (edge g k).carrier
  carrier_is k l = sym (flat-carrier ps os cs n e k l) ∙ ap (λ (x : Graph). (edge x k).carrier) is

  label_is : (k : ℕ) → k < e → get_or ls (east_at ps os k) 0 ≡ label (map_of s) (east_side g k)
  label_is k l =
      ap (λ (h : ℕ). get_or ls h 0) (flat-east ps os cs n e F k l ∙ ap (λ (x : Graph). east_side x k) is)
      ∙ sym (get_or-take (2 * e) ls (east_side g k) 0 (east_below k l))
      ∙ ap (λ (t : List ℕ). get_or t (east_side g k) 0) labels-are
    where
      east_below : (k : ℕ) → k < e → east_side g k < 2 * e
      east_below k l = side_below (goes_up g (2 * k)) k l

  pub file-railed : Railed (map_of s).graph (label (map_of s)) (edges_in s) rs es
  file-railed = record {
    plane = (passes-keeps s ok).plane;
    clear = corners-clear g C;
    many = edges-count s;
    order = the_edge_in xs;
    in_order = subst (λ (x : Graph). InOrder x (the_edge_in xs)) is (in_order ps os cs n e F xs B);
    rows = λ i l. row_is i l ∙ carrier_is (the_edge_in xs i) (named i l);
    feet = λ k l. foot_low g C.laid k (omega (arith, edges-count s));
    heads = λ k l. head_high g C.laid k (omega (arith, edges-count s));
    easts = λ i l. ap (λ (t : List ℕ). get_or t i 0) easts-are ∙ filled_at (λ i. get_or ls (east_at ps os (the_edge_in xs i)) 0) e i es₀ 0 l ∙ label_is (the_edge_in xs i) (named i l);
    carriers = record {
      long = omega (arith, room_rows, ap length rows_are, length-laid 4 (λ i. seg_row (carrier_at cs (the_edge_in xs i))) (λ k. refl) e rs₀ room_rows);
      near = λ i l. subst Bounds.Edge (sym (row_is i l)) (F.carriers.near (the_edge_in xs i) (named i l));
    };
    labelled = omega (arith, room-easts, ap length easts-are, length-filled (λ i. get_or ls (east_at ps os (the_edge_in xs i)) 0) e es₀ room-easts);
  }
