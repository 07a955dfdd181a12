-- The sweep over the tables of the layers: their edges and corners are those of the maps that the tables hold, so that what the sweep asks is met, and the points that it
-- meets are the overlay's vertices. Assumes nothing.
use Rattle.std.specs.Prelude.{◌≡◌, ◌≤◌, ◌<◌, ◌++◌, ◌+◌, ◌*◌}
use Rattle.std.proofs.Common.{sym, ◌∙◌, ap, add-one, arith, lt-ltb, le-ltb}
use Rattle.std.proofs.Math.Decide.{dec_lt}
use Rattle.seq.specs.Seq.{List, ℕ, zero, suc, ltb, length, ℤ, table, rows}
use Rattle.seq.proofs.Least.{least_is}
use Rattle.seq.specs.Table.{table-+, table-ext, table-map}
use Rattle.paper.specs.Limits.{maps}
use Rattle.paper.specs.Graph.{edge}
use Rattle.paper.specs.Map.{Map}
use Rattle.paper.specs.Pieces.{layer, the_in_order, vertices_of}
use Rattle.laws_sweep.specs.Sweep.{Strand, strands_of, corners_of}
use Rattle.overlay_cut.specs.Rooms.{vertex_rows}
use Rattle.overlay_cut.specs.Points.{points_of}
use Rattle.overlay_cut.specs.Cuts.{start_of}
use Rattle.overlay_cut.specs.Laws.Holds.{Holds, edges_in}
use Rattle.overlay_sweep.specs.Ahead.{the_map_at, strand_at}
use Rattle.overlay_sweep.specs.Between.{Outcome, all, more}
use Rattle.overlay_sweep.specs.Between as Between
use Rattle.overlay_sweep.specs.Loop.{Given, stops_in}
use Rattle.overlay_sweep.specs.Vertices.{maps-given, maps-swept}
use Rattle.overlay_maps.specs.Held.{vertex_start, edge_start, held_maps, Held}
use Rattle.overlay_maps.specs.Layers.{Layers}
use Rattle.overlay_graph.specs.Collected.{CollectedOf}
use Rattle.overlay_graph.specs.Laws.Standing.{keep, holds, corners-near, starts}

-- ── tables that hold maps ──

module _ {ms : List Map} {corners : List ℤ} {c : ℕ} {cs : List ℤ} {st : List ℕ} (H : Holds ms corners c cs st) where
  -- the maps start one after the other
  starts_rise : (n j : ℕ) → n ≤ maps → j ≤ n → start_of st j ≤ start_of st n
  starts_rise zero j h l = let e : j ≡ 0 = omega arith in omega (arith, ap (start_of st) e)
  starts_rise (suc n) j h l =
      let s : start_of st (suc n) ≡ start_of st n + edges_in ms n = ap (start_of st) (sym (add-one n)) ∙ H.next n (omega arith) in
      elim (dec_lt n j) [
        | yes q ↦ let e : j ≡ suc n = omega arith in omega (arith, ap (start_of st) e)
        | no q ↦ omega (arith, s, starts_rise n j (omega arith) (omega arith))
      ]

  -- edge k of map i, by its number in the table
  module _ (i k : ℕ) (h : i < maps) (q : k < edges_in ms i) where
    map_is : the_map_at st (start_of st i + k) ≡ i
    map_is =
        least_is (λ m. ltb (start_of st i + k) (start_of st (m + 1))) maps i h
        (λ j l. le-ltb (start_of st i + k) (start_of st (j + 1)) (omega (arith, starts_rise i (j + 1) (omega arith) (omega arith))))
        (lt-ltb (start_of st i + k) (start_of st (i + 1)) (omega (arith, H.next i h)))

    strand_is : strand_at cs st (start_of st i + k) ≡ record { of = i; seg = (edge (layer ms i).graph k).carrier }
    strand_is = let s = H.carriers-are i k h q in λ j. record { of = map_is j; seg = s j }

  abbrev edges_of : ℕ → List Strand
  edges_of i = table (λ k. record { of = i; seg = (edge (layer ms i).graph k).carrier }) (edges_in ms i)

  strands_to : (n : ℕ) → n ≤ maps → table (strand_at cs st) (start_of st n) ≡ rows edges_of n
  strands_to zero h = ap (table (strand_at cs st)) H.first
  strands_to (suc n) h =
      let b : n < maps = omega arith in
      let s : start_of st (suc n) ≡ start_of st n + edges_in ms n = ap (start_of st) (sym (add-one n)) ∙ H.next n b in
      ap (table (strand_at cs st)) s ∙ table-+ (strand_at cs st) (start_of st n) (edges_in ms n)
      ∙ (λ i. strands_to n (omega arith) i
      ++ table-ext (λ k. strand_at cs st (start_of st n + k)) (λ k. record { of = n; seg = (edge (layer ms n).graph k).carrier }) (edges_in ms n) (λ k q. strand_is n k b q) i)

  pub edges_are : Between.edges_in cs (start_of st maps) st ≡ strands_of ms
  edges_are = table-map (strand_at cs st) (λ i. i) (start_of st maps) ∙ strands_to maps (omega arith) ∙ ap (rows edges_of) (sym H.count)

  pub corners-are : the_in_order (points_of corners c) ≡ corners_of ms
  corners-are = ap the_in_order H.corners-are

-- ── layers ──

-- all of them, or that there are more than the overlay may have
outcome_is : (ms : List Map) (t : List ℤ) (r : ℕ) → Outcome (vertices_of ms) t r → CollectedOf ms vertex_rows t r
outcome_is ms t r (all h e) = record { vertices-are = λ q. e; vertices_over = λ q. absurd (omega arith) }
outcome_is ms t r (more h e) = record { vertices-are = λ q. absurd (omega arith); vertices_over = λ q. omega arith }

module _ (l : Layers) (H : Held l) where
  pub layers-given : (out : List ℤ) → 4 * vertex_rows ≤ length out → Given l.carriers (edge_start l maps) l.edges l.corners (vertex_start l maps) out
  layers-given out room =
      maps-given (held_maps l) (keep l H) l.carriers (edge_start l maps) l.edges l.corners (vertex_start l maps) (edges_are (holds l H)) (corners-are (holds l H)) out
      (starts l H).carried (corners-near l H) H.edges_long (omega (arith, H.edges_few)) room

  pub layers-swept : (t : List ℤ) (r : ℕ) → Outcome (stops_in l.carriers (edge_start l maps) l.edges l.corners (vertex_start l maps)) t r → CollectedOf (held_maps l) vertex_rows t r
  layers-swept t r o =
      outcome_is (held_maps l) t r
      (maps-swept (held_maps l) (keep l H) l.carriers (edge_start l maps) l.edges l.corners (vertex_start l maps) (edges_are (holds l H)) (corners-are (holds l H)) t r o)
