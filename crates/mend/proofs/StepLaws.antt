-- The steps as numbers, and as the code tells them; then that on the ends of a file that can be mended they are those of its map (`..-here`). Assumes nothing.
use Rattle.std.specs.Prelude.{◌&&◌, ◌||◌, ◌+◌, ◌*◌}
use mathlib.Core.Path.{◌≡◌, refl, sym, ◌∙◌, ap}
use Prim.Native.Nat.{◌≤◌, ◌<◌}
use native.Mathlib.Omega.{arith}
use Rattle.seq.specs.Seq.{Bool, true, false, cond, not, List, ℕ, eqb, length, get_or, the_some_below, filled}
use Rattle.seq.proofs.Least.{some_ext}
use Rattle.seq.specs.Filled.{Holds, filled_at, length-filled}
use Rattle.paper.specs.Graph.{Graph, edge, origin}
use Rattle.paper.specs.Map.{map_of, vertex_count, edges_in}
use Rattle.paper.specs.Mend.{into, from_now, to_now, shrunk, alike, repeated, kept_edge, kept_edges, ends_at, has_edge}
use Rattle.laws_graph.specs.Halves.{origin_first, origin-second}
use Rattle.laws_graph.specs.Reading.{points-count, edges-count}
use Rattle.laws_mend.specs.Clean.{Mendable}
use Rattle.laws_mend.specs.Loops.{has_by_marks}
use Rattle.laws_mend.specs.Merged.{into-le}
use Rattle.mend.specs.Keys.{pair_key}
use Rattle.mend.specs.Steps.{merged_in, shrunk_in, alike_in, repeated_in, edge_step, step_is, has_in, vertex_step}
use Rattle.mend.proofs.KeyLaws.{pair_like}

-- ── one step after the other ──

pub shrunk-step : (s r : Bool) → s ≡ true → 2 ≡ edge_step s r
shrunk-step s r e = rw e

pub seen_step : (s r : Bool) → s ≡ false → r ≡ true → 3 ≡ edge_step s r
seen_step s r e f = rw (e, f)

pub kept_step : (s r : Bool) → s ≡ false → r ≡ false → 0 ≡ edge_step s r
kept_step s r e f = rw (e, f)

-- ── a step, asked for ──

pub edge_kept : (a b : Bool) → eqb (edge_step a b) 0 ≡ not (a || b)
edge_kept true b = refl
edge_kept false true = refl
edge_kept false false = refl

pub edge-shrunk : (a b : Bool) → eqb (edge_step a b) 2 ≡ a
edge-shrunk true b = refl
edge-shrunk false true = refl
edge-shrunk false false = refl

pub edge-repeated : (a b : Bool) → eqb (edge_step a (not a && b)) 3 ≡ (not a && b)
edge-repeated true b = refl
edge-repeated false true = refl
edge-repeated false false = refl

pub vertex_has : (h m : Bool) → eqb (vertex_step h m) 0 ≡ h
vertex_has true m = refl
vertex_has false true = refl
vertex_has false false = refl

pub vertex-merged : (h m : Bool) → (h ≡ true → m ≡ false) → eqb (vertex_step h m) 1 ≡ m
vertex-merged true m f = sym (f refl)
vertex-merged false true f = refl
vertex-merged false false f = refl

pub vertex-bare : (h m : Bool) → eqb (vertex_step h m) 4 ≡ not (m || h)
vertex-bare true true = refl
vertex-bare true false = refl
vertex-bare false true = refl
vertex-bare false false = refl

-- the steps of vertices, where the ends of what is kept were set to 0 in a table of the others
pub vertex-stepped : (is t es : List ℕ) (n e : ℕ) (d u w : List ℕ) → n ≤ length d → u ≡ filled n (λ v. cond (merged_in is v) 1 4) d
    → Holds (λ v. cond (has_in t es e v) 0 (get_or u v 0)) w (length u) → Holds (λ v. vertex_step (has_in t es e v) (merged_in is v)) w n
vertex-stepped is t es n e d u w h q m =
    let k : length u ≡ length d = ap length q ∙ length-filled (λ v. cond (merged_in is v) 1 4) n d h in
    record {
      long = omega (arith, h, k, m.long);
      at = λ v l. m.at v (omega (arith, h, k)) ∙ ap (cond (has_in t es e v) 0) (ap (λ (x : List ℕ). get_or x v 0) q ∙ filled_at (λ v. cond (merged_in is v) 1 4) n v d 0 l);
    }

-- ── of the map ──

module _ (s : List ℕ) (can : Mendable s) (t : List ℕ) (T : Holds (λ h. into (map_of s).graph (origin (map_of s).graph h)) t (2 * edges_in s)) where
  abbrev g : Graph
  g = (map_of s).graph

  pub from_here : (j : ℕ) → j < edges_in s → get_or t (2 * j) 0 ≡ from_now (map_of s).graph j
  from_here j l = T.at (2 * j) (omega arith) ∙ ap (into g) (origin_first j g)

  pub to_here : (j : ℕ) → j < edges_in s → get_or t (2 * j + 1) 0 ≡ to_now (map_of s).graph j
  to_here j l = T.at (2 * j + 1) (omega arith) ∙ ap (into g) (origin-second j g)

  pub from_below : (j : ℕ) → j < edges_in s → from_now (map_of s).graph j < vertex_count s
  from_below j l = omega (arith, into-le g (edge g j).from, points-count s, can.from_below j (omega (arith, edges-count s)))

  pub to_below : (j : ℕ) → j < edges_in s → to_now (map_of s).graph j < vertex_count s
  to_below j l = omega (arith, into-le g (edge g j).to, points-count s, can.to_below j (omega (arith, edges-count s)))

  shrunk-here : (j : ℕ) → j < edges_in s → shrunk_in t j ≡ shrunk (map_of s).graph j
  shrunk-here j l i = eqb (from_here j l i) (to_here j l i)

  alike-here : (j m : ℕ) → j < edges_in s → m < edges_in s → alike_in t j m ≡ alike (map_of s).graph j m
  alike-here j m a b =
      (λ i. eqb (pair_key (from_here j a i) (to_here j a i)) (pair_key (from_here m b i) (to_here m b i)))
      ∙ pair_like (from_now g j) (to_now g j) (from_now g m) (to_now g m) (small (from_below j a)) (small (to_below j a)) (small (from_below m b)) (small (to_below m b))
    where
      small : {v : ℕ} → v < vertex_count s → v < 65536
      small h = omega (arith, can.form.few_vertices)

  repeated-here : (j : ℕ) → j < edges_in s → repeated_in t j ≡ repeated (map_of s).graph j
  repeated-here j l i = not (shrunk-here j l i) && some_ext (alike_in t j) (alike g j) j (λ m b. alike-here j m l (omega arith)) i

  pub edge-step-here : (j : ℕ) → j < edges_in s → edge_step (shrunk_in t j) (repeated_in t j) ≡ edge_step (shrunk (map_of s).graph j) (repeated (map_of s).graph j)
  edge-step-here j l i = edge_step (shrunk-here j l i) (repeated-here j l i)

  -- an edge that is kept ends at u
  module _ (es : List ℕ) (E : Holds (λ j. edge_step (shrunk (map_of s).graph j) (repeated (map_of s).graph j)) es (edges_in s)) where
    pub kept_here : (j : ℕ) → j < edges_in s → step_is es 0 j ≡ kept_edge (map_of s).graph j
    kept_here j l = ap (λ (x : ℕ). eqb x 0) (E.at j l) ∙ edge_kept (shrunk g j) (repeated g j)

    pub has_here : (u : ℕ) → has_in t es (edges_in s) u ≡ has_edge (map_of s).graph (kept_edges (map_of s).graph) u
    has_here u =
        some_ext (λ j. step_is es 0 j && (eqb u (get_or t (2 * j) 0) || eqb u (get_or t (2 * j + 1) 0))) (λ j. kept_edge g j && ends_at g u j) (edges_in s)
        (λ j l i. kept_here j l i && (eqb u (from_here j l i) || eqb u (to_here j l i)))
        ∙ ap (the_some_below (λ j. kept_edge g j && ends_at g u j)) (sym (edges-count s))
        ∙ sym (has_by_marks g u)
