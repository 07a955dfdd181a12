-- The layers of a list of files that pass hold their maps: `held-maps` and `layers-held`. In order: where each map starts; its part of a table in which all stand;
-- the tables of one file; one map in its parts; all. Assumes nothing.
use Rattle.std.specs.Prelude.{◌∷◌, ◌++◌, ◌+◌, ◌*◌, ◌-◌}
use mathlib.Core.Path.{◌≡◌, refl, sym, ◌∙◌, ap, subst}
use mathlib.Core.List.{append_assoc}
use Prim.Native.Nat.{◌≤◌, ◌<◌}
use native.Mathlib.Nat.{not-suc-le-zero, mul-add, mul-le-mul_left}
use native.Mathlib.Numerals.{add-one}
use native.Mathlib.Omega.{arith}
use lib.ListN.{length-append, length-map, get_or-map}
use lib.Seq.{take_at, drop_at}
use Rattle.seq.specs.Seq.{Option, none, some, List, [], map, ℕ, zero, suc, length, get_or, take, drop, ℤ, gather, over, filled, laid}
use Rattle.seq.specs.Table.{table_is}
use Rattle.seq.specs.Over.{length_over, over_at}
use Rattle.seq.specs.Filled.{filled_all}
use Rattle.seq.specs.Laid.{laid_all}
use Rattle.seq.specs.Total.{total}
use Rattle.paper.specs.Limits.{maps, map_edges}
use Rattle.paper.specs.Refusal.{Refusal, first_of}
use Rattle.paper.specs.Graph.{Graph, origin}
use Rattle.paper.specs.Map.{Map, map_of, vertex_count, edges_in, fault, form_faults, part_faults, net_faults}
use Rattle.laws_map.specs.Keeps.{Keeps}
use Rattle.laws_map.proofs.Files.{passes-keeps}
use Rattle.laws_refusals.specs.Refusals.{first_none}
use Rattle.graph.specs.Flat.{Flat, flat_graph}
use Rattle.map_file.specs.Rows.{point_row, carrier_row}
use Rattle.map_check.specs.Held.{flat_map, stored}
use Rattle.map_check.specs.Laws.Kept.{Kept}
use Rattle.map_check.proofs.KeptLaws.{kept}
use Rattle.map_check.proofs.RoomLaws.{stored_all}
use Rattle.map_check.proofs.LoadedLaws.{point-held, carrier-held, cell-held, labels-table, graph-held, held-flat}
use Rattle.overlay_maps.specs.Ended.{Ended}
use Rattle.overlay_maps.specs.Standing.{cells, standing, Stands}
use Rattle.overlay_maps.specs.Layers.{Layers, corners_of, origins_of, carriers_of, labels_of, starts, Layered, LayerRoom}
use Rattle.overlay_maps.specs.Held.{vertex_start, edge_start, held_map, held_maps, Held}
use Rattle.overlay_maps.proofs.StackLaws.{corners_long, origins_long, carriers_long, labels_long, gather_long}
use Rattle.overlay_maps.proofs.RoomLaws.{total_within, total_under}

-- ── where each map starts ──

module _ (count : List ℕ → ℕ) where
  starts_long : (n : ℕ) (files : List (List ℕ)) → length (starts count n files) ≡ suc (length files)
  starts_long n [] = refl
  starts_long n (s ∷ files) = ap suc (starts_long (n + count s) files)

  start_first : (n : ℕ) (files : List (List ℕ)) → get_or (starts count n files) 0 0 ≡ n
  start_first n [] = refl
  start_first n (s ∷ files) = refl

  start_next : (n : ℕ) (files : List (List ℕ)) (i : ℕ) → i < length files → get_or (starts count n files) (suc i) 0 ≡ get_or (starts count n files) i 0 + count (get_or files i [])
  start_next n [] i l = absurd (not-suc-le-zero l)
  start_next n (s ∷ files) zero l = start_first (n + count s) files
  start_next n (s ∷ files) (suc i) l = start_next (n + count s) files i (omega arith)

  start_within : (n : ℕ) (files : List (List ℕ)) (i : ℕ) → i ≤ length files → get_or (starts count n files) i 0 ≤ n + total count files
  start_within n [] zero l = omega arith
  start_within n [] (suc i) l = absurd (not-suc-le-zero l)
  start_within n (s ∷ files) zero l = omega arith
  start_within n (s ∷ files) (suc i) l = omega (arith, start_within (n + count s) files i (omega arith))

-- ── its part of a table ──

module _ {A : Type 0} (xs ys zs d t : List A) (is : t ≡ over (xs ++ (ys ++ zs)) d) where
  abbrev after : List A
  after = drop (length (xs ++ (ys ++ zs))) d

  part-cells : (m n : ℕ) → length xs ≡ m → m + length ys ≡ n → cells t m n ≡ ys
  unfolding over
  part-cells m n e f =
      ap (λ (l : List A). take (n - m) (drop m l)) (is ∙ append_assoc xs (ys ++ zs) after)
      ∙ ap (take (n - m)) (drop_at xs ((ys ++ zs) ++ after) m e ∙ append_assoc ys zs after)
      ∙ take_at ys (zs ++ after) (n - m) (omega arith)

-- rows of w cells, as many for each file as are counted
module _ {A : Type 0} (f : List ℕ → List A) (w : ℕ) (count : List ℕ → ℕ) (each : (s : List ℕ) → length (f s) ≡ w * count s) (d t : List A) where
  -- behind n rows xs
  part-behind : (files : List (List ℕ)) (xs : List A) (n : ℕ) → length xs ≡ w * n → t ≡ over (xs ++ gather f files) d → (i : ℕ) → i < length files →
      cells t (w * get_or (starts count n files) i 0) (w * get_or (starts count n files) (suc i) 0) ≡ f (get_or files i [])
  part-behind [] xs n e is i l = absurd (not-suc-le-zero l)
  part-behind (s ∷ files) xs n e is zero l =
      part-cells xs (f s) (gather f files) d t is (w * n) (w * get_or (starts count (n + count s) files) 0 0) e
      (omega (arith, each s, mul-add w n (count s), ap (λ (k : ℕ). w * k) (start_first count (n + count s) files)))
  part-behind (s ∷ files) xs n e is (suc i) l =
      part-behind files (xs ++ f s) (n + count s) (omega (arith, length-append xs (f s), e, each s, mul-add w n (count s)))
      (is ∙ ap (λ (r : List A). over r d) (sym (append_assoc xs (f s) (gather f files)))) i (omega arith)

  module _ (files : List (List ℕ)) (is : t ≡ over (gather f files) d) where
    pub part_of : (i : ℕ) → i < length files → cells t (w * get_or (starts count 0 files) i 0) (w * get_or (starts count 0 files) (suc i) 0) ≡ f (get_or files i [])
    part_of = part-behind files [] 0 (omega arith) is

    -- what is within all rows is within the table
    pub part_within : (b n : ℕ) → b ≤ total count files → total count files ≤ n → w * n ≤ length d → w * b ≤ length t
    part_within b n h l r =
        let p = mul-le-mul_left w h in
        let q = mul-le-mul_left w l in
        omega (arith, ap length is, gather_long f w count each files, length_over (gather f files) d (omega (arith, gather_long f w count each files)))

-- ── the tables of one file ──

-- a chain that gives none has a first part that gives none
front_none : (xs ys : List (Option Refusal)) → first_of (xs ++ ys) ≡ none → first_of xs ≡ none
front_none [] ys e = refl
front_none (none ∷ xs) ys e = front_none xs ys e
front_none (some r ∷ xs) ys e = e

module _ (s : List ℕ) where
  abbrev g : Graph
  g = (map_of s).graph

  corners_all : corners_of s ≡ laid (vertex_count s) (point_row g) (corners_of s)
  corners_all = sym (laid_all 4 (point_row g) (λ k. refl) (corners_of s) (vertex_count s) (omega (arith, corners_long s)))

  carriers_all : carriers_of s ≡ laid (edges_in s) (carrier_row g) (carriers_of s)
  carriers_all = sym (laid_all 4 (carrier_row g) (λ k. refl) (carriers_of s) (edges_in s) (omega (arith, carriers_long s)))

  origins_all : origins_of s ≡ filled (2 * edges_in s) (origin g) (origins_of s)
  origins_all = sym (filled_all (origin g) (origins_of s) (2 * edges_in s) (omega (arith, origins_long s)))

  graph_is : flat_graph (corners_of s) (origins_of s) (carriers_of s) (vertex_count s) (edges_in s) ≡ g
  graph_is =
      graph-held s (corners_of s) (origins_of s) (carriers_of s)
      (point-held s (corners_of s) (corners_of s) (omega (arith, corners_long s)) corners_all)
      (cell-held s (origin g) (origins_of s) (origins_of s) (omega (arith, origins_long s)) origins_all)
      (carrier-held s (carriers_of s) (carriers_of s) (omega (arith, carriers_long s)) carriers_all)

  map_is : flat_map (corners_of s) (origins_of s) (carriers_of s) (labels_of s) (vertex_count s) (edges_in s) ≡ map_of s
  map_is = λ i. record { graph = graph_is i; labels = labels-table s i }

  module _ (passes : fault s ≡ none) where
    pub form-passes : first_of (form_faults s) ≡ none
    unfolding fault
    form-passes = front_none (form_faults s) (part_faults (map_of s).graph ++ net_faults (map_of s)) passes

    -- room is needed for all rows that it counts
    pub stored_is : (count : List ℕ → ℕ) → stored count s ≡ count s
    stored_is count = stored_all count s form-passes

    parts-pass : first_of (part_faults (map_of s).graph) ≡ none
    unfolding fault
    parts-pass =
        front_none (part_faults (map_of s).graph) (net_faults (map_of s)) (sym (first_none (form_faults s) (part_faults (map_of s).graph ++ net_faults (map_of s)) form-passes) ∙ passes)

    pub passes_kept : Kept s
    passes_kept = kept s form-passes parts-pass

    flat_is : Flat (corners_of s) (origins_of s) (carriers_of s) (vertex_count s) (edges_in s)
    flat_is =
        held-flat s (corners_of s) (origins_of s) (carriers_of s)
        (point-held s (corners_of s) (corners_of s) (omega (arith, corners_long s)) corners_all)
        (cell-held s (origin g) (origins_of s) (origins_of s) (omega (arith, origins_long s)) origins_all)
        (carrier-held s (carriers_of s) (carriers_of s) (omega (arith, carriers_long s)) carriers_all)
        passes_kept (omega (arith, corners_long s)) (omega (arith, origins_long s)) (omega (arith, carriers_long s))

    ended_is : Ended (map_of s).graph
    ended_is = let K : Keeps (map_of s) = passes-keeps s passes in record { foot_is = λ k l. K.foot_is k l; head_is = λ k l. K.head_is k l }

  -- ── one map in its parts ──

  module _ (ps : List ℤ) (os : List ℕ) (cs : List ℤ) (ls : List ℕ) (v w a b : ℕ)
      (wide : w ≡ v + vertex_count s) (far : b ≡ a + edges_in s)
      (cp : cells ps (4 * v) (4 * w) ≡ corners_of s) (co : cells os (2 * a) (2 * b) ≡ origins_of s) (ca : cells cs (4 * a) (4 * b) ≡ carriers_of s) (cl : cells ls (2 * a) (2 * b) ≡ labels_of s) where
    few : w - v ≡ vertex_count s
    few = omega arith

    short : b - a ≡ edges_in s
    short = omega arith

    standing_is : standing ps os cs ls v w a b ≡ map_of s
    standing_is = (λ i. flat_map (cp i) (co i) (ca i) (cl i) (few i) (short i)) ∙ map_is

    stands_by : fault s ≡ none → 4 * w ≤ length ps → 2 * b ≤ length os → 4 * b ≤ length cs → 2 * b ≤ length ls → b ≤ maps * map_edges →
        Stands ps os cs ls v w a b
    stands_by e p o c l k = record {
      rising = omega arith;
      climbing = omega arith;
      points_in = p;
      origins_in = o;
      carriers_in = c;
      labels_in = l;
      few = omega arith;
      flat = coe 1 0 (i. Flat (cp i) (co i) (ca i) (few i) (short i)) (flat_is e);
      ended = subst (λ (m : Map). Ended m.graph) (sym standing_is) (ended_is e);
    }

-- ── all ──

module _ (files : List (List ℕ)) (d l : Layers) (is : Layered files d l) where
  module _ (i : ℕ) (b : i < length files) where
    abbrev s : List ℕ
    s = get_or files i []

    vertex-start : (j : ℕ) → j ≤ length files → vertex_start l j ≡ get_or (starts vertex_count 0 files) j 0
    vertex-start j h = ap (λ (t : List ℕ). get_or t j 0) is.vertices-are ∙ over_at (starts vertex_count 0 files) d.vertices j 0 (omega (arith, starts_long vertex_count 0 files))

    edge-start : (j : ℕ) → j ≤ length files → edge_start l j ≡ get_or (starts edges_in 0 files) j 0
    edge-start j h = ap (λ (t : List ℕ). get_or t j 0) is.edges_are ∙ over_at (starts edges_in 0 files) d.edges j 0 (omega (arith, starts_long edges_in 0 files))

    v0 : vertex_start l i ≡ get_or (starts vertex_count 0 files) i 0
    v0 = vertex-start i (omega arith)

    v1 : vertex_start l (i + 1) ≡ get_or (starts vertex_count 0 files) (suc i) 0
    v1 = ap (vertex_start l) (add-one i) ∙ vertex-start (suc i) (omega arith)

    e0 : edge_start l i ≡ get_or (starts edges_in 0 files) i 0
    e0 = edge-start i (omega arith)

    e1 : edge_start l (i + 1) ≡ get_or (starts edges_in 0 files) (suc i) 0
    e1 = ap (edge_start l) (add-one i) ∙ edge-start (suc i) (omega arith)

    wide : vertex_start l (i + 1) ≡ vertex_start l i + vertex_count s
    wide = v1 ∙ start_next vertex_count 0 files i b ∙ ap (λ (n : ℕ). n + vertex_count s) (sym v0)

    far : edge_start l (i + 1) ≡ edge_start l i + edges_in s
    far = e1 ∙ start_next edges_in 0 files i b ∙ ap (λ (n : ℕ). n + edges_in s) (sym e0)

    corner-cells : cells l.corners (4 * vertex_start l i) (4 * vertex_start l (i + 1)) ≡ corners_of s
    corner-cells = (λ j. cells l.corners (4 * v0 j) (4 * v1 j)) ∙ part_of corners_of 4 vertex_count corners_long d.corners l.corners files is.stacked.corners-are i b

    origin-cells : cells l.origins (2 * edge_start l i) (2 * edge_start l (i + 1)) ≡ origins_of s
    origin-cells = (λ j. cells l.origins (2 * e0 j) (2 * e1 j)) ∙ part_of origins_of 2 edges_in origins_long d.origins l.origins files is.stacked.origins-are i b

    carrier-cells : cells l.carriers (4 * edge_start l i) (4 * edge_start l (i + 1)) ≡ carriers_of s
    carrier-cells = (λ j. cells l.carriers (4 * e0 j) (4 * e1 j)) ∙ part_of carriers_of 4 edges_in carriers_long d.carriers l.carriers files is.stacked.carriers-are i b

    label-cells : cells l.labels (2 * edge_start l i) (2 * edge_start l (i + 1)) ≡ labels_of s
    label-cells = (λ j. cells l.labels (2 * e0 j) (2 * e1 j)) ∙ part_of labels_of 2 edges_in labels_long d.labels l.labels files is.stacked.labels-are i b

    held_is : held_map l i ≡ map_of s
    held_is =
        standing_is s l.corners l.origins l.carriers l.labels (vertex_start l i) (vertex_start l (i + 1)) (edge_start l i) (edge_start l (i + 1))
        wide far corner-cells origin-cells carrier-cells label-cells

  module _ (every : length files ≡ maps) where
    pub held-maps : held_maps l ≡ map map_of files
    held-maps =
        sym (table_is (held_map l) maps (map map_of files) (map_of []) (length-map files map_of ∙ every)
        (λ i b. get_or-map map_of files i [] ∙ sym (held_is i (omega arith))))

    module _ (room : LayerRoom files d) (passes : (i : ℕ) → i < length files → fault (get_or files i []) ≡ none) where
      -- room for as many rows as are counted
      all_stored : (count : List ℕ → ℕ) → total count files ≤ total (stored count) files
      all_stored count = total_under count (stored count) files (λ i b. omega (arith, stored_is (get_or files i []) (passes i b) count))

      few_edges : total edges_in files ≤ maps * map_edges
      few_edges = omega (arith, every, total_within edges_in map_edges files (λ i b. (passes_kept (get_or files i []) (passes i b)).few_edges))

      module _ (i : ℕ) (b : i < length files) where
        vertices-end : vertex_start l (i + 1) ≤ total vertex_count files
        vertices-end = omega (arith, v1 i b, start_within vertex_count 0 files (suc i) (omega arith))

        edges-end : edge_start l (i + 1) ≤ total edges_in files
        edges-end = omega (arith, e1 i b, start_within edges_in 0 files (suc i) (omega arith))

        stands : Stands l.corners l.origins l.carriers l.labels (vertex_start l i) (vertex_start l (i + 1)) (edge_start l i) (edge_start l (i + 1))
        stands =
            stands_by (get_or files i []) l.corners l.origins l.carriers l.labels (vertex_start l i) (vertex_start l (i + 1)) (edge_start l i) (edge_start l (i + 1))
            (wide i b) (far i b) (corner-cells i b) (origin-cells i b) (carrier-cells i b) (label-cells i b) (passes i b)
            (part_within corners_of 4 vertex_count corners_long d.corners l.corners files is.stacked.corners-are (vertex_start l (i + 1)) (total (stored vertex_count) files) vertices-end (all_stored vertex_count) room.tables.corners)
            (part_within origins_of 2 edges_in origins_long d.origins l.origins files is.stacked.origins-are (edge_start l (i + 1)) (total (stored edges_in) files) edges-end (all_stored edges_in) room.tables.origins)
            (part_within carriers_of 4 edges_in carriers_long d.carriers l.carriers files is.stacked.carriers-are (edge_start l (i + 1)) (total (stored edges_in) files) edges-end (all_stored edges_in) room.tables.carriers)
            (part_within labels_of 2 edges_in labels_long d.labels l.labels files is.stacked.labels-are (edge_start l (i + 1)) (total (stored edges_in) files) edges-end (all_stored edges_in) room.tables.labels)
            (omega (arith, edges-end, few_edges))

      starts_room : (count : List ℕ → ℕ) (t u : List ℕ) → t ≡ over (starts count 0 files) u → maps < length u → maps < length t
      starts_room count t u e h = omega (arith, ap length e, every, starts_long count 0 files, length_over (starts count 0 files) u (omega (arith, every, starts_long count 0 files)))

      pub layers-held : Held l
      layers-held = record {
        vertices_long = starts_room vertex_count l.vertices d.vertices is.vertices-are room.vertices;
        edges_long = starts_room edges_in l.edges d.edges is.edges_are room.edges;
        vertices_first = v0 0 (omega arith) ∙ start_first vertex_count 0 files;
        edges_first = e0 0 (omega arith) ∙ start_first edges_in 0 files;
        edges_few = omega (arith, edges-end (maps - 1) (omega arith), few_edges);
        stands = λ i h. stands i (omega arith);
        keeps = λ i h. subst Keeps (sym (held_is i (omega arith))) (passes-keeps (get_or files i []) (passes i (omega arith)));
      }
