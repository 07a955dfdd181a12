-- Of Round of specs/, what rests on its definitions.
use Rattle.std.specs.Prelude.{◌≡◌, refl, ◌<◌, ◌-◌, ◌+◌, ◌*◌}
use Rattle.std.proofs.Common.{sym, ◌∙◌, ap, subst, inl, inr, ⊎_elim, arith}
use Rattle.std.proofs.Math.Decide.{ℕ_discrete}
use Rattle.seq.specs.Seq.{Bool, true, false, cond, List, some, ℕ, zero, suc, length, get_or, pos}
use Rattle.seq.specs.Tests.{clash}
use Rattle.seq.specs.Members.{at_among, among_at}
use Rattle.seq.specs.Downward.{inner as inside, wrap as round}
use Rattle.paper.specs.Plane.{Pt, Vec, Seg, whole, nowhere, head, opposite, dir, cross, before, less_angle}
use Rattle.paper.specs.Graph.{Graph, edge_count, the_half_count, point_in, edge, origin, goes_up, upward, heading}
use Rattle.paper.specs.Map.{Map}
use Rattle.paper.specs.Pieces.{layer, along, vertices_of, edges_of}
use Rattle.laws_plane.specs.Cone.{UpV, NonZero, up_rises, up_nonzero, opposite-nonzero}
use Rattle.laws_plane.specs.Points.{before_up, before_irr, before_le}
use Rattle.laws_plane.specs.Ends.{0<1}
use Rattle.laws_plane.specs.Angles.{SameWay, cross-swap_0, parallel-trans, same_way_sym, same_way-opposite}
use Rattle.laws_plane.proofs.Angles.{less_same_way, same_way-greater}
use Rattle.laws_plane.specs.Sides.{chord}
use Rattle.laws_plane.specs.Edges.{On, seg_up, on_foot, on_head}
use Rattle.laws_graph.specs.Halves.{even_double, odd_double, half_first, half-second, first_below, second_below, origin_first, origin-second}
use Rattle.laws_graph.specs.Plane.{heading-moves, upward_up}
use Rattle.laws_graph.specs.Follow.{Clockwise, lesser}
use Rattle.laws_map.specs.Keeps.{seg, edges}
use Rattle.laws_overlay.specs.Maps.{AllKeep, vertex-end}
use Rattle.laws_overlay.specs.Vertices.{Vertex, vertex_from}
use Rattle.laws_overlay.specs.Places.{places, at_real}
use Rattle.laws_overlay.specs.Links.{Runs, along_has}
use Rattle.laws_overlay.specs.Sources.{source_at}
use Rattle.laws_overlay.specs.Pieces.{piece_at}
use Rattle.laws_overlay.specs.Chain.{Chain}
use Rattle.laws_overlay.proofs.Chain.{chain}
use Rattle.laws_overlay.specs.Net.{net-edges, from_is, to_is}
use Rattle.laws_overlay.proofs.Net.{near, carrier_up, ends_before, sourced, goes-even}
use Rattle.laws_overlay.proofs.NetPlane.{net-plane}
use Rattle.laws_overlay.specs.Inside.{overlaid, low_at, high_at}
use Rattle.laws_overlay.specs.Round.{Out, Leaves, v, gr, arrow, u, Sector, inner, wrap}

module _ (ms : List Map) (K : AllKeep ms) where
  abbrev vs : List Pt
  vs = vertices_of ms

  abbrev g : Graph
  g = overlaid ms

  -- ── a piece goes the way of its sources ──

  module _ (r : ℕ) (l : r < edge_count (overlaid ms)) (i k : ℕ) (s : source_at (piece_at (edges_of ms (vertices_of ms)) r).sources i ≡ some k) where
    runs : Runs ms vs i k (edge g r).from (edge g r).to
    runs =
        subst (λ (x : ℕ). Runs ms vs i k x (edge g r).to) (sym (from_is ms vs r))
        (subst (λ (x : ℕ). Runs ms vs i k (piece_at (edges_of ms vs) r).lo x) (sym (to_is ms vs r)) ((sourced ms K vs (places ms K) r l).from i k s))

    -- it is an edge of a map of the list
    pub source-there : (i < length ms) × (k < edges (layer ms i))
    source-there = (runs.in_list, runs.of_map)

    pub source_up : UpV (seg (layer ms i) k).up
    source_up = upward_up (layer ms i).graph (K i runs.in_list).plane k runs.of_map

    -- both ends of the piece are on the source
    pub source_on : On (seg (layer ms i) k) (low_at ms r) × On (seg (layer ms i) k) (high_at ms r)
    source_on = (runs.near.on_lo, runs.near.on_hi)

    abbrev d : Vec
    d = dir (low_at ms r) (high_at ms r)

    carried : cross (upward g r) d ≡ pos 0
    carried = let n = near ms K vs (places ms K) r l in chord (edge g r).carrier (low_at ms r) (high_at ms r) n.on_lo.line n.on_hi.line

    pub source-way : SameWay (upward (overlaid ms) r) (seg (layer ms i) k).up
    source-way = record {
      parallel = parallel-trans (upward g r) d (seg (layer ms i) k).up (up_nonzero d (before_up (low_at ms r) (high_at ms r) (ends_before ms K vs (places ms K) r l))) carried
          (cross-swap_0 (seg (layer ms i) k).up d (chord (seg (layer ms i) k) (low_at ms r) (high_at ms r) source_on.0.line source_on.1.line));
      half = up_rises (upward g r) (carrier_up ms K vs (places ms K) r l) ∙ sym (up_rises (seg (layer ms i) k).up source_up);
    }

    -- the half-edge of the piece that goes up, and the one that goes down
    abbrev heads : ℕ → Bool → Vec
    heads k c = cond c (upward g k) (opposite (upward g k))

    up_out : (v : ℕ) → (piece_at (edges_of ms vs) r).lo ≡ v → Out ms v i k true
    up_out v e =
        let u : goes_up g (2 * r) ≡ true = goes-even ms K vs (places ms K) (2 * r) (first_below r g l) ∙ even_double r in
        record {
          half = 2 * r;
          below = first_below r g l;
          leaves = origin_first r g ∙ from_is ms vs r ∙ e;
          upward = u;
          way = subst (λ (x : Vec). SameWay x (seg (layer ms i) k).up) (sym (λ i. heads (half_first r i) (u i))) source-way;
          source = ap (λ (x : ℕ). source_at (piece_at (edges_of ms vs) x).sources i) (half_first r) ∙ s;
        }

    down_out : (v : ℕ) → (piece_at (edges_of ms vs) r).hi ≡ v → Out ms v i k false
    down_out v e =
        let u : goes_up g (2 * r + 1) ≡ false = goes-even ms K vs (places ms K) (2 * r + 1) (second_below r g l) ∙ odd_double r in
        record {
          half = 2 * r + 1;
          below = second_below r g l;
          leaves = origin-second r g ∙ to_is ms vs r ∙ e;
          upward = u;
          way = subst (λ (x : Vec). SameWay x (opposite (seg (layer ms i) k).up)) (sym (λ i. heads (half-second r i) (u i)))
              (same_way-opposite (upward g r) (seg (layer ms i) k).up (up_nonzero (upward g r) (carrier_up ms K vs (places ms K) r l)) (up_nonzero (seg (layer ms i) k).up source_up) source-way);
          source = ap (λ (x : ℕ). source_at (piece_at (edges_of ms vs) x).sources i) (half-second r) ∙ s;
        }

  -- ── a half-edge for each edge that leaves ──

  module _ (v i k : ℕ) (lv : v < length (vertices_of ms)) where
    abbrev l : List ℕ
    l = along vs (layer ms i).graph k

    abbrev e : Seg
    e = seg (layer ms i) k

    -- where v stands among the vertices on the edge
    place : (b : Bool) → Leaves ms v i k b → (j : ℕ) × (j < length l) × (get_or l j 0 ≡ v)
    place b o = among_at v l 0 (along_has vs (layer ms i).graph k v lv o.on)

    numbered : {r : ℕ} → r < length (edges_of ms vs) → r < edge_count g
    numbered {r} = subst (λ (x : ℕ). r < x) (sym (net-edges ms vs))

    by_up : Leaves ms v i k true → (j : ℕ) → j < length l → get_or l j 0 ≡ v → Chain ms i k l → Out ms v i k true
    by_up o j b q c =
        elim (ℕ_discrete j (length l - 1)) [
          | yes x ↦
              let s : point_in vs v ≡ whole (head e) = ap (point_in vs) (sym q ∙ ap (λ (n : ℕ). get_or l n 0) x) ∙ c.last in
              absurd (clash o.goes (ap (λ (p : Pt). before p (whole (head e))) s ∙ before_irr (whole (head e))))
          | no x ↦ let (r, lr, lo, hi, s) = c.piece j (omega arith) in up_out r (numbered lr) i k s v (lo ∙ q)
        ]

    by_down : Leaves ms v i k false → (j : ℕ) → j < length l → get_or l j 0 ≡ v → Chain ms i k l → Out ms v i k false
    by_down o zero b q c =
        let s : point_in vs v ≡ whole e.foot = ap (point_in vs) (sym q) ∙ c.first in
        absurd (clash o.goes (ap (λ (p : Pt). before (whole e.foot) p) s ∙ before_irr (whole e.foot)))
    by_down o (suc j) b q c = let (r, lr, lo, hi, s) = c.piece j b in down_out r (numbered lr) i k s v (hi ∙ q)

    pub out : (b : Bool) → Leaves ms v i k b → Out ms v i k b
    out true o = let (j, b, q) = place true o in by_up o j b q (chain ms K i k o.in_list o.of_map)
    out false o = let (j, b, q) = place false o in by_down o j b q (chain ms K i k o.in_list o.of_map)

-- ── none between ──

module _ (ms : List Map) (K : AllKeep ms) (i t r : ℕ) (lt : t < the_half_count (overlaid ms)) (lr : r < the_half_count (overlaid ms)) (o : origin (overlaid ms) r ≡ origin (overlaid ms) t) where
  found : (k : ℕ) (b : Bool) → Leaves ms (v ms K i t r lt lr o) i k b → Out ms (v ms K i t r lt lr o) i k b
  found k b = out ms K (v ms K i t r lt lr o) i k ((net-plane ms K (vertices_of ms) (places ms K)).starts t lt) b

  moves : (h : ℕ) → h < the_half_count (gr ms K i t r lt lr o) → NonZero (heading (gr ms K i t r lt lr o) h)
  moves h l = heading-moves (gr ms K i t r lt lr o) (net-plane ms K (vertices_of ms) (places ms K)) h l

  arrow-moves : (k : ℕ) (b : Bool) → Leaves ms (v ms K i t r lt lr o) i k b → NonZero (arrow b (seg (layer ms i) k).up)
  arrow-moves k b q = go b
    where
      n : NonZero (seg (layer ms i) k).up
      n = up_nonzero (seg (layer ms i) k).up (upward_up (layer ms i).graph (K i q.in_list).plane k q.of_map)

      go : (b : Bool) → NonZero (arrow b (seg (layer ms i) k).up)
      go true = n
      go false = opposite-nonzero (seg (layer ms i) k).up n

  module _ (k : ℕ) (b : Bool) (q : Leaves ms (origin (overlaid ms) t) i k b) where
    abbrev h : ℕ
    h = (found k b q).half

    same : SameWay (u ms K i t r lt lr o k b q) (heading (gr ms K i t r lt lr o) h)
    same = same_way_sym (heading (gr ms K i t r lt lr o) h) (u ms K i t r lt lr o k b q) (found k b q).way

    -- as the edge stands to another half-edge, so does its own
    over_as : (x : ℕ) → x < the_half_count (gr ms K i t r lt lr o) → less_angle (heading (gr ms K i t r lt lr o) x) (u ms K i t r lt lr o k b q) ≡ true → lesser (gr ms K i t r lt lr o) x h ≡ true
    over_as x l e = less_same_way (heading (gr ms K i t r lt lr o) x) (u ms K i t r lt lr o k b q) (heading (gr ms K i t r lt lr o) h) (moves x l) (arrow-moves k b q) (moves h (found k b q).below) e same

    under_as : (x : ℕ) → x < the_half_count (gr ms K i t r lt lr o) → less_angle (u ms K i t r lt lr o k b q) (heading (gr ms K i t r lt lr o) x) ≡ true → lesser (gr ms K i t r lt lr o) h x ≡ true
    under_as x l e = same_way-greater (heading (gr ms K i t r lt lr o) x) (u ms K i t r lt lr o k b q) (heading (gr ms K i t r lt lr o) h) (moves x l) (arrow-moves k b q) (moves h (found k b q).below) e same

  pub sector : Clockwise (overlaid ms) t r → Sector ms i t r
  sector (inside e n) = inner e (λ k b q x y. n (h k b q) (found k b q).below (found k b q).leaves (over_as k b q r lr x) (under_as k b q t lt y))
  sector (round f n) =
      wrap (λ e. f r lr o e) (λ k b q y. f (h k b q) (found k b q).below (found k b q).leaves (under_as k b q t lt y))
      (λ k b q x. n (h k b q) (found k b q).below (found k b q).leaves (over_as k b q r lr x))

-- ── every vertex is left ──

module _ (ms : List Map) (K : AllKeep ms) (x : ℕ) (lx : x < length (vertices_of ms)) where
  abbrev p : Pt
  p = point_in (vertices_of ms) x

  -- it is on an edge of a map
  on_edge : Vertex ms p → (i : ℕ) × (k : ℕ) × (i < length ms) × (k < edges (layer ms i)) × On (seg (layer ms i) k) p
  on_edge (inl c) =
      let i = c.layer_of in
      let (k, l, e) = vertex-end (layer ms i) (K i c.in_list) c.vertex c.below in
      let u = upward_up (layer ms i).graph (K i c.in_list).plane k l in
      (i, k, c.in_list, l, ⊎_elim (λ f. subst (On (seg (layer ms i) k)) (sym f ∙ c.is) (on_foot (seg (layer ms i) k) u)) (λ f. subst (On (seg (layer ms i) k)) (sym f ∙ c.is) (on_head (seg (layer ms i) k) u)) e)
  on_edge (inr c) = (c.first_layer, c.first_edge, c.first_in, c.first_below, c.touch.first)

  -- which leaves it, up or down
  left_by : (i k : ℕ) (li : i < length ms) (lk : k < edges (layer ms i)) → On (seg (layer ms i) k) p → (b : Bool) × Leaves ms x i k b
  left_by i k li lk o = go (before p (whole (head (seg (layer ms i) k)))) refl
    where
      go : (c : Bool) → before p (whole (head (seg (layer ms i) k))) ≡ c → (b : Bool) × Leaves ms x i k b
      go true e = (true, record { in_list = li; of_map = lk; on = o; goes = e })
      go false e =
          let s = seg (layer ms i) k in
          (false, record { in_list = li; of_map = lk; on = o; goes = before_le (whole s.foot) (whole (head s)) p 0<1 0<1 (at_real (vertices_of ms) (places ms K) x) (seg_up s (upward_up (layer ms i).graph (K i li).plane k lk)) e })

  pub vertex_left : (h : ℕ) × (h < the_half_count (overlaid ms)) × (origin (overlaid ms) h ≡ x)
  vertex_left =
      let (i, k, li, lk, o) = on_edge (vertex_from ms K p (at_among (vertices_of ms) x (whole nowhere) lx)) in
      let (b, q) = left_by i k li lk o in
      let r = out ms K x i k lx b q in
      (r.half, r.below, r.leaves)
