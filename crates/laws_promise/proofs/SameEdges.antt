-- Of SameEdges of specs/, what rests on its definitions.
use Rattle.std.specs.Prelude.{◌≡◌, refl, ◌⊎◌, ◌<◌, ◌≤◌, ◌&&◌, ◌||◌, ◌+◌, ◌*◌, ◌/◌}
use Rattle.std.proofs.Common.{sym, ◌∙◌, ap, subst, inl, inr, arith}
use Rattle.std.proofs.Math.Decide.{ℕ_discrete}
use Rattle.seq.specs.Seq.{Bool, true, false, cond, List, ℕ, zero, suc, length, pos, table}
use Rattle.seq.specs.Tests.{clash}
use Rattle.seq.specs.Table.{table-ext}
use Rattle.seq.specs.SameRows.{same_count, same_at}
use Rattle.paper.specs.Plane.{Vec, dir, less_angle}
use Rattle.paper.specs.Map.{Map}
use Rattle.paper.specs.Pieces.{layer, carrier_of}
use Rattle.paper.specs.Tables.{Counts, Tables, vertex_cell, origin_of, twin_of, follower_of, predecessor_of, source_cell}
use Rattle.laws_plane.specs.Edges.{On}
use Rattle.laws_graph.specs.Halves.{Which, first, second, which}
use Rattle.laws_map.specs.Keeps.{seg}
use Rattle.laws_labels.specs.Demand3.{followers_in}
use Rattle.laws_promise.specs.Defined.{the_point_at, the_from_at, way_at, minus_one, source_of, the_edge_in, graph_in, VertexRows, Near, EdgeRows, clockwise_between, HalfRows}
use Rattle.laws_promise.specs.SameEdges.{vertices_same, point_same}

-- ── point order, and the order of pairs ──

abbrev Pair : Type 0
Pair = ℕ × ℕ

abbrev Sooner : Pair → Pair → Type 0
Sooner p q = (p.0 < q.0) ⊎ ((p.0 ≡ q.0) × (p.1 < q.1))

sooner-asym : (p q : Pair) → Sooner p q → Sooner q p → ⊥
sooner-asym p q (inl a) (inl b) = omega arith
sooner-asym p q (inl a) (inr (e, b)) = omega arith
sooner-asym p q (inr (e, a)) (inl b) = omega arith
sooner-asym p q (inr (e, a)) (inr (f, b)) = omega arith

-- ── the first clockwise is one ──

-- b is the first clockwise from a, and so is x: neither is before the other
between_not : (ba bx xa : Bool) → cond ba (bx && xa) (xa || bx) ≡ false → (ba ≡ true → bx ≡ true → xa ≡ false) × (ba ≡ false → (xa ≡ false) × (bx ≡ false))
between_not true true xa e = ((λ p q. e), λ p. absurd (clash refl p))
between_not true false xa e = ((λ p q. absurd (clash q refl)), λ p. absurd (clash refl p))
between_not false bx true e = absurd (clash refl e)
between_not false true false e = absurd (clash refl e)
between_not false false false e = ((λ p q. absurd (clash p refl)), λ p. (refl, refl))

first_less : (a b x : Vec) → clockwise_between a b x ≡ false → clockwise_between a x b ≡ false → less_angle b x ≡ true → ⊥
first_less a b x e f l =
    let p = between_not (less_angle b a) (less_angle b x) (less_angle x a) e in
    let q = between_not (less_angle x a) (less_angle x b) (less_angle b a) f in
    go (less_angle b a) (less_angle x a) refl refl p q
  where
    go : (s r : Bool) → less_angle b a ≡ s → less_angle x a ≡ r
        → (less_angle b a ≡ true → less_angle b x ≡ true → less_angle x a ≡ false) × (less_angle b a ≡ false → (less_angle x a ≡ false) × (less_angle b x ≡ false))
        → (less_angle x a ≡ true → less_angle x b ≡ true → less_angle b a ≡ false) × (less_angle x a ≡ false → (less_angle b a ≡ false) × (less_angle x b ≡ false)) → ⊥
    go false r u v p q = clash l (p.1 u).1
    go true true u v p q = clash v (p.0 u l)
    go true false u v p q = clash u (q.1 v).0

module _ (ms : List Map) (c : Counts) (t : Tables) (X : VertexRows ms c t) (E : EdgeRows ms c t) (S : HalfRows c t) (d : Counts) (u : Tables) (W : VertexRows ms d u) (F : EdgeRows ms d u) (R : HalfRows d u) where
  -- ── neighbours ──

  pub near_to : (i k x y : ℕ) → Near ms c t i k x y → Near ms d u i k x y
  near_to i k x y n = record {
    in_list = n.in_list;
    of_map = n.of_map;
    rises = n.rises;
    below = subst (λ (z : ℕ). y < z) (vertices_same ms c t X E S d u W F R) n.below;
    on_low = subst (On (seg (layer ms i) k)) (point_same ms c t X E S d u W F R x (omega (arith, n.rises, n.below))) n.on_low;
    on_high = subst (On (seg (layer ms i) k)) (point_same ms c t X E S d u W F R y n.below) n.on_high;
    none_between = λ w a b o. n.none_between w a b (subst (On (seg (layer ms i) k)) (sym (point_same ms c t X E S d u W F R w (omega (arith, n.below)))) o);
  }

  pub near_back : (i k x y : ℕ) → Near ms d u i k x y → Near ms c t i k x y
  near_back i k x y n =
      let b : y < c.vertices = subst (λ (z : ℕ). y < z) (sym (vertices_same ms c t X E S d u W F R)) n.below in
      record {
        in_list = n.in_list;
        of_map = n.of_map;
        rises = n.rises;
        below = b;
        on_low = subst (On (seg (layer ms i) k)) (sym (point_same ms c t X E S d u W F R x (omega (arith, n.rises)))) n.on_low;
        on_high = subst (On (seg (layer ms i) k)) (sym (point_same ms c t X E S d u W F R y b)) n.on_high;
        none_between = λ w p q o. n.none_between w p q (subst (On (seg (layer ms i) k)) (point_same ms c t X E S d u W F R w (omega arith)) o);
      }

  -- ── edges ──

  abbrev ends : Tables → ℕ → Pair
  ends x k = (origin_of x (2 * k), origin_of x (2 * k + 1))

  edges_to : (k : ℕ) → k < c.edges → (r : ℕ) × (r < d.edges) × (ends u r ≡ ends t k)
  edges_to k l =
      let (i, j, n) = E.edge_is k l in
      let (r, b, x, y) = F.edge-there i j (origin_of t (2 * k)) (origin_of t (2 * k + 1)) (near_to i j (origin_of t (2 * k)) (origin_of t (2 * k + 1)) n) in
      (r, b, λ z. (x z, y z))

  edges_back : (k : ℕ) → k < d.edges → (r : ℕ) × (r < c.edges) × (ends t r ≡ ends u k)
  edges_back k l =
      let (i, j, n) = F.edge_is k l in
      let (r, b, x, y) = E.edge-there i j (origin_of u (2 * k)) (origin_of u (2 * k + 1)) (near_back i j (origin_of u (2 * k)) (origin_of u (2 * k + 1)) n) in
      (r, b, λ z. (x z, y z))

  pub edges-agree : c.edges ≡ d.edges
  edges-agree = same_count Sooner sooner-asym c.edges d.edges (ends t) (ends u) E.sorted F.sorted edges_to edges_back

  ends_same : (k : ℕ) → k < c.edges → ends t k ≡ ends u k
  ends_same = same_at Sooner sooner-asym c.edges d.edges (ends t) (ends u) E.sorted F.sorted edges_to edges_back

  to_d : {k : ℕ} → k < c.edges → k < d.edges
  to_d {k} = subst (λ (z : ℕ). k < z) edges-agree

  pub half_d : {h : ℕ} → h < 2 * c.edges → h < 2 * d.edges
  half_d {h} = subst (λ (z : ℕ). h < 2 * z) edges-agree

  -- ── sources ──

  pub source_same : (k i : ℕ) → k < c.edges → i < length ms → source_cell (length ms) t k i ≡ source_cell (length ms) u k i
  source_same k i l b = go (source_cell (length ms) t k i) (source_cell (length ms) u k i) refl refl
    where
      lo : origin_of t (2 * k) ≡ origin_of u (2 * k)
      lo = ap (λ (p : Pair). p.0) (ends_same k l)

      hi : origin_of t (2 * k + 1) ≡ origin_of u (2 * k + 1)
      hi = ap (λ (p : Pair). p.1) (ends_same k l)

      to : (j : ℕ) → source_cell (length ms) t k i ≡ suc j → source_cell (length ms) u k i ≡ suc j
      to j e =
          F.source-there k i j (to_d l)
          (subst (λ (x : ℕ). Near ms d u i j x (origin_of u (2 * k + 1))) lo (subst (λ (y : ℕ). Near ms d u i j (origin_of t (2 * k)) y) hi
          (near_to i j (origin_of t (2 * k)) (origin_of t (2 * k + 1)) (E.source_is k i j l b e))))

      back : (j : ℕ) → source_cell (length ms) u k i ≡ suc j → source_cell (length ms) t k i ≡ suc j
      back j e =
          E.source-there k i j l
          (subst (λ (x : ℕ). Near ms c t i j x (origin_of t (2 * k + 1))) (sym lo) (subst (λ (y : ℕ). Near ms c t i j (origin_of u (2 * k)) y) (sym hi)
          (near_back i j (origin_of u (2 * k)) (origin_of u (2 * k + 1)) (F.source_is k i j (to_d l) b e))))

      go : (x y : ℕ) → source_cell (length ms) t k i ≡ x → source_cell (length ms) u k i ≡ y → x ≡ y
      go (suc j) y e f = sym (to j e) ∙ f
      go zero (suc j) e f = sym e ∙ back j f
      go zero zero e f = refl

  -- ── half-edges ──

  by_half : (Q : ℕ → Type 0) → ((k : ℕ) → k < c.edges → Q (2 * k)) → ((k : ℕ) → k < c.edges → Q (2 * k + 1)) → (h : ℕ) → h < 2 * c.edges → Q h
  by_half Q a b h l = go (which h)
    where
      go : Which h → Q h
      go (first e) = subst Q (sym e) (a (h / 2) (omega arith))
      go (second e) = subst Q (sym e) (b (h / 2) (omega arith))

  pub origin-agrees : (h : ℕ) → h < 2 * c.edges → origin_of t h ≡ origin_of u h
  origin-agrees = by_half (λ h. origin_of t h ≡ origin_of u h) (λ k l. ap (λ (p : Pair). p.0) (ends_same k l)) (λ k l. ap (λ (p : Pair). p.1) (ends_same k l))

  pub twin_same : (h : ℕ) → h < 2 * c.edges → twin_of t h ≡ twin_of u h
  twin_same = by_half (λ h. twin_of t h ≡ twin_of u h) (λ k l. S.twin_first k l ∙ sym (R.twin_first k (to_d l))) (λ k l. S.twin-second k l ∙ sym (R.twin-second k (to_d l)))

  twin_below : (h : ℕ) → h < 2 * c.edges → twin_of t h < 2 * c.edges
  twin_below = by_half (λ h. twin_of t h < 2 * c.edges) (λ k l. omega (arith, S.twin_first k l)) (λ k l. omega (arith, S.twin-second k l))

  pub from_same : (h : ℕ) → h < 2 * c.edges → the_from_at t h ≡ the_from_at u h
  from_same h l = point_same ms c t X E S d u W F R (origin_of t h) (S.origin_below h l) ∙ ap (the_point_at u) (origin-agrees h l)

  pub way_same : (h : ℕ) → h < 2 * c.edges → way_at t h ≡ way_at u h
  way_same h l = λ i. dir (from_same h l i) ((from_same (twin_of t h) (twin_below h l) ∙ ap (the_from_at u) (twin_same h l)) i)

  -- ── followers ──

  pub follower-agrees : (h : ℕ) → h < 2 * c.edges → follower_of t h ≡ follower_of u h
  follower-agrees h l =
      elim (ℕ_discrete x y) [
        | yes e ↦ e
        | no n ↦ absurd (go (S.ways-differ x y lx ly together n))
      ]
    where
      x : ℕ
      x = follower_of t h

      y : ℕ
      y = follower_of u h

      lx : x < 2 * c.edges
      lx = S.follower_below h l

      ly : y < 2 * c.edges
      ly = subst (λ (z : ℕ). y < 2 * z) (sym edges-agree) (R.follower_below h (half_d l))

      a : ℕ
      a = twin_of t h

      la : a < 2 * c.edges
      la = twin_below h l

      x_at : origin_of t x ≡ origin_of t a
      x_at = S.follows h l

      y_at : origin_of t y ≡ origin_of t a
      y_at = origin-agrees y ly ∙ R.follows h (half_d l) ∙ ap (origin_of u) (sym (twin_same h l)) ∙ sym (origin-agrees a la)

      together : origin_of t x ≡ origin_of t y
      together = x_at ∙ sym y_at

      -- y is not between the twin and x, nor x between the twin and y
      xy : clockwise_between (way_at t a) (way_at t x) (way_at t y) ≡ false
      xy = S.first_clockwise h y l ly y_at

      yx : clockwise_between (way_at t a) (way_at t y) (way_at t x) ≡ false
      yx =
          (λ i. clockwise_between ((way_same a la ∙ ap (way_at u) (twin_same h l)) i) (way_same y ly i) (way_same x lx i))
          ∙ R.first_clockwise h x (half_d l) (half_d lx) (sym (origin-agrees x lx) ∙ x_at ∙ origin-agrees a la ∙ ap (origin_of u) (twin_same h l))

      go : (less_angle (way_at t x) (way_at t y) ≡ true) ⊎ (less_angle (way_at t y) (way_at t x) ≡ true) → ⊥
      go (inl e) = first_less (way_at t a) (way_at t x) (way_at t y) xy yx e
      go (inr e) = first_less (way_at t a) (way_at t y) (way_at t x) yx xy e

  pub predecessor_same : (h : ℕ) → h < 2 * c.edges → predecessor_of t h ≡ predecessor_of u h
  predecessor_same h l =
      let p = predecessor_of t h in
      let lp = S.predecessor_below h l in
      sym (R.back p (half_d lp)) ∙ ap (predecessor_of u) (sym (follower-agrees p lp) ∙ S.forth h l)

  pub followers-agree : followers_in c t ≡ followers_in d u
  followers-agree = table-ext (follower_of t) (follower_of u) (2 * c.edges) follower-agrees ∙ ap (λ (n : ℕ). table (follower_of u) (2 * n)) edges-agree

  -- ── the graph ──

  sources_same : (k i : ℕ) → k < c.edges → i < length ms → source_of (length ms) t k i ≡ source_of (length ms) u k i
  sources_same k i l b = ap minus_one (source_same k i l b)

  pub graph_same : graph_in ms c t ≡ graph_in ms d u
  graph_same = λ i. record { points = points i; edges = edges i }
    where
      points : table (the_point_at t) c.vertices ≡ table (the_point_at u) d.vertices
      points = table-ext (the_point_at t) (the_point_at u) c.vertices (point_same ms c t X E S d u W F R) ∙ ap (table (the_point_at u)) (vertices_same ms c t X E S d u W F R)

      edges : table (the_edge_in ms t) c.edges ≡ table (the_edge_in ms u) d.edges
      edges =
          table-ext (the_edge_in ms t) (the_edge_in ms u) c.edges (λ k l. λ i. record {
            from = (ends_same k l i).0;
            to = (ends_same k l i).1;
            carrier = carrier_of ms (table-ext (source_of (length ms) t k) (source_of (length ms) u k) (length ms) (λ j b. sources_same k j l b) i);
          })
          ∙ ap (table (the_edge_in ms u)) edges-agree

  -- ── a vertex's least outgoing half-edge ──

  pub out_same : (v : ℕ) → v < c.vertices → vertex_cell t v 3 ≡ vertex_cell u v 3
  out_same v l =
      let (h, e, b, o, m) = X.least_out v l in
      let (r, f, b', o', m') = W.least_out v (subst (λ (z : ℕ). v < z) (vertices_same ms c t X E S d u W F R) l) in
      let lr : r < 2 * c.edges = subst (λ (z : ℕ). r < 2 * z) (sym edges-agree) b' in
      let x : h ≤ r = m r lr (origin-agrees r lr ∙ o') in
      let y : r ≤ h = m' h (half_d b) (sym (origin-agrees h b) ∙ o) in
      let q : h ≡ r = omega arith in
      e ∙ ap pos q ∙ sym f
