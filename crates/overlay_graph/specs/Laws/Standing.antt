-- What is known of layers whose maps stand in their tables and keep the rules: the tables are those that the overlay's vertices and edges are cut from, and
-- the numbers of the overlay's vertices are within 01's bounds. Assumes nothing.
use Rattle.std.specs.Prelude.{◌≡◌, refl, ◌≤◌, ◌<◌, ◌++◌, ◌+◌, ◌*◌, ◌-◌}
use Rattle.std.proofs.Common.{sym, ◌∙◌, ap, ⊎_elim, le_trans, le_refl, mul-le-mul, add-one, arith, get_or-take, get_or-drop}
use Rattle.std.proofs.Math.Path.{subst}
use Rattle.exact.specs.Lowest.{Pt, pt, Lowest}
use Rattle.seq.specs.Seq.{List, ℕ, zero, suc, length, get_or, drop, ℤ, pos, nat_abs, table, rows}
use Rattle.seq.specs.Terms.{Among}
use Rattle.seq.specs.Members.{every_in}
use Rattle.seq.specs.Table.{length-table, table_at, table-+, table-ext, table-among}
use Rattle.seq.specs.Rows.{rows_ext, rows-among}
use Rattle.seq.specs.Inserted.{in_order_has}
use Rattle.paper.specs.Limits.{maps, reach, denominators}
use Rattle.paper.specs.Plane.{Vec, Seg, whole, before}
use Rattle.paper.specs.Graph.{edge}
use Rattle.paper.specs.Map.{Map, empty}
use Rattle.paper.specs.Pieces.{layer, vertices_of}
use Rattle.plane.specs.Values.{seg}
use Rattle.plane.specs.Bounds.{Near, Corner}
use Rattle.plane.specs.Bounds as Bounds
use Rattle.laws_plane.specs.Cone.{UpV}
use Rattle.laws_plane.specs.Points.{same_point}
use Rattle.laws_plane.specs.Bounds.{Bounded}
use Rattle.laws_graph.specs.Plane.{upward_up}
use Rattle.laws_map.specs.Keeps.{Keeps}
use Rattle.laws_overlay.specs.Maps.{AllKeep, vertex-end}
use Rattle.laws_overlay.specs.Vertices.{InReach, vertices-bounded}
use Rattle.graph.specs.Flat.{number_at, the_point_at, carrier_at, Points, flat_graph}
use Rattle.graph.specs.Upright.{Upright}
use Rattle.graph.specs.Laws.Decode.{flat-edges, flat-carrier}
use Rattle.overlay_cut.specs.Points.{points_of, points_by}
use Rattle.overlay_cut.specs.Cuts.{Starts}
use Rattle.overlay_cut.specs.Laws.Holds.{Holds, edges_in, owner}
use Rattle.overlay_cut.specs.Laws.VerticesAre.{Vertices}
use Rattle.overlay_maps.specs.Standing.{cells}
use Rattle.overlay_maps.specs.Held.{vertex_start, edge_start, held_map, held_maps, Held}
use Rattle.overlay_maps.specs.Layers.{Layers}

-- ── a part of a table ──

module _ {A : Type 0} (t : List A) (d : A) where
  pub cells_at : (i j k : ℕ) → i + k < j → get_or (cells t i j) k d ≡ get_or t (i + k) d
  cells_at i j k h = get_or-take (j - i) (drop i t) k d (omega arith) ∙ get_or-drop i t k d

-- row k of the rows v to w
module _ (t : List ℤ) (v w k : ℕ) (h : k < w - v) where
  number_in : (j : ℕ) → j < 4 → number_at (cells t (4 * v) (4 * w)) k j ≡ number_at t (v + k) j
  number_in j l =
      let e : 4 * v + (4 * k + j) ≡ 4 * (v + k) + j = omega arith in
      cells_at t (pos 0) (4 * v) (4 * w) (4 * k + j) (omega arith) ∙ ap (λ (i : ℕ). get_or t i (pos 0)) e

  pub point_in_lem : the_point_at (cells t (4 * v) (4 * w)) k ≡ the_point_at t (v + k)
  point_in_lem =
      let x = number_in 0 (omega arith) in
      let y = number_in 1 (omega arith) in
      let d = number_in 2 (omega arith) in
      λ i. pt (x i) (y i) (d i)

  pub carrier_in_lem : carrier_at (cells t (4 * v) (4 * w)) k ≡ carrier_at t (v + k)
  carrier_in_lem =
      let x = number_in 0 (omega arith) in
      let y = number_in 1 (omega arith) in
      let u = number_in 2 (omega arith) in
      let z = number_in 3 (omega arith) in
      λ i. seg (x i) (y i) (u i) (z i)

-- ── the maps ──

pub layer_is : (l : Layers) (i : ℕ) → i < maps → layer (held_maps l) i ≡ held_map l i
layer_is l i h = table_at (held_map l) maps i empty h

pub held-count : (l : Layers) → length (held_maps l) ≡ maps
held-count l = length-table (held_map l) maps

module _ (l : Layers) (H : Held l) where
  pub keep : AllKeep (held_maps l)
  keep i h = let b : i < maps = omega (arith, held-count l) in subst Keeps (sym (layer_is l i b)) (H.keeps i b)

  module _ (i : ℕ) (h : i < maps) where
    abbrev vs : ℕ
    vs = vertex_start l i

    abbrev ve : ℕ
    ve = vertex_start l (i + 1)

    abbrev es : ℕ
    es = edge_start l i

    abbrev ee : ℕ
    ee = edge_start l (i + 1)

    abbrev ps : List ℤ
    ps = cells l.corners (4 * vs) (4 * ve)

    abbrev os : List ℕ
    os = cells l.origins (2 * es) (2 * ee)

    abbrev cs : List ℤ
    cs = cells l.carriers (4 * es) (4 * ee)

    -- its points are rows of the corners
    held-points : (held_map l i).graph.points ≡ table (λ k. the_point_at l.corners (vs + k)) (ve - vs)
    unfolding flat_graph
    held-points = table-ext (the_point_at ps) (λ k. the_point_at l.corners (vs + k)) (ve - vs) (λ k q. point_in_lem l.corners vs ve k q)

    held-near : (p : Pt) → Among p (held_map l i).graph.points → Near p
    unfolding flat_graph
    held-near p j = let r = table-among (the_point_at ps) (ve - vs) p j in subst Near r.2 ((H.stands i h).flat.points.near r.0 r.1)

    -- its edges are rows of the carriers
    pub held-edges : edges_in (held_maps l) i ≡ ee - es
    held-edges = ap (λ (m : Map). length m.graph.edges) (layer_is l i h) ∙ flat-edges ps os cs (ve - vs) (ee - es)

    held-edge : (k : ℕ) → k < ee - es → (edge (held_map l i).graph k).carrier ≡ carrier_at cs k
    held-edge k q = flat-carrier ps os cs (ve - vs) (ee - es) k q

    held-carrier : (k : ℕ) → k < ee - es → carrier_at l.carriers (es + k) ≡ (edge (layer (held_maps l) i).graph k).carrier
    held-carrier k q = sym (carrier_in_lem l.carriers es ee k q) ∙ sym (held-edge k q) ∙ ap (λ (m : Map). (edge m.graph k).carrier) (sym (layer_is l i h))

    edge-near : (k : ℕ) → k < ee - es → Bounds.Edge (carrier_at cs k)
    edge-near k q = (H.stands i h).flat.carriers.near k q

    -- coordinates from "−16,000 to 16,000": a vertex is the end of an edge
    held-reach : InReach (held_map l i)
    held-reach v q =
        let r = vertex-end (held_map l i) (H.keeps i h) v q in
        let b : r.0 < ee - es = omega (arith, r.1, flat-edges ps os cs (ve - vs) (ee - es)) in
        let e = subst Bounds.Edge (sym (held-edge r.0 b)) (edge-near r.0 b) in
        ⊎_elim (λ f. close f e.foot_is) (λ f. close f e.head_is) r.2
      where
        close : {p : Pt} {a : Vec} → p ≡ whole a → Corner a → (nat_abs p.X ≤ reach) × (nat_abs p.Y ≤ reach)
        close e c = subst (λ (p : Pt). (nat_abs p.X ≤ reach) × (nat_abs p.Y ≤ reach)) (sym e) (c.x_is, c.y_is)

  pub in_reach : (i : ℕ) → i < length (held_maps l) → InReach (layer (held_maps l) i)
  in_reach i h = let b : i < maps = omega (arith, held-count l) in subst InReach (sym (layer_is l i b)) (held-reach i b)

  -- ── the tables hold the maps ──

  abbrev total : ℕ
  total = vertex_start l maps

  corners_to : (n : ℕ) → n ≤ maps → points_of l.corners (vertex_start l n) ≡ rows (λ i. (held_map l i).graph.points) n
  corners_to zero h = ap (points_of l.corners) H.vertices_first
  corners_to (suc n) h =
      let b : n < maps = omega arith in
      let a : vertex_start l (suc n) ≡ vertex_start l (n + 1) = ap (vertex_start l) (sym (add-one n)) in
      let e : vertex_start l (suc n) ≡ vertex_start l n + (vertex_start l (n + 1) - vertex_start l n) = omega (arith, a, (H.stands n b).rising) in
      ap (points_of l.corners) e ∙ table-+ (the_point_at l.corners) (vertex_start l n) (vertex_start l (n + 1) - vertex_start l n)
      ∙ (λ i. corners_to n (omega arith) i ++ sym (held-points n b) i)

  pub holds : Holds (held_maps l) l.corners (vertex_start l maps) l.carriers l.edges
  holds = record {
    count = held-count l;
    corners-are = corners_to maps (omega arith)
        ∙ rows_ext (λ i. (held_map l i).graph.points) (λ i. (layer (held_maps l) i).graph.points) maps (λ i h. ap (λ (m : Map). m.graph.points) (sym (layer_is l i h)))
        ∙ ap (rows (λ i. (layer (held_maps l) i).graph.points)) (sym (held-count l));
    first = H.edges_first;
    next = λ i h. omega (arith, held-edges i h, (H.stands i h).climbing);
    carriers-are = λ i k h q. held-carrier i h k (omega (arith, held-edges i h));
  }

  -- a corner is one of a map
  corner_of_lem : (p : Pt) → Among p (points_of l.corners (vertex_start l maps)) → (i : ℕ) × (i < maps) × Among p (held_map l i).graph.points
  corner_of_lem p j = rows-among (λ i. (held_map l i).graph.points) maps p (subst (Among p) (corners_to maps (omega arith)) j)

  pub corners-near : Points l.corners (vertex_start l maps)
  corners-near =
      points_by l.corners (vertex_start l maps) (H.stands (maps - 1) (omega arith)).points_in
      (λ p j. let r = corner_of_lem p j in held-near r.0 r.1 p r.2)

  carried-near : (k : ℕ) → k < edge_start l maps → Bounds.Edge (carrier_at l.carriers k)
  carried-near k h =
      let o = owner holds maps k (omega arith) h in
      let b : o.number < edge_start l (o.map + 1) - edge_start l o.map = omega (arith, o.below, held-edges o.map o.earlier) in
      subst Bounds.Edge (carrier_in_lem l.carriers (edge_start l o.map) (edge_start l (o.map + 1)) o.number b ∙ ap (carrier_at l.carriers) (sym o.is))
      (edge-near o.map o.earlier o.number b)

  pub starts : Starts l.edges l.carriers
  starts = record {
    long = H.edges_long;
    rises = λ m h. (H.stands m h).climbing;
    few = λ m h. omega (arith, (H.stands m h).few);
    carried = record { long = (H.stands (maps - 1) (omega arith)).carriers_in; near = carried-near };
  }

  pub upright : Upright l.carriers (edge_start l maps)
  upright = record {
    up = λ k h.
        let o = owner holds maps k (omega arith) h in
        subst (λ (s : Seg). UpV s.up) (sym (ap (carrier_at l.carriers) o.is ∙ holds.carriers-are o.map o.number o.earlier o.below))
        (upward_up (layer (held_maps l) o.map).graph (keep o.map (omega (arith, o.earlier, held-count l))).plane o.number o.below);
  }

  -- ── the overlay's vertices ──

  pub vertex-near : (p : Pt) → Among p (vertices_of (held_maps l)) → Near p
  vertex-near p j =
      let b = every_in Bounded (vertices_of (held_maps l)) (vertices-bounded (held_maps l) keep in_reach) p j in
      let wide : reach * nat_abs p.D ≤ reach * denominators = mul-le-mul (le_refl reach) b.d_le in
      record { positive = b.positive; X-is = le_trans b.x_le wide; Y-is = le_trans b.y_le wide; D-is = b.d_le }

  -- in a table
  pub vertices-near : (ps : List ℤ) (n : ℕ) → 4 * n ≤ length ps → points_of ps n ≡ vertices_of (held_maps l) → Points ps n
  vertices-near ps n h e = points_by ps n h (λ p j. vertex-near p (subst (Among p) e j))

  -- in a table before they are put in order
  pub unordered_near : (ps : List ℤ) (n : ℕ) → 4 * n ≤ length ps → Vertices (held_maps l) ps n → Points ps n
  unordered_near ps n h r =
      points_by ps n h
      (λ p j. vertex-near p (subst (Among p) r.ordered (in_order_has before (λ p q. q) (λ p q. refl) Lowest same_point (points_of ps n) r.once.lowest p j)))
