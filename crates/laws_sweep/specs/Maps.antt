-- The sweep over maps that keep the rules meets the vertices of their overlay: `swept-vertices`. Their edges, corners and vertices are a scene (`maps-scene`): an edge goes up, its ends are corners;
-- a vertex is a corner or a crossing of edges of two maps; where two edges of one map meet, both end. Assumes nothing.
use Rattle.std.specs.Prelude.{◌≡◌, refl, ◌⊎◌, ◌<◌, ◌≤◌, ◌<ℤ◌}
use Rattle.std.proofs.Common.{sym, ◌∙◌, ap, subst, inl, inr}
use Rattle.std.proofs.Math.Decide.{ℕ_discrete}
use Rattle.exact.specs.Sign.{is_zer}
use Rattle.exact.specs.Lowest.{lowest, lowest_is}
use Rattle.seq.specs.Seq.{true, List, ℕ, length, pos, rows, table}
use Rattle.seq.specs.Terms.{Among, Every}
use Rattle.seq.specs.Members.{every_in, in_every, at_among, among_at}
use Rattle.seq.specs.Rows.{among-rows, rows-among}
use Rattle.seq.specs.Table.{among-table, table-among}
use Rattle.seq.specs.Inserted.{in_order_from, in_order_has, in_order-rising}
use Rattle.paper.specs.Plane.{Pt, Seg, whole, nowhere, head, cross, before, same}
use Rattle.paper.specs.Map.{Map}
use Rattle.paper.specs.Pieces.{layer, vertices_of}
use Rattle.laws_plane.specs.Cone.{UpV}
use Rattle.laws_plane.specs.Points.{LowestP, order_same, same_order, same_point, same_equal, same_sym, before_transitive}
use Rattle.laws_plane.specs.Ends.{corner-lowest}
use Rattle.laws_plane.specs.Angles.{cross-self}
use Rattle.laws_plane.specs.Edges.{On, IsEnd, on_same}
use Rattle.laws_graph.specs.Plane.{upward_up}
use Rattle.laws_map.specs.Keeps.{seg, edges}
use Rattle.laws_overlay.specs.Maps.{AllKeep, points-lowest, foot-vertex, head-vertex}
use Rattle.laws_overlay.specs.Vertices.{Vertex, vertex_from, vertex_has, vertices-lowest, vertices-rising}
use Rattle.laws_sweep.specs.Sweep.{Strand, lo, hi, strands_of, corners_of}
use Rattle.laws_sweep.specs.Scene.{Parallel, Crosses, Scene, lowest_same}

-- e is edge k of map i
pub record IsEdge (ms : List Map) (e : Strand) : Type 0 where
  pub map_in : e.of < length ms
  pub number : ℕ
  pub below : number < edges (layer ms e.of)
  pub is : e.seg ≡ seg (layer ms e.of) number

module _ (ms : List Map) (K : AllKeep ms) where
  abbrev the_edge_at : ℕ → ℕ → Strand
  the_edge_at i k = record { of = i; seg = seg (layer ms i) k }

  pub strand_from : (e : Strand) → Among e (strands_of ms) → IsEdge ms e
  strand_from e a =
      let (i, l, b) = rows-among (λ i. table (the_edge_at i) (edges (layer ms i))) (length ms) e a in
      let (k, m, h) = table-among (the_edge_at i) (edges (layer ms i)) e b in
      subst (IsEdge ms) h (record { map_in = l; number = k; below = m; is = refl })

  pub strand_has : (i k : ℕ) → i < length ms → k < edges (layer ms i) → Among (the_edge_at i k) (strands_of ms)
  strand_has i k l b = among-rows (λ i. table (the_edge_at i) (edges (layer ms i))) (length ms) i (the_edge_at i k) l (among-table (the_edge_at i) (edges (layer ms i)) k b)

  -- ── corners ──

  abbrev points : List Pt
  points = rows (λ i. (layer ms i).graph.points) (length ms)

  points_low : Every LowestP points
  points_low = in_every LowestP points (λ p a. let (i, l, b) = rows-among (λ i. (layer ms i).graph.points) (length ms) p a in every_in LowestP (layer ms i).graph.points (points-lowest (layer ms i) (K i l)) p b)

  corner-point : (p : Pt) → Among p (corners_of ms) → Among p points
  corner-point p a = in_order_from before (λ p q. q) (λ p q. refl) points p a

  point-corner : (p : Pt) → Among p points → Among p (corners_of ms)
  point-corner p a = in_order_has before (λ p q. q) (λ p q. refl) LowestP same_point points points_low p a

  layer-corner : (i : ℕ) → i < length ms → (p : Pt) → Among p (layer ms i).graph.points → Among p (corners_of ms)
  layer-corner i l p a = point-corner p (among-rows (λ i. (layer ms i).graph.points) (length ms) i p l a)

  corner-vertex : (p : Pt) → Among p (corners_of ms) → Among p (vertices_of ms)
  corner-vertex p a =
      let (i, l, b) = rows-among (λ i. (layer ms i).graph.points) (length ms) p (corner-point p a) in
      let (v, m, e) = among_at p (layer ms i).graph.points (whole nowhere) b in
      vertex_has ms K p (inl (record { layer_of = i; vertex = v; in_list = l; below = m; is = e }))

  -- ── edges ──

  edge_up : (e : Strand) → IsEdge ms e → UpV e.seg.up
  edge_up e h = subst (λ (s : Seg). UpV s.up) (sym h.is) (upward_up (layer ms e.of).graph (K e.of h.map_in).plane h.number h.below)

  edge_low : (e : Strand) → IsEdge ms e → Among (lo e) (corners_of ms)
  edge_low e h =
      layer-corner e.of h.map_in (lo e)
      (subst (λ (s : Seg). Among (whole s.foot) (layer ms e.of).graph.points) (sym h.is) (foot-vertex (layer ms e.of) (K e.of h.map_in) h.number h.below))

  edge_high : (e : Strand) → IsEdge ms e → Among (hi e) (corners_of ms)
  edge_high e h =
      layer-corner e.of h.map_in (hi e)
      (subst (λ (s : Seg). Among (whole (head s)) (layer ms e.of).graph.points) (sym h.is) (head-vertex (layer ms e.of) (K e.of h.map_in) h.number h.below))

  -- ── where edges meet ──

  one_end : (m : ℕ) (s t : Seg) (i j : ℕ) → m < length ms → i < edges (layer ms m) → j < edges (layer ms m) → s ≡ seg (layer ms m) i → t ≡ seg (layer ms m) j →
      (cross s.up t.up ≡ pos 0 → ⊥) → (q : Pt) → pos 0 <ℤ q.D → On s q → On t q → IsEnd s q
  one_end m s t i j l li lj es et n q h os ot =
      elim (ℕ_discrete i j) [
        | yes k ↦ absurd (n (ap (λ (w : Seg). cross s.up w.up) (et ∙ ap (seg (layer ms m)) (sym k) ∙ sym es) ∙ cross-self s.up))
        | no k ↦ subst (λ (w : Seg). IsEnd w q) (sym es) ((K m l).share i j li lj k q h (subst (λ (w : Seg). On w q) es os) (subst (λ (w : Seg). On w q) et ot)).0
      ]

  one_map-end : (e f : Strand) → IsEdge ms e → IsEdge ms f → e.of ≡ f.of → (Parallel e f → ⊥) → (q : Pt) → pos 0 <ℤ q.D → On e.seg q → On f.seg q → IsEnd e.seg q
  one_map-end e f he hf o n q h oe of =
      one_end e.of e.seg f.seg he.number hf.number he.map_in he.below (subst (λ (m : ℕ). hf.number < edges (layer ms m)) (sym o) hf.below) he.is
      (hf.is ∙ ap (λ (m : ℕ). seg (layer ms m) hf.number) (sym o)) n q h oe of

  -- an end by its lowest numbers
  end-lowest : (e : Strand) → IsEdge ms e → (q : Pt) → pos 0 <ℤ q.D → IsEnd e.seg q → Among (lowest q.X q.Y q.D) (vertices_of ms)
  end-lowest e h q l k = go k
    where
      z : Pt
      z = lowest q.X q.Y q.D

      at : (p : Pt) → LowestP p → Among p (corners_of ms) → same p q ≡ true → Among z (vertices_of ms)
      at p lp a s = subst (λ (w : Pt). Among w (vertices_of ms)) (same_equal p z lp (lowest_is q.X q.Y q.D l) (ap is_zer (order_same q p z l lp.positive (lowest_is q.X q.Y q.D l).positive (same_order q p (same_sym p q s))) ∙ lowest_same q l)) (corner-vertex p a)

      go : IsEnd e.seg q → Among z (vertices_of ms)
      go (inl s) = at (lo e) (corner-lowest e.seg.foot) (edge_low e h) s
      go (inr s) = at (hi e) (corner-lowest (head e.seg)) (edge_high e h) s

  meet-vertex : (e f : Strand) → IsEdge ms e → IsEdge ms f → (Parallel e f → ⊥) → (q : Pt) → pos 0 <ℤ q.D → On e.seg q → On f.seg q → Among (lowest q.X q.Y q.D) (vertices_of ms)
  meet-vertex e f he hf n q h oe of =
      elim (ℕ_discrete e.of f.of) [
        | yes o ↦ end-lowest e he q h (one_map-end e f he hf o n q h oe of)
        | no o ↦ crossed o
      ]
    where
      z : Pt
      z = lowest q.X q.Y q.D

      lz : LowestP z
      lz = lowest_is q.X q.Y q.D h

      on_z : (s : Seg) → On s q → On s z
      on_z s o = on_same s q z h lz.positive (lowest_same q h) o

      crossed : (e.of ≡ f.of → ⊥) → Among z (vertices_of ms)
      crossed o = vertex_has ms K z (inr (record {
        first_layer = e.of;
        second-layer = f.of;
        first_edge = he.number;
        second-edge = hf.number;
        first_in = he.map_in;
        second_in = hf.map_in;
        differ = o;
        first_below = he.below;
        second_below = hf.below;
        touch = record {
          turned = λ c. n ((λ i. cross (he.is i).up (hf.is i).up) ∙ c);
          lowest_p = lz;
          first = subst (λ (s : Seg). On s z) he.is (on_z e.seg oe);
          second = subst (λ (s : Seg). On s z) hf.is (on_z f.seg of);
        };
      }))

  vertex_by_lem : (v : Pt) → Vertex ms v → Among v (corners_of ms) ⊎ Crosses (strands_of ms) v
  vertex_by_lem v (inl c) =
      inl (layer-corner c.layer_of c.in_list v
      (subst (λ (p : Pt). Among p (layer ms c.layer_of).graph.points) c.is (at_among (layer ms c.layer_of).graph.points c.vertex (whole nowhere) c.below)))
  vertex_by_lem v (inr c) = inr (record {
    one = the_edge_at c.first_layer c.first_edge;
    other = the_edge_at c.second-layer c.second-edge;
    one_in = strand_has c.first_layer c.first_edge c.first_in c.first_below;
    other_in = strand_has c.second-layer c.second-edge c.second_in c.second_below;
    differ = c.differ;
    touch = c.touch;
  })

  pub maps-scene : Scene (strands_of ms) (corners_of ms) (vertices_of ms)
  maps-scene = record {
    rises = λ e i. edge_up e (strand_from e i);
    low_in = λ e i. edge_low e (strand_from e i);
    high_in = λ e i. edge_high e (strand_from e i);
    corner_in_lem = corner-vertex;
    lowest_in = λ v i. every_in LowestP (vertices_of ms) (vertices-lowest ms K) v i;
    rising = vertices-rising ms K;
    corners-rising = in_order-rising before (λ p q. q) (λ p q. refl) LowestP same_point before_transitive points points_low;
    from = λ v i. vertex_by_lem v (vertex_from ms K v i);
    meet_in = λ e f i j. meet-vertex e f (strand_from e i) (strand_from f j);
    one_map = λ e f i j. one_map-end e f (strand_from e i) (strand_from f j);
  }
