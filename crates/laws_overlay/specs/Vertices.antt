-- The vertices of the overlay of a list of maps that keep the rules (01, "Overlay tables"): a point is one exactly if it is a corner of a map or the single point where
-- edges of two different maps meet (`vertex_from`, `vertex_has`); each is in lowest terms, and they rise strictly in point order, so that each stands once. No corner is
-- moved: a corner (x, y) is the vertex (x, y, 1). Then how large their numbers are. Assumes nothing.
use Rattle.std.specs.Prelude.{◌≡◌, refl, ◌⊎◌, ◌<◌, ◌≤◌, ◌++◌}
use Rattle.std.proofs.Common.{sym, ◌∙◌, subst, inl, inr, ⊎_elim, arith}
use Rattle.std.proofs.Math.Decide.{dec_lt}
use Rattle.seq.specs.Seq.{List, ℕ, length, nat_abs, rows, optional}
use Rattle.seq.specs.Terms.{Among, Every, Rising}
use Rattle.seq.specs.Members.{among-++, ++-among, at_among, among_at, every_in, in_every}
use Rattle.seq.specs.Rows.{among-rows, rows-among}
use Rattle.seq.specs.Inserted.{in_order_from, in_order_has, in_order-rising}
use Rattle.seq.specs.Options.{optional_some, some_optional}
use Rattle.paper.specs.Limits.{reach}
use Rattle.paper.specs.Plane.{Pt, Vec, whole, nowhere, head, before, crossing}
use Rattle.paper.specs.Graph.{Graph, point}
use Rattle.paper.specs.Map.{Map}
use Rattle.paper.specs.Pieces.{layer, crossed_at, crossed_by, crossings, vertices_of}
use Rattle.laws_plane.specs.Points.{LowestP, same_point, before_transitive}
use Rattle.laws_plane.specs.Bounds.{Reaches, Bounded, crossing-bounded, corner-bounded}
use Rattle.laws_plane.specs.Crossing.{Touch, touch-swap, crossing-touch, touch-crossing}
use Rattle.laws_map.specs.Keeps.{seg, edges, vertices}
use Rattle.laws_overlay.specs.Maps.{AllKeep, corner_is, points-lowest, foot-vertex, head-vertex}
use Rattle.laws_graph.specs.Plane.{upward_up}

-- p is a corner of a map
pub record Corner (ms : List Map) (p : Pt) : Type 0 where
  pub layer_of : ℕ
  pub vertex : ℕ
  pub in_list : layer_of < length ms
  pub below : vertex < vertices (layer ms layer_of)
  pub is : point (layer ms layer_of).graph vertex ≡ p

-- p, in lowest terms, is the single point where edges of two different maps meet: it is on both, and they are not parallel
pub record Crossed (ms : List Map) (p : Pt) : Type 0 where
  pub first_layer : ℕ
  pub second-layer : ℕ
  pub first_edge : ℕ
  pub second-edge : ℕ
  pub first_in : first_layer < length ms
  pub second_in : second-layer < length ms
  pub differ : first_layer ≡ second-layer → ⊥
  pub first_below : first_edge < edges (layer ms first_layer)
  pub second_below : second-edge < edges (layer ms second-layer)
  pub touch : Touch (seg (layer ms first_layer) first_edge) (seg (layer ms second-layer) second-edge) p

abbrev pub Vertex : List Map → Pt → Type 0
Vertex ms p = Corner ms p ⊎ Crossed ms p

-- ── members of the parts ──

abbrev corners_of : List Map → ℕ → List Pt
corners_of ms i = (layer ms i).graph.points

-- the corners of all maps, and the crossings, as they come
abbrev pub collected : List Map → List Pt
collected ms = rows (corners_of ms) (length ms) ++ crossings ms

module _ (ms : List Map) (K : AllKeep ms) where
  abbrev g : ℕ → Graph
  g i = (layer ms i).graph

  corner_from : (p : Pt) → Among p (rows (corners_of ms) (length ms)) → Corner ms p
  corner_from p i =
      let (j, l, s) = rows-among (corners_of ms) (length ms) p i in
      let (v, b, e) = among_at p (g j).points (whole nowhere) s in
      record { layer_of = j; vertex = v; in_list = l; below = b; is = e }

  corner_has : (p : Pt) → Corner ms p → Among p (rows (corners_of ms) (length ms))
  corner_has p c =
      among-rows (corners_of ms) (length ms) c.layer_of p c.in_list
      (subst (λ (q : Pt). Among q (g c.layer_of).points) c.is (at_among (g c.layer_of).points c.vertex (whole nowhere) c.below))

  -- the crossings, by two maps and an edge of each, the map of lesser number first
  pub crossings_from : (p : Pt) → Among p (crossings ms) →
      (i : ℕ) × (j : ℕ) × (e : ℕ) × (f : ℕ) × (i < j) × (j < length ms) × (e < edges (layer ms i)) × (f < edges (layer ms j)) × Among p (optional (crossing (seg (layer ms i) e) (seg (layer ms j) f)))
  crossings_from p a =
      let (j, lj, s) = rows-among (λ j. rows (λ i. crossed_by (g i) (g j)) j) (length ms) p a in
      let (i, li, t) = rows-among (λ i. crossed_by (g i) (g j)) j p s in
      let (e, le, u) = rows-among (λ e. rows (crossed_at (g i) (g j) e) (edges (layer ms j))) (edges (layer ms i)) p t in
      let (f, lf, w) = rows-among (crossed_at (g i) (g j) e) (edges (layer ms j)) p u in
      (i, j, e, f, li, lj, le, lf, w)

  pub crossings_has : (p : Pt) (i j e f : ℕ) → i < j → j < length ms → e < edges (layer ms i) → f < edges (layer ms j) → Among p (optional (crossing (seg (layer ms i) e) (seg (layer ms j) f))) → Among p (crossings ms)
  crossings_has p i j e f li lj le lf w =
      among-rows (λ j. rows (λ i. crossed_by (g i) (g j)) j) (length ms) j p lj
      (among-rows (λ i. crossed_by (g i) (g j)) j i p li
      (among-rows (λ e. rows (crossed_at (g i) (g j) e) (edges (layer ms j))) (edges (layer ms i)) e p le (among-rows (crossed_at (g i) (g j) e) (edges (layer ms j)) f p lf w)))

  crossed_from : (p : Pt) → Among p (crossings ms) → Crossed ms p
  crossed_from p a =
      let (i, j, e, f, li, lj, le, lf, w) = crossings_from p a in
      let in-first : i < length ms = omega arith in
      record {
        first_layer = i;
        second-layer = j;
        first_edge = e;
        second-edge = f;
        first_in = in-first;
        second_in = lj;
        differ = λ q. omega arith;
        first_below = le;
        second_below = lf;
        touch = crossing-touch (seg (layer ms i) e) (seg (layer ms j) f) (upward_up (layer ms i).graph (K i in-first).plane e le) (upward_up (layer ms j).graph (K j lj).plane f lf) p
            (optional_some p (crossing (seg (layer ms i) e) (seg (layer ms j) f)) w);
      }

  crossed_by_lem : (p : Pt) (i j e f : ℕ) → i < j → j < length ms → e < edges (layer ms i) → f < edges (layer ms j) → Touch (seg (layer ms i) e) (seg (layer ms j) f) p → Among p (crossings ms)
  crossed_by_lem p i j e f lij lj le lf t =
      crossings_has p i j e f lij lj le lf
      (some_optional p (crossing (seg (layer ms i) e) (seg (layer ms j) f))
      (touch-crossing (seg (layer ms i) e) (seg (layer ms j) f) (upward_up (layer ms i).graph (K i (omega arith)).plane e le) (upward_up (layer ms j).graph (K j lj).plane f lf) p t))

  crossed_has : (p : Pt) → Crossed ms p → Among p (crossings ms)
  crossed_has p c =
      let i = c.first_layer in
      let j = c.second-layer in
      elim (dec_lt i j) [
        | yes q ↦ crossed_by_lem p i j c.first_edge c.second-edge q c.second_in c.first_below c.second_below c.touch
        | no q ↦ let r : i ≡ j → ⊥ = c.differ in
            crossed_by_lem p j i c.second-edge c.first_edge (omega arith) c.first_in c.second_below c.first_below
            (touch-swap (seg (layer ms i) c.first_edge) (seg (layer ms j) c.second-edge) p c.touch)
      ]

  -- ── a point is a vertex exactly if it is one of these ──

  pub collected_from : (p : Pt) → Among p (collected ms) → Vertex ms p
  collected_from p i = ⊎_elim (λ a. inl (corner_from p a)) (λ a. inr (crossed_from p a)) (among-++ p (rows (corners_of ms) (length ms)) (crossings ms) i)

  pub collected_has : (p : Pt) → Vertex ms p → Among p (collected ms)
  collected_has p v = ++-among p (rows (corners_of ms) (length ms)) (crossings ms) (⊎_elim (λ c. inl (corner_has p c)) (λ c. inr (crossed_has p c)) v)

  vertex_low : (p : Pt) → Vertex ms p → LowestP p
  vertex_low p (inl c) =
      every_in LowestP (g c.layer_of).points (points-lowest (layer ms c.layer_of) (K c.layer_of c.in_list)) p
      (subst (λ (q : Pt). Among q (g c.layer_of).points) c.is (at_among (g c.layer_of).points c.vertex (whole nowhere) c.below))
  vertex_low p (inr c) = c.touch.lowest_p

  pub collected-lowest : Every LowestP (collected ms)
  collected-lowest = in_every LowestP (collected ms) (λ p i. vertex_low p (collected_from p i))

  pub vertex_from : (p : Pt) → Among p (vertices_of ms) → Vertex ms p
  vertex_from p i = collected_from p (in_order_from before (λ p q. q) (λ p q. refl) (collected ms) p i)

  pub vertex_has : (p : Pt) → Vertex ms p → Among p (vertices_of ms)
  vertex_has p v = in_order_has before (λ p q. q) (λ p q. refl) LowestP same_point (collected ms) collected-lowest p (collected_has p v)

  -- each in lowest terms
  pub vertices-lowest : Every LowestP (vertices_of ms)
  vertices-lowest = in_every LowestP (vertices_of ms) (λ p i. vertex_low p (vertex_from p i))

  -- in strict point order, and so each once
  pub vertices-rising : Rising before (vertices_of ms)
  vertices-rising = in_order-rising before (λ p q. q) (λ p q. refl) LowestP same_point before_transitive (collected ms) collected-lowest

  -- "a corner (x, y) is the vertex (x, y, 1)"
  pub corner-stays : (i v : ℕ) (l : i < length ms) → v < vertices (layer ms i) → (a : Vec) × (point (layer ms i).graph v ≡ whole a) × Among (whole a) (vertices_of ms)
  corner-stays i v l b =
      let (a, e) = corner_is (layer ms i) (K i l) v b in
      (a, e, vertex_has (whole a) (inl (record { layer_of = i; vertex = v; in_list = l; below = b; is = e })))

  -- an edge's ends are vertices
  pub foot-there : (i k : ℕ) → i < length ms → k < edges (layer ms i) → Among (whole (seg (layer ms i) k).foot) (vertices_of ms)
  foot-there i k l b =
      let p = whole (seg (layer ms i) k).foot in
      let (v, c, e) = among_at p (g i).points (whole nowhere) (foot-vertex (layer ms i) (K i l) k b) in
      vertex_has p (inl (record { layer_of = i; vertex = v; in_list = l; below = c; is = e }))

  pub head-there : (i k : ℕ) → i < length ms → k < edges (layer ms i) → Among (whole (head (seg (layer ms i) k))) (vertices_of ms)
  head-there i k l b =
      let p = whole (head (seg (layer ms i) k)) in
      let (v, c, e) = among_at p (g i).points (whole nowhere) (head-vertex (layer ms i) (K i l) k b) in
      vertex_has p (inl (record { layer_of = i; vertex = v; in_list = l; below = c; is = e }))

-- ── how large their numbers are ──

-- rule 5 of a map
abbrev pub InReach : Map → Type 0
InReach m = (v : ℕ) → v < vertices m → (nat_abs (point m.graph v).X ≤ reach) × (nat_abs (point m.graph v).Y ≤ reach)

abbrev Close : Pt → Type 0
Close p = (nat_abs p.X ≤ reach) × (nat_abs p.Y ≤ reach)

module _ (ms : List Map) (K : AllKeep ms) (R : (i : ℕ) → i < length ms → InReach (layer ms i)) where
  close_at : (i : ℕ) → i < length ms → (p : Pt) → Among p (layer ms i).graph.points → Close p
  close_at i l p a = let (v, b, e) = among_at p (layer ms i).graph.points (whole nowhere) a in subst Close e (R i l v b)

  seg-reaches : (i k : ℕ) → i < length ms → k < edges (layer ms i) → Reaches reach (seg (layer ms i) k)
  seg-reaches i k l b =
      let f = close_at i l (whole (seg (layer ms i) k).foot) (foot-vertex (layer ms i) (K i l) k b) in
      let h = close_at i l (whole (head (seg (layer ms i) k))) (head-vertex (layer ms i) (K i l) k b) in
      record { foot_x = f.0; foot_y = f.1; head_x = h.0; head_y = h.1 }

  -- "D may then reach 2,048,000,000"; X and Y lie within 16,000·D either way
  pub vertex-bounded : (p : Pt) → Vertex ms p → Bounded p
  vertex-bounded p (inl c) =
      let (a, e) = corner_is (layer ms c.layer_of) (K c.layer_of c.in_list) c.vertex c.below in
      let r = subst Close e (R c.layer_of c.in_list c.vertex c.below) in
      subst Bounded (sym e ∙ c.is) (corner-bounded a r.0 r.1)
  vertex-bounded p (inr c) =
      let i = c.first_layer in
      let j = c.second-layer in
      let s = seg (layer ms i) c.first_edge in
      let t = seg (layer ms j) c.second-edge in
      let us = upward_up (layer ms i).graph (K i c.first_in).plane c.first_edge c.first_below in
      let ut = upward_up (layer ms j).graph (K j c.second_in).plane c.second-edge c.second_below in
      crossing-bounded s t p us ut (seg-reaches i c.first_edge c.first_in c.first_below) (seg-reaches j c.second-edge c.second_in c.second_below)
      (touch-crossing s t us ut p c.touch)

  pub vertices-bounded : Every Bounded (vertices_of ms)
  vertices-bounded = in_every Bounded (vertices_of ms) (λ p i. vertex-bounded p (vertex_from ms K p i))
