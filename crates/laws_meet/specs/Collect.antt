-- "The map check and the collecting of vertices follow; the overlay tables stay the same" (02, Ask 2). Rule 8 by the meeting of two edges is rule 8 (`clashes_by_lem`); the vertices collected as the points of
-- all meetings, those of parallel edges that touch end to end too, are the overlay's vertices (`vertices_by_lem`): such a point is a corner already. Assumes nothing.
use Rattle.std.specs.Prelude.{◌≡◌, refl, ◌⊎◌, ◌<◌, ◌&&◌, ◌++◌}
use Rattle.std.proofs.Common.{sym, ◌∙◌, ap, subst, inl, inr, arith}
use Rattle.seq.specs.Seq.{Bool, true, false, cond, not, List, none, some, ℕ, eqb, length, pos, rows, optional}
use Rattle.seq.specs.Terms.{Among}
use Rattle.seq.specs.Members.{++-among}
use Rattle.seq.specs.Rows.{among-rows, rows-among}
use Rattle.seq.specs.Options.{optional_some, some_optional}
use Rattle.exact.specs.Sign.{sgn, is_zer}
use Rattle.exact.specs.Signs.{zero_is}
use Rattle.paper.specs.Limits.{reach}
use Rattle.paper.specs.Plane.{Pt, Seg, whole, head, cross, crossing}
use Rattle.paper.specs.Graph.{Graph, edge_count, edge}
use Rattle.paper.specs.Map.{Map, clashes}
use Rattle.paper.specs.Pieces.{layer, crossings, the_in_order, vertices_of}
use Rattle.paper.specs.Pieces as pieces
use Rattle.laws_plane.specs.Cone.{UpV}
use Rattle.laws_plane.specs.Points.{LowestP, same_equal}
use Rattle.laws_plane.specs.Ends.{corner-lowest}
use Rattle.laws_plane.specs.Edges.{IsEnd}
use Rattle.laws_plane.specs.Bounds.{Reaches, Bounded, crossing-bounded, corner-bounded}
use Rattle.laws_plane.specs.Boxes.{BoxesApart}
use Rattle.laws_plane.proofs.Boxes.{boxes-point}
use Rattle.laws_plane.specs.Crossing.{crossing-touch}
use Rattle.laws_map.specs.Keeps.{seg, edges}
use Rattle.laws_overlay.specs.Maps.{AllKeep, foot-vertex, head-vertex}
use Rattle.laws_overlay.specs.Vertices.{collected, crossings_from, crossings_has}
use Rattle.paper.specs.Meeting.{Meeting, apart as separate, touching, crossing as crossed, sharing, meeting, point_of, clash_by}
use Rattle.laws_meet.specs.Means.{parallel_ends, parallel-crossed}
use Rattle.laws_meet.specs.Uses.{clash-meeting, crossing-meeting, touching_is, is_apart}
use Rattle.laws_meet.specs.Other.{Upward}
use Rattle.laws_graph.specs.Plane.{upward_up}
use Rattle.laws_overlay.specs.Collected.{with_corners}

-- ── rule 8 ──

-- 8 "an edge shares with another any point that is not an end of both", by the meeting of the two
abbrev pub clashes_by : Graph → ℕ → ℕ → Bool
clashes_by g k j = let s = (edge g k).carrier in let t = (edge g j).carrier in not (eqb k j) && clash_by s t (meeting s t)

pub clashes_by_lem : (g : Graph) → Upward g → (k j : ℕ) → k < edge_count g → j < edge_count g → clashes_by g k j ≡ clashes g k j
clashes_by_lem g U k j lk lj = ap (λ (c : Bool). not (eqb k j) && c) (sym (clash-meeting (edge g k).carrier (edge g j).carrier (U k lk) (U j lj)))

-- ── vertices ──

-- where edge j of the one graph meets edge k of the other in one point
abbrev pub met_at : Graph → Graph → ℕ → ℕ → List Pt
met_at a b j k = optional (point_of (meeting (edge a j).carrier (edge b k).carrier))

abbrev pub met : Graph → Graph → List Pt
met a b = rows (λ j. rows (met_at a b j) (edge_count b)) (edge_count a)

abbrev pub met_in : List Map → List Pt
met_in ms = rows (λ j. rows (λ i. met (layer ms i).graph (layer ms j).graph) j) (length ms)

-- the corners of all maps, and those points
abbrev pub vertices_by : List Map → List Pt
vertices_by ms = the_in_order (rows (λ i. (layer ms i).graph.points) (length ms) ++ met_in ms)

-- a meeting with a point is a touch or a cross
point-kind : (m : Meeting) (p : Pt) → point_of m ≡ some p → (m ≡ touching p) ⊎ (m ≡ crossed p)
point-kind separate p e = absurd (let z : ◌≡◌ {A = ℕ} 0 1 = cc in omega arith)
point-kind (touching q) p e = inl (let r : q ≡ p = cc in ap touching r)
point-kind (crossed q) p e = inr (let r : q ≡ p = cc in ap crossed r)
point-kind sharing p e = absurd (let z : ◌≡◌ {A = ℕ} 0 1 = cc in omega arith)

module _ (s t : Seg) (us : UpV s.up) (ut : UpV t.up) (p : Pt) where
  -- the point of a meeting: where the edges cross, or a common end
  met_from : point_of (meeting s t) ≡ some p → (crossing s t ≡ some p) ⊎ (LowestP p × IsEnd s p)
  met_from e = go (is_zer (sgn (cross s.up t.up))) refl
    where
      parallel : cross s.up t.up ≡ pos 0 → (meeting s t ≡ touching p) ⊎ (meeting s t ≡ crossed p) → LowestP p × IsEnd s p
      parallel z (inl m) = ((touching_is s t us ut p m).0.lowest_p, (parallel_ends s t us ut z p m).0)
      parallel z (inr m) = absurd (parallel-crossed s t us ut z p m)

      go : (c : Bool) → is_zer (sgn (cross s.up t.up)) ≡ c → (crossing s t ≡ some p) ⊎ (LowestP p × IsEnd s p)
      go true z = inr (parallel (zero_is (cross s.up t.up) z) (point-kind (meeting s t) p e))
      go false z = inl (crossing-meeting s t ∙ ap (λ (c : Bool). cond c none (point_of (meeting s t))) z ∙ e)

  -- where the edges cross they meet
  met_has : crossing s t ≡ some p → point_of (meeting s t) ≡ some p
  met_has e = go (is_zer (sgn (cross s.up t.up))) refl
    where
      go : (c : Bool) → is_zer (sgn (cross s.up t.up)) ≡ c → point_of (meeting s t) ≡ some p
      go true z = absurd ((crossing-touch s t us ut p e).turned (zero_is (cross s.up t.up) z))
      go false z = sym (crossing-meeting s t ∙ ap (λ (c : Bool). cond c none (point_of (meeting s t))) z) ∙ e

-- the point of a meeting is within 01's bounds: "D may then reach 2,048,000,000"; X and Y lie within 16,000·D either way
pub meeting-bounded : (s t : Seg) → UpV s.up → UpV t.up → Reaches reach s → Reaches reach t → (p : Pt) → point_of (meeting s t) ≡ some p → Bounded p
meeting-bounded s t us ut hs ht p e = go (met_from s t us ut p e)
  where
    go : (crossing s t ≡ some p) ⊎ (LowestP p × IsEnd s p) → Bounded p
    go (inl q) = crossing-bounded s t p us ut hs ht q
    go (inr (l, inl q)) = subst Bounded (same_equal (whole s.foot) p (corner-lowest s.foot) l q) (corner-bounded s.foot hs.foot_x hs.foot_y)
    go (inr (l, inr q)) = subst Bounded (same_equal (whole (head s)) p (corner-lowest (head s)) l q) (corner-bounded (head s) hs.head_x hs.head_y)

-- edges whose boxes are apart do not meet
pub boxes-meeting : (s t : Seg) → UpV s.up → UpV t.up → BoxesApart s t → meeting s t ≡ separate
boxes-meeting s t us ut b = is_apart s t us ut (boxes-point s t us ut b)

module _ (ms : List Map) (K : AllKeep ms) where
  abbrev g : ℕ → Graph
  g i = (layer ms i).graph

  abbrev corners : List Pt
  corners = rows (λ i. (layer ms i).graph.points) (length ms)

  -- an end of an edge is a corner
  end-corner : (i k : ℕ) → i < length ms → k < edges (layer ms i) → (p : Pt) → LowestP p → IsEnd (seg (layer ms i) k) p → Among p corners
  end-corner i k l b p low (inl e) =
      among-rows (λ i. (layer ms i).graph.points) (length ms) i p l
      (subst (λ (q : Pt). Among q (g i).points) (same_equal (whole (seg (layer ms i) k).foot) p (corner-lowest (seg (layer ms i) k).foot) low e) (foot-vertex (layer ms i) (K i l) k b))
  end-corner i k l b p low (inr e) =
      among-rows (λ i. (layer ms i).graph.points) (length ms) i p l
      (subst (λ (q : Pt). Among q (g i).points) (same_equal (whole (head (seg (layer ms i) k))) p (corner-lowest (head (seg (layer ms i) k))) low e) (head-vertex (layer ms i) (K i l) k b))

  met-among : (p : Pt) → Among p (met_in ms) → Among p (collected ms)
  met-among p a =
      let (j, lj, s) = rows-among (λ j. rows (λ i. met (g i) (g j)) j) (length ms) p a in
      let (i, li, t) = rows-among (λ i. met (g i) (g j)) j p s in
      let (e, le, u) = rows-among (λ e. rows (met_at (g i) (g j) e) (edges (layer ms j))) (edges (layer ms i)) p t in
      let (f, lf, w) = rows-among (met_at (g i) (g j) e) (edges (layer ms j)) p u in
      let mi : i < length ms = omega arith in
      let x = seg (layer ms i) e in
      let y = seg (layer ms j) f in
      placed i j e f mi lj li le lf (met_from x y (upward_up (layer ms i).graph (K i mi).plane e le) (upward_up (layer ms j).graph (K j lj).plane f lf) p (optional_some p (point_of (meeting x y)) w))
    where
      placed : (i j e f : ℕ) → i < length ms → j < length ms → i < j → e < edges (layer ms i) → f < edges (layer ms j)
          → (crossing (seg (layer ms i) e) (seg (layer ms j) f) ≡ some p) ⊎ (LowestP p × IsEnd (seg (layer ms i) e) p) → Among p (collected ms)
      placed i j e f mi lj li le lf (inl q) = ++-among p corners (crossings ms) (inr (crossings_has ms K p i j e f li lj le lf (some_optional p (crossing (seg (layer ms i) e) (seg (layer ms j) f)) q)))
      placed i j e f mi lj li le lf (inr (q, r)) = ++-among p corners (crossings ms) (inl (end-corner i e mi le p q r))

  crossed-met : (p : Pt) → Among p (crossings ms) → Among p (met_in ms)
  crossed-met p a =
      let (i, j, e, f, li, lj, le, lf, w) = crossings_from ms K p a in
      let mi : i < length ms = omega arith in
      let x = seg (layer ms i) e in
      let y = seg (layer ms j) f in
      among-rows (λ j. rows (λ i. met (g i) (g j)) j) (length ms) j p lj
      (among-rows (λ i. met (g i) (g j)) j i p li
      (among-rows (λ e. rows (met_at (g i) (g j) e) (edges (layer ms j))) (edges (layer ms i)) e p le
      (among-rows (met_at (g i) (g j) e) (edges (layer ms j)) f p lf
      (some_optional p (point_of (meeting x y)) (met_has x y (upward_up (layer ms i).graph (K i mi).plane e le) (upward_up (layer ms j).graph (K j lj).plane f lf) p (optional_some p (crossing x y) w))))))

  -- the same vertices, and so the same tables
  pub vertices_by_lem : vertices_by ms ≡ vertices_of ms
  vertices_by_lem = with_corners ms K (met_in ms) met-among crossed-met
