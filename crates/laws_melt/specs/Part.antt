-- A part of a plane graph: some of its edges, and some of its vertices, with all ends of those edges, under other numbers (`Part`). It is a plane graph (`part-plane`), no two of
-- its edges share a stretch where no two of the whole do (`part-clear`), and it covers a map where it has each piece that lies along an edge of the map on which the labels jump (`part-covers`).
-- Ask 12 leans on it. Assumes nothing.
use Rattle.std.specs.Prelude.{◌≡◌, refl, ◌<◌, ◌<ℤ◌, ◌+◌, ◌*◌, ◌/◌, ◌%◌}
use Rattle.std.proofs.Common.{sym, ◌∙◌, ap, subst, subst₂, arith, eqb-true}
use Rattle.std.proofs.lemmas.Bool.{eqb-false}
use Rattle.seq.specs.Seq.{Bool, true, false, cond, not, ℕ, length, pos}
use Rattle.paper.specs.Plane.{Pt, Vec, Seg, opposite, cross, rises, before, same, lower, upper, the_left_by}
use Rattle.paper.specs.Graph.{Graph, edge_count, the_half_count, point, edge, even, twin, origin, start, low, high, goes_up, upward, heading}
use Rattle.paper.specs.Map.{Map}
use Rattle.laws_plane.specs.Angles.{SameWay}
use Rattle.laws_graph.specs.Halves.{even_double, odd_double, half_first, half-second, half_below, twin_first, twin-second, twin_below, twin-half, even-twin, first_below, second_below}
use Rattle.laws_graph.specs.Plane.{Plane}
use Rattle.laws_graph.specs.Nearest.{Clear}
use Rattle.laws_map.specs.Keeps.{seg, edges}
use Rattle.laws_labels.specs.Pot.{Jumps}
use Rattle.laws_labels.specs.Spans.{span}
use Rattle.laws_labels.specs.Cuts.{Leaves}
use Rattle.laws_labels.specs.Covers.{spans, PieceAt, Covers}
use Rattle.laws_labels.specs.Clear.{Within}
use Rattle.laws_labels.specs.Clear as Cl

-- edge k and vertex v of s are edge `Edge-of k` and vertex `vertex_of_lem v` of g
pub record Part (g s : Graph) (Edge-of vertex_of_lem : ℕ → ℕ) : Type 0 where
  pub edge_below : (k : ℕ) → k < edge_count s → Edge-of k < edge_count g
  pub edge-once : (j k : ℕ) → j < edge_count s → k < edge_count s → Edge-of j ≡ Edge-of k → j ≡ k
  pub vertex_below : (v : ℕ) → v < length s.points → vertex_of_lem v < length g.points
  pub vertex-once : (u v : ℕ) → u < length s.points → v < length s.points → vertex_of_lem u ≡ vertex_of_lem v → u ≡ v
  pub point_is : (v : ℕ) → v < length s.points → point s v ≡ point g (vertex_of_lem v)
  -- an edge has its ends and its carrier
  pub from_below : (k : ℕ) → k < edge_count s → (edge s k).from < length s.points
  pub to_below : (k : ℕ) → k < edge_count s → (edge s k).to < length s.points
  pub from_is : (k : ℕ) → k < edge_count s → vertex_of_lem (edge s k).from ≡ (edge g (Edge-of k)).from
  pub to_is : (k : ℕ) → k < edge_count s → vertex_of_lem (edge s k).to ≡ (edge g (Edge-of k)).to
  pub carrier_is : (k : ℕ) → k < edge_count s → (edge s k).carrier ≡ (edge g (Edge-of k)).carrier

-- half-edge h of an edge, as the same of edge e
abbrev pub half_as : ℕ → ℕ → ℕ
half_as e h = cond (even h) (2 * e) (2 * e + 1)

module _ (e h : ℕ) where
  as_even_by : (c : Bool) → even (cond c (2 * e) (2 * e + 1)) ≡ c
  as_even_by true = even_double e
  as_even_by false = odd_double e

  pub as_even : even (half_as e h) ≡ even h
  as_even = as_even_by (even h)

  as_half_by : (c : Bool) → cond c (2 * e) (2 * e + 1) / 2 ≡ e
  as_half_by true = half_first e
  as_half_by false = half-second e

  pub as_half : half_as e h / 2 ≡ e
  as_half = as_half_by (even h)

  as_twin_by : (c : Bool) → cond (not c) (2 * e) (2 * e + 1) ≡ twin (cond c (2 * e) (2 * e + 1))
  as_twin_by true = sym (twin_first e)
  as_twin_by false = sym (twin-second e)

  pub as_twin : half_as e (twin h) ≡ twin (half_as e h)
  as_twin = ap (λ (c : Bool). cond c (2 * e) (2 * e + 1)) (even-twin h) ∙ as_twin_by (even h)

  as_below_by : (n : ℕ) (c : Bool) → e < n → cond c (2 * e) (2 * e + 1) < 2 * n
  as_below_by n true l = omega arith
  as_below_by n false l = omega arith

  pub as_below : (n : ℕ) → e < n → half_as e h < 2 * n
  as_below n l = as_below_by n (even h) l

-- a half-edge is determined by its edge and its kind
as_once : (h r : ℕ) → h / 2 ≡ r / 2 → even h ≡ even r → h ≡ r
as_once h r e f = go (even h) refl
  where
    go : (c : Bool) → even h ≡ c → h ≡ r
    go true t = omega (arith, eqb-true (h % 2) 0 t, eqb-true (r % 2) 0 (sym f ∙ t))
    go false t = omega (arith, eqb-false (h % 2) 0 t, eqb-false (r % 2) 0 (sym f ∙ t))

module _ (g s : Graph) (Edge-of vertex_of_lem : ℕ → ℕ) (S : Part g s Edge-of vertex_of_lem) where
  -- the half-edge of g that half-edge h of s is
  abbrev pub old : ℕ → ℕ
  old h = half_as (Edge-of (h / 2)) h

  -- ── half-edges ──

  module _ (h : ℕ) (l : h < the_half_count s) where
    abbrev k : ℕ
    k = h / 2

    lk : k < edge_count s
    lk = half_below s h l

    pub old_below : old h < the_half_count g
    old_below = as_below (Edge-of k) h (edge_count g) (S.edge_below k lk)

    starts_by : (c : Bool) → cond c (edge s k).from (edge s k).to < length s.points
    starts_by true = S.from_below k lk
    starts_by false = S.to_below k lk

    pub starts_in_lem : origin s h < length s.points
    starts_in_lem = starts_by (even h)

    origin_by : (c : Bool) → vertex_of_lem (cond c (edge s k).from (edge s k).to) ≡ cond c (edge g (Edge-of k)).from (edge g (Edge-of k)).to
    origin_by true = S.from_is k lk
    origin_by false = S.to_is k lk

    pub origin_old : vertex_of_lem (origin s h) ≡ origin g (old h)
    origin_old =
        origin_by (even h)
        ∙ sym (λ i. cond (as_even (Edge-of k) h i) (edge g (as_half (Edge-of k) h i)).from (edge g (as_half (Edge-of k) h i)).to)

    pub start_old : start s h ≡ start g (old h)
    start_old = S.point_is (origin s h) starts_in_lem ∙ ap (point g) origin_old

    pub twin_old : old (twin h) ≡ twin (old h)
    twin_old = ap (λ (e : ℕ). half_as (Edge-of e) (twin h)) (twin-half h) ∙ as_twin (Edge-of k) h

    pub upward_old : upward s k ≡ upward g (old h / 2)
    upward_old = ap (λ (c : Seg). c.up) (S.carrier_is k lk) ∙ ap (upward g) (sym (as_half (Edge-of k) h))

  module _ (h : ℕ) (l : h < the_half_count s) where
    pub end_old : start s (twin h) ≡ start g (twin (old h))
    end_old = start_old (twin h) (twin_below s h l) ∙ ap (start g) (twin_old h l)

    pub up_old : goes_up s h ≡ goes_up g (old h)
    up_old = λ i. before (start_old h l i) (end_old i)

    pub heading_old : heading s h ≡ heading g (old h)
    heading_old = λ i. cond (up_old i) (upward_old h l i) (opposite (upward_old h l i))

  -- ── edges ──

  module _ (k : ℕ) (l : k < edge_count s) where
    old_first : old (2 * k) ≡ 2 * Edge-of k
    old_first = λ i. cond (even_double k i) (2 * Edge-of (half_first k i)) (2 * Edge-of (half_first k i) + 1)

    old_second : old (2 * k + 1) ≡ 2 * Edge-of k + 1
    old_second = λ i. cond (odd_double k i) (2 * Edge-of (half-second k i)) (2 * Edge-of (half-second k i) + 1)

    first_old : start s (2 * k) ≡ start g (2 * Edge-of k)
    first_old = start_old (2 * k) (first_below k s l) ∙ ap (start g) old_first

    second_old : start s (2 * k + 1) ≡ start g (2 * Edge-of k + 1)
    second_old = start_old (2 * k + 1) (second_below k s l) ∙ ap (start g) old_second

    pub low_old : low s k ≡ low g (Edge-of k)
    low_old = λ i. lower (first_old i) (second_old i)

    pub high_old : high s k ≡ high g (Edge-of k)
    high_old = λ i. upper (first_old i) (second_old i)

    pub along_old : upward s k ≡ upward g (Edge-of k)
    along_old = ap (λ (c : Seg). c.up) (S.carrier_is k l)

  -- ── it is plane ──

  pub part-plane : Plane g → Plane s
  part-plane P = record {
    real = λ v l. subst (λ (p : Pt). pos 0 <ℤ p.D) (sym (S.point_is v l)) (P.real (vertex_of_lem v) (S.vertex_below v l));
    distinct = λ u v lu lv e. S.vertex-once u v lu lv (P.distinct (vertex_of_lem u) (vertex_of_lem v) (S.vertex_below u lu) (S.vertex_below v lv)
        (sym (λ i. same (S.point_is u lu i) (S.point_is v lv i)) ∙ e));
    starts = starts_in_lem;
    moves = λ h l e. P.moves (old h) (old_below h l) (sym (origin_old h l) ∙ ap vertex_of_lem e ∙ origin_old (twin h) (twin_below s h l) ∙ ap (origin g) (twin_old h l));
    rising = λ k l. ap rises (along_old k l) ∙ P.rising (Edge-of k) (S.edge_below k l);
    on_line = λ h l.
        (λ i. the_left_by ((S.carrier_is (h / 2) (half_below s h l) ∙ ap (λ (e : ℕ). (edge g e).carrier) (sym (as_half (Edge-of (h / 2)) h))) i) (start_old h l i)) ∙ P.on_line (old h) (old_below h l);
    apart = λ h r l j o w.
        let e = P.apart (old h) (old r) (old_below h l) (old_below r j) (sym (origin_old h l) ∙ ap vertex_of_lem o ∙ origin_old r j) (subst₂ SameWay (heading_old h l) (heading_old r j) w) in
        as_once h r
        (S.edge-once (h / 2) (r / 2) (half_below s h l) (half_below s r j) (sym (as_half (Edge-of (h / 2)) h) ∙ ap (λ (x : ℕ). x / 2) e ∙ as_half (Edge-of (r / 2)) r))
        (sym (as_even (Edge-of (h / 2)) h) ∙ ap even e ∙ as_even (Edge-of (r / 2)) r);
  }

  -- ── no two edges share a stretch ──

  pub part-clear : Clear g → Clear s
  part-clear C k r lk lr c o a b =
      S.edge-once k r lk lr (C (Edge-of k) (Edge-of r) (S.edge_below k lk) (S.edge_below r lr)
      (subst₂ (λ (u v : Vec). cross u v ≡ pos 0) (along_old k lk) (along_old r lr) c)
      (subst₂ (λ (t : Seg) (p : Pt). the_left_by t p ≡ pos 0) (S.carrier_is k lk) (low_old r lr) o)
      (subst₂ (λ (p q : Pt). before p q ≡ true) (low_old k lk) (high_old r lr) a)
      (subst₂ (λ (p q : Pt). before p q ≡ true) (low_old r lr) (high_old k lk) b))

  -- ── it covers a map ──

  module _ (m : Map) where
    -- a piece of g that is edge k of s
    piece_old : (e : Seg) (q : Pt) (b : Bool) (r : PieceAt g e q b) (k : ℕ) → k < edge_count s → Edge-of k ≡ r.piece → PieceAt s e q b
    piece_old e q b r k l o = record {
      piece = k;
      below = l;
      parallel = (λ i. cross ((along_old k l ∙ ap (upward g) o) i) e.up) ∙ r.parallel;
      on = (λ i. the_left_by ((S.carrier_is k l ∙ ap (λ (x : ℕ). (edge g x).carrier) o) i) q) ∙ r.on;
      reaches = (λ i. spans b q ((low_old k l ∙ ap (low g) o) i) ((high_old k l ∙ ap (high g) o) i)) ∙ r.reaches;
    }

    -- where an edge on which the labels jump leaves a point, a piece of g that s has does
    abbrev pub HasJumps : Type 0
    HasJumps = (j : ℕ) → j < edges m → Jumps m j → (q : Pt) → pos 0 <ℤ q.D → (b : Bool) → Leaves q b (span m j) → (r : PieceAt g (seg m j) q b) × (k : ℕ) × (k < edge_count s) × (Edge-of k ≡ r.piece)

    pub part-covers : Covers g m → HasJumps → Covers s m
    part-covers C H = record {
      plane = part-plane C.plane;
      within = λ k l. subst (λ (c : Seg). Within c (low s k) (high s k)) (sym (S.carrier_is k l))
          (subst₂ (Within (edge g (Edge-of k)).carrier) (sym (low_old k l)) (sym (high_old k l)) (C.within (Edge-of k) (S.edge_below k l)));
      no_inside = λ z k lz l o a b. C.no_inside (vertex_of_lem z) (Edge-of k) (S.vertex_below z lz) (S.edge_below k l)
          (sym (λ i. the_left_by (S.carrier_is k l i) (S.point_is z lz i)) ∙ o) (sym (λ i. before (low_old k l i) (S.point_is z lz i)) ∙ a) (sym (λ i. before (S.point_is z lz i) (high_old k l i)) ∙ b);
      clear = λ k j l lj. subst (λ (c : Seg). Cl.Clear c (low s k) (high s k) (span m j)) (sym (S.carrier_is k l))
          (subst₂ (λ (x y : Pt). Cl.Clear (edge g (Edge-of k)).carrier x y (span m j)) (sym (low_old k l)) (sym (high_old k l)) (C.clear (Edge-of k) j (S.edge_below k l) lj));
      piece_at_lem = λ j lj w q hq b o. let (r, k, l, e) = H j lj w q hq b o in piece_old (seg m j) q b r k l e;
    }
