-- Whether an edge of a map is at a point's height, by its own numbers: its ends are corners, whose heights are whole, so that "lower y ≤ y of p < upper y" is asked by two products
-- (`height_of`); where they say that it is not, it is no candidate (`height_off`). Which of its half-edges goes up, by whether the second starts at the carrier's foot (`foot_up`). Then one turn of a
-- loop that takes the best. Assumes nothing.
use Rattle.std.specs.Prelude.{◌≡◌, refl, ◌≤◌, ◌<◌, ◌<ℤ◌, ◌&&◌, ◌+◌, ◌*◌, ◌*ℤ◌}
use Rattle.std.proofs.Common.{sym, ◌∙◌, ap, subst, arith}
use Rattle.std.specs.Int.Signed.{lt_z}
use Rattle.exact.specs.Tests.{lt_t, t_lt, eq_z, eq_t, t_eq, clash}
use Rattle.exact.specs.Ring.{*ℤ-1}
use Rattle.seq.specs.Seq.{Bool, true, false, cond, not, List, ℕ, ℤ}
use Rattle.seq.specs.Tests.{bool-ext}
use Rattle.seq.specs.Pick.{better}
use Rattle.seq.specs.Loops.Picking.{Picking, pick_takes, pick-skips}
use Rattle.paper.specs.Plane.{Pt, Vec, Seg, whole, head, below, before, same, lower, upper}
use Rattle.paper.specs.Graph.{Graph, edge_count, edge, start, low, high, goes_up}
use Rattle.laws_plane.specs.Ends.{below_lt, lt_below, corner_same}
use Rattle.laws_plane.specs.Points.{before_irr, before_asym, neither}
use Rattle.laws_graph.specs.Halves.{twin_first}
use Rattle.plane.specs.Bounds.{Near}
use Rattle.graph.specs.Flat.{Flat, flat_graph, start_at, carrier_at}
use Rattle.graph.specs.Laws.Decode.{flat-edges, flat-carrier, flat_start}
use Rattle.graph.specs.Heading.{the_up_at}
use Rattle.graph.specs.Look.{westward_of, candidate_at, east_at, flat-height}

-- an edge's carrier runs from its lower end to its upper end
pub record Ended (g : Graph) : Type 0 where
  pub foot_is : (k : ℕ) → k < edge_count g → whole (edge g k).carrier.foot ≡ low g k
  pub head_is : (k : ℕ) → k < edge_count g → whole (head (edge g k).carrier) ≡ high g k

-- "lower y ≤ y of p < upper y", of an edge between corners
abbrev pub height_of : Seg → Pt → Bool
height_of s p = cond (lt_z p.Y (s.foot.y *ℤ p.D)) false (lt_z p.Y ((head s).y *ℤ p.D))

-- a corner is higher than p
below_whole : (p : Pt) (a : Vec) → below p (whole a) ≡ lt_z p.Y (a.y *ℤ p.D)
below_whole p a =
    bool-ext (below p (whole a)) (lt_z p.Y (a.y *ℤ p.D))
    (λ e. t_lt {a = p.Y} {b = a.y *ℤ p.D} (subst (λ (z : ℤ). z <ℤ (a.y *ℤ p.D)) (*ℤ-1 p.Y) (below_lt p (whole a) e)))
    (λ e. lt_below p (whole a) (subst (λ (z : ℤ). z <ℤ (a.y *ℤ p.D)) (sym (*ℤ-1 p.Y)) (lt_t {a = p.Y} {b = a.y *ℤ p.D} e)))

off : (a b w : Bool) → cond a false b ≡ false → ((not a && b) && w) ≡ false
off true b w e = refl
off false b w e = rw e

module _ (ps : List ℤ) (os : List ℕ) (cs : List ℤ) (n e : ℕ) (E : Ended (flat_graph ps os cs n e)) (k : ℕ) (l : k < e) where
  within : k < edge_count (flat_graph ps os cs n e)
  within = omega (arith, flat-edges ps os cs n e)

  low_at_lem : low (flat_graph ps os cs n e) k ≡ whole (carrier_at cs k).foot
  low_at_lem = sym (E.foot_is k within) ∙ ap (λ (s : Seg). whole s.foot) (flat-carrier ps os cs n e k l)

  high_at_lem : high (flat_graph ps os cs n e) k ≡ whole (head (carrier_at cs k))
  high_at_lem = sym (E.head_is k within) ∙ ap (λ (s : Seg). whole (head s)) (flat-carrier ps os cs n e k l)

module _ (ps : List ℤ) (os : List ℕ) (cs : List ℤ) (n e : ℕ) (F : Flat ps os cs n e) (E : Ended (flat_graph ps os cs n e)) (p : Pt) (N : Near p) (d : Vec) (k : ℕ) (l : k < e) where
  -- not at that height: no candidate
  pub height_off : height_of (carrier_at cs k) p ≡ false → candidate_at ps os cs p d k ≡ false
  height_off h =
      let s = carrier_at cs k in
      ap (λ (b : Bool). b && westward_of s p d)
      (flat-height ps os cs n e F p N k l ∙ (λ i. not (below p (low_at_lem ps os cs n e E k l i)) && below p (high_at_lem ps os cs n e E k l i)) ∙ (λ i. not (below_whole p s.foot i) && below_whole p (head s) i))
      ∙ off (lt_z p.Y (s.foot.y *ℤ p.D)) (lt_z p.Y ((head s).y *ℤ p.D)) (westward_of s p d) h

-- ── which half-edge goes up ──

-- p has the coordinates of the lower end
abbrev pub foot_of : Seg → Pt → Bool
foot_of s p = cond (eq_z p.X s.foot.x) (eq_z p.Y s.foot.y) false

-- of two corners, the lower a and the higher b
module _ (a b : Pt) (f t : Vec) where
  one_place : b ≡ whole t → b.X ≡ f.x → b.Y ≡ f.y → b ≡ whole f
  one_place h p q = λ i. record { X = p i; Y = q i; D = (h i).D }

  falls : (c : Bool) → before b a ≡ c → cond c b a ≡ whole f → cond c a b ≡ whole t → b.X ≡ f.x → b.Y ≡ f.y → before a b ≡ false
  falls true e l h p q = before_asym b a e
  falls false e l h p q = ap (before a) (one_place h p q ∙ sym l) ∙ before_irr a

  rises : (c : Bool) → before b a ≡ c → cond c b a ≡ whole f → cond c a b ≡ whole t → (b.X ≡ f.x → b.Y ≡ f.y → ⊥) → before a b ≡ true
  rises true e l h n = absurd (n (ap (λ (z : Pt). z.X) l) (ap (λ (z : Pt). z.Y) l))
  rises false e l h n = go (before a b) refl
    where
      go : (d : Bool) → before a b ≡ d → d ≡ true
      go true g = refl
      go false g =
          let w : b ≡ whole f = h ∙ ap whole (sym (corner_same f t ((λ i. same (sym l i) (sym h i)) ∙ neither a b g e))) in
          absurd (n (ap (λ (z : Pt). z.X) w) (ap (λ (z : Pt). z.Y) w))

  foot_by : lower a b ≡ whole f → upper a b ≡ whole t → before a b ≡ not (cond (eq_z b.X f.x) (eq_z b.Y f.y) false)
  foot_by l h = go (eq_z b.X f.x) (eq_z b.Y f.y) refl refl
    where
      go : (u v : Bool) → eq_z b.X f.x ≡ u → eq_z b.Y f.y ≡ v → before a b ≡ not (cond u v false)
      go true true p q = falls (before b a) refl l h (eq_t b.X f.x p) (eq_t b.Y f.y q)
      go true false p q = rises (before b a) refl l h (λ x y. clash (t_eq y) q)
      go false v p q = rises (before b a) refl l h (λ x y. clash (t_eq x) p)

-- half-edge 2k goes up where 2k + 1 does not start at the carrier's foot
pub foot_up : (ps : List ℤ) (os : List ℕ) (cs : List ℤ) (n e : ℕ) → Flat ps os cs n e → Ended (flat_graph ps os cs n e) → (k : ℕ) → k < e → (p : Pt) → p ≡ start_at ps os (2 * k + 1) →
    (s : Seg) → s ≡ carrier_at cs k → goes_up (flat_graph ps os cs n e) (2 * k) ≡ not (foot_of s p)
foot_up ps os cs n e F E k l p i s j =
    let g = flat_graph ps os cs n e in
    let c = carrier_at cs k in
    ap (λ (h : ℕ). before (start g (2 * k)) (start g h)) (twin_first k)
    ∙ foot_by (start g (2 * k)) (start g (2 * k + 1)) c.foot (head c) (low_at_lem ps os cs n e E k l) (high_at_lem ps os cs n e E k l)
    ∙ ap (λ (z : Pt). not (foot_of c z)) (flat_start ps os cs n e F.origins (2 * k + 1) (omega arith) ∙ sym i) ∙ ap (λ (z : Seg). not (foot_of z p)) (sym j)

-- "the half-edge on its east side" is one of the edge's two
east_by : (k : ℕ) (c : Bool) → cond c (2 * k + 1) (2 * k) ≤ 2 * k + 1
east_by k true = omega arith
east_by k false = omega arith

pub east-most : (ps : List ℤ) (os : List ℕ) (k : ℕ) → east_at ps os k ≤ 2 * k + 1
east-most ps os k = east_by k (the_up_at ps os (2 * k))

-- ── one turn of a loop that takes the best ──

pub pick_turns : {p : ℕ → Bool} {b : ℕ → ℕ → Bool} {n r i : ℕ} → Picking p b n r i → (u : ℕ) → i < n → u ≡ cond (p i) (better b n i r) r → Picking p b n u (i + 1)
pick_turns {p} {b} {n} {r} {i} s u l e = go (p i) refl e
  where
    go : (c : Bool) → p i ≡ c → u ≡ cond c (better b n i r) r → Picking p b n u (i + 1)
    go true q f = pick_takes s l q f
    go false q f = pick-skips s l q f
