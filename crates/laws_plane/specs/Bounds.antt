-- How large the numbers of a crossing are. Of edges whose corners' coordinates are at most R: a point on one has |X|, |Y| ≤ R-as-D; a crossing's D is at most the turn of the two
-- directions, and so 2·(2R)·(2R), which at 01's R is `denominators`. Assumes nothing.
use Rattle.exact.specs.Order.{sq}
use Rattle.exact.specs.Linear.{zomega}
use Rattle.std.specs.Prelude.{◌≡◌, ◌&&◌, [], ◌∷◌, ◌⊎◌, ℕ, zero, suc, ◌+◌, ◌*◌, ◌≤◌, ℤ, pos, negsuc, neg_ℤ, nat_abs, ◌+ℤ◌, ◌*ℤ◌, ◌≤ℤ◌, ◌<ℤ◌}
use Rattle.std.proofs.Common.{sym, subst, inl, inr, le_trans, arith}
use Rattle.std.proofs.Math.Option.{some}
use Rattle.exact.specs.Solve.{ring, reify}
use Rattle.exact.specs.Mach.{abs_neg, abs-hi, abs-lo, abs_of, bd-+, bd-*}
use Rattle.exact.specs.Lowest.{Pt, lowest, lowest_d-le}
use Rattle.paper.specs.Limits.{reach, denominators}
use Rattle.paper.specs.Plane.{Vec, Seg, cross, head, between, whole, lower, upper, minus_v, within, cross_at, cross_by, crossing}
use Rattle.laws_plane.specs.Cone.{UpV}
use Rattle.laws_plane.specs.Ends.{0<1, lower-upper}
use Rattle.laws_plane.specs.Edges.{On, between_foot, between_head}
use Rattle.laws_plane.specs.Crossing.{cond_some, crossing-touch}
use Rattle.laws_plane.specs.Extent.{on_west, on_east, on_south, on_north}

-- the corners of an edge have coordinates of at most R
pub record Reaches (R : ℕ) (s : Seg) : Type 0 where
  pub foot_x : nat_abs s.foot.x ≤ R
  pub foot_y : nat_abs s.foot.y ≤ R
  pub head_x : nat_abs (head s).x ≤ R
  pub head_y : nat_abs (head s).y ≤ R

abbrev Near : ℕ → Pt → Type 0
Near R p = (nat_abs p.X ≤ R) × (nat_abs p.Y ≤ R)

-- the edge between two corners
pub between_reaches : (R : ℕ) (a b : Vec) → nat_abs a.x ≤ R → nat_abs a.y ≤ R → nat_abs b.x ≤ R → nat_abs b.y ≤ R → Reaches R (between a b)
between_reaches R a b ax ay bx by =
    let (l, u) = go (lower-upper p q) in
    let f = subst (Near R) (sym (between_foot a b)) l in
    let h = subst (Near R) (sym (between_head a b)) u in
    record { foot_x = f.0; foot_y = f.1; head_x = h.0; head_y = h.1 }
  where
    p : Pt
    p = whole a

    q : Pt
    q = whole b

    go : ((lower p q ≡ p) × (upper p q ≡ q)) ⊎ ((lower p q ≡ q) × (upper p q ≡ p)) → Near R (lower p q) × Near R (upper p q)
    go (inl e) = (subst (Near R) (sym e.0) (ax, ay), subst (Near R) (sym e.1) (bx, by))
    go (inr e) = (subst (Near R) (sym e.0) (bx, by), subst (Near R) (sym e.1) (ax, ay))

-- ── a point on an edge ──

-- as a size
size : (R : ℕ) (x c : ℤ) → pos 0 <ℤ c → (neg_ℤ (pos R) *ℤ c) ≤ℤ x → x ≤ℤ (pos R *ℤ c) → nat_abs x ≤ R * nat_abs c
size R x (pos c) c0 l h = abs_of x (R * c) (turned (pos R) (pos c) x l) h
  where
    turned : (r c x : ℤ) → (neg_ℤ r *ℤ c) ≤ℤ x → neg_ℤ (r *ℤ c) ≤ℤ x
    turned r c x = zomega (r ∷ c ∷ x ∷ []) {A = (neg_ℤ r *ℤ c) ≤ℤ x → neg_ℤ (r *ℤ c) ≤ℤ x} (search sq depth 20) (omega arith)
size R x (negsuc c) c0 l h = absurd c0.lt

module _ (R : ℕ) (s : Seg) (u : UpV s.up) (h : Reaches R s) (p : Pt) (hp : pos 0 <ℤ p.D) (o : On s p) where
  pub on_x_le : nat_abs p.X ≤ R * nat_abs p.D
  on_x_le = size R p.X p.D hp
      (on_east s u p hp o (neg_ℤ (pos R)) (abs-lo s.foot.x R h.foot_x) (abs-lo (head s).x R h.head_x))
      (on_west s u p hp o (pos R) (abs-hi s.foot.x R h.foot_x) (abs-hi (head s).x R h.head_x))

  pub on_y_le : nat_abs p.Y ≤ R * nat_abs p.D
  on_y_le = size R p.Y p.D hp
      (on_north s u p hp o (neg_ℤ (pos R)) (abs-lo s.foot.y R h.foot_y) (abs-lo (head s).y R h.head_y))
      (on_south s u p hp o (pos R) (abs-hi s.foot.y R h.foot_y) (abs-hi (head s).y R h.head_y))

-- ── a crossing ──

twice : (R k : ℕ) → k ≤ R + R → k ≤ 2 * R
twice R k h = omega arith

up_le : (R : ℕ) (f u : ℤ) → nat_abs f ≤ R → nat_abs (f +ℤ u) ≤ R → nat_abs u ≤ 2 * R
up_le R f u hf hh =
    subst (λ (z : ℤ). nat_abs z ≤ 2 * R) (rest f u)
    (twice R (nat_abs ((f +ℤ u) +ℤ neg_ℤ f)) (bd-+ (f +ℤ u) (neg_ℤ f) R R hh (subst (λ (k : ℕ). k ≤ R) (sym (abs_neg f)) hf)))
  where
    rest : (f u : ℤ) → (f +ℤ u) +ℤ neg_ℤ f ≡ u
    rest f u = ring (f ∷ u ∷ []) (search reify depth 20) tt

module _ (R : ℕ) (s t : Seg) (hs : Reaches R s) (ht : Reaches R t) where
  pub turn-le : nat_abs (cross s.up t.up) ≤ 2 * (2 * R * (2 * R))
  turn-le =
      twice (2 * R * (2 * R)) (nat_abs (cross s.up t.up))
      (bd-+ (s.up.x *ℤ t.up.y) (neg_ℤ (s.up.y *ℤ t.up.x)) (2 * R * (2 * R)) (2 * R * (2 * R))
      (bd-* s.up.x t.up.y (2 * R) (2 * R) (up_le R s.foot.x s.up.x hs.foot_x hs.head_x) (up_le R t.foot.y t.up.y ht.foot_y ht.head_y))
      (subst (λ (k : ℕ). k ≤ 2 * R * (2 * R)) (sym (abs_neg (s.up.y *ℤ t.up.x)))
      (bd-* s.up.y t.up.x (2 * R) (2 * R) (up_le R s.foot.y s.up.y hs.foot_y hs.head_y) (up_le R t.foot.x t.up.x ht.foot_x ht.head_x))))

-- its D is at most the turn
pub crossing-turn : (s t : Seg) (p : Pt) → crossing s t ≡ some p → nat_abs p.D ≤ nat_abs (cross s.up t.up)
crossing-turn s t p = by (cross s.up t.up)
  where
    n : ℤ
    n = cross (minus_v t.foot s.foot) t.up

    m : ℤ
    m = cross (minus_v t.foot s.foot) s.up

    at : (n m : ℤ) (k : ℕ) → cross_at s n m (pos (suc k)) ≡ some p → nat_abs p.D ≤ suc k
    at n m k e =
        let X = s.foot.x *ℤ pos (suc k) +ℤ n *ℤ s.up.x in
        let Y = s.foot.y *ℤ pos (suc k) +ℤ n *ℤ s.up.y in
        subst (λ (q : Pt). nat_abs q.D ≤ suc k) (cond_some (within n (pos (suc k)) && within m (pos (suc k))) (lowest X Y (pos (suc k))) p e).1 (lowest_d-le X Y (pos (suc k)))

    by : (z : ℤ) → cross_by s n m z ≡ some p → nat_abs p.D ≤ nat_abs z
    by (pos zero) e = absurd (let z : ◌≡◌ {A = ℕ} 0 1 = cc in omega arith)
    by (pos (suc k)) e = at n m k e
    by (negsuc k) e = at (neg_ℤ n) (neg_ℤ m) k e

-- what is known of the numbers of a crossing of two edges of maps
pub record Bounded (p : Pt) : Type 0 where
  pub positive : pos 0 <ℤ p.D
  pub d_le : nat_abs p.D ≤ denominators
  pub x_le : nat_abs p.X ≤ reach * nat_abs p.D
  pub y_le : nat_abs p.Y ≤ reach * nat_abs p.D

pub crossing-bounded : (s t : Seg) (p : Pt) → UpV s.up → UpV t.up → Reaches reach s → Reaches reach t → crossing s t ≡ some p → Bounded p
crossing-bounded s t p us ut hs ht e =
    let h = crossing-touch s t us ut p e in
    record {
      positive = h.lowest_p.positive;
      d_le = le_trans (crossing-turn s t p e) (turn-le reach s t hs ht);
      x_le = on_x_le reach s us hs p h.lowest_p.positive h.first;
      y_le = on_y_le reach s us hs p h.lowest_p.positive h.first;
    }

pub corner-bounded : (a : Vec) → nat_abs a.x ≤ reach → nat_abs a.y ≤ reach → Bounded (whole a)
corner-bounded a hx hy = record { positive = 0<1; d_le = omega arith; x_le = omega arith; y_le = omega arith }
