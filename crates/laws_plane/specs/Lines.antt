-- The line of an edge s that goes up. `Part s n d p`: p is foot + (n/d)·up. In order: a point on the line is such a point, and such a point on the line (`line-part`, `part-line`); points
-- stand along the edge in point order (`part_before`, `before_part`), so that a point is on the edge exactly where 0 ≤ n ≤ d, and inside it where 0 < n < d; two edges on one
-- line; two lines that are not parallel have one point in common at most. Assumes nothing.
use Rattle.std.specs.Prelude.{◌≡◌, refl, true, [], ◌∷◌, ℤ, pos, neg_ℤ, ◌+ℤ◌, ◌-ℤ◌, ◌*ℤ◌, ◌≤ℤ◌, ◌<ℤ◌}
use Rattle.std.proofs.Common.{sym, ap, subst, subst₂, ⊎_elim, arith}
use Rattle.std.proofs.Math.IntN.{*ℤ_comm, zero-*ℤ}
use Rattle.exact.specs.Solve.{ring, reify}
use Rattle.exact.specs.Order.{zomega, sq, Tri, lt, eq, gt, tri, <→≤, ≤-of-≡, ≤→≯, ≤-or-<, 0<-*, 0≤-*, <→0<, 0<→<}
use Rattle.exact.specs.Mul.{≡-by₁, ≡-by₂, 0<-+, 0<-cancel, zero-cancel}
use Rattle.exact.specs.Sign.{Sign, is_zer}
use Rattle.exact.specs.Lowest.{Pt}
use Rattle.exact.specs.Tests.{clash, not-true}
use Rattle.exact.specs.Ring.{one-*ℤ, *ℤ-1}
use Rattle.paper.specs.Plane.{Vec, Seg, cross, head, whole, dir, before, same, towards, the_left_by}
use Rattle.laws_plane.specs.Cone.{above, level, Way, up, nil, down, which, up_by, up_0, up-*, up_factor, up_cancel, UpV, NonZero, up_nonzero}
use Rattle.laws_plane.specs.Points.{before_up, up_before}
use Rattle.laws_plane.specs.Ends.{0<1}
use Rattle.laws_plane.specs.Angles.{cross-swap_0, parallel-trans}
use Rattle.laws_plane.specs.Sides.{chord, chord_left}
use Rattle.laws_plane.specs.Edges.{On, Inside}

-- ── a part of the way ──

pub record Part (s : Seg) (n d : ℤ) (p : Pt) : Type 0 where
  pub at_x : p.X *ℤ d ≡ (s.foot.x *ℤ d +ℤ n *ℤ s.up.x) *ℤ p.D
  pub at_y : p.Y *ℤ d ≡ (s.foot.y *ℤ d +ℤ n *ℤ s.up.y) *ℤ p.D

pub part-foot : (s : Seg) → Part s (pos 0) (pos 1) (whole s.foot)
part-foot s = record { at_x = go s.foot.x s.up.x; at_y = go s.foot.y s.up.y }
  where
    go : (f u : ℤ) → f *ℤ pos 1 ≡ (f *ℤ pos 1 +ℤ pos 0 *ℤ u) *ℤ pos 1
    go f u = ring (f ∷ u ∷ []) (search reify depth 20) tt

pub part-head : (s : Seg) → Part s (pos 1) (pos 1) (whole (head s))
part-head s = record { at_x = go s.foot.x s.up.x; at_y = go s.foot.y s.up.y }
  where
    go : (f u : ℤ) → (f +ℤ u) *ℤ pos 1 ≡ (f *ℤ pos 1 +ℤ pos 1 *ℤ u) *ℤ pos 1
    go f u = ring (f ∷ u ∷ []) (search reify depth 20) tt

-- it is on the line
pub part-line : (s : Seg) (n d : ℤ) (p : Pt) → pos 0 <ℤ d → Part s n d p → the_left_by s p ≡ pos 0
part-line s n d p h a =
    zero-cancel d (the_left_by s p) h (≡-by₂ a.at_y s.up.x a.at_x (neg_ℤ s.up.y) (ring (s.foot.x ∷ s.foot.y ∷ s.up.x ∷ s.up.y ∷ n ∷ d ∷ p.X ∷ p.Y ∷ p.D ∷ []) (search reify depth 20) tt))

-- ── every point of the line is one ──

abbrev pub dot : Vec → Vec → ℤ
dot u v = u.x *ℤ v.x +ℤ u.y *ℤ v.y

square : (a : ℤ) → pos 0 ≤ℤ (a *ℤ a)
square a = go (tri (pos 0) a)
  where
    go : Tri (pos 0) a → pos 0 ≤ℤ (a *ℤ a)
    go (lt h) = 0≤-* (<→≤ h) (<→≤ h)
    go (eq e) = 0≤-* (≤-of-≡ e) (≤-of-≡ e)
    go (gt h) = subst (λ (z : ℤ). pos 0 ≤ℤ z) (ring (a ∷ []) (search reify depth 20) tt) (0≤-* (flip h) (flip h))
      where
        flip : a <ℤ pos 0 → pos 0 ≤ℤ neg_ℤ a
        flip = zomega (a ∷ []) (search sq depth 20) (omega arith)

dot-pos : (u : Vec) → UpV u → pos 0 <ℤ dot u u
dot-pos u (above h) = go u.x u.y (square u.x) (0<-* h h)
  where
    go : (a b : ℤ) → pos 0 ≤ℤ (a *ℤ a) → pos 0 <ℤ (b *ℤ b) → pos 0 <ℤ (a *ℤ a +ℤ b *ℤ b)
    go a b = zomega (a ∷ b ∷ []) (search sq depth 20) (omega arith)
dot-pos u (level e h) = 0<-+ (0<-* h h) (square u.y)

module _ (s : Seg) (p : Pt) where
  -- the part of the way at which p stands: n over d
  abbrev pub numer : ℤ
  numer = dot s.up (towards s.foot p)

  abbrev pub denom : ℤ
  denom = dot s.up s.up *ℤ p.D

  pub denom-pos : UpV s.up → pos 0 <ℤ p.D → pos 0 <ℤ denom
  denom-pos u h = 0<-* (dot-pos s.up u) h

  pub line-part : the_left_by s p ≡ pos 0 → Part s numer denom p
  line-part e = record {
    at_x = ≡-by₁ e (neg_ℤ (s.up.y *ℤ p.D)) (ring (s.foot.x ∷ s.foot.y ∷ s.up.x ∷ s.up.y ∷ p.X ∷ p.Y ∷ p.D ∷ []) (search reify depth 20) tt);
    at_y = ≡-by₁ e (s.up.x *ℤ p.D) (ring (s.foot.x ∷ s.foot.y ∷ s.up.x ∷ s.up.y ∷ p.X ∷ p.Y ∷ p.D ∷ []) (search reify depth 20) tt);
  }

-- ── points stand along the edge in point order ──

-- d·e·(the way from p to q) = (m·d - n·e)·(the product of the denominators)·u, of one coordinate
way-along : (f u n d m e x c y k : ℤ) → x *ℤ d ≡ (f *ℤ d +ℤ n *ℤ u) *ℤ c → y *ℤ e ≡ (f *ℤ e +ℤ m *ℤ u) *ℤ k → (d *ℤ e) *ℤ (y *ℤ c -ℤ x *ℤ k) ≡ ((m *ℤ d -ℤ n *ℤ e) *ℤ (c *ℤ k)) *ℤ u
way-along f u n d m e x c y k p q = ≡-by₂ q (d *ℤ c) p (neg_ℤ (e *ℤ k)) (ring (f ∷ u ∷ n ∷ d ∷ m ∷ e ∷ x ∷ c ∷ y ∷ k ∷ []) (search reify depth 20) tt)

module _ (s : Seg) (u : UpV s.up) (p q : Pt) (hp : pos 0 <ℤ p.D) (hq : pos 0 <ℤ q.D) (n d m e : ℤ) (hd : pos 0 <ℤ d) (he : pos 0 <ℤ e) (a : Part s n d p) (b : Part s m e q) where
  way_x : (d *ℤ e) *ℤ (dir p q).x ≡ ((m *ℤ d -ℤ n *ℤ e) *ℤ (p.D *ℤ q.D)) *ℤ s.up.x
  way_x = way-along s.foot.x s.up.x n d m e p.X p.D q.X q.D a.at_x b.at_x

  way_y : (d *ℤ e) *ℤ (dir p q).y ≡ ((m *ℤ d -ℤ n *ℤ e) *ℤ (p.D *ℤ q.D)) *ℤ s.up.y
  way_y = way-along s.foot.y s.up.y n d m e p.Y p.D q.Y q.D a.at_y b.at_y

  -- n/d < m/e
  pub part_before : (n *ℤ e) <ℤ (m *ℤ d) → before p q ≡ true
  part_before l =
      up_before p q (up_cancel (d *ℤ e) (dir p q).x (dir p q).y (0<-* hd he)
      (up_by (sym way_x) (sym way_y) (up-* (0<-* (<→0< {a = n *ℤ e} {b = m *ℤ d} l) (0<-* hp hq)) u)))

  pub before_part : before p q ≡ true → (n *ℤ e) <ℤ (m *ℤ d)
  before_part f =
      0<→< (n *ℤ e) (m *ℤ d) (0<-cancel (p.D *ℤ q.D) (m *ℤ d -ℤ n *ℤ e) (0<-* hp hq)
      (subst (λ (z : ℤ). pos 0 <ℤ z) (*ℤ_comm (m *ℤ d -ℤ n *ℤ e) (p.D *ℤ q.D))
      (up_factor ((m *ℤ d -ℤ n *ℤ e) *ℤ (p.D *ℤ q.D)) u (up_by way_x way_y (up-* (0<-* hd he) (before_up p q f))))))

-- ── on the edge exactly from 0 to 1 ──

module _ (s : Seg) (u : UpV s.up) (p : Pt) (hp : pos 0 <ℤ p.D) (n d : ℤ) (hd : pos 0 <ℤ d) (a : Part s n d p) where
  past_foot : before p (whole s.foot) ≡ true → n <ℤ pos 0
  past_foot e = subst₂ ◌<ℤ◌ (*ℤ-1 n) (zero-*ℤ d) (before_part s u p (whole s.foot) hp 0<1 n d (pos 0) (pos 1) hd 0<1 a (part-foot s) e)

  foot_past : n <ℤ pos 0 → before p (whole s.foot) ≡ true
  foot_past l = part_before s u p (whole s.foot) hp 0<1 n d (pos 0) (pos 1) hd 0<1 a (part-foot s) (subst₂ ◌<ℤ◌ (sym (*ℤ-1 n)) (sym (zero-*ℤ d)) l)

  pub foot_before : before (whole s.foot) p ≡ true → pos 0 <ℤ n
  foot_before e = subst₂ ◌<ℤ◌ (zero-*ℤ d) (*ℤ-1 n) (before_part s u (whole s.foot) p 0<1 hp (pos 0) (pos 1) n d 0<1 hd (part-foot s) a e)

  pub before_foot : pos 0 <ℤ n → before (whole s.foot) p ≡ true
  before_foot l = part_before s u (whole s.foot) p 0<1 hp (pos 0) (pos 1) n d 0<1 hd (part-foot s) a (subst₂ ◌<ℤ◌ (sym (zero-*ℤ d)) (sym (*ℤ-1 n)) l)

  past_head : before (whole (head s)) p ≡ true → d <ℤ n
  past_head e = subst₂ ◌<ℤ◌ (one-*ℤ d) (*ℤ-1 n) (before_part s u (whole (head s)) p 0<1 hp (pos 1) (pos 1) n d 0<1 hd (part-head s) a e)

  head_past : d <ℤ n → before (whole (head s)) p ≡ true
  head_past l = part_before s u (whole (head s)) p 0<1 hp (pos 1) (pos 1) n d 0<1 hd (part-head s) a (subst₂ ◌<ℤ◌ (sym (one-*ℤ d)) (sym (*ℤ-1 n)) l)

  pub head_before : before p (whole (head s)) ≡ true → n <ℤ d
  head_before e = subst₂ ◌<ℤ◌ (*ℤ-1 n) (one-*ℤ d) (before_part s u p (whole (head s)) hp 0<1 n d (pos 1) (pos 1) hd 0<1 a (part-head s) e)

  pub before_head : n <ℤ d → before p (whole (head s)) ≡ true
  before_head l = part_before s u p (whole (head s)) hp 0<1 n d (pos 1) (pos 1) hd 0<1 a (part-head s) (subst₂ ◌<ℤ◌ (sym (*ℤ-1 n)) (sym (one-*ℤ d)) l)

  pub part_on : pos 0 ≤ℤ n → n ≤ℤ d → On s p
  part_on l r = record {
    line = part-line s n d p hd a;
    low = not-true (before p (whole s.foot)) (λ e. ≤→≯ l (past_foot e));
    high = not-true (before (whole (head s)) p) (λ e. ≤→≯ r (past_head e));
  }

  pub on_part : On s p → (pos 0 ≤ℤ n) × (n ≤ℤ d)
  on_part o = (
    ⊎_elim (λ l. l) (λ l. absurd (clash (foot_past l) o.low)) (≤-or-< (pos 0) n),
    ⊎_elim (λ l. l) (λ l. absurd (clash (head_past l) o.high)) (≤-or-< n d),
  )

  pub part-inside : pos 0 <ℤ n → n <ℤ d → Inside s p
  part-inside l r = record { line = part-line s n d p hd a; low = before_foot l; high = before_head r }

  pub inside-part : Inside s p → (pos 0 <ℤ n) × (n <ℤ d)
  inside-part o = (foot_before o.low, head_before o.high)

-- ── two edges ──

-- parallel, with a point in common: on one line
pub one_line : (s t : Seg) (v q : Pt) → UpV s.up → pos 0 <ℤ v.D → cross t.up s.up ≡ pos 0 → the_left_by s v ≡ pos 0 → the_left_by t v ≡ pos 0 → the_left_by s q ≡ pos 0 → the_left_by t q ≡ pos 0
one_line s t v q u h par sv tv sq = chord_left t v q h tv (parallel-trans t.up s.up (dir v q) (up_nonzero s.up u) par (chord s v q sv sq))

-- not parallel: one point at most
pub one_point : (s t : Seg) (p q : Pt) → (cross s.up t.up ≡ pos 0 → ⊥) → the_left_by s p ≡ pos 0 → the_left_by t p ≡ pos 0 → the_left_by s q ≡ pos 0 → the_left_by t q ≡ pos 0 → same p q ≡ true
one_point s t p q n sp tp sq tq = go (which (dir q p).x (dir q p).y)
  where
    no : NonZero (dir q p) → ⊥
    no z = n (parallel-trans s.up (dir q p) t.up z (chord s q p sq sp) (cross-swap_0 t.up (dir q p) (chord t q p tq tp)))

    go : {k : Sign} → Way (dir q p).x (dir q p).y k → is_zer k ≡ true
    go (up h) = absurd (no (up_nonzero (dir q p) h))
    go (nil e f) = refl
    go (down h) = absurd (no (λ e f. up_0 (ap neg_ℤ e) (ap neg_ℤ f) h))
