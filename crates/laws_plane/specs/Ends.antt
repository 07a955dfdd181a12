-- Heights, ends and corners. In order: `below`, the order of heights, and how it goes with `before`; the lower and the upper of two points; corners as points
-- (`whole`), which are in lowest terms and stand in the order of the vector between them. Assumes nothing.
use Rattle.std.specs.Prelude.{◌≡◌, refl, Bool, true, false, cond, [], ◌∷◌, ◌⊎◌, T, ℤ, pos, ◌-ℤ◌, ◌*ℤ◌, ◌<ℤ◌}
use Rattle.std.proofs.Common.{sym, ◌∙◌, ap, inl, inr}
use Rattle.exact.specs.Solve.{ring, reify}
use Rattle.exact.specs.Order.{neg_less, less_neg}
use Rattle.exact.specs.Sign.{Sign, neg, zer, plus, sgn, is_neg, is_plus, sums, pick, sgn-sums, sgn-negℤ, sgn-neg}
use Rattle.exact.specs.Lowest.{Pt, whole-lowest}
use Rattle.exact.specs.Tests.{clash, never, not-true}
use Rattle.exact.specs.Signs.{less_is, neg-turned, neg_not_plus, le-lt, lt-le}
use Rattle.paper.specs.Plane.{Vec, minus_v, whole, dir, before, same, below, lower, upper}
use Rattle.laws_plane.specs.Cone.{up_by, UpV}
use Rattle.laws_plane.specs.Points.{LowestP, before_up, up_before, before_irr, before_asym, back_y, mid, same_equal, Three, less, equal, more, three}

-- ── heights ──

module _ (a b : Pt) where
  pub below_lt : below a b ≡ true → (a.Y *ℤ b.D) <ℤ (b.Y *ℤ a.D)
  below_lt e = neg_less (a.Y *ℤ b.D) (b.Y *ℤ a.D) (less_is (dir b a).y e)

  pub lt_below : (a.Y *ℤ b.D) <ℤ (b.Y *ℤ a.D) → below a b ≡ true
  lt_below h = ap is_neg (sgn-neg (less_neg (a.Y *ℤ b.D) (b.Y *ℤ a.D) h))

  -- b is lower than a exactly if the vector from b to a goes up
  pub above_is : below b a ≡ is_plus (sgn (dir b a).y)
  above_is = ap is_neg (ap sgn (back_y b a) ∙ sgn-negℤ (dir b a).y) ∙ neg-turned (sgn (dir b a).y)

  pub below_before : below a b ≡ true → before a b ≡ true
  below_before e = go (sgn (dir b a).y) (sgn (dir b a).x) e
    where
      go : (s t : Sign) → is_neg s ≡ true → is_neg (pick s t) ≡ true
      go neg t e = refl
      go zer t e = never e
      go plus t e = never e

pub below_asym : (a b : Pt) → below a b ≡ true → below b a ≡ false
below_asym a b e = above_is a b ∙ neg_not_plus (sgn (dir b a).y) e

pub below_irr : (a : Pt) → below a a ≡ false
below_irr a = not-true (below a a) (λ e. clash e (below_asym a a e))

pub before_below : (a b : Pt) → before a b ≡ true → below b a ≡ false
before_below a b e = not-true (below b a) (λ f. clash e (before_asym b a (below_before b a f)))

module _ (a b c : Pt) (ha : pos 0 <ℤ a.D) (hb : pos 0 <ℤ b.D) (hc : pos 0 <ℤ c.D) where
  heights : T (sums (sgn (dir b a).y) (sgn (dir c b).y) (sgn (dir c a).y))
  heights = sgn-sums c.D a.D b.D (dir b a).y (dir c b).y (dir c a).y hc ha hb (mid a.Y a.D b.Y b.D c.Y c.D)

  -- a ≤ b < c, by height
  pub level_below : below b a ≡ false → below b c ≡ true → below a c ≡ true
  level_below e f = le-lt (sgn (dir b a).y) (sgn (dir c b).y) (sgn (dir c a).y) heights (sym (above_is a b) ∙ e) f

  -- a < b ≤ c, by height
  pub below_level : below a b ≡ true → below c b ≡ false → below a c ≡ true
  below_level e f = lt-le (sgn (dir b a).y) (sgn (dir c b).y) (sgn (dir c a).y) heights e (sym (above_is b c) ∙ f)

  pub below_trans : below a b ≡ true → below b c ≡ true → below a c ≡ true
  below_trans e f = level_below (below_asym a b e) f

-- ── the lower and the upper of two ──

module _ (a b : Pt) (e : before a b ≡ true) where
  pub lower_is : lower a b ≡ a
  lower_is = rw (before_asym a b e)

  pub upper_is : upper a b ≡ b
  upper_is = rw (before_asym a b e)

  pub lower-flip : lower b a ≡ a
  lower-flip = rw e

  pub upper-flip : upper b a ≡ b
  upper-flip = rw e

module _ (a b : Pt) where
  -- one of the two each, whichever is which
  pub lower-upper : ((lower a b ≡ a) × (upper a b ≡ b)) ⊎ ((lower a b ≡ b) × (upper a b ≡ a))
  lower-upper = go (before b a)
    where
      go : (c : Bool) → ((cond c b a ≡ a) × (cond c a b ≡ b)) ⊎ ((cond c b a ≡ b) × (cond c a b ≡ a))
      go true = inr (refl, refl)
      go false = inl (refl, refl)

  -- neither is before the lower, nor after the upper
  pub lower_first_lem : (before a (lower a b) ≡ false) × (before b (lower a b) ≡ false)
  lower_first_lem = go (before b a) refl
    where
      go : (c : Bool) → before b a ≡ c → (before a (cond c b a) ≡ false) × (before b (cond c b a) ≡ false)
      go true e = (before_asym b a e, before_irr b)
      go false e = (before_irr a, e)

  pub upper_last : (before (upper a b) a ≡ false) × (before (upper a b) b ≡ false)
  upper_last = go (before b a) refl
    where
      go : (c : Bool) → before b a ≡ c → (before (cond c a b) a ≡ false) × (before (cond c a b) b ≡ false)
      go true e = (before_irr a, before_asym b a e)
      go false e = (e, before_irr b)

  pub lower_before : (before a b ≡ true) ⊎ (before b a ≡ true) → before (lower a b) (upper a b) ≡ true
  lower_before (inl e) = rw (before_asym a b e, e)
  lower_before (inr e) = rw (e, e)

  -- which of the two is named first does not matter, in lowest terms
  pub lower-swap : LowestP a → LowestP b → (lower a b ≡ lower b a) × (upper a b ≡ upper b a)
  lower-swap la lb = go (three a b la lb)
    where
      go : Three a b → (lower a b ≡ lower b a) × (upper a b ≡ upper b a)
      go (less e) = (lower_is a b e ∙ sym (lower-flip a b e), upper_is a b e ∙ sym (upper-flip a b e))
      go (equal e) = ((λ i. lower (e i) (sym e i)), λ i. upper (e i) (sym e i))
      go (more e) = (lower-flip b a e ∙ sym (lower_is b a e), upper-flip b a e ∙ sym (upper_is b a e))

-- ── corners ──

pub 0<1 : pos 0 <ℤ pos 1
0<1 = record { lt = tt }

pub corner-lowest : (a : Vec) → LowestP (whole a)
corner-lowest a = whole-lowest a.x a.y

one : (x y : ℤ) → x *ℤ pos 1 -ℤ y *ℤ pos 1 ≡ x -ℤ y
one x y = ring (x ∷ y ∷ []) (search reify depth 20) tt

module _ (a b : Vec) where
  pub corner_up : before (whole a) (whole b) ≡ true → UpV (minus_v b a)
  corner_up e = up_by (one b.x a.x) (one b.y a.y) (before_up (whole a) (whole b) e)

  pub up_corner : UpV (minus_v b a) → before (whole a) (whole b) ≡ true
  up_corner h = up_before (whole a) (whole b) (up_by (sym (one b.x a.x)) (sym (one b.y a.y)) h)

  pub whole-equal : whole a ≡ whole b → a ≡ b
  whole-equal e = λ i. record { x = (e i).X; y = (e i).Y }

  -- two corners that are one point are equal
  pub corner_same : same (whole a) (whole b) ≡ true → a ≡ b
  corner_same e = whole-equal (same_equal (whole a) (whole b) (corner-lowest a) (corner-lowest b) e)
