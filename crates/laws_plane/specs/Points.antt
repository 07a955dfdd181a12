-- The order of points: `before a b` says that the vector from a to b is in the cone of `Cone`. With positive denominators it is a strict total order
-- of points, and in lowest terms of triples. In order: the test and the cone; the way back; chains of < and ≤, where a ≤ b is `before b a ≡ false`;
-- one point by other numbers (`same`), and lowest terms (`same_point`, `three`).
-- Assumes nothing.
use Rattle.std.specs.Prelude.{◌≡◌, refl, Bool, true, false, [], ◌∷◌, T, ℤ, pos, neg_ℤ, ◌+ℤ◌, ◌-ℤ◌, ◌*ℤ◌, ◌<ℤ◌}
use Rattle.std.proofs.Common.{sym, ◌∙◌, ap, subst, arith}
use Rattle.std.proofs.Math.IntN.{+ℤ_invr}
use Rattle.exact.specs.Solve.{ring, reify, sub-zero→}
use Rattle.exact.specs.Order.{zomega, sq, sub_back}
use Rattle.exact.specs.Sign.{Sign, neg, zer, plus, is_neg, is_zer, is_plus, neg_s, sums, lex_s, lex_neg, lex_scalars}
use Rattle.exact.specs.Lowest.{Pt, Lowest, lowest-unique}
use Rattle.exact.specs.Tests.{clash, never, not-true}
use Rattle.exact.specs.Signs.{zer_is, neg-turned, neg_not_plus, le-lt, lt-le, zer-sum}
use Rattle.paper.specs.Plane.{dir, order, before, same}
use Rattle.laws_plane.specs.Cone.{nil, down, lex_is, lex_down, lex_nil, up_by, UpV}
use Rattle.seq.specs.Terms.{Transitive, Asymmetric}

-- in lowest terms
abbrev pub LowestP : Pt → Type 0
LowestP p = Lowest p

-- ── the test is the cone ──

module _ (a b : Pt) where
  -- the way back is the opposite
  pub back_x : (dir b a).x ≡ neg_ℤ (dir a b).x
  back_x = sub_back (b.X *ℤ a.D) (a.X *ℤ b.D)

  pub back_y : (dir b a).y ≡ neg_ℤ (dir a b).y
  back_y = sub_back (b.Y *ℤ a.D) (a.Y *ℤ b.D)

module _ (a b : Pt) where
  pub before_up : before a b ≡ true → UpV (dir a b)
  before_up e = up_by (sym (back_x b a)) (sym (back_y b a)) (lex_down (dir b a).x (dir b a).y e)

  pub up_before : UpV (dir a b) → before a b ≡ true
  up_before h = ap is_neg (lex_is (dir b a).x (dir b a).y (down (up_by (back_x b a) (back_y b a) h)))

  pub order-swap : order b a ≡ neg_s (order a b)
  order-swap = (λ i. lex_s (back_y b a i) (back_x b a i)) ∙ lex_neg (dir b a).y (dir b a).x

  -- b comes before a exactly if the order of a and b is plus
  pub after : before b a ≡ is_plus (order a b)
  after = ap is_neg order-swap ∙ neg-turned (order a b)

pub order-self : (a : Pt) → order a a ≡ zer
order-self a = lex_is (dir a a).x (dir a a).y (nil (+ℤ_invr (a.X *ℤ a.D)) (+ℤ_invr (a.Y *ℤ a.D)))

pub before_irr : (a : Pt) → before a a ≡ false
before_irr a = ap is_neg (order-self a)

pub before_asym : (a b : Pt) → before a b ≡ true → before b a ≡ false
before_asym a b e = after a b ∙ neg_not_plus (order a b) e

-- ── chains ──

-- e·(x·f - z·d) = f·(x·e - y·d) + d·(y·f - z·e)
pub mid : (x d y e z f : ℤ) → f *ℤ (x *ℤ e -ℤ y *ℤ d) +ℤ d *ℤ (y *ℤ f -ℤ z *ℤ e) ≡ e *ℤ (x *ℤ f -ℤ z *ℤ d)
mid x d y e z f = ring (x ∷ d ∷ y ∷ e ∷ z ∷ f ∷ []) (search reify depth 20) tt

module _ (a b c : Pt) (ha : pos 0 <ℤ a.D) (hb : pos 0 <ℤ b.D) (hc : pos 0 <ℤ c.D) where
  pub order_trans : T (sums (order a b) (order b c) (order a c))
  order_trans =
      lex_scalars c.D a.D b.D (dir b a).y (dir b a).x (dir c b).y (dir c b).x (dir c a).y (dir c a).x hc ha hb
      (mid a.Y a.D b.Y b.D c.Y c.D) (mid a.X a.D b.X b.D c.X c.D)

  -- a ≤ b < c
  pub le_before : before b a ≡ false → before b c ≡ true → before a c ≡ true
  le_before e f = le-lt (order a b) (order b c) (order a c) order_trans (sym (after a b) ∙ e) f

  -- a < b ≤ c
  pub before_le : before a b ≡ true → before c b ≡ false → before a c ≡ true
  before_le e f = lt-le (order a b) (order b c) (order a c) order_trans e (sym (after b c) ∙ f)

  pub before_trans : before a b ≡ true → before b c ≡ true → before a c ≡ true
  before_trans e f = le_before (before_asym a b e) f

  -- a = b: as a stands to c, so does b
  pub order_same : order a b ≡ zer → order b c ≡ order a c
  order_same e = zer-sum (order b c) (order a c) (subst (λ (s : Sign). T (sums s (order b c) (order a c))) e order_trans)

-- a ≤ b ≤ c
pub le_trans : (a b c : Pt) → pos 0 <ℤ a.D → pos 0 <ℤ b.D → pos 0 <ℤ c.D → before b a ≡ false → before c b ≡ false → before c a ≡ false
le_trans a b c ha hb hc e f = not-true (before c a) (λ g. clash (before_le c a b hc ha hb g e) f)

-- as a relation
pub before_asymmetric : Asymmetric before
before_asymmetric a b e f = clash f (before_asym a b e)

pub before_transitive : Transitive before LowestP
before_transitive a b c la lb lc = before_trans a b c la.positive lb.positive lc.positive

-- ── the same point ──

sub_0 : (a b : ℤ) → b ≡ a → b -ℤ a ≡ pos 0
sub_0 a b = zomega (a ∷ b ∷ []) (search sq depth 20) (omega arith)

pub same_self : (a : Pt) → same a a ≡ true
same_self a = ap is_zer (order-self a)

module _ (a b : Pt) where
  -- the same two fractions
  pub same_is : same a b ≡ true → (a.X *ℤ b.D ≡ b.X *ℤ a.D) × (a.Y *ℤ b.D ≡ b.Y *ℤ a.D)
  same_is e = let n = lex_nil (dir b a).x (dir b a).y e in (sub-zero→ (a.X *ℤ b.D) (b.X *ℤ a.D) n.0, sub-zero→ (a.Y *ℤ b.D) (b.Y *ℤ a.D) n.1)

  pub is_same : a.X *ℤ b.D ≡ b.X *ℤ a.D → a.Y *ℤ b.D ≡ b.Y *ℤ a.D → same a b ≡ true
  is_same e f = ap is_zer (lex_is (dir b a).x (dir b a).y (nil (sub_0 (b.X *ℤ a.D) (a.X *ℤ b.D) e) (sub_0 (b.Y *ℤ a.D) (a.Y *ℤ b.D) f)))

  pub same_order : same a b ≡ true → order a b ≡ zer
  same_order e = zer_is (order a b) e

  pub same_sym : same a b ≡ true → same b a ≡ true
  same_sym e = ap is_zer (order-swap a b ∙ ap neg_s (same_order e))

  -- of two points one is before the other or they are the same. No sign of a denominator is used
  pub neither : before a b ≡ false → before b a ≡ false → same a b ≡ true
  neither e f = go (order a b) e (sym (after a b) ∙ f)
    where
      go : (s : Sign) → is_neg s ≡ false → is_plus s ≡ false → is_zer s ≡ true
      go neg e f = never (sym e)
      go zer e f = refl
      go plus e f = never (sym f)

  pub same_neither : same a b ≡ true → before a b ≡ false
  same_neither e = ap is_neg (same_order e)

  -- in lowest terms: the same triple
  pub same_equal : LowestP a → LowestP b → same a b ≡ true → a ≡ b
  same_equal la lb e = let s = same_is e in lowest-unique a b la lb s.0 s.1

  pub same_point : LowestP a → LowestP b → before a b ≡ false → before b a ≡ false → a ≡ b
  same_point la lb e f = same_equal la lb (neither e f)

pub data Three (a b : Pt) : Type 0 where
  less : before a b ≡ true → Three a b
  equal : a ≡ b → Three a b
  more : before b a ≡ true → Three a b

pub three : (a b : Pt) → LowestP a → LowestP b → Three a b
three a b la lb = go (before a b) (before b a) refl refl
  where
    go : (s t : Bool) → before a b ≡ s → before b a ≡ t → Three a b
    go true t e f = less e
    go false true e f = more f
    go false false e f = equal (same_point a b la lb e f)

-- a = b: b comes before c exactly if a does, and c before b exactly if before a
module _ (a b c : Pt) (ha : pos 0 <ℤ a.D) (hb : pos 0 <ℤ b.D) (hc : pos 0 <ℤ c.D) (e : same a b ≡ true) where
  pub same_before : before b c ≡ before a c
  same_before = ap is_neg (order_same a b c ha hb hc (same_order a b e))

  pub before_same : before c b ≡ before c a
  before_same = after b c ∙ ap is_plus (order_same a b c ha hb hc (same_order a b e)) ∙ sym (after a c)
