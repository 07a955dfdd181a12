-- What the contracts cite of an order: the sign that an answer of `cmp` stands for; and that the sign determines the answer (`answer_is`). Then what std's functions answer, by it:
-- `cmp` of two whole numbers the sign of their difference (`cmp_sign`, of 0 `cmp_0`), `then` and `then_with` what `pick` picks (`then_pick`, `then_with_pick`), and the tests of
-- an answer those of its sign (`lt_neg`, `eq_zer`, `gt_plus`). Assumes nothing.
use Rattle.std.specs.Prelude.{◌≡◌, refl, cond, ℤ, pos, ◌-ℤ◌}
use Rattle.std.proofs.Common.{◌∙◌, ap}
use Rattle.std.proofs.Math.IntN.{+ℤ_idr}
use Rattle.std.specs.declared.cmp.Ordering.{Ordering}
use Rattle.std.specs.declared.cmp.Ordering.TheVariants.{Less, Equal, Greater}
use Rattle.std.specs.Ordering.{int_cmp, is_lt, is_eq, is_gt, ordering_then, MatchOrdering}
use Rattle.exact.specs.Exact.{Sign, neg, zer, plus, sgn, is_neg, is_zer, is_plus, pick}
use Rattle.exact.specs.Tests.{lt-sign, gt-sign}

-- the sign that an answer stands for
abbrev pub sign_of : Ordering → Sign
sign_of Less = neg
sign_of Equal = zer
sign_of Greater = plus

-- and the one answer that stands for a sign: so a promise of the sign determines the answer
abbrev pub answer : Sign → Ordering
answer neg = Less
answer zer = Equal
answer plus = Greater

pub answer_is : (r : Ordering) {s : Sign} → sign_of r ≡ s → r ≡ answer s
answer_is r e = back r ∙ ap answer e
  where
    back : (r : Ordering) → r ≡ answer (sign_of r)
    back Less = refl
    back Equal = refl
    back Greater = refl

-- ---- what std's functions answer
pub cmp_sign : (p q : ℤ) → sign_of (int_cmp p q) ≡ sgn (p -ℤ q)
cmp_sign p q = (λ i. sign_of (cond (lt-sign p q i) Less (cond (gt-sign p q i) Greater Equal))) ∙ by_tests (sgn (p -ℤ q))
  where
    by_tests : (s : Sign) → sign_of (cond (is_neg s) Less (cond (is_plus s) Greater Equal)) ≡ s
    by_tests neg = refl
    by_tests zer = refl
    by_tests plus = refl

pub cmp_0 : (p : ℤ) → sign_of (int_cmp p (pos 0)) ≡ sgn p
cmp_0 p = cmp_sign p (pos 0) ∙ ap sgn (+ℤ_idr p)

pub then_pick : (o r : Ordering) → sign_of (ordering_then o r) ≡ pick (sign_of o) (sign_of r)
then_pick Less r = refl
then_pick Equal r = refl
then_pick Greater r = refl

-- of a closure that is called where the first is `Equal`, Q what it ensures
pub then_with_pick : (o r : Ordering) (s : Sign) {Q : Type 0} → MatchOrdering o (r ≡ Less) Q (r ≡ Greater) → (Q → sign_of r ≡ s) → sign_of r ≡ pick (sign_of o) s
then_with_pick Less r s h f = ap sign_of h
then_with_pick Equal r s h f = f h
then_with_pick Greater r s h f = ap sign_of h

pub lt_neg : (o : Ordering) → is_lt o ≡ is_neg (sign_of o)
lt_neg Less = refl
lt_neg Equal = refl
lt_neg Greater = refl

pub eq_zer : (o : Ordering) → is_eq o ≡ is_zer (sign_of o)
eq_zer Less = refl
eq_zer Equal = refl
eq_zer Greater = refl

pub gt_plus : (o : Ordering) → is_gt o ≡ is_plus (sign_of o)
gt_plus Less = refl
gt_plus Equal = refl
gt_plus Greater = refl
