-- `exact::terms::lowest` meets its contract. What the calls give is the greatest common divisor of |x|, |y| and d; where it is 1 the point stays as it is. It is positive, and at most d,
-- so that it fits; the quotients have the range of what is divided. Assumes nothing.
use mathlib.Core.Path.{◌≡◌, sym, ap, ◌∙◌, subst}
use Prim.Native.Nat.{ℕ, ◌<◌, ◌≤◌, ◌^◌}
use native.Mathlib.Nat.{le_of_dvd}
use native.Mathlib.Omega.{arith}
use lib.IntN.{ℤ, pos, negsuc, nat_abs}
use lib.Signed.{quot_z, ◌<ℤ◌}
use mir.Syntax.{w64}
use mir.Val.{SFits, to_z, of_z}
use mir.ValLaws.{to_z-of_z, to_z_pos}
use Rattle.exact.specs.Gcd.{gcd_of, gcd3, gcd3_d, gcd3-pos}
use Rattle.exact.specs.Lowest.{pt, lowest, lowest-coprime, abs-pos}
use Rattle.exact.specs.Odd.{gcd3-turned, gcd_one}
use Rattle.exact.specs.Range.{quot_range}
use Rattle.exact.proofs.terms.lowest.Goals as goal
use Rattle.exact.proofs.terms.lowest.Goals.{Start, After-gcd-c, After-gcd-n, Else-n-eq1}

-- a quotient on the machine, by a number n that is g
module _ (n g : ℕ) (e : n ≡ g) (l : g < 2 ^ 63) where
  divisor-is : to_z w64 n ≡ pos g
  divisor-is = ap (to_z w64) e ∙ to_z_pos w64 g l

  quot_is : (x : ℤ) → SFits w64 x → quot_z (to_z w64 (of_z w64 x)) (to_z w64 n) ≡ quot_z x (pos g)
  quot_is x f = λ i. quot_z (to_z-of_z w64 x f i) (divisor-is i)

  quot_fits : (x : ℤ) → SFits w64 x → SFits w64 (quot_z (to_z w64 (of_z w64 x)) (to_z w64 n))
  quot_fits x f = subst (SFits w64) (sym (quot_is x f)) (quot_range w64 x g f)

  quot-back : (x : ℤ) → SFits w64 x → to_z w64 (of_z w64 (quot_z (to_z w64 (of_z w64 x)) (to_z w64 n))) ≡ quot_z x (pos g)
  quot-back x f = ap (λ (z : ℤ). to_z w64 (of_z w64 z)) (quot_is x f) ∙ to_z-of_z w64 (quot_z x (pos g)) (quot_range w64 x g f)

-- the divisor fits
divisor-fits : (x y d : ℤ) → pos 0 <ℤ d → SFits w64 d → gcd3 (nat_abs x) (nat_abs y) (nat_abs d) < 2 ^ 63
divisor-fits x y d h f = go d h f (le_of_dvd (abs-pos d h) (gcd3_d (nat_abs x) (nat_abs y) (nat_abs d)))
  where
    go : (d : ℤ) {g : ℕ} → pos 0 <ℤ d → SFits w64 d → g ≤ nat_abs d → g < 2 ^ 63
    go (pos n) h f l = omega (arith, f.sfits)
    go (negsuc n) h f l = absurd h.lt

abbrev start : After-gcd-c → Start
start c = c.before.before.before

-- what the first calls give
first : (c : After-gcd-c) → c.gcd-c.result ≡ gcd_of (nat_abs (start c).args.x) (nat_abs (start c).args.d)
first c =
    let s = start c in
    let mx = c.before.before.unsigned_abs.ensures.value ∙ ap nat_abs (to_z-of_z w64 s.args.x s.ranges.x) in
    let md = c.before.unsigned_abs-2.ensures.value ∙ ap nat_abs (to_z-of_z w64 s.args.d s.ranges.d) in
    c.gcd-c.ensures ∙ (λ i. gcd_of (mx i) (md i))

-- a point that is not changed
unchanged : (s : Start) → gcd3 (nat_abs s.args.x) (nat_abs s.args.y) (nat_abs s.args.d) ≡ 1
    → pt (to_z w64 (of_z w64 s.args.x)) (to_z w64 (of_z w64 s.args.y)) (to_z w64 (of_z w64 s.args.d)) ≡ lowest s.args.x s.args.y s.args.d
unchanged s e =
    (λ i. pt (to_z-of_z w64 s.args.x s.ranges.x i) (to_z-of_z w64 s.args.y s.ranges.y i) (to_z-of_z w64 s.args.d s.ranges.d i))
    ∙ sym (lowest-coprime s.args.x s.args.y s.args.d e)

pub returns-then-c-eq1 : goal.returns-then-c-eq1
returns-then-c-eq1 c =
    let s = start c.before in
    unchanged s (sym (gcd3-turned (nat_abs s.args.x) (nat_abs s.args.y) (nat_abs s.args.d)) ∙ ap (gcd_of (nat_abs s.args.y)) (sym (first c.before) ∙ c.if-c-eq1.true) ∙ gcd_one (nat_abs s.args.y))

abbrev begin : After-gcd-n → Start
begin c = start c.before.before.before

abbrev divisor : After-gcd-n → ℕ
divisor c = gcd3 (nat_abs (begin c).args.x) (nat_abs (begin c).args.y) (nat_abs (begin c).args.d)

-- what all calls give
calls : (c : After-gcd-n) → c.gcd-n.result ≡ divisor c
calls c =
    let s = begin c in
    let my = c.before.unsigned_abs-3.ensures.value ∙ ap nat_abs (to_z-of_z w64 s.args.y s.ranges.y) in
    c.gcd-n.ensures ∙ (λ i. gcd_of (my i) (first c.before.before.before i)) ∙ gcd3-turned (nat_abs s.args.x) (nat_abs s.args.y) (nat_abs s.args.d)

small : (c : After-gcd-n) → divisor c < 2 ^ 63
small c = divisor-fits (begin c).args.x (begin c).args.y (begin c).args.d (begin c).requires (begin c).ranges.d

positive : (c : After-gcd-n) → 0 < divisor c
positive c = gcd3-pos (nat_abs (begin c).args.x) (nat_abs (begin c).args.y) (nat_abs (begin c).args.d) (abs-pos (begin c).args.d (begin c).requires)

pub returns-then-n-eq1 : goal.returns-then-n-eq1
returns-then-n-eq1 c = unchanged (begin c.before) (sym (calls c.before) ∙ c.if-n-eq1.true)

pub overflow_cast-g : goal.overflow_cast-g
overflow_cast-g c = record { sfits = subst (λ (n : ℕ). n < 2 ^ 63) (sym (calls c.before)) (small c.before) }

quotient : (c : Else-n-eq1) (x : ℤ) → SFits w64 x → (0 < c.gcd-n.result) × SFits w64 (quot_z (to_z w64 (of_z w64 x)) (to_z w64 c.gcd-n.result))
quotient c x f =
    (subst (λ (n : ℕ). 0 < n) (sym (calls c.before)) (positive c.before), quot_fits c.gcd-n.result (divisor c.before) (calls c.before) (small c.before) x f)

pub nonzero_div-result : goal.nonzero_div-result
nonzero_div-result c = quotient c c.args.x c.ranges.x

pub nonzero_div-result-2 : goal.nonzero_div-result-2
nonzero_div-result-2 c = quotient c c.args.y c.ranges.y

pub nonzero_div-result-3 : goal.nonzero_div-result-3
nonzero_div-result-3 c = quotient c c.args.d c.ranges.d

pub returns : goal.returns
returns c =
    let s = begin c.before in
    let back = quot-back c.gcd-n.result (divisor c.before) (calls c.before) (small c.before) in
    λ i. pt (back s.args.x s.ranges.x i) (back s.args.y s.ranges.y i) (back s.args.d s.ranges.d i)
