-- `exact::words::products` meets its contract: each step fits, and what the machine holds are the words of which `by_words` speaks. Assumes nothing.
use mathlib.Core.Path.{◌≡◌, sym, ◌∙◌, ap}
use Prim.Native.Nat.{◌≤◌}
use native.Mathlib.Omega.{arith}
use borrow.Author.Rules.{rules}
use lib.IntN.{ℤ, pos, nat_abs, ◌+ℤ◌, ◌-ℤ◌, ◌*ℤ◌}
use lib.Signed.{quot_z, rem_z, nat_abs-le}
use mir.Syntax.{w64}
use mir.Val.{SFits, to_z, of_z}
use Rattle.exact.specs.Mach.{tr, fits, plain}
use Rattle.exact.specs.Exact.{lex_s}
use Rattle.exact.specs.Range.{quot_read, rem_read}
use Rattle.exact.specs.Words.{base, high_factor, high_any, lower_of, upper_of, by_words}
use Rattle.exact.proofs.words.products.Goals as goal
use Rattle.exact.proofs.words.products.Goals.{Start, After-low, After-low-2, After-high, After-high-2, After-high-3, After-low-3}

abbrev back : ℤ → ℤ
back z = to_z w64 (of_z w64 z)

-- a high word r of a, without the machine's reading
high_is : (r a : ℤ) → SFits w64 a → r ≡ quot_z (back a) (pos base) → r ≡ quot_z a (pos base)
high_is r a f e = e ∙ quot_read w64 a base f

low_is : (r a : ℤ) → SFits w64 a → r ≡ rem_z (back a) (pos base) → r ≡ rem_z a (pos base)
low_is r a f e = e ∙ rem_read w64 a base f

-- how large it is: of a factor, and of any number
tight : (r a : ℤ) → nat_abs a ≤ 4500000000000000000 → SFits w64 a → r ≡ quot_z (back a) (pos base) → nat_abs r ≤ 2095475793
tight r a h f e = omega (arith, ap nat_abs (high_is r a f e), high_factor a h)

loose : (r a : ℤ) → SFits w64 a → r ≡ quot_z (back a) (pos base) → nat_abs r ≤ 4294967296
loose r a f e = omega (arith, ap nat_abs (high_is r a f e), high_any a (nat_abs-le a f.sfits))

first-high : (c : After-high) → nat_abs c.high.result ≤ 2095475793
first-high c = let s : Start = search rules in tight c.high.result s.args.a s.requires.a_is s.ranges.a c.high.ensures

second-high : (c : After-high-2) → nat_abs c.high-2.result ≤ 2095475793
second-high c = let s : Start = search rules in tight c.high-2.result s.args.c s.requires.c_is s.ranges.c c.high-2.ensures

-- what `lower` holds
abbrev lower : After-low-2 → ℤ
lower c =
    let s = c.before.before.args in
    back (back c.before.low.result *ℤ back s.b) -ℤ back (back c.low-2.result *ℤ back s.d)

lower-fits : (c : After-low-2) → SFits w64 (lower c)
lower-fits c = fits (search tr depth 20) tt

third-high : (c : After-high-3) → nat_abs c.high-3.result ≤ 4294967296
third-high c = let l : After-low-2 = search rules in loose c.high-3.result (lower l) (lower-fits l) c.high-3.ensures

pub overflow_mul-upper : goal.overflow_mul-upper
overflow_mul-upper c = let h = first-high c in fits (search tr depth 20) tt

pub overflow_mul-upper-2 : goal.overflow_mul-upper-2
overflow_mul-upper-2 c = let h = second-high c in fits (search tr depth 20) tt

pub overflow_sub-upper : goal.overflow_sub-upper
overflow_sub-upper c = let h = first-high c.before in let g = second-high c in fits (search tr depth 20) tt

pub overflow_add-upper : goal.overflow_add-upper
overflow_add-upper c = let h = first-high c.before.before in let g = second-high c.before in let k = third-high c in fits (search tr depth 20) tt

pub returns : goal.returns
returns c =
    let s : Start = search rules in
    let l1 : After-low = search rules in
    let l2 : After-low-2 = search rules in
    let h1 : After-high = search rules in
    let h2 : After-high-2 = search rules in
    let h3 : After-high-3 = search rules in
    let l3 : After-low-3 = search rules in
    let a = s.args.a in
    let b = s.args.b in
    let e = s.args.c in
    let d = s.args.d in
    let la = low_is l1.low.result a s.ranges.a l1.low.ensures.is in
    let le = low_is l2.low-2.result e s.ranges.c l2.low-2.ensures.is in
    let ha = high_is h1.high.result a s.ranges.a h1.high.ensures in
    let he = high_is h2.high-2.result e s.ranges.c h2.high-2.ensures in
    let under : back (lower l2) ≡ lower_of a b e d = plain (search tr depth 20) tt ∙ (λ i. la i *ℤ b -ℤ le i *ℤ d) in
    let h = first-high h1 in
    let g = second-high h2 in
    let k = third-high h3 in
    let over : back (back (back (back h1.high.result *ℤ back b) -ℤ back (back h2.high-2.result *ℤ back d)) +ℤ back h3.high-3.result) ≡ upper_of a b e d =
    plain (search tr depth 20) tt ∙ (λ i. ha i *ℤ b -ℤ he i *ℤ d +ℤ (h3.high-3.ensures ∙ ap (λ (z : ℤ). quot_z z (pos base)) under) i) in
    let low : back l3.low-3.result ≡ rem_z (lower_of a b e d) (pos base) = plain (search tr depth 20) tt ∙ l3.low-3.ensures.is ∙ ap (λ (z : ℤ). rem_z z (pos base)) under in
    c.lex.ensures ∙ (λ i. lex_s (over i) (low i)) ∙ sym (by_words a b e d)

pub overflow_sub-lower : goal.overflow_sub-lower
overflow_sub-lower c = fits (search tr depth 20) tt
