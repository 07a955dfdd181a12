-- One remainder, and then by halving; of two even numbers the halves are enough.
use Rattle.std.proofs.Common.{◌≡◌, sym, ◌∙◌, ap, ℕ, ◌*◌, ◌%◌, arith}
use Rattle.std.proofs.Math.Nat.{pos_of_ne-zero, mod-lt, div-le_self}
use Rattle.exact.specs.Gcd.{gcd_of, gcd_zero, gcd_step}
use Rattle.exact.specs.Odd.{gcd_sym, gcd_both-even, gcd_under}
use Rattle.exact.proofs.gcd.+gcd.Goals as goal
use Rattle.exact.proofs.gcd.+gcd.Goals.{After-gcd}

pub returns-then-b-eq0 : goal.returns-then-b-eq0
returns-then-b-eq0 t c = sym (ap (gcd_of c.args.a) c.if-b-eq0.true ∙ gcd_zero c.args.a)

pub nonzero_rem-r : goal.nonzero_rem-r
nonzero_rem-r t c = pos_of_ne-zero c.if-b-eq0.false

pub returns-then-b-eq1 : goal.returns-then-b-eq1
returns-then-b-eq1 t c = c.odd_gcd.ensures ∙ sym (gcd_step c.args.a c.args.b (pos_of_ne-zero c.if-b-eq0.false))

pub returns-then-r-eq1 : goal.returns-then-r-eq1
returns-then-r-eq1 t c =
    let a = c.args in
    c.odd_gcd-then-r-eq1.ensures ∙ gcd_sym (a.a % a.b) a.b ∙ sym (gcd_step a.a a.b (pos_of_ne-zero c.if-b-eq0.false))

pub gcd-requires : goal.gcd-requires
gcd-requires t c =
    let a = c.args in
    (omega (arith, div-le_self (a.a % a.b) 2, mod-lt a.a (pos_of_ne-zero c.if-b-eq0.false), c.decreases), tt)

-- twice what the halves have
twice : (t : ℕ) (c : After-gcd t) → 2 * c.gcd.result ≡ gcd_of c.args.a c.args.b
twice t c =
    let a = c.args in
    ap (λ (n : ℕ). 2 * n) c.gcd.ensures ∙ gcd_both-even a.a a.b (pos_of_ne-zero c.if-b-eq0.false) c.if-b-eq1.false c.if-r-eq1.false

pub overflow_mul-result : goal.overflow_mul-result
overflow_mul-result t c = record { fits = omega (arith, twice t (goal.at.overflow_mul-result t c).After-gcd, gcd_under c.args.a c.args.b (pos_of_ne-zero c.if-b-eq0.false), c.ranges.b.fits) }

pub returns : goal.returns
returns t c = twice t (goal.at.returns t c).After-gcd
