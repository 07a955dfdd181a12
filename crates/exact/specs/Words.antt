-- Numbers in two words of base 2^31, a quotient and a remainder towards 0, which have the number's sign. First the base and what `products` asks for; then the
-- words of a number (`two_words`) and how large they are; then that the order of two products is that of a pair of words (`by_words`). Assumes nothing.
use Rattle.std.specs.Prelude.{◌≡◌, [], ◌∷◌, ℕ, suc, ◌/◌, ◌%◌, ◌<◌, ◌≤◌, ℤ, pos, negsuc, neg_ℤ, nat_abs, ◌+ℤ◌, ◌-ℤ◌, ◌*ℤ◌, ◌<ℤ◌}
use Rattle.std.proofs.Common.{sym, ◌∙◌, ap, div-add-mod', mod-lt, arith}
use Rattle.std.specs.Int.Signed.{quot_z, rem_z}
use Rattle.exact.specs.Abs.{abs_neg}
use Rattle.exact.specs.Solve.{ring, reify}
use Rattle.exact.specs.Order.{<-of}
use Rattle.exact.specs.Gcd.{abs_quot}
use Rattle.exact.specs.Sign.{sgn, lex_s, mix}

abbrev pub base : ℕ
base = 2147483648

-- what may be multiplied: a and c of 62 bits, b and d of one word
pub record Factors (a b c d : ℤ) : Type 0 where
  pub a_is : nat_abs a ≤ 4500000000000000000
  pub b_is : nat_abs b < base
  pub c_is : nat_abs c ≤ 4500000000000000000
  pub d_is : nat_abs d < base

-- ---- the words of a number
pub two_words : (x : ℤ) (n : ℕ) → x ≡ quot_z x (pos n) *ℤ pos n +ℤ rem_z x (pos n)
two_words (pos a) n = ap pos (sym (div-add-mod' a n))
two_words (negsuc a) n = ap (λ (k : ℕ). neg_ℤ (pos k)) (sym (div-add-mod' (suc a) n)) ∙ spread (pos (suc a / n)) (pos n) (pos (suc a % n))
  where
    spread : (q n r : ℤ) → neg_ℤ (q *ℤ n +ℤ r) ≡ neg_ℤ q *ℤ n +ℤ neg_ℤ r
    spread q n r = ring (q ∷ n ∷ r ∷ []) (search reify depth 20) tt

pub low_below : (x : ℤ) (n : ℕ) → 0 < n → nat_abs (rem_z x (pos n)) < n
low_below (pos a) n h = mod-lt a h
low_below (negsuc a) n h = rw (abs_neg (pos (suc a % n))) (mod-lt (suc a) h)

-- the high word of a factor, and that of any number
pub high_factor : (x : ℤ) → nat_abs x ≤ 4500000000000000000 → nat_abs (quot_z x (pos base)) ≤ 2095475793
high_factor x h = omega (arith, h, abs_quot x base)

pub high_any : (x : ℤ) → nat_abs x ≤ 9223372036854775808 → nat_abs (quot_z x (pos base)) ≤ 4294967296
high_any x h = omega (arith, h, abs_quot x base)

-- ---- the order of two products
-- of a = qa·n + ra and c = qc·n + rc, where the products of the low words are q·n + r apart
pub apart : (a b c d qa ra qc rc q r n : ℤ) → a ≡ qa *ℤ n +ℤ ra → c ≡ qc *ℤ n +ℤ rc → ra *ℤ b -ℤ rc *ℤ d ≡ q *ℤ n +ℤ r →
    a *ℤ b -ℤ c *ℤ d ≡ n *ℤ (qa *ℤ b -ℤ qc *ℤ d +ℤ q) +ℤ r
apart a b c d qa ra qc rc q r n ea ec el =
    (λ i. ea i *ℤ b -ℤ ec i *ℤ d) ∙ one ∙ ap (λ (z : ℤ). n *ℤ (qa *ℤ b -ℤ qc *ℤ d) +ℤ z) el ∙ two
  where
    one : (qa *ℤ n +ℤ ra) *ℤ b -ℤ (qc *ℤ n +ℤ rc) *ℤ d ≡ n *ℤ (qa *ℤ b -ℤ qc *ℤ d) +ℤ (ra *ℤ b -ℤ rc *ℤ d)
    one = ring (qa ∷ n ∷ ra ∷ b ∷ qc ∷ rc ∷ d ∷ []) (search reify depth 20) tt

    two : n *ℤ (qa *ℤ b -ℤ qc *ℤ d) +ℤ (q *ℤ n +ℤ r) ≡ n *ℤ (qa *ℤ b -ℤ qc *ℤ d +ℤ q) +ℤ r
    two = ring (qa ∷ n ∷ b ∷ qc ∷ d ∷ q ∷ r ∷ []) (search reify depth 20) tt

module _ (a b c d : ℤ) where
  abbrev pub lower_of : ℤ
  lower_of = rem_z a (pos base) *ℤ b -ℤ rem_z c (pos base) *ℤ d

  abbrev pub upper_of : ℤ
  upper_of = quot_z a (pos base) *ℤ b -ℤ quot_z c (pos base) *ℤ d +ℤ quot_z lower_of (pos base)

  pub by_words : sgn (a *ℤ b -ℤ c *ℤ d) ≡ lex_s upper_of (rem_z lower_of (pos base))
  by_words =
      let l = low_below lower_of base (omega arith) in
      ap sgn (apart a b c d (quot_z a (pos base)) (rem_z a (pos base)) (quot_z c (pos base)) (rem_z c (pos base)) (quot_z lower_of (pos base)) (rem_z lower_of (pos base)) (pos base)
      (two_words a base) (two_words c base) (two_words lower_of base))
      ∙ mix (pos base) upper_of (rem_z lower_of (pos base)) (under (rem_z lower_of (pos base)) l) (over (rem_z lower_of (pos base)) l)
    where
      under : (x : ℤ) → nat_abs x < base → neg_ℤ (pos base) <ℤ x
      under (pos n) h = <-of (neg_ℤ (pos base)) (pos n) (omega arith)
      under (negsuc n) h = <-of (neg_ℤ (pos base)) (negsuc n) (omega arith)

      over : (x : ℤ) → nat_abs x < base → x <ℤ pos base
      over (pos n) h = <-of (pos n) (pos base) (omega arith)
      over (negsuc n) h = <-of (negsuc n) (pos base) (omega arith)
