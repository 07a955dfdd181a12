-- A number's digits as the kit's `io` writes them are its decimal text, and a number of 16 bits has at most five. Assumes nothing.
use Rattle.std.specs.Prelude.{◌∷◌, ◌++◌, ◌+◌, ◌*◌, ◌-◌, ◌/◌, ◌%◌, ◌^◌}
use mathlib.Core.Path.{◌≡◌, refl, sym, ◌∙◌, ap}
use Prim.Native.Nat.{◌≤◌, ◌<◌}
use native.Mathlib.Nat.{pow-suc, one-le-pow, mod-lt, mod-eq_of_lt, pow-le-pow_right}
use native.Mathlib.Numerals.{unary_clauses}
use native.Mathlib.Omega.{arith}
use borrow.Author.Tests.{lt-ltb, le-ltb, ltb-true, ltb-false}
use Rattle.io.specs.Digits.{last_digits, IsDigitCount, hex_digit_ascii}
use Rattle.seq.specs.Seq.{Bool, List, [], true, false, ℕ, zero, suc, ltb}
use Rattle.paper.specs.Listing.{digits_in, decimal}

glyph_is : (d : ℕ) → d < 10 → hex_digit_ascii d ≡ 48 + d
glyph_is d h = rw (lt-ltb d 10 h)

one_digit : (n g : ℕ) → n < 10 → last_digits 10 1 n ≡ digits_in (suc g) n
one_digit n g h = ap (λ (d : ℕ). hex_digit_ascii d ∷ []) (mod-eq_of_lt h) ∙ ap (λ (d : ℕ). d ∷ []) (glyph_is n h) ∙ sym (rw (lt-ltb n 10 h))

more_digits : (n g : ℕ) (r : List ℕ) → 10 ≤ n → r ≡ digits_in g (n / 10) → r ++ (hex_digit_ascii (n % 10) ∷ []) ≡ digits_in (suc g) n
more_digits n g r h e =
    ap (λ (d : ℕ). r ++ (d ∷ [])) (glyph_is (n % 10) (mod-lt n (omega arith)))
    ∙ ap (λ (s : List ℕ). s ++ ((48 + n % 10) ∷ [])) e ∙ sym (rw (le-ltb n 10 h))

-- with k + 1 digits, the first not 0 unless it is alone
digits_are : (k n g : ℕ) → n ≤ g → n < 10 ^ suc k → (0 < k → 10 ^ k ≤ n) → last_digits 10 (suc k) n ≡ digits_in (suc g) n
digits_are zero n g h l m = one_digit n g l
digits_are (suc k) n zero h l m = absurd (omega (arith, one-le-pow (suc k) 10 (omega arith), m (omega arith)))
digits_are (suc k) n (suc g) h l m =
    let p : 10 ^ suc k ≡ 10 ^ k * 10 = pow-suc 10 k in
    let q : 10 ^ suc (suc k) ≡ 10 ^ suc k * 10 = pow-suc 10 (suc k) in
    let b : 10 ^ suc k ≤ n = m (omega arith) in
    let o : 1 ≤ 10 ^ k = one-le-pow k 10 (omega arith) in
    more_digits n (suc g) (last_digits 10 (suc k) (n / 10)) (omega arith) (digits_are k (n / 10) g (omega arith) (omega arith) (λ _. omega arith))

pub fewest_decimal : (n k : ℕ) → IsDigitCount 10 1 n k → last_digits 10 k n ≡ decimal n
fewest_decimal n zero f = absurd (omega arith)
fewest_decimal n (suc k) f = digits_are k n n (omega arith) f.1 (λ h. simp unary_clauses at (f.2 (omega arith)))

-- a number below 100,000 has at most five digits
five_by : (b : Bool) (n k : ℕ) → ltb 5 k ≡ b → n < 100000 → IsDigitCount 10 1 n k → k ≤ 5
five_by false n k e h f = ltb-false 5 k e
five_by true n k e h f =
    let l : 5 < k = ltb-true 5 k e in
    let p : 100000 ≤ 10 ^ (k - 1) = pow-le-pow_right {n = 10} (omega arith) {i = 5} {j = k - 1} (omega arith) in
    absurd (omega (arith, p, f.2 (omega arith)))

pub fewest_five : (n k : ℕ) → n < 100000 → IsDigitCount 10 1 n k → k ≤ 5
fewest_five n k = five_by (ltb 5 k) n k refl
