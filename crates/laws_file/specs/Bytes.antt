-- Numbers in bytes, "low byte first", over any width: what is written is read back, signed and unsigned, and what is read is written back byte for byte.
-- `Stands s i bs` is that the bytes bs stand in s from place i on, where a byte past the end counts as 0, as everywhere in the definitions. Assumes nothing.
use Rattle.std.specs.Prelude.{◌≡◌, refl, ◌<◌, ◌∷◌, ◌+◌, ◌*◌, ◌-◌, ◌/◌, ◌%◌, ◌^◌}
use Rattle.std.proofs.Common.{sym, ◌∙◌, ap, arith, ltb-false, lt-ltb}
use Rattle.std.proofs.Math.Nat.{one-le-pow}
use Rattle.seq.specs.Seq.{Bool, true, false, cond, List, [], ℕ, zero, suc, ltb, length, ℤ, pos, negsuc}
use Rattle.paper.specs.Bytes.{byte_at, number, signed_at, le, le_signed, the_fits_signed}

-- every cell is a byte
abbrev pub Bytes : List ℕ → Type 0
Bytes s = (i : ℕ) → byte_at s i < 256

abbrev pub Stands : List ℕ → ℕ → List ℕ → Type 0
Stands s i [] = Unit {0}
Stands s i (b ∷ bs) = (byte_at s i ≡ b) × Stands s (suc i) bs

pub length-le : (w n : ℕ) → length (le w n) ≡ w
length-le zero n = refl
length-le (suc w) n = ap suc (length-le w (n / 256))

pub length-le_signed : (w : ℕ) (z : ℤ) → length (le_signed w z) ≡ w
length-le_signed w (pos n) = length-le w n
length-le_signed w (negsuc n) = length-le w (256 ^ w - suc n)

-- the unsigned number whose bytes a signed one has
abbrev pub wrapped : ℕ → ℤ → ℕ
wrapped w (pos n) = n
wrapped w (negsuc n) = 256 ^ w - suc n

pub le_signed-wrapped : (w : ℕ) (z : ℤ) → le_signed w z ≡ le w (wrapped w z)
le_signed-wrapped w (pos n) = refl
le_signed-wrapped w (negsuc n) = refl

-- how many numbers w bytes have
pub some_numbers : (w : ℕ) → 0 < 256 ^ w
some_numbers w = one-le-pow w 256 (omega arith)

-- ── what is written is read ──

pub number_of : (w n : ℕ) (s : List ℕ) (i : ℕ) → n < 256 ^ w → Stands s i (le w n) → number w s i ≡ n
number_of zero n s i h b = omega arith
number_of (suc w) n s i h b = rw (b.0, number_of w (n / 256) s (suc i) (omega arith) b.1) (omega arith)

module _ (w : ℕ) (s : List ℕ) (i : ℕ) where
  -- the lower half of the numbers stands for itself, the upper half for the negative ones
  pub signed_by : (n : ℕ) (c : Bool) → ltb n (256 ^ w / 2) ≡ c → number w s i ≡ n → signed_at w s i ≡ cond c (pos n) (negsuc (256 ^ w - suc n))
  signed_by n c e q = rw (q, e)

-- ── what is read is written ──

pub number_below : (w : ℕ) (s : List ℕ) (i : ℕ) → Bytes s → number w s i < 256 ^ w
number_below zero s i h = omega arith
number_below (suc w) s i h = omega (arith, h i, number_below w s (suc i) h)

pub le-number : (w : ℕ) (s : List ℕ) (i : ℕ) → Bytes s → Stands s i (le w (number w s i))
le-number zero s i h = tt
le-number (suc w) s i h =
    let n : ℕ = number w s (suc i) in
    let low : (byte_at s i + 256 * n) % 256 ≡ byte_at s i = omega (arith, h i) in
    let rest : (byte_at s i + 256 * n) / 256 ≡ n = omega (arith, h i) in
    (sym low, rw rest (le-number w s (suc i) h))

module _ (w : ℕ) (s : List ℕ) (i : ℕ) (h : Bytes s) where
  same_bytes : (n : ℕ) (c : Bool) → n < 256 ^ w → le_signed w (cond c (pos n) (negsuc (256 ^ w - suc n))) ≡ le w n
  same_bytes n true l = refl
  same_bytes n false l = let e : 256 ^ w - suc (256 ^ w - suc n) ≡ n = omega arith in rw e

  pub le_signed-signed : le_signed w (signed_at w s i) ≡ le w (number w s i)
  le_signed-signed = same_bytes (number w s i) (ltb (number w s i) (256 ^ w / 2)) (number_below w s i h)

pub signed_fits : (w : ℕ) (s : List ℕ) (i : ℕ) → Bytes s → the_fits_signed (suc w) (signed_at (suc w) s i) ≡ true
signed_fits w s i h = by (number (suc w) s i) (ltb (number (suc w) s i) (256 ^ suc w / 2)) refl (number_below (suc w) s i h)
  where
    by : (n : ℕ) (c : Bool) → ltb n (256 ^ suc w / 2) ≡ c → n < 256 ^ suc w → the_fits_signed (suc w) (cond c (pos n) (negsuc (256 ^ suc w - suc n))) ≡ true
    by n true e l = e
    by n false e l = lt-ltb (256 ^ suc w - suc n) (256 ^ suc w / 2) (omega (arith, ltb-false n (256 ^ suc w / 2) e))
