-- Numbers in bytes as the loops make them: read from the high byte down, stored from the low byte up. Assumes nothing.
use Rattle.std.specs.Prelude.{◌+◌, ◌*◌, ◌-◌, ◌/◌, ◌%◌, ◌^◌, ◌-ℤ◌}
use mathlib.Core.Path.{◌≡◌, refl, sym, ◌∙◌, ap}
use Prim.Native.Nat.{◌≤◌, ◌<◌}
use native.Mathlib.Nat.{pow-le-pow_right}
use native.Mathlib.Omega.{arith}
use lib.ListN.{set, length-set, get_or-eq_default}
use Rattle.seq.specs.Seq.{List, ℕ, zero, suc, length, sets, ℤ, pos, negsuc, nat_abs}
use lib.Signed.{◌≤ℤ◌, ◌<ℤ◌}
use Rattle.exact.specs.Order.{≡-of, is-+, pos≮0}
use Rattle.paper.specs.Bytes.{byte_at, number, le}
use Rattle.laws_file.specs.Bytes.{Bytes, wrapped, number_below}

-- ── how many numbers there are ──

-- a one shifted by as many bytes
pub shifted_is : (w : ℕ) → w < 8 → 1 * 2 ^ (8 * w) % 18446744073709551616 ≡ 256 ^ w
shifted_is zero h = refl
shifted_is (suc zero) h = refl
shifted_is (suc (suc zero)) h = refl
shifted_is (suc (suc (suc zero))) h = refl
shifted_is (suc (suc (suc (suc zero)))) h = refl
shifted_is (suc (suc (suc (suc (suc zero))))) h = refl
shifted_is (suc (suc (suc (suc (suc (suc zero)))))) h = refl
shifted_is (suc (suc (suc (suc (suc (suc (suc zero))))))) h = refl
shifted_is (suc (suc (suc (suc (suc (suc (suc (suc w)))))))) h = absurd (omega arith)

pub powers_small : (w : ℕ) → w < 8 → 256 ^ w ≤ 256 ^ 7
powers_small w h = pow-le-pow_right {n = 256} (omega arith) {i = w} {j = 7} (omega arith)

-- ── reading ──

pub number_past : (w : ℕ) (s : List ℕ) (i : ℕ) → length s ≤ i → number w s i ≡ 0
number_past zero s i h = refl
number_past (suc w) s i h = rw (get_or-eq_default s 0 h, number_past w s (suc i) (omega arith)) (omega arith)

-- n is the number in the bytes from byte i on of w bytes at a place
pub record Reading (w : ℕ) (s : List ℕ) (at i n : ℕ) : Type 0 where
  pub within : i ≤ w
  pub is : n ≡ number (w - i) s (at + i)

module _ {w : ℕ} {s : List ℕ} {at : ℕ} where
  pub read_starts : Reading w s at w 0
  read_starts = let e : w - w ≡ 0 = omega arith in record { within = omega arith; is = rw e }

  pub read_turns : {i n : ℕ} → Reading w s at i n → (b : ℕ) → 0 < i → b ≡ byte_at s (at + (i - 1)) → Reading w s at (i - 1) (b + 256 * n)
  read_turns {i} {n} r b l e =
      let more : w - (i - 1) ≡ suc (w - i) = omega (arith, r.within) in
      let next : suc (at + (i - 1)) ≡ at + i = omega arith in
      record { within = omega (arith, r.within); is = rw (more, next, e, r.is) }

  pub read_ends : {i n : ℕ} → Reading w s at i n → i ≤ 0 → n ≡ number w s at
  read_ends {i} {n} r l =
      let e : w - i ≡ w = omega arith in
      let g : at + i ≡ at = omega arith in
      rw (e, g) at r.is

  -- one byte more still fits
  pub read_small : {i n : ℕ} → Reading w s at i n → Bytes s → w < 8 → 0 < i → n < 256 ^ 6
  read_small {i} {n} r h l m =
      omega (arith, r.is, number_below (w - i) s (at + i) h, pow-le-pow_right {n = 256} (omega arith) {i = w - i} {j = 6} (omega (arith, r.within)))

pub number_small : (w : ℕ) (s : List ℕ) (at : ℕ) → Bytes s → w < 8 → number w s at < 256 ^ 7
number_small w s at h l = omega (arith, number_below w s at h, powers_small w l)

-- the upper half of the numbers stands for the negative ones
pub below_zero : (n p : ℕ) → n < p → pos n -ℤ pos p ≡ negsuc (p - suc n)
below_zero n zero l = absurd (omega arith)
below_zero n (suc p) l = ≡-of (pos n -ℤ pos (suc p)) (negsuc (suc p - suc n)) (omega (arith, is-+ (pos n) (negsuc p)))

-- ── storing ──

-- t with what is left of the number stored from byte i on is d with the number stored
pub record Writing (d : List ℕ) (at w n : ℕ) (t : List ℕ) (rest i : ℕ) : Type 0 where
  pub within : i ≤ w
  pub kept : length t ≡ length d
  pub is : sets t (at + i) (le (w - i) rest) ≡ sets d at (le w n)

module _ {d : List ℕ} {at w n : ℕ} where
  pub write_starts : Writing d at w n d n 0
  write_starts =
      let e : w - 0 ≡ w = omega arith in
      let g : at + 0 ≡ at = omega arith in
      record { within = omega arith; kept = refl; is = rw (e, g) }

  pub write_turns : {t : List ℕ} {rest i : ℕ} → Writing d at w n t rest i → i < w → Writing d at w n (set t (at + i) (rest % 256)) (rest / 256) (i + 1)
  write_turns {t} {rest} {i} r l =
      let more : w - i ≡ suc (w - (i + 1)) = omega arith in
      let next : at + (i + 1) ≡ suc (at + i) = omega arith in
      record {
        within = omega arith;
        kept = length-set t (at + i) (rest % 256) ∙ r.kept;
        is = rw next (ap (λ (k : ℕ). sets t (at + i) (le k rest)) (sym more) ∙ r.is);
      }

  pub write_ends : {t : List ℕ} {rest i : ℕ} → Writing d at w n t rest i → w ≤ i → t ≡ sets d at (le w n)
  write_ends {t} {rest} {i} r l = let e : w - i ≡ 0 = omega arith in ap (λ (k : ℕ). sets t (at + i) (le k rest)) (sym e) ∙ r.is

-- ── signed numbers, by their magnitude ──

pub wrapped_low : (w : ℕ) (z : ℤ) → pos 0 ≤ℤ z → nat_abs z ≡ wrapped w z
wrapped_low w (pos n) h = refl
wrapped_low w (negsuc n) h = absurd h.le

pub wrapped_high : (w : ℕ) (z : ℤ) → z <ℤ pos 0 → 256 ^ w - nat_abs z ≡ wrapped w z
wrapped_high w (pos n) h = absurd (pos≮0 n h)
wrapped_high w (negsuc n) h = refl
