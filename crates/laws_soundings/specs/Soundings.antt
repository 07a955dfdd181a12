-- Lists of soundings end to end (02, Ask 3): cutting the list after a whole number of soundings cuts the soundings (`sounding_before`, `at_past`), and so those that lie too far (`far_before`,
-- `far_past`); and the counts add up (`counts-add_up`). Over any number of maps. Assumes nothing.
use Rattle.std.specs.Prelude.{◌≡◌, ◌<◌, ◌≤◌, ◌||◌, ◌++◌, ◌+◌, ◌*◌, ◌-◌, ◌/◌, ◌^◌}
use Rattle.std.proofs.Common.{sym, ◌∙◌, ap, arith, get_or-append-add}
use Rattle.std.proofs.Math.ListN.{get_or-append}
use Rattle.seq.specs.Seq.{cond, List, ℕ, suc, ltb, length, nat_abs, ℤ, pos, negsuc}
use Rattle.seq.specs.Table.{length-table}
use Rattle.paper.specs.Limits.{reach}
use Rattle.paper.specs.Plane.{Vec, vec}
use Rattle.paper.specs.Bytes.{byte_at, signed_at}
use Rattle.paper.specs.Map.{Map}
use Rattle.paper.specs.Soundings.{soundings_in, sounding_at, cell_of, cells, far, tally}
use Rattle.laws_soundings.specs.Tally.{total, tally-total}

-- ── bytes of two lists end to end ──

module _ (a b : List ℕ) where
  byte_before : (i : ℕ) → i < length a → byte_at (a ++ b) i ≡ byte_at a i
  byte_before i l = get_or-append a b 0 i l

  byte_past : (i : ℕ) → byte_at (a ++ b) (length a + i) ≡ byte_at b i
  byte_past i = get_or-append-add a b i 0

  abbrev the_signed_by : ℕ → ℤ
  the_signed_by n = cond (ltb n (256 ^ 2 / 2)) (pos n) (negsuc (256 ^ 2 - suc n))

  signed_before : (i : ℕ) → i + 1 < length a → signed_at 2 (a ++ b) i ≡ signed_at 2 a i
  signed_before i l = ap the_signed_by (λ t. byte_before i (omega arith) t + 256 * (byte_before (suc i) (omega arith) t + 256 * 0))

  signed_past : (i j : ℕ) → j ≡ length a + i → signed_at 2 (a ++ b) j ≡ signed_at 2 b i
  signed_past i j e = ap (signed_at 2 (a ++ b)) e ∙ ap the_signed_by (λ t. byte_past i t + 256 * ((ap (byte_at (a ++ b)) next ∙ byte_past (suc i)) t + 256 * 0))
    where
      next : suc (length a + i) ≡ length a + suc i
      next = omega arith

  -- ── a holds n soundings ──

  pub sounding_before : (n : ℕ) → 4 * n ≤ length a → (i : ℕ) → i < n → sounding_at (a ++ b) i ≡ sounding_at a i
  sounding_before n h i l = λ t. vec (signed_before (4 * i) (omega arith) t) (signed_before (4 * i + 2) (omega arith) t)

  pub far_before : (n : ℕ) → 4 * n ≤ length a → (i : ℕ) → i < n → far (a ++ b) i ≡ far a i
  far_before n h i l = ap (λ (c : Vec). ltb reach (nat_abs c.x) || ltb reach (nat_abs c.y)) (sounding_before n h i l)

  -- ── and nothing more ──

  module _ (n : ℕ) (w : length a ≡ 4 * n) where
    pub at_past : (i : ℕ) → sounding_at (a ++ b) (n + i) ≡ sounding_at b i
    at_past i = λ t. vec (signed_past (4 * i) (4 * (n + i)) (omega arith) t) (signed_past (4 * i + 2) (4 * (n + i) + 2) (omega arith) t)

    pub far_past : (i : ℕ) → far (a ++ b) (n + i) ≡ far b i
    far_past i = ap (λ (c : Vec). ltb reach (nat_abs c.x) || ltb reach (nat_abs c.y)) (at_past i)

-- "The counts add up to the number of soundings"
pub counts-add_up : (ms : List Map) (s : List ℕ) → total (tally (cells ms s)) ≡ soundings_in s
counts-add_up ms s = tally-total (cells ms s) ∙ length-table (λ i. cell_of ms (sounding_at s i)) (soundings_in s)
