-- A part of a table of numbers moved down, and another list copied in, cell by cell: what holds between two cells (`Lowering`, `Copying`), and after the last one. Assumes nothing.
use Rattle.std.specs.Prelude.{◌≡◌, refl, ◌≤◌, ◌<◌, set, ◌+◌, ◌-◌}
use Rattle.std.proofs.Common.{sym, ◌∙◌, ap, arith, length-set, get_or-set_same, get_or-set_other}
use Rattle.std.proofs.Math.Decide.{dec_lt}
use Rattle.seq.specs.Seq.{List, ℕ, length, get_or}
use Rattle.seq.specs.Loops.Lifting.{lifted}
use Rattle.seq.specs.Lifted.{lifted_below, lifted_in}
use Rattle.overlay_sweep.specs.Splice.{Shifted, Copied}

-- ── moved down ──

-- the cells from a to e moved down by w
pub record Lowered (a e w : ℕ) (t₀ t : List ℕ) : Type 0 where
  pub below : (k : ℕ) → k + w < a → get_or t k 0 ≡ get_or t₀ k 0
  pub moved : (k : ℕ) → a ≤ k → k < e → get_or t (k - w) 0 ≡ get_or t₀ k 0

-- as far as i
pub record Lowering (a e w : ℕ) (t₀ t : List ℕ) (i : ℕ) : Type 0 where
  pub low : a ≤ i
  pub within : i ≤ e
  pub down : w ≤ a
  pub room : e ≤ length t₀
  pub kept : length t ≡ length t₀
  pub done : Lowered a i w t₀ t
  pub ahead : (k : ℕ) → i ≤ k → get_or t k 0 ≡ get_or t₀ k 0

pub lower_starts : (a e w : ℕ) (t : List ℕ) → a ≤ e → w ≤ a → e ≤ length t → Lowering a e w t t a
lower_starts a e w t h d r = record {
  low = omega arith;
  within = h;
  down = d;
  room = r;
  kept = refl;
  done = record { below = λ k l. refl; moved = λ k l m. absurd (omega arith) };
  ahead = λ k l. refl;
}

pub lower_turns : {a e w : ℕ} {t₀ t : List ℕ} {i : ℕ} → Lowering a e w t₀ t i → (v : ℕ) → i < e → v ≡ get_or t i 0 → Lowering a e w t₀ (set t (i - w) v) (i + 1)
lower_turns {a} {e} {w} {t₀} {t} {i} r v l q =
    let low = r.low in let down = r.down in let room = r.room in let kept = r.kept in
    record {
      low = omega arith;
      within = omega arith;
      down = down;
      room = room;
      kept = length-set t (i - w) v ∙ kept;
      done = record {
        below = λ k h. get_or-set_other t (i - w) k v 0 (λ f. omega arith) ∙ r.done.below k h;
        moved = λ k h m. elim (dec_lt k i) [
          | yes s ↦ get_or-set_other t (i - w) (k - w) v 0 (λ f. omega arith) ∙ r.done.moved k h s
          | no s ↦ let f : i ≡ k = omega arith in
              ap (λ (j : ℕ). get_or (set t (i - w) v) (j - w) 0) (sym f) ∙ get_or-set_same t (i - w) v 0 (omega arith) ∙ q ∙ r.ahead i (omega arith) ∙ ap (λ (j : ℕ). get_or t₀ j 0) f
        ];
      };
      ahead = λ k h. get_or-set_other t (i - w) k v 0 (λ f. omega arith) ∙ r.ahead k (omega arith);
    }

pub lower_ends : {a e w : ℕ} {t₀ t : List ℕ} {i : ℕ} → Lowering a e w t₀ t i → e ≤ i → Lowered a e w t₀ t
lower_ends {a} {e} {w} {t₀} {t} {i} r l = record { below = r.done.below; moved = λ k h m. r.done.moved k h (omega arith) }

-- ── moved to another place ──

pub shift_up : (n b c : ℕ) (t₀ t : List ℕ) → b < c → b ≤ n → n + (c - b) ≤ length t₀ → t ≡ lifted b n (c - b) t₀ → Shifted n b c t₀ t
shift_up n b c t₀ t h l r e = record {
  below = λ k p q. ap (λ (u : List ℕ). get_or u k 0) e ∙ lifted_below b n (c - b) t₀ k 0 (omega arith);
  moved = λ k p. let f : c + k ≡ b + k + (c - b) = omega arith in ap (λ (u : List ℕ). get_or u (c + k) 0) e ∙ ap (λ (j : ℕ). get_or (lifted b n (c - b) t₀) j 0) f ∙ lifted_in b n (c - b) t₀ (b + k) 0 (omega arith) (omega arith) r;
}

pub shift_down : (n b c : ℕ) (t₀ t : List ℕ) → c < b → b ≤ n → Lowered b n (b - c) t₀ t → Shifted n b c t₀ t
shift_down n b c t₀ t h l d = record {
  below = λ k p q. d.below k (omega arith);
  moved = λ k p. let f : c + k ≡ b + k - (b - c) = omega arith in ap (λ (j : ℕ). get_or t j 0) f ∙ d.moved (b + k) (omega arith) (omega arith);
}

pub shift_none : (n b c : ℕ) (t : List ℕ) → b ≡ c → Shifted n b c t t
shift_none n b c t e = record { below = λ k p q. refl; moved = λ k p. ap (λ (j : ℕ). get_or t (j + k) 0) (sym e) }

-- ── copied in ──

pub record Copying (a m : ℕ) (fan t₀ t : List ℕ) (i : ℕ) : Type 0 where
  pub within : i ≤ m
  pub room : a + m ≤ length t₀
  pub kept : length t ≡ length t₀
  pub done : Copied a i fan t₀ t

pub copy_starts : (a m : ℕ) (fan t : List ℕ) → a + m ≤ length t → Copying a m fan t t 0
copy_starts a m fan t h = record { within = omega arith; room = h; kept = refl; done = record { below = λ k l. refl; in_it = λ k l. absurd (omega arith); past = λ k l. refl } }

pub copy_turns : {a m : ℕ} {fan t₀ t : List ℕ} {i : ℕ} → Copying a m fan t₀ t i → (v : ℕ) → i < m → v ≡ get_or fan i 0 → Copying a m fan t₀ (set t (a + i) v) (i + 1)
copy_turns {a} {m} {fan} {t₀} {t} {i} r v l q =
    let room = r.room in let kept = r.kept in
    record {
      within = omega arith;
      room = room;
      kept = length-set t (a + i) v ∙ kept;
      done = record {
        below = λ k h. get_or-set_other t (a + i) k v 0 (λ f. omega arith) ∙ r.done.below k h;
        in_it = λ k h. elim (dec_lt k i) [
          | yes s ↦ get_or-set_other t (a + i) (a + k) v 0 (λ f. omega arith) ∙ r.done.in_it k s
          | no s ↦ let f : i ≡ k = omega arith in
              ap (λ (j : ℕ). get_or (set t (a + i) v) (a + j) 0) (sym f) ∙ get_or-set_same t (a + i) v 0 (omega arith) ∙ q ∙ ap (λ (j : ℕ). get_or fan j 0) f
        ];
        past = λ k h. get_or-set_other t (a + i) k v 0 (λ f. omega arith) ∙ r.done.past k (omega arith);
      };
    }

pub copy_ends : {a m : ℕ} {fan t₀ t : List ℕ} {i : ℕ} → Copying a m fan t₀ t i → m ≤ i → Copied a m fan t₀ t
copy_ends {a} {m} {fan} {t₀} {t} {i} r l =
    let within = r.within in
    record { below = r.done.below; in_it = λ k h. r.done.in_it k (omega arith); past = λ k h. r.done.past k (omega arith) }
