-- A part of a table of numbers exchanged for another list: first the cells after it moved (`Shifted`), then the others copied in (`Copied`), both by std's methods; `spliced` says what list there is then.
-- Assumes nothing.
use Rattle.std.specs.Prelude.{◌≡◌, ◌≤◌, ◌<◌, ◌+◌, ◌-◌, ◌++◌}
use Rattle.std.specs.List.{copy_within}
use Rattle.std.proofs.Common.{sym, ◌∙◌, ap, arith, take_at, drop_at}
use Rattle.std.proofs.lemmas.Grind.{common_steps}
use borrow.Rule.Slice.PartMut.{put_mid}
use Rattle.seq.specs.Seq.{List, ℕ, length, get_or, take, drop, table}
use Rattle.seq.specs.Table.{length-table, table-+, table-ext}
use Rattle.overlay_sweep.specs.Numbers.{numbers_in}

-- ── moved to another place ──

-- the cells from b to n moved to c
pub record Shifted (n b c : ℕ) (t₀ t : List ℕ) : Type 0 where
  pub below : (k : ℕ) → k < b → k < c → get_or t k 0 ≡ get_or t₀ k 0
  pub moved : (k : ℕ) → k < n - b → get_or t (c + k) 0 ≡ get_or t₀ (b + k) 0

pub shifted : (n b c : ℕ) (t u : List ℕ) → u ≡ copy_within t b n c → b ≤ n → n ≤ length t → c + (n - b) ≤ length t → Shifted n b c t u
shifted n b c t u e h l r = record { below = λ k p q. grind (arith, common_steps); moved = λ k p. grind (arith, common_steps) }

-- ── copied in ──

-- the first m of fan stand from a on
pub record Copied (a m : ℕ) (fan t₀ t : List ℕ) : Type 0 where
  pub below : (k : ℕ) → k < a → get_or t k 0 ≡ get_or t₀ k 0
  pub in_it : (k : ℕ) → k < m → get_or t (a + k) 0 ≡ get_or fan k 0
  pub past : (k : ℕ) → a + m ≤ k → get_or t k 0 ≡ get_or t₀ k 0

pub copied_in : (a m w : ℕ) (fan t vs : List ℕ) → w ≡ m → vs ≡ take m fan → m ≤ length fan → a + m ≤ length t → Copied a m fan t (put_mid a w t vs)
copied_in a m w fan t vs e f h r = record { below = λ k l. grind (arith, common_steps); in_it = λ k l. grind (arith, common_steps); past = λ k l. grind (arith, common_steps) }

-- ── both ──

module _ (f : ℕ → ℕ) where
  pub take-table : (n a : ℕ) → a ≤ n → take a (table f n) ≡ table f a
  take-table n a h =
      let e : n ≡ a + (n - a) = omega arith in
      ap (λ (k : ℕ). take a (table f k)) e ∙ ap (take a) (table-+ f a (n - a)) ∙ take_at (table f a) (table (λ i. f (a + i)) (n - a)) a (length-table f a)

  pub drop-table : (n b : ℕ) → b ≤ n → drop b (table f n) ≡ table (λ i. f (b + i)) (n - b)
  drop-table n b h =
      let e : n ≡ b + (n - b) = omega arith in
      ap (λ (k : ℕ). drop b (table f k)) e ∙ ap (drop b) (table-+ f b (n - b)) ∙ drop_at (table f b) (table (λ i. f (b + i)) (n - b)) b (length-table f b)

module _ (t₀ t₁ t₂ fan : List ℕ) (n a b m : ℕ) (ab : a ≤ b) (bn : b ≤ n) (S : Shifted n b (a + m) t₀ t₁) (C : Copied a m fan t₁ t₂) where
  abbrev f : ℕ → ℕ
  f i = get_or t₂ i 0

  abbrev g : ℕ → ℕ
  g i = get_or t₀ i 0

  pub spliced : numbers_in t₂ (a + m + (n - b)) ≡ take a (numbers_in t₀ n) ++ (numbers_in fan m ++ drop b (numbers_in t₀ n))
  spliced =
      let e : a + m + (n - b) ≡ a + (m + (n - b)) = omega arith in
      ap (table f) e ∙ table-+ f a (m + (n - b))
      ∙ (λ i. front i ++ (table-+ (λ k. f (a + k)) m (n - b) ∙ (λ j. middle j ++ back j)) i)
    where
      front : table f a ≡ take a (table g n)
      front = table-ext f g a (λ k l. C.below k l ∙ S.below k (omega arith) (omega arith)) ∙ sym (take-table g n a (omega arith))

      middle : table (λ k. f (a + k)) m ≡ numbers_in fan m
      middle = table-ext (λ k. f (a + k)) (λ k. get_or fan k 0) m (λ k l. C.in_it k l)

      back : table (λ k. f (a + (m + k))) (n - b) ≡ drop b (table g n)
      back =
          table-ext (λ k. f (a + (m + k))) (λ k. g (b + k)) (n - b)
          (λ k l. let e : a + (m + k) ≡ a + m + k = omega arith in C.past (a + (m + k)) (omega arith) ∙ ap (λ (j : ℕ). get_or t₁ j 0) e ∙ S.moved k l)
          ∙ sym (drop-table g n b bn)
