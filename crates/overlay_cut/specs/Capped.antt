-- A list that is made step by step, each step at most one element longer, in a table with room for `cap` of them: where the table is full the steps are left
-- out. Either nothing was left out, or the list has cap elements or more ("the count only grows"). First any such step; then lists that elements are put into,
-- the last first, and lists that elements are collected in, the first first. Assumes nothing.
use Rattle.std.specs.Prelude.{◌≡◌, refl, ◌≤◌, ◌<◌, ◌∷◌, ◌++◌, ◌+◌}
use Rattle.std.proofs.Common.{◌∙◌, ap, arith, lt-ltb, le-ltb, length-append}
use Rattle.std.proofs.Math.Decide.{dec_lt}
use Rattle.seq.specs.Seq.{Bool, true, false, cond, List, [], ℕ, ltb, length, insert_by, in_order_by, is_in, fresh, collect}

-- the step f, or nothing where there is no room
abbrev pub capped : {A : Type 0} → ℕ → (List A → List A) → List A → List A
capped cap f l = cond (ltb (length l) cap) (f l) l

-- t is all of l, or it is full and l is as long or longer
pub data Cap {A : Type 0} (cap : ℕ) (t l : List A) : Type 0 where
  whole : t ≡ l → length l ≤ cap → Cap cap t l
  full : length t ≡ cap → cap ≤ length l → Cap cap t l

-- a step that is at most one longer, and not shorter
pub record Slow {A : Type 0} (f : List A → List A) : Type 0 where
  pub grows : (l : List A) → length l ≤ length (f l)
  pub slowly : (l : List A) → length (f l) ≤ length l + 1

module _ {A : Type 0} (cap : ℕ) where
  pub capped_less : (f : List A → List A) (l : List A) → length l < cap → capped cap f l ≡ f l
  capped_less f l h = rw (lt-ltb (length l) cap h)

  pub capped_full : (f : List A → List A) (l : List A) → cap ≤ length l → capped cap f l ≡ l
  capped_full f l h = rw (le-ltb (length l) cap h)

  pub capped-step : (f : List A → List A) → Slow f → (t l : List A) → Cap cap t l → Cap cap (capped cap f t) (f l)
  capped-step f s t l (whole e h) =
      elim (dec_lt (length t) cap) [
        | yes q ↦ whole (capped_less f t q ∙ ap f e) (omega (arith, s.slowly l, ap length e))
        | no q ↦ full (ap length (capped_full f t (omega arith)) ∙ omega (arith, ap length e)) (omega (arith, s.grows l, ap length e))
      ]
  capped-step f s t l (full e h) = full (ap length (capped_full f t (omega arith)) ∙ e) (omega (arith, s.grows l))

  -- it stays within the room
  pub capped_le : (f : List A → List A) → Slow f → (l : List A) → length l ≤ cap → length (capped cap f l) ≤ cap
  capped_le f s l h =
      elim (dec_lt (length l) cap) [
        | yes q ↦ omega (arith, s.slowly l, ap length (capped_less f l q))
        | no q ↦ omega (arith, ap length (capped_full f l (omega arith)))
      ]

-- what is known from the count
pub cap-whole : {A : Type 0} {cap : ℕ} {t l : List A} → Cap cap t l → length t < cap → t ≡ l
cap-whole (whole e h) q = e
cap-whole (full e h) q = absurd (omega arith)

pub cap_full : {A : Type 0} {cap : ℕ} {t l : List A} → Cap cap t l → cap ≤ length t → cap ≤ length l
cap_full (whole e h) q = omega (arith, ap length e)
cap_full (full e h) q = h

pub cap-le : {A : Type 0} {cap : ℕ} {t l : List A} → Cap cap t l → length t ≤ cap
cap-le (whole e h) = omega (arith, ap length e)
cap-le (full e h) = omega arith

-- ── elements put in, the last first ──

module _ {A : Type 0} (b : A → A → Bool) (join : A → A → A) where
  slow_step : (p q : A) (qs : List A) (c d : Bool) → length qs ≤ length (insert_by b join p qs) → length (insert_by b join p qs) ≤ length qs + 1
      → (length (q ∷ qs) ≤ length (cond c (p ∷ q ∷ qs) (cond d (q ∷ insert_by b join p qs) (join p q ∷ qs)))) × (length (cond c (p ∷ q ∷ qs) (cond d (q ∷ insert_by b join p qs) (join p q ∷ qs))) ≤ length (q ∷ qs) + 1)
  slow_step p q qs true d g s = omega arith
  slow_step p q qs false true g s = omega arith
  slow_step p q qs false false g s = omega arith

  slow_insert : (p : A) (l : List A) → (length l ≤ length (insert_by b join p l)) × (length (insert_by b join p l) ≤ length l + 1)
  slow_insert p [] = omega arith
  slow_insert p (q ∷ qs) = let r = slow_insert p qs in slow_step p q qs (b p q) (b q p) r.0 r.1

  pub insert_slow : (p : A) → Slow (insert_by b join p)
  insert_slow p = record { grows = λ l. (slow_insert p l).0; slowly = λ l. (slow_insert p l).1 }

  module _ (cap : ℕ) where
    -- the elements of ps put into l, the last first
    abbrev pub put_all : List A → List A → List A
    put_all l [] = l
    put_all l (p ∷ ps) = capped cap (insert_by b join p) (put_all l ps)

    pub put_all-++ : (l ps qs : List A) → put_all l (ps ++ qs) ≡ put_all (put_all l qs) ps
    put_all-++ l [] qs = refl
    put_all-++ l (p ∷ ps) qs = ap (λ (t : List A). capped cap (insert_by b join p) t) (put_all-++ l ps qs)

    pub put_all_cap : (ps : List A) → Cap cap (put_all [] ps) (in_order_by b join ps)
    put_all_cap [] = whole refl (omega arith)
    put_all_cap (p ∷ ps) = capped-step cap (insert_by b join p) (insert_slow p) (put_all [] ps) (in_order_by b join ps) (put_all_cap ps)

-- ── elements collected, the first first ──

module _ {A : Type 0} (same : A → A → Bool) where
  slow_fresh : (x : A) (l : List A) (c : Bool) → (length l ≤ length (cond c l (l ++ (x ∷ [])))) × (length (cond c l (l ++ (x ∷ []))) ≤ length l + 1)
  slow_fresh x l true = omega arith
  slow_fresh x l false = omega (arith, length-append l (x ∷ []))

  pub fresh_slow : (x : A) → Slow (λ l. fresh same l x)
  fresh_slow x = record { grows = λ l. (slow_fresh x l (is_in same x l)).0; slowly = λ l. (slow_fresh x l (is_in same x l)).1 }

  module _ (cap : ℕ) where
    -- the elements of xs appended to l where they are new, the first first
    abbrev pub collect_in : List A → List A → List A
    collect_in l [] = l
    collect_in l (x ∷ xs) = collect_in (capped cap (λ t. fresh same t x) l) xs

    pub collect_in-++ : (l xs ys : List A) → collect_in l (xs ++ ys) ≡ collect_in (collect_in l xs) ys
    collect_in-++ l [] ys = refl
    collect_in-++ l (x ∷ xs) ys = collect_in-++ (capped cap (λ t. fresh same t x) l) xs ys

    pub collect_in-le : (l xs : List A) → length l ≤ cap → length (collect_in l xs) ≤ cap
    collect_in-le l [] h = h
    collect_in-le l (x ∷ xs) h = collect_in-le (capped cap (λ t. fresh same t x) l) xs (capped_le cap (λ t. fresh same t x) (fresh_slow x) l h)

    pub collect_in-cap : (t l xs : List A) → Cap cap t l → Cap cap (collect_in t xs) (collect same l xs)
    collect_in-cap t l [] c = c
    collect_in-cap t l (x ∷ xs) c = collect_in-cap (capped cap (λ u. fresh same u x) t) (fresh same l x) xs (capped-step cap (λ u. fresh same u x) (fresh_slow x) t l c)
