-- The best candidate so far as a number, by a default that no candidate is: what a loop that looks for the best keeps. Its turn; numbers that are no
-- candidates passed over; that it is the default or a candidate; and the best from it. Assumes nothing.
use Rattle.std.specs.Prelude.{◌≡◌, refl, ◌≤◌, ◌<◌, ◌+◌}
use Rattle.std.proofs.Common.{sym, ◌∙◌, ap, arith, eq-eqb, ne_eqb}
use Rattle.seq.specs.Seq.{Bool, true, false, cond, Option, none, some, Option·getD, ℕ, eqb, best}
use Rattle.seq.specs.Terms.{Has}
use Rattle.seq.specs.Best.{best_has}
use Rattle.seq.specs.BestLoop.{best-skip, best_first, best-better, best-stays}
use Rattle.seq.specs.Early.{prefix_best}

-- the best below n, or d
abbrev pub pick : (ℕ → Bool) → (ℕ → ℕ → Bool) → ℕ → ℕ → ℕ
pick p b d n = Option·getD (best p b n) d

-- with r the best so far: x where it is a candidate and r is none, or x is better
abbrev pub better : (ℕ → ℕ → Bool) → ℕ → ℕ → ℕ → ℕ
better b d x r = cond (eqb r d) x (cond (b x r) x r)

-- what the code answers: x where there is none yet, otherwise the better
pub better_none : (b : ℕ → ℕ → Bool) (d x r : ℕ) → r ≡ d → x ≡ better b d x r
better_none b d x r e = ap (λ (c : Bool). cond c x (cond (b x r) x r)) (sym (eq-eqb r d e))

pub better_by : (b : ℕ → ℕ → Bool) (d x r : ℕ) {c : Bool} → (r ≡ d → ⊥) → b x r ≡ c → cond c x r ≡ better b d x r
better_by b d x r f e = λ i. cond (sym (ne_eqb r d f) i) x (cond (sym e i) x r)

module _ (p : ℕ → Bool) (b : ℕ → ℕ → Bool) (d : ℕ) where
  -- no candidate below n is the default
  abbrev pub Away : ℕ → Type 0
  Away n = (k : ℕ) → Has p n k → k ≡ d → ⊥

  by : (n : ℕ) → Away n → (o : Option ℕ) → best p b n ≡ o → (c : Bool) → p n ≡ c → pick p b d (n + 1) ≡ cond c (better b d n (Option·getD o d)) (Option·getD o d)
  by n a none e false q = ap (λ (x : Option ℕ). Option·getD x d) (best-skip p b n q ∙ e)
  by n a none e true q = ap (λ (x : Option ℕ). Option·getD x d) (best_first p b n e q) ∙ sym (ap (λ (c : Bool). cond c n (cond (b n d) n d)) (eq-eqb d d refl))
  by n a (some r) e false q = ap (λ (x : Option ℕ). Option·getD x d) (best-skip p b n q ∙ e)
  by n a (some r) e true q = go (b n r) refl ∙ sym (ap (λ (c : Bool). cond c n (cond (b n r) n r)) (ne_eqb r d (a r (best_has p b n r e))))
    where
      go : (c : Bool) → b n r ≡ c → pick p b d (n + 1) ≡ cond c n r
      go true f = ap (λ (x : Option ℕ). Option·getD x d) (best-better p b n r e q f)
      go false f = ap (λ (x : Option ℕ). Option·getD x d) (best-stays p b n r e q f)

  -- a turn
  pub pick-turn : (n : ℕ) → Away n → pick p b d (n + 1) ≡ cond (p n) (better b d n (pick p b d n)) (pick p b d n)
  pick-turn n a = by n a (best p b n) refl (p n) refl

  -- the same of numbers that a loop holds: n is a candidate, and it is not
  pub turn_yes : (n r s : ℕ) → Away n → p n ≡ true → r ≡ pick p b d n → s ≡ better b d n r → s ≡ pick p b d (n + 1)
  turn_yes n r s a q e f = f ∙ ap (better b d n) e ∙ ap (λ (c : Bool). cond c (better b d n (pick p b d n)) (pick p b d n)) (sym q) ∙ sym (pick-turn n a)

  pub turn_no : (n r s : ℕ) → Away n → p n ≡ false → r ≡ pick p b d n → s ≡ r → s ≡ pick p b d (n + 1)
  turn_no n r s a q e f = f ∙ e ∙ ap (λ (c : Bool). cond c (better b d n (pick p b d n)) (pick p b d n)) (sym q) ∙ sym (pick-turn n a)

  -- numbers that are no candidates, passed over at once
  pub pick_over : (n m : ℕ) → n ≤ m → ((j : ℕ) → n ≤ j → j < m → p j ≡ false) → pick p b d m ≡ pick p b d n
  pick_over n m l f = ap (λ (o : Option ℕ). Option·getD o d) (sym (prefix_best p b n m l f))

  -- it is the default where there is no candidate; otherwise it is the best
  none_by : (n : ℕ) → Away n → (o : Option ℕ) → best p b n ≡ o → Option·getD o d ≡ d → o ≡ none
  none_by n a none e q = refl
  none_by n a (some r) e q = absurd (a r (best_has p b n r e) q)

  pub pick_none : (n : ℕ) → Away n → pick p b d n ≡ d → best p b n ≡ none
  pick_none n a q = none_by n a (best p b n) refl q

  some_by : (o : Option ℕ) → (Option·getD o d ≡ d → ⊥) → o ≡ some (Option·getD o d)
  some_by none f = absurd (f refl)
  some_by (some r) f = refl

  pub pick_some : (n : ℕ) → (pick p b d n ≡ d → ⊥) → best p b n ≡ some (pick p b d n)
  pick_some n f = some_by (best p b n) f

  below_by : (n m : ℕ) → d < m → n ≤ m → (o : Option ℕ) → best p b n ≡ o → Option·getD o d < m
  below_by n m l h none e = l
  below_by n m l h (some r) e = let w = best_has p b n r e in omega (arith, w.below)

  pub pick_below : (n m : ℕ) → d < m → n ≤ m → pick p b d n < m
  pick_below n m l h = below_by n m l h (best p b n) refl
