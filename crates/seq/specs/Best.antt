-- The best of the candidates below a bound, and of a list. Whatever the comparison, what is found is a candidate, and nothing is found only where
-- there is none (`best_has`, `none_has`). Where it is a strict order no candidate is better (`best-top`). Where any two candidates differ the best
-- beats every other, and is the only one that does (`best_is`, `best_some`, `best-unique`). Then the same of `best_of`. Assumes nothing.
use Rattle.std.specs.Prelude.{◌≡◌, refl}
use Rattle.std.proofs.Common.{sym, ◌∙◌, ap, subst, not-suc-le-zero, arith}
use Rattle.std.proofs.Math.Decide.{ℕ_discrete}
use Rattle.seq.specs.Seq.{Bool, true, false, cond, Option, none, some, ℕ, zero, suc, best, improve}
use Rattle.seq.specs.Terms.{Has, Strict, Order, Best, BestIs, Top, TopIs}
use Rattle.seq.specs.Tests.{clash, not-true}

module _ (p : ℕ → Bool) where
  pub has_more : {n k : ℕ} → Has p n k → Has p (suc n) k
  has_more h = record { below = omega arith; has = h.has }

  pub has_less : {n k : ℕ} → Has p (suc n) k → (k ≡ n → ⊥) → Has p n k
  has_less h d = record { below = omega arith; has = h.has }

  -- n has not p: the candidates below n + 1 are those below n
  has_same : {n k : ℕ} → p n ≡ false → Has p (suc n) k → Has p n k
  has_same e l = has_less l (λ s. clash (ap p (sym s) ∙ l.has) e)

  here : {n : ℕ} → p n ≡ true → Has p (suc n) n
  here e = record { below = omega arith; has = e }

  module _ (b : ℕ → ℕ → Bool) where
    -- ── whatever the comparison ──

    abbrev Found : ℕ → Option ℕ → Type 0
    Found n none = (k : ℕ) → Has p n k → ⊥
    Found n (some r) = Has p n r

    choice : (n r : ℕ) (c : Bool) → Has p (suc n) n → Has p (suc n) r → Found (suc n) (cond c (some n) (some r))
    choice n r true hn hr = hn
    choice n r false hn hr = hr

    found-step : (n : ℕ) (c : Bool) (a : Option ℕ) → p n ≡ c → Found n a → Found (suc n) (cond c (improve b n a) a)
    found-step n false none e h = λ k l. h k (has_same e l)
    found-step n false (some r) e h = has_more h
    found-step n true none e h = here e
    found-step n true (some r) e h = choice n r (b n r) (here e) (has_more h)

    found : (n : ℕ) → Found n (best p b n)
    found zero = λ k l. not-suc-le-zero l.below
    found (suc n) = found-step n (p n) (best p b n) refl (found n)

    -- what is found is a candidate
    pub best_has : (n r : ℕ) → best p b n ≡ some r → Has p n r
    best_has n r e = subst (Found n) e (found n)

    -- nothing is found: there is none
    pub none_has : (n : ℕ) → best p b n ≡ none → (k : ℕ) → Has p n k → ⊥
    none_has n e = subst (Found n) e (found n)

    -- ── a strict order: no candidate is better ──

    strict_less : {n : ℕ} → Strict p b (suc n) → Strict p b n
    strict_less s = record { irr = λ x h. s.irr x (has_more h); trans = λ x y z hx hy hz. s.trans x y z (has_more hx) (has_more hy) (has_more hz) }

    module _ (n : ℕ) (s : Strict p b (suc n)) where
      top-pick : (r : ℕ) (c : Bool) → b n r ≡ c → Has p (suc n) n → Top p b n r → TopIs p b (suc n) (cond c (some n) (some r))
      top-pick r true e hn h =
          record {
            is = hn;
            none_better = λ k l. elim (ℕ_discrete k n) [
              | yes q ↦ subst (λ (j : ℕ). b j n ≡ false) (sym q) (s.irr n hn)
              | no q ↦ not-true (b k n) (λ f. clash (s.trans k n r l hn (has_more h.is) f e) (h.none_better k (has_less l q)))
            ];
          }
      top-pick r false e hn h =
          record {
            is = has_more h.is;
            none_better = λ k l. elim (ℕ_discrete k n) [ yes q ↦ subst (λ (j : ℕ). b j r ≡ false) (sym q) e | no q ↦ h.none_better k (has_less l q) ];
          }

      top-step : (c : Bool) (a : Option ℕ) → p n ≡ c → TopIs p b n a → TopIs p b (suc n) (cond c (improve b n a) a)
      top-step false none e h = λ k l. h k (has_same e l)
      top-step false (some r) e h = record { is = has_more h.is; none_better = λ k l. h.none_better k (has_same e l) }
      top-step true none e h = record {
        is = here e;
        none_better = λ k l. elim (ℕ_discrete k n) [ yes q ↦ subst (λ (j : ℕ). b j n ≡ false) (sym q) (s.irr n (here e)) | no q ↦ absurd (h k (has_less l q)) ];
      }
      top-step true (some r) e h = top-pick r (b n r) refl (here e) h

    pub best-top : (n : ℕ) → Strict p b n → TopIs p b n (best p b n)
    best-top zero s = λ k l. not-suc-le-zero l.below
    best-top (suc n) s = top-step n s (p n) (best p b n) refl (best-top n (strict_less s))

    pub none_better : (n r k : ℕ) → Strict p b n → best p b n ≡ some r → Has p n k → b k r ≡ false
    none_better n r k s e h = let t : Top p b n r = subst (TopIs p b n) e (best-top n s) in t.none_better k h

    -- ── any two candidates differ: the best beats every other ──

    order_less : {n : ℕ} → Order p b (suc n) → Order p b n
    order_less o = record {
      trans = λ x y z hx hy hz. o.trans x y z (has_more hx) (has_more hy) (has_more hz);
      total = λ x y hx hy. o.total x y (has_more hx) (has_more hy);
    }

    module _ (n : ℕ) (o : Order p b (suc n)) where
      pick : (r : ℕ) (c : Bool) → b n r ≡ c → Has p (suc n) n → Best p b n r → BestIs p b (suc n) (cond c (some n) (some r))
      pick r true e hn h =
          record {
            is = hn;
            beats = λ k l d. elim (ℕ_discrete k r) [
              | yes s ↦ subst (λ (j : ℕ). b n j ≡ true) (sym s) e
              | no s ↦ o.trans n r k hn (has_more h.is) l e (h.beats k (has_less l d) s)
            ];
          }
      pick r false e hn h =
          record {
            is = has_more h.is;
            beats = λ k l d. elim (ℕ_discrete k n) [
              | yes s ↦ subst (λ (j : ℕ). b r j ≡ true) (sym s) (o.total n r hn (has_more h.is) (λ q. d (s ∙ q)) e)
              | no s ↦ h.beats k (has_less l s) d
            ];
          }

      step : (c : Bool) (a : Option ℕ) → p n ≡ c → BestIs p b n a → BestIs p b (suc n) (cond c (improve b n a) a)
      step false none e h = λ k l. h k (has_same e l)
      step false (some r) e h = record { is = has_more h.is; beats = λ k l d. h.beats k (has_same e l) d }
      step true none e h = record { is = here e; beats = λ k l d. absurd (h k (has_less l d)) }
      step true (some r) e h = pick r (b n r) refl (here e) h

    pub best_is : (n : ℕ) → Order p b n → BestIs p b n (best p b n)
    best_is zero o = λ k l. not-suc-le-zero l.below
    best_is (suc n) o = step n o (p n) (best p b n) refl (best_is n (order_less o))

    -- where b is asymmetric too there is one best
    pub best-unique : (n r s : ℕ) → ((x y : ℕ) → Has p n x → Has p n y → b x y ≡ true → b y x ≡ false) → Best p b n r → Best p b n s → r ≡ s
    best-unique n r s asym h l =
        elim (ℕ_discrete r s) [
          | yes e ↦ e
          | no e ↦ absurd (clash (l.beats r h.is e) (asym r s h.is l.is (h.beats s l.is (λ q. e (sym q)))))
        ]

    some_is : (n r : ℕ) (a : Option ℕ) → BestIs p b n a → ((x y : ℕ) → Has p n x → Has p n y → b x y ≡ true → b y x ≡ false) → Best p b n r → a ≡ some r
    some_is n r none h asym l = absurd (h r l.is)
    some_is n r (some s) h asym l = ap some (best-unique n s r asym h l)

    pub best_some : (n r : ℕ) → Order p b n → ((x y : ℕ) → Has p n x → Has p n y → b x y ≡ true → b y x ≡ false) → Best p b n r → best p b n ≡ some r
    best_some n r o = some_is n r (best p b n) (best_is n o)

    none_by : (n : ℕ) (a : Option ℕ) → Found n a → ((k : ℕ) → Has p n k → ⊥) → a ≡ none
    none_by n none h l = refl
    none_by n (some s) h l = absurd (l s h)

    -- with no candidate nothing is found
    pub best_none : (n : ℕ) → ((k : ℕ) → Has p n k → ⊥) → best p b n ≡ none
    best_none n = none_by n (best p b n) (found n)
