-- Between t and the one before it in a cycle there is none: over any order, with `Prev` of Cyclic. For half-edges by origin and angle this is
-- what "the first outgoing half-edge clockwise" means. Assumes nothing.
use Rattle.std.specs.Prelude.{◌≡◌, refl, ◌<◌}
use Rattle.std.proofs.Common.{sym, ◌∙◌, subst}
use Rattle.seq.specs.Seq.{Bool, true, false, ℕ}
use Rattle.seq.specs.Terms.{Best, marked, Ranked, others, sooner_by, previous}
use Rattle.seq.specs.Tests.{clash, never}
use Rattle.seq.specs.Cyclic.{asym, Prev, alone, other, prev_is, prev-group, prev_below, has_other}

both_marked : (b s : Bool) → b ≡ true → marked true b s ≡ true → s ≡ true
both_marked true s e f = f
both_marked false s e f = never e

none_marked : (b s : Bool) → marked false b s ≡ true → (b ≡ false) × (s ≡ true)
none_marked true s f = never f
none_marked false s f = (refl, f)

module _ (o : ℕ → ℕ) (less : ℕ → ℕ → Bool) (n : ℕ) where
  -- going down from t, and on from the top, r is the first of t's group: r is less than t and none lies between, or none is less than t and none
  -- greater than r
  pub data Downward (t r : ℕ) : Type 0 where
    inner : less r t ≡ true → ((k : ℕ) → k < n → o k ≡ o t → less r k ≡ true → less k t ≡ true → ⊥) → Downward t r
    wrap : ((k : ℕ) → k < n → o k ≡ o t → less k t ≡ true → ⊥) → ((k : ℕ) → k < n → o k ≡ o t → less r k ≡ true → ⊥) → Downward t r

  module _ (R : Ranked o less n) (t r : ℕ) (lt : t < n) (lr : r < n) (g : o r ≡ o t) where
    -- what is less than t is not t, what is greater than r is not r, and nothing is both less and greater than r
    not_t : (k : ℕ) → less k t ≡ true → k ≡ t → ⊥
    not_t k e q = clash (subst (λ (x : ℕ). less x t ≡ true) q e) (R.irr t lt)

    not_r : (k : ℕ) → less r k ≡ true → k ≡ r → ⊥
    not_r k e q = clash (subst (λ (x : ℕ). less r x ≡ true) q e) (R.irr r lr)

    not_both : (k : ℕ) → k < n → o k ≡ o t → less k r ≡ true → less r k ≡ true → ⊥
    not_both k l e p q = asym o less n R k r l lr (e ∙ sym g) p q

    module _ (b : Best (others o less n t) (sooner_by o less n t) n r) where
      sooner : (k : ℕ) → k < n → o k ≡ o t → (k ≡ t → ⊥) → (k ≡ r → ⊥) → (c : Bool) → less r t ≡ c → marked c (less k t) (less k r) ≡ true
      sooner k l e d m c q = subst (λ (c : Bool). marked c (less k t) (less k r) ≡ true) q (b.beats k (has_other o less n R t l e d) m)

      best_by : (c : Bool) → less r t ≡ c → Downward t r
      best_by true q = inner q (λ k l e p w. not_both k l e (both_marked (less k t) (less k r) w (sooner k l e (not_t k w) (not_r k p) true q)) p)
      best_by false q =
          wrap
          (λ k l e w. clash w (none_marked (less k t) (less k r) (sooner k l e (not_t k w) (λ x. clash (subst (λ (y : ℕ). less y t ≡ true) x w) q) false q)).0)
          (λ k l e p. not_both k l e (none_marked (less k t) (less k r) (sooner k l e (λ x. clash (subst (λ (y : ℕ). less r y ≡ true) x p) q) (not_r k p) false q)).1 p)

    prev_by : Prev o less n R t r → Downward t r
    prev_by (alone e one) = wrap (λ k l m w. not_t k w (one k l m)) (λ k l m p. not_r k p (one k l m ∙ sym e))
    prev_by (other b) = best_by b (less r t) refl

  pub previous_downward : Ranked o less n → (t : ℕ) → t < n → Downward t (previous o less n t)
  previous_downward R t l = prev_by R t (previous o less n t) l (prev_below o less n R t l) (prev-group o less n R t) (prev_is o less n R t)
