-- The one before t in a cycle. The numbers below n fall into groups by o (half-edges by origin), and `less` is a strict total order of each group
-- (by angle); `previous t` is, of t's group without t, the first going down from t and on from the top: what following takes. It is in t's
-- group, and no two numbers have the same one before them. Assumes nothing.
use Rattle.std.specs.Prelude.{◌≡◌, refl, ◌⊎◌, ◌<◌}
use Rattle.std.proofs.Common.{sym, ◌∙◌, ap, subst, inl, inr, ⊎_elim, arith, eqb-true, eq-eqb, ne_eqb}
use Rattle.std.proofs.Math.Decide.{ℕ_discrete}
use Rattle.std.proofs.lemmas.Bool.{eqb-false}
use Rattle.seq.specs.Seq.{Bool, true, false, not, Option, none, some, Option·getD, ℕ, eqb, best}
use Rattle.seq.specs.Terms.{Has, Order, Best, BestIs, marked, Ranked, others, sooner_by, previous}
use Rattle.seq.specs.Tests.{clash, never, way, not-true, and_both, and_parts, was-false}
use Rattle.seq.specs.Best.{best_is}

module _ (o : ℕ → ℕ) (less : ℕ → ℕ → Bool) (n : ℕ) where
  module _ (R : Ranked o less n) where
    pub asym : (x y : ℕ) → x < n → y < n → o x ≡ o y → less x y ≡ true → less y x ≡ true → ⊥
    asym x y hx hy e p q = clash (R.trans x y x hx hy hx e (sym e) p q) (R.irr x hx)

    module _ (t : ℕ) where
      group : {k : ℕ} → Has (others o less n t) n k → o k ≡ o t
      group {k} h = eqb-true (o k) (o t) (and_parts (eqb (o k) (o t)) (not (eqb k t)) h.has).0

      differs : {k : ℕ} → Has (others o less n t) n k → k ≡ t → ⊥
      differs {k} h = eqb-false k t (was-false (eqb k t) (and_parts (eqb (o k) (o t)) (not (eqb k t)) h.has).1)

      pub has_other : {k : ℕ} → k < n → o k ≡ o t → (k ≡ t → ⊥) → Has (others o less n t) n k
      has_other {k} l e d = record { below = l; has = and_both (eq-eqb (o k) (o t) e) (ap not (ne_eqb k t d)) }

      -- ── `sooner_by o less n t` is a strict total order of t's group without t ──

      trans_by : (x y z : ℕ) → Has (others o less n t) n x → Has (others o less n t) n y → Has (others o less n t) n z →
          (a b c : Bool) → marked a b (less y x) ≡ true → marked b c (less z y) ≡ true → marked a c (less z x) ≡ true
      trans_by x y z hx hy hz true true true p q = R.trans z y x hz.below hy.below hx.below (group hz ∙ sym (group hy)) (group hy ∙ sym (group hx)) q p
      trans_by x y z hx hy hz true true false p q = refl
      trans_by x y z hx hy hz true false true p q = never q
      trans_by x y z hx hy hz true false false p q = refl
      trans_by x y z hx hy hz false true c p q = never p
      trans_by x y z hx hy hz false false true p q = never q
      trans_by x y z hx hy hz false false false p q = R.trans z y x hz.below hy.below hx.below (group hz ∙ sym (group hy)) (group hy ∙ sym (group hx)) q p

      total_by : (x y : ℕ) → Has (others o less n t) n x → Has (others o less n t) n y → (x ≡ y → ⊥) → (a b : Bool) → marked a b (less y x) ≡ false → marked b a (less x y) ≡ true
      total_by x y hx hy d true true e = R.total y x hy.below hx.below (group hy ∙ sym (group hx)) (λ q. d (sym q)) e
      total_by x y hx hy d true false e = never (sym e)
      total_by x y hx hy d false true e = refl
      total_by x y hx hy d false false e = R.total y x hy.below hx.below (group hy ∙ sym (group hx)) (λ q. d (sym q)) e

      pub sooner-order : Order (others o less n t) (sooner_by o less n t) n
      sooner-order = record {
        trans = λ x y z hx hy hz. trans_by x y z hx hy hz (less x t) (less y t) (less z t);
        total = λ x y hx hy d. total_by x y hx hy d (less x t) (less y t);
      }

    -- ── what is before t ──

    -- r is alone with itself, or is the first of the others o less n
    pub data Prev (t r : ℕ) : Type 0 where
      alone : r ≡ t → ((k : ℕ) → k < n → o k ≡ o t → k ≡ t) → Prev t r
      other : Best (others o less n t) (sooner_by o less n t) n r → Prev t r

    prev_by : (t : ℕ) (a : Option ℕ) → BestIs (others o less n t) (sooner_by o less n t) n a → Prev t (Option·getD a t)
    prev_by t none h = alone refl (λ k l e. elim (ℕ_discrete k t) [ yes q ↦ q | no q ↦ absurd (h k (has_other t l e q)) ])
    prev_by t (some r) h = other h

    pub prev_is : (t : ℕ) → Prev t (previous o less n t)
    prev_is t = prev_by t (best (others o less n t) (sooner_by o less n t) n) (best_is (others o less n t) (sooner_by o less n t) n (sooner-order t))

    group_by : (t r : ℕ) → Prev t r → o r ≡ o t
    group_by t r (alone e h) = ap o e
    group_by t r (other h) = group t h.is

    below_by : (t r : ℕ) → t < n → Prev t r → r < n
    below_by t r l (alone e h) = omega arith
    below_by t r l (other h) = h.is.below

    pub prev-group : (t : ℕ) → o (previous o less n t) ≡ o t
    prev-group t = group_by t (previous o less n t) (prev_is t)

    pub prev_below : (t : ℕ) → t < n → previous o less n t < n
    prev_below t l = below_by t (previous o less n t) l (prev_is t)

    -- ── no two numbers have the same one before them ──

    -- going down from t, r comes before s, which is greater than t: r is less than t, or greater than s
    from_low : (a b s : Bool) → marked a b s ≡ true → b ≡ false → (a ≡ true) ⊎ (s ≡ true)
    from_low true b s e f = inl refl
    from_low false true s e f = never e
    from_low false false s e f = inr e

    -- going down from s, r comes before t, which is less than s: r is less than s, and greater than t
    from_high : (a b s : Bool) → marked a b s ≡ true → b ≡ true → (a ≡ true) × (s ≡ true)
    from_high true true s e f = (refl, e)
    from_high true false s e f = absurd (clash f refl)
    from_high false true s e f = never e
    from_high false false s e f = absurd (clash f refl)

    crowded : (t s r : ℕ) → t < n → s < n → less t s ≡ true → o t ≡ o s → Best (others o less n t) (sooner_by o less n t) n r → Best (others o less n s) (sooner_by o less n s) n r → ⊥
    crowded t s r lt ls e g h k = go (from_low (less r t) (less s t) (less s r) (h.beats s (has_other t ls (sym g) ts) (λ q. differs s k.is (sym q))) notless)
      where
        ts : s ≡ t → ⊥
        ts q = clash (subst (λ (j : ℕ). less t j ≡ true) q e) (R.irr t lt)

        notless : less s t ≡ false
        notless = not-true (less s t) (asym t s lt ls g e)

        high : (less r s ≡ true) × (less t r ≡ true)
        high = from_high (less r s) (less t s) (less t r) (k.beats t (has_other s lt g (λ q. ts (sym q))) (λ q. differs t h.is (sym q))) e

        go : (less r t ≡ true) ⊎ (less s r ≡ true) → ⊥
        go (inl p) = asym r t h.is.below lt (group t h.is) p high.1
        go (inr p) = asym s r ls h.is.below (sym (group s k.is)) p high.0

    apart : (t s r : ℕ) → t < n → s < n → o t ≡ o s → (t ≡ s → ⊥) → Prev t r → Prev s r → ⊥
    apart t s r lt ls g d (alone e h) k = d (sym (h s ls (sym g)))
    apart t s r lt ls g d (other h) (alone e k) = d (k t lt g)
    apart t s r lt ls g d (other h) (other k) =
        ⊎_elim (λ e. crowded t s r lt ls e g h k) (λ e. crowded s t r ls lt (R.total t s lt ls g d e) (sym g) k h) (way (less t s))

    pub prev-inj : (t s : ℕ) → t < n → s < n → previous o less n t ≡ previous o less n s → t ≡ s
    prev-inj t s lt ls e =
        elim (ℕ_discrete t s) [
          | yes q ↦ q
          | no q ↦ absurd (apart t s (previous o less n t) lt ls (sym (prev-group t) ∙ ap o e ∙ prev-group s) q (prev_is t) (subst (λ (r : ℕ). Prev s r) (sym e) (prev_is s)))
        ]
