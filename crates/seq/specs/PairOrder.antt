-- Pairs of numbers: in order by the first number, then by the second, a strict order in which of two that differ one is before the other; and which are equal.
-- Assumes nothing.
use Rattle.std.specs.Prelude.{◌≡◌, refl, ◌⊎◌, ◌<◌, ◌&&◌, ◌||◌}
use Rattle.std.proofs.Common.{sym, ◌∙◌, subst, inl, inr, ⊎_elim, arith, ltb-true, lt-ltb, eqb-true, eq-eqb}
use Rattle.seq.specs.Seq.{Bool, true, false, ℕ, ltb, eqb}
use Rattle.seq.specs.Terms.{Transitive, Asymmetric}
use Rattle.seq.specs.Tests.{clash, not-true, or_l, or_r, or_cases, and_both, and_parts}

abbrev pub pair_before : ℕ × ℕ → ℕ × ℕ → Bool
pair_before p q = ltb p.0 q.0 || (eqb p.0 q.0 && ltb p.1 q.1)

abbrev pub same_pair : ℕ × ℕ → ℕ × ℕ → Bool
same_pair p q = eqb p.0 q.0 && eqb p.1 q.1

-- ── the order ──

abbrev pub Less : ℕ × ℕ → ℕ × ℕ → Type 0
Less p q = (p.0 < q.0) ⊎ ((p.0 ≡ q.0) × (p.1 < q.1))

pub before_is : (p q : ℕ × ℕ) → pair_before p q ≡ true → Less p q
before_is p q e =
    ⊎_elim (λ f. inl (ltb-true p.0 q.0 f))
    (λ f. let r = and_parts (eqb p.0 q.0) (ltb p.1 q.1) f in inr (eqb-true p.0 q.0 r.0, ltb-true p.1 q.1 r.1))
    (or_cases (ltb p.0 q.0) (eqb p.0 q.0 && ltb p.1 q.1) e)

pub is_before : (p q : ℕ × ℕ) → Less p q → pair_before p q ≡ true
is_before p q (inl l) = or_l (eqb p.0 q.0 && ltb p.1 q.1) (lt-ltb p.0 q.0 l)
is_before p q (inr (e, l)) = or_r (ltb p.0 q.0) (and_both {a = eqb p.0 q.0} (eq-eqb p.0 q.0 e) (lt-ltb p.1 q.1 l))

less_asym : (p q : ℕ × ℕ) → Less p q → Less q p → ⊥
less_asym p q (inl a) (inl b) = omega arith
less_asym p q (inl a) (inr (e, b)) = omega arith
less_asym p q (inr (e, a)) (inl b) = omega arith
less_asym p q (inr (e, a)) (inr (f, b)) = omega arith

less_trans : (p q r : ℕ × ℕ) → Less p q → Less q r → Less p r
less_trans p q r (inl a) (inl b) = inl (omega arith)
less_trans p q r (inl a) (inr (f, b)) = inl (omega arith)
less_trans p q r (inr (e, a)) (inl b) = inl (omega arith)
less_trans p q r (inr (e, a)) (inr (f, b)) = inr (e ∙ f, omega arith)

pub pair-asym : Asymmetric pair_before
pair-asym p q e f = less_asym p q (before_is p q e) (before_is q p f)

pub pair-irr : (p : ℕ × ℕ) → pair_before p p ≡ true → ⊥
pair-irr p e = pair-asym p p e e

abbrev pub Any : ℕ × ℕ → Type 0
Any p = Unit {0}

pub pair-trans : Transitive pair_before Any
pair-trans p q r a b c e f = is_before p r (less_trans p q r (before_is p q e) (before_is q r f))

-- ── equality ──

pub pair_eq : (p q : ℕ × ℕ) → p.0 ≡ q.0 → p.1 ≡ q.1 → p ≡ q
pair_eq p q e f = λ i. (e i, f i)

pub same_pair_is : (p q : ℕ × ℕ) → same_pair p q ≡ true → p ≡ q
same_pair_is p q e = let r = and_parts (eqb p.0 q.0) (eqb p.1 q.1) e in pair_eq p q (eqb-true p.0 q.0 r.0) (eqb-true p.1 q.1 r.1)

pub same_pair-self : (p : ℕ × ℕ) → same_pair p p ≡ true
same_pair-self p = and_both {a = eqb p.0 p.0} (eq-eqb p.0 p.0 refl) (eq-eqb p.1 p.1 refl)

pub is_same_pair : (p q : ℕ × ℕ) → p ≡ q → same_pair p q ≡ true
is_same_pair p q e = subst (λ (r : ℕ × ℕ). same_pair p r ≡ true) e (same_pair-self p)

pub not_same : (p q : ℕ × ℕ) → (p ≡ q → ⊥) → same_pair p q ≡ false
not_same p q d = not-true (same_pair p q) (λ e. d (same_pair_is p q e))

-- of two pairs one is before the other, or they are one
pub pair_one : (p q : ℕ × ℕ) → pair_before p q ≡ false → pair_before q p ≡ false → p ≡ q
pair_one p q e f =
    let a : (p.0 < q.0 → ⊥) = λ l. clash (is_before p q (inl l)) e in
    let b : (q.0 < p.0 → ⊥) = λ l. clash (is_before q p (inl l)) f in
    let z : p.0 ≡ q.0 = omega (arith, a, b) in
    let c : (p.1 < q.1 → ⊥) = λ l. clash (is_before p q (inr (z, l))) e in
    let d : (q.1 < p.1 → ⊥) = λ l. clash (is_before q p (inr (sym z, l))) f in
    pair_eq p q z (omega (arith, c, d))
