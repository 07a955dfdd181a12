-- Linear arithmetic on ℤ by `omega`. A term over the atoms ρ is read as a polynomial (Solve), and a polynomial as two sums of natural numbers, in which
-- each monomial m counts as `pp m` and `np m` and each coefficient as a numeral; so a statement of ℤ is equivalent to one of ℕ that is linear in the
-- monomials. `search sq` reads the statement, a sequent of ≤ℤ, <ℤ, ≡, →, ×, ⊥:
--     zomega (a ∷ b ∷ []) (search sq depth 20) (omega arith) : A
-- In order: the parts of a polynomial, sequents, `zomega`. Assumes nothing.
use Rattle.std.specs.Prelude.{◌≡◌, List, ℕ, suc, ◌+◌, ◌*◌, ◌≤◌, ◌<◌, ℤ, pos, negsuc, ◌+ℤ◌, ◌*ℤ◌, ◌≤ℤ◌, ◌<ℤ◌}
use Rattle.std.proofs.Common.{sym, ◌∙◌, ap, subst, arith}
use Rattle.exact.specs.Ring.{*ℤ-distl, *ℤ-assoc}
use Rattle.exact.specs.Solve.{P as Poly, pc, px, norm, ev, ev-norm, nth, Re, reify}
use Rattle.exact.specs.Parts.{pp, np, Is, is-+, is-*, ≤-to, ≤-of, <-to, <-of, ≡-to, ≡-of}

-- ---- the two parts of a polynomial in normal form
pub is_sum : (x y : ℤ) (p n q k : ℕ) → Is x p n → Is y q k → Is (x +ℤ y) (p + q) (n + k)
is_sum x y p n q k e f = omega (arith, is-+ x y)

-- m times a coefficient
abbrev pub p_c : ℤ → ℤ → ℕ
p_c m (pos n) = n * pp m
p_c m (negsuc n) = suc n * np m

abbrev pub n_c : ℤ → ℤ → ℕ
n_c m (pos n) = n * np m
n_c m (negsuc n) = suc n * pp m

is_C : (m c : ℤ) → Is (m *ℤ c) (p_c m c) (n_c m c)
is_C m (pos n) = omega (arith, is-* m (pos n))
is_C m (negsuc n) = omega (arith, is-* m (negsuc n))

module _ (ρ : List ℤ) where
  -- m times a polynomial, and a polynomial
  abbrev pub p_m : ℤ → Poly → ℕ
  p_m m (pc c) = p_c m c
  p_m m (px i p q) = p_m (m *ℤ nth ρ i) p + p_m m q

  abbrev pub n_m : ℤ → Poly → ℕ
  n_m m (pc c) = n_c m c
  n_m m (px i p q) = n_m (m *ℤ nth ρ i) p + n_m m q

  abbrev pub p_t : Poly → ℕ
  p_t (pc c) = pp c
  p_t (px i p q) = p_m (nth ρ i) p + p_t q

  abbrev pub n_t : Poly → ℕ
  n_t (pc c) = np c
  n_t (px i p q) = n_m (nth ρ i) p + n_t q

  is_M : (m : ℤ) (p : Poly) → Is (m *ℤ ev ρ p) (p_m m p) (n_m m p)
  is_M m (pc c) = is_C m c
  is_M m (px i p q) =
      subst (λ (z : ℤ). Is z (p_m m (px i p q)) (n_m m (px i p q)))
      (sym (*ℤ-distl m (nth ρ i *ℤ ev ρ p) (ev ρ q) ∙ ap (λ (z : ℤ). z +ℤ m *ℤ ev ρ q) (sym (*ℤ-assoc m (nth ρ i) (ev ρ p)))))
      (is_sum ((m *ℤ nth ρ i) *ℤ ev ρ p) (m *ℤ ev ρ q) (p_m (m *ℤ nth ρ i) p) (n_m (m *ℤ nth ρ i) p) (p_m m q) (n_m m q) (is_M (m *ℤ nth ρ i) p) (is_M m q))

  is_T : (p : Poly) → Is (ev ρ p) (p_t p) (n_t p)
  is_T (pc c) = omega arith
  is_T (px i p q) = is_sum (nth ρ i *ℤ ev ρ p) (ev ρ q) (p_m (nth ρ i) p) (n_m (nth ρ i) p) (p_t q) (n_t q) (is_M (nth ρ i) p) (is_T q)

  -- of a term that was read
  abbrev pub P : {x : ℤ} → Re ρ x → ℕ
  P r = p_t (norm r.e)

  abbrev pub N : {x : ℤ} → Re ρ x → ℕ
  N r = n_t (norm r.e)

  is_re : {x : ℤ} (r : Re ρ x) → Is x (P r) (N r)
  is_re r = subst (λ (z : ℤ). Is z (P r) (N r)) (ev-norm ρ r.e ∙ r.is) (is_T (norm r.e))

-- ---- sequents: a statement of ℤ and the statement of ℕ that it is equivalent to
pub record Sq (ρ : List ℤ) (A : Type 0) : Type 1 where
  pub nat : Type 0
  pub to : A → nat
  pub of : nat → A

module _ {ρ : List ℤ} where
  pub ≤to : {x y : ℤ} (a : Re ρ x) (b : Re ρ y) → x ≤ℤ y → P ρ a + N ρ b ≤ P ρ b + N ρ a
  ≤to {x} {y} a b h = omega (arith, ≤-to x y h, is_re ρ a, is_re ρ b)

  pub ≤of : {x y : ℤ} (a : Re ρ x) (b : Re ρ y) → P ρ a + N ρ b ≤ P ρ b + N ρ a → x ≤ℤ y
  ≤of {x} {y} a b h = ≤-of x y (omega (arith, is_re ρ a, is_re ρ b))

  pub <to : {x y : ℤ} (a : Re ρ x) (b : Re ρ y) → x <ℤ y → P ρ a + N ρ b < P ρ b + N ρ a
  <to {x} {y} a b h = omega (arith, <-to x y h, is_re ρ a, is_re ρ b)

  pub <of : {x y : ℤ} (a : Re ρ x) (b : Re ρ y) → P ρ a + N ρ b < P ρ b + N ρ a → x <ℤ y
  <of {x} {y} a b h = <-of x y (omega (arith, is_re ρ a, is_re ρ b))

  pub ≡to : {x y : ℤ} (a : Re ρ x) (b : Re ρ y) → x ≡ y → P ρ a + N ρ b ≡ P ρ b + N ρ a
  ≡to {x} {y} a b h = omega (arith, ≡-to x y h, is_re ρ a, is_re ρ b)

  pub ≡of : {x y : ℤ} (a : Re ρ x) (b : Re ρ y) → P ρ a + N ρ b ≡ P ρ b + N ρ a → x ≡ y
  ≡of {x} {y} a b h = ≡-of x y (omega (arith, is_re ρ a, is_re ρ b))

  abbrev pub sq≤ : {x y : ℤ} → Re ρ x → Re ρ y → Sq ρ (x ≤ℤ y)
  sq≤ a b = record { nat = P ρ a + N ρ b ≤ P ρ b + N ρ a; to = ≤to a b; of = ≤of a b }

  abbrev pub sq< : {x y : ℤ} → Re ρ x → Re ρ y → Sq ρ (x <ℤ y)
  sq< a b = record { nat = P ρ a + N ρ b < P ρ b + N ρ a; to = <to a b; of = <of a b }

  abbrev pub sq≡ : {x y : ℤ} → Re ρ x → Re ρ y → Sq ρ (x ≡ y)
  sq≡ a b = record { nat = P ρ a + N ρ b ≡ P ρ b + N ρ a; to = ≡to a b; of = ≡of a b }

  abbrev pub sq→ : {A B : Type 0} → Sq ρ A → Sq ρ B → Sq ρ (A → B)
  sq→ s t = record { nat = s.nat → t.nat; to = λ f n. t.to (f (s.of n)); of = λ f a. t.of (f (s.to a)) }

  abbrev pub sq× : {A B : Type 0} → Sq ρ A → Sq ρ B → Sq ρ (A × B)
  sq× s t = record { nat = s.nat × t.nat; to = λ p. (s.to p.0, t.to p.1); of = λ p. (s.of p.0, t.of p.1) }

  abbrev pub sq⊥ : Sq ρ ⊥
  sq⊥ = record { nat = ⊥; to = λ x. x; of = λ x. x }

pub ruleset sq = (sq≤, sq<, sq≡, sq→, sq×, sq⊥, reify)

pub zomega : (ρ : List ℤ) {A : Type 0} (s : Sq ρ A) → s.nat → A
zomega ρ s n = s.of n
