-- The cut lemma. Edges are the numbers below m, each from a vertex `low e` to a vertex `high e` (numbers below n), with a weight `w e`. A cut is a test on
-- edges; its potential is the weight of the edges that pass. If the weights are balanced at every vertex, then a change of the test that is, edge by edge,
-- [Z (low e)] - [Z (high e)] for some test Z on vertices, does not change the potential.
-- Nothing geometric is here. Assumes nothing.
use Rattle.std.specs.Prelude.{◌≡◌, Bool, [], ◌∷◌, ℕ, ◌<◌, eqb, ℤ, pos, ◌-ℤ◌, ◌*ℤ◌}
use Rattle.std.proofs.Math.Path.{sym, ap}
use Rattle.std.proofs.Common.{◌∙◌}
use Rattle.std.proofs.Math.Bool.{false}
use Rattle.std.proofs.Math.IntN.{zero-*ℤ, *ℤ-zero, +ℤ_invr, ℤ_discrete}
use Rattle.exact.specs.Ring.{*ℤ-swapl}
use Rattle.exact.specs.Solve.{ring, reify, sub-zero→}
use Rattle.exact.specs.Mul.{≡-by₁}
use Rattle.seq.specs.Terms.{sum, upto, ind}
use Rattle.seq.specs.Sum.{upto-<, sum-ext, sum-*, exchange, delta, sum_none, sum--}
use Rattle.seq.specs.Tests.{eqb_swap}

-- the potential of a cut
unfoldable pub Φ : ℕ → (ℕ → ℤ) → (ℕ → Bool) → ℤ
Φ m w C = sum (upto m) (λ e. ind (C e) *ℤ w e)

-- the weight of the edges that have the end z, by the end that `end` picks
unfoldable pub weight_at : ℕ → (ℕ → ℤ) → (ℕ → ℕ) → ℕ → ℤ
weight_at m w end z = sum (upto m) (λ e. ind (eqb (end e) z) *ℤ w e)

pub record Balanced (m n : ℕ) (low high : ℕ → ℕ) (w : ℕ → ℤ) : Type 0 where
  pub low-< : (e : ℕ) → e < m → low e < n
  pub high-< : (e : ℕ) → e < m → high e < n
  pub balance : (z : ℕ) → weight_at m w low z ≡ weight_at m w high z

module _ (m : ℕ) (w : ℕ → ℤ) where
  -- a term of the sum changes only where the edge weighs something
  term : (a b : Bool) (e : ℕ) → ((w e ≡ pos 0 → ⊥) → a ≡ b) → ind a *ℤ w e ≡ ind b *ℤ w e
  term a b e h =
      elim (ℤ_discrete (w e) (pos 0)) [
        | yes z ↦ ap (λ (t : ℤ). ind a *ℤ t) z ∙ *ℤ-zero (ind a) ∙ sym (ap (λ (t : ℤ). ind b *ℤ t) z ∙ *ℤ-zero (ind b))
        | no n ↦ ap (λ (c : Bool). ind c *ℤ w e) (h n)
      ]

  -- a test that is the same on every edge that weighs something has the same potential
  pub Φ-ext : (C₁ C₂ : ℕ → Bool) → ((e : ℕ) → e < m → (w e ≡ pos 0 → ⊥) → C₁ e ≡ C₂ e) → Φ m w C₁ ≡ Φ m w C₂
  unfolding Φ
  Φ-ext C₁ C₂ h = sum-ext (upto m) (λ e i. term (C₁ e) (C₂ e) e (h e (upto-< m i)))

  -- no edge that weighs something passes
  pub Φ-none : (C : ℕ → Bool) → ((e : ℕ) → e < m → (w e ≡ pos 0 → ⊥) → C e ≡ false) → Φ m w C ≡ pos 0
  unfolding Φ
  Φ-none C h = sum_none (upto m) (λ e i. term (C e) false e (h e (upto-< m i)) ∙ zero-*ℤ (w e))

  -- two tests that differ at one edge only
  pub Φ-one : (C₁ C₂ : ℕ → Bool) (k : ℕ) → k < m → ((e : ℕ) → e < m → ind (C₂ e) -ℤ ind (C₁ e) ≡ ind (eqb e k)) → Φ m w C₂ -ℤ Φ m w C₁ ≡ w k
  unfolding Φ
  Φ-one C₁ C₂ k l h =
      sym (sum-- (upto m) (λ e. ind (C₂ e) *ℤ w e) (λ e. ind (C₁ e) *ℤ w e))
      ∙ sum-ext (upto m) (λ e i. law (ind (C₂ e)) (ind (C₁ e)) (w e) ∙ ap (λ (t : ℤ). t *ℤ w e) (h e (upto-< m i)))
      ∙ delta m k w l
    where
      law : (a b c : ℤ) → a *ℤ c -ℤ b *ℤ c ≡ (a -ℤ b) *ℤ c
      law a b c = ring (a ∷ b ∷ c ∷ []) (search reify depth 20) tt

  -- a test of one end, summed over edges, is summed over vertices
  by_vertex : (n : ℕ) (end : ℕ → ℕ) → ((e : ℕ) → e < m → end e < n) → (Z : ℕ → Bool) →
      sum (upto m) (λ e. ind (Z (end e)) *ℤ w e) ≡ sum (upto n) (λ z. ind (Z z) *ℤ weight_at m w end z)
  unfolding weight_at
  by_vertex n end bound Z =
      sum-ext (upto m) (λ e i. sym (delta n (end e) (λ z. ind (Z z) *ℤ w e) (bound e (upto-< m i))))
      ∙ exchange (upto m) (upto n) (λ e z. ind (eqb z (end e)) *ℤ (ind (Z z) *ℤ w e))
      ∙ sum-ext (upto n) (λ z i. sum-ext (upto m) (λ e k. turn e z) ∙ sum-* (upto m) (ind (Z z)) (λ e. ind (eqb (end e) z) *ℤ w e))
    where
      turn : (e z : ℕ) → ind (eqb z (end e)) *ℤ (ind (Z z) *ℤ w e) ≡ ind (Z z) *ℤ (ind (eqb (end e) z) *ℤ w e)
      turn e z =
          ap (λ (b : Bool). ind b *ℤ (ind (Z z) *ℤ w e)) (eqb_swap z (end e))
          ∙ *ℤ-swapl (ind (eqb (end e) z)) (ind (Z z)) (w e)

module _ {m n : ℕ} {low high : ℕ → ℕ} {w : ℕ → ℤ} (b : Balanced m n low high w) where
  flow : (Z : ℕ → Bool) → sum (upto m) (λ e. ind (Z (low e)) *ℤ w e) ≡ sum (upto m) (λ e. ind (Z (high e)) *ℤ w e)
  flow Z =
      by_vertex m w n low b.low-< Z
      ∙ sum-ext (upto n) (λ z i. ap (λ (t : ℤ). ind (Z z) *ℤ t) (b.balance z))
      ∙ sym (by_vertex m w n high b.high-< Z)

  -- the cut lemma
  pub cut : (C₁ C₂ Z : ℕ → Bool) → ((e : ℕ) → e < m → ind (C₂ e) -ℤ ind (C₁ e) ≡ ind (Z (low e)) -ℤ ind (Z (high e))) → Φ m w C₂ ≡ Φ m w C₁
  unfolding Φ
  cut C₁ C₂ Z h =
      let es = upto m in
      sub-zero→ (Φ m w C₂) (Φ m w C₁)
      (sym (sum-- es (λ e. ind (C₂ e) *ℤ w e) (λ e. ind (C₁ e) *ℤ w e))
      ∙ sum-ext es (λ e i. times (ind (C₂ e)) (ind (C₁ e)) (ind (Z (low e))) (ind (Z (high e))) (w e) (h e (upto-< m i)))
      ∙ sum-- es (λ e. ind (Z (low e)) *ℤ w e) (λ e. ind (Z (high e)) *ℤ w e)
      ∙ ap (λ (t : ℤ). t -ℤ sum es (λ e. ind (Z (high e)) *ℤ w e)) (flow Z)
      ∙ +ℤ_invr (sum es (λ e. ind (Z (high e)) *ℤ w e)))
    where
      times : (a b c d k : ℤ) → a -ℤ b ≡ c -ℤ d → a *ℤ k -ℤ b *ℤ k ≡ c *ℤ k -ℤ d *ℤ k
      times a b c d k e = ≡-by₁ e k (ring (a ∷ b ∷ c ∷ d ∷ k ∷ []) (search reify depth 20) tt)
