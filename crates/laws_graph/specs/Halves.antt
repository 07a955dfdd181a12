-- The numbering of half-edges: 2k and 2k + 1 are the two of edge k, and each is the other's twin. Assumes nothing.
use Rattle.std.specs.Prelude.{◌≡◌, refl, ◌<◌, ◌+◌, ◌*◌, ◌-◌, ◌/◌, ◌%◌}
use Rattle.std.proofs.Common.{sym, ◌∙◌, ap, arith, eqb-true, eq-eqb, ne_eqb}
use Rattle.std.proofs.lemmas.Bool.{eqb-false}
use Rattle.seq.specs.Seq.{Bool, true, false, cond, not, ℕ}
use Rattle.paper.specs.Graph.{Graph, edge_count, the_half_count, edge, even, twin, origin}

-- ── twins ──

twin-even_by : (h : ℕ) (c : Bool) → even h ≡ c → even (cond c (h + 1) (h - 1)) ≡ not c
twin-even_by h true e = ne_eqb ((h + 1) % 2) 0 (λ q. omega (arith, eqb-true (h % 2) 0 e))
twin-even_by h false e = eq-eqb ((h - 1) % 2) 0 (omega (arith, eqb-false (h % 2) 0 e))

pub even-twin : (h : ℕ) → even (twin h) ≡ not (even h)
even-twin h = twin-even_by h (even h) refl

twin_back : (h : ℕ) (c : Bool) → even h ≡ c → cond (not c) (cond c (h + 1) (h - 1) + 1) (cond c (h + 1) (h - 1) - 1) ≡ h
twin_back h true e = omega arith
twin_back h false e = omega (arith, eqb-false (h % 2) 0 e)

pub twin-twin : (h : ℕ) → twin (twin h) ≡ h
twin-twin h = ap (λ (c : Bool). cond c (twin h + 1) (twin h - 1)) (even-twin h) ∙ twin_back h (even h) refl

pub twin-once : (h k : ℕ) → twin h ≡ twin k → h ≡ k
twin-once h k e = sym (twin-twin h) ∙ ap twin e ∙ twin-twin k

twin-half_by : (h : ℕ) (c : Bool) → even h ≡ c → cond c (h + 1) (h - 1) / 2 ≡ h / 2
twin-half_by h true e = omega (arith, eqb-true (h % 2) 0 e)
twin-half_by h false e = omega (arith, eqb-false (h % 2) 0 e)

pub twin-half : (h : ℕ) → twin h / 2 ≡ h / 2
twin-half h = twin-half_by h (even h) refl

twin_below_by : (h n : ℕ) (c : Bool) → even h ≡ c → h < 2 * n → cond c (h + 1) (h - 1) < 2 * n
twin_below_by h n true e l = omega (arith, eqb-true (h % 2) 0 e)
twin_below_by h n false e l = omega (arith, eqb-false (h % 2) 0 e)

pub twin_below : (g : Graph) (h : ℕ) → h < the_half_count g → twin h < the_half_count g
twin_below g h l = twin_below_by h (edge_count g) (even h) refl l

pub half_below : (g : Graph) (h : ℕ) → h < the_half_count g → h / 2 < edge_count g
half_below g h l = omega arith

-- ── the two half-edges of edge k ──

module _ (k : ℕ) where
  pub even_double : even (2 * k) ≡ true
  even_double = eq-eqb (2 * k % 2) 0 (omega arith)

  pub odd_double : even (2 * k + 1) ≡ false
  odd_double = ne_eqb ((2 * k + 1) % 2) 0 (λ e. omega arith)

  pub twin_first : twin (2 * k) ≡ 2 * k + 1
  twin_first = ap (λ (c : Bool). cond c (2 * k + 1) (2 * k - 1)) even_double

  pub twin-second : twin (2 * k + 1) ≡ 2 * k
  twin-second = let q : 2 * k + 1 - 1 ≡ 2 * k = omega arith in ap (λ (c : Bool). cond c (2 * k + 1 + 1) (2 * k + 1 - 1)) odd_double ∙ q

  pub half_first : 2 * k / 2 ≡ k
  half_first = omega arith

  pub half-second : (2 * k + 1) / 2 ≡ k
  half-second = omega arith

  pub first_below : (g : Graph) → k < edge_count g → 2 * k < the_half_count g
  first_below g l = omega arith

  pub second_below : (g : Graph) → k < edge_count g → 2 * k + 1 < the_half_count g
  second_below g l = omega arith

  pub origin_first : (g : Graph) → origin g (2 * k) ≡ (edge g k).from
  origin_first g = λ i. cond (even_double i) (edge g (half_first i)).from (edge g (half_first i)).to

  pub origin-second : (g : Graph) → origin g (2 * k + 1) ≡ (edge g k).to
  origin-second g = λ i. cond (odd_double i) (edge g (half-second i)).from (edge g (half-second i)).to

-- h is one of the two of its edge
pub data Which (h : ℕ) : Type 0 where
  first : h ≡ 2 * (h / 2) → Which h
  second : h ≡ 2 * (h / 2) + 1 → Which h

pub which : (h : ℕ) → Which h
which h = go (even h) refl
  where
    go : (c : Bool) → even h ≡ c → Which h
    go true e = first (omega (arith, eqb-true (h % 2) 0 e))
    go false e = second (omega (arith, eqb-false (h % 2) 0 e))
