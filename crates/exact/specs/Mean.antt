-- A number between two: where x/c = f + (n/d)·u with 0 ≤ n ≤ d, it is no greater than what f and f + u are not greater than, and no less than what they are not less than.
-- Assumes nothing.
use Rattle.std.specs.Prelude.{◌≡◌, [], ◌∷◌, ℤ, pos, negsuc, ◌+ℤ◌, ◌-ℤ◌, ◌*ℤ◌, ◌≤ℤ◌, ◌<ℤ◌}
use Rattle.exact.specs.Solve.{ring, reify}
use Rattle.exact.specs.Order.{<→≤, ≤→0≤, 0≤→≤, 0≤-*}
use Rattle.exact.specs.Mul.{≡-by₁, 0≤-by, 0≤-+, 0≤-cancel}

module _ (f u n d x c M : ℤ) (e : x *ℤ d ≡ (f *ℤ d +ℤ n *ℤ u) *ℤ c) where
  -- d·(M·c - x) = c·((M - f)·(d - n) + (M - (f + u))·n)
  pub mean-most : f ≤ℤ M → (f +ℤ u) ≤ℤ M → pos 0 ≤ℤ n → n ≤ℤ d → pos 0 <ℤ d → pos 0 <ℤ c → x ≤ℤ (M *ℤ c)
  mean-most hf hh h0 hd d0 c0 =
      0≤→≤ x (M *ℤ c)
      (0≤-cancel d (M *ℤ c -ℤ x) d0 (0≤-by (≡-by₁ e (negsuc 0) (ring (f ∷ u ∷ n ∷ d ∷ x ∷ c ∷ M ∷ []) (search reify depth 20) tt))
      (0≤-* {a = c} {b = (M -ℤ f) *ℤ (d -ℤ n) +ℤ (M -ℤ (f +ℤ u)) *ℤ n} (<→≤ c0)
      (0≤-+ (0≤-* (≤→0≤ {a = f} {b = M} hf) (≤→0≤ {a = n} {b = d} hd)) (0≤-* (≤→0≤ {a = f +ℤ u} {b = M} hh) h0)))))

  -- d·(x - M·c) = c·((f - M)·(d - n) + (f + u - M)·n)
  pub mean-least : M ≤ℤ f → M ≤ℤ (f +ℤ u) → pos 0 ≤ℤ n → n ≤ℤ d → pos 0 <ℤ d → pos 0 <ℤ c → (M *ℤ c) ≤ℤ x
  mean-least hf hh h0 hd d0 c0 =
      0≤→≤ (M *ℤ c) x
      (0≤-cancel d (x -ℤ M *ℤ c) d0 (0≤-by (≡-by₁ e (pos 1) (ring (f ∷ u ∷ n ∷ d ∷ x ∷ c ∷ M ∷ []) (search reify depth 20) tt))
      (0≤-* {a = c} {b = (f -ℤ M) *ℤ (d -ℤ n) +ℤ (f +ℤ u -ℤ M) *ℤ n} (<→≤ c0)
      (0≤-+ (0≤-* (≤→0≤ {a = M} {b = f} hf) (≤→0≤ {a = n} {b = d} hd)) (0≤-* (≤→0≤ {a = M} {b = f +ℤ u} hh) h0)))))
