-- Two coordinates n/d and m/e on the machine. First what is read back of one, and what small and middling ones are bounded by; then that the products
-- n·e and m·d fit by the short way (`first_fits`, `second_fits`) and are what they say (`short`, `short_test`); that they are factors of `products` in any case (`factors`,
-- `long`); one denominator (`level-number`); two points by their numbers alone (`first_level`, `same_level`); last the coordinates of two points, and their order where they have one
-- denominator (`level-order`). Assumes nothing.
use mathlib.Core.Path.{◌≡◌, refl, sym, ◌∙◌, ap, subst}
use mathlib.Core.Bool.{true, false, ◌&&◌}
use mathlib.Core.List.{[], ◌∷◌}
use mathlib.Core.Logic.{◌⊎◌, inl, inr}
use Prim.Native.Nat.{◌≤◌}
use native.Mathlib.Omega.{arith}
use lib.IntN.{ℤ, pos, negsuc, neg_ℤ, nat_abs, ◌-ℤ◌, ◌*ℤ◌}
use lib.Signed.{lt_z, ◌≤ℤ◌, ◌<ℤ◌}
use mir.Syntax.{w64}
use mir.Val.{SFits, of_z, to_z}
use Rattle.exact.specs.Lowest.{pt}
use Rattle.exact.specs.Mach.{tr, tru, fits, plain, atmost, under, abs_of}
use Rattle.exact.specs.Order.{zomega, sq}
use Rattle.exact.specs.Tests.{never, not-true, and_parts, lt_t, eq_z, eq_t, lt-sign, eq-sign}
use Rattle.seq.specs.Tests.{or_cases}
use Rattle.exact.specs.Sign.{Sign, neg, zer, plus, sgn, is_neg, is_zer, pick, lex_s}
use Rattle.exact.specs.Signs.{sgn-scale}
use Rattle.exact.specs.Solve.{ring, reify}
use Rattle.exact.specs.Words.{Factors}
use Rattle.paper.specs.Plane.{order}
use Rattle.plane.specs.Bounds.{Near, Coordinate, small, middling, short_way, level}
use Rattle.plane.proofs.Machine.{back}

-- what is read back
module _ (n d : ℤ) (P : Coordinate n d) where
  number_read : back n ≡ n
  number_read = let h = P.n_is in plain (search tr depth 20) tt

  denominator-read : back d ≡ d
  denominator-read = let h = P.d_is in plain (search tr depth 20) tt

  pub read : Coordinate (back n) (back d)
  read = subst (λ (z : ℤ). Coordinate z (back d)) (sym number_read) (subst (λ (z : ℤ). Coordinate n z) (sym denominator-read) P)

  pub same_small : small (back n) (back d) ≡ small n d
  same_small i = small (number_read i) (denominator-read i)

  pub same_middling : middling (back n) (back d) ≡ middling n d
  same_middling i = middling (number_read i) (denominator-read i)

-- what is small, and what is middling
small-number : (n : ℤ) → (lt_z (negsuc 4294967295) n && lt_z n (pos 4294967296)) ≡ true → nat_abs n ≤ 4294967296
small-number n e =
    let t = and_parts (lt_z (negsuc 4294967295) n) (lt_z n (pos 4294967296)) e in
    abs_of n 4294967296
    (zomega (n ∷ []) {A = negsuc 4294967295 <ℤ n → neg_ℤ (pos 4294967296) ≤ℤ n} (search sq depth 20) (omega arith) (lt_t t.0))
    (zomega (n ∷ []) {A = n <ℤ pos 4294967296 → n ≤ℤ pos 4294967296} (search sq depth 20) (omega arith) (lt_t t.1))

small-denominator : (d : ℤ) → pos 0 <ℤ d → lt_z d (pos 262144) ≡ true → nat_abs d ≤ 262144
small-denominator d h e =
    abs_of d 262144
    (zomega (d ∷ []) {A = pos 0 <ℤ d → neg_ℤ (pos 262144) ≤ℤ d} (search sq depth 20) (omega arith) h)
    (zomega (d ∷ []) {A = d <ℤ pos 262144 → d ≤ℤ pos 262144} (search sq depth 20) (omega arith) (lt_t e))

middling-number : (n : ℤ) → (lt_z (negsuc 68719476735) n && lt_z n (pos 68719476736)) ≡ true → nat_abs n ≤ 68719476736
middling-number n e =
    let t = and_parts (lt_z (negsuc 68719476735) n) (lt_z n (pos 68719476736)) e in
    abs_of n 68719476736
    (zomega (n ∷ []) {A = negsuc 68719476735 <ℤ n → neg_ℤ (pos 68719476736) ≤ℤ n} (search sq depth 20) (omega arith) (lt_t t.0))
    (zomega (n ∷ []) {A = n <ℤ pos 68719476736 → n ≤ℤ pos 68719476736} (search sq depth 20) (omega arith) (lt_t t.1))

middling-denominator : (d : ℤ) → pos 0 <ℤ d → lt_z d (pos 67108864) ≡ true → nat_abs d ≤ 67108864
middling-denominator d h e =
    abs_of d 67108864
    (zomega (d ∷ []) {A = pos 0 <ℤ d → neg_ℤ (pos 67108864) ≤ℤ d} (search sq depth 20) (omega arith) h)
    (zomega (d ∷ []) {A = d <ℤ pos 67108864 → d ≤ℤ pos 67108864} (search sq depth 20) (omega arith) (lt_t e))

-- what makes the short way short
pub data Short (n d m e : ℤ) : Type 0 where
  by_second : nat_abs m ≤ 4294967296 → nat_abs e ≤ 262144 → Short n d m e
  by_both : nat_abs n ≤ 68719476736 → nat_abs d ≤ 67108864 → nat_abs m ≤ 68719476736 → nat_abs e ≤ 67108864 → Short n d m e

-- what the test told of two coordinates as they were read
module _ (n d m e : ℤ) (P : Coordinate n d) (Q : Coordinate m e) where
  second : small m e ≡ true → Short n d m e
  second t =
      let r = and_parts (lt_z e (pos 262144)) (lt_z (negsuc 4294967295) m && lt_z m (pos 4294967296)) t in
      by_second (small-number m r.1) (small-denominator e Q.positive r.0)

  both : (middling n d && middling m e) ≡ true → Short n d m e
  both t =
      let p = and_parts (middling n d) (middling m e) t in
      let r = and_parts (lt_z d (pos 67108864)) (lt_z (negsuc 68719476735) n && lt_z n (pos 68719476736)) p.0 in
      let q = and_parts (lt_z e (pos 67108864)) (lt_z (negsuc 68719476735) m && lt_z m (pos 68719476736)) p.1 in
      by_both (middling-number n r.1) (middling-denominator d P.positive r.0) (middling-number m q.1) (middling-denominator e Q.positive q.0)

  way-read : short_way (back n) (back d) (back m) (back e) ≡ short_way n d m e
  way-read i = short_way (number_read n d P i) (denominator-read n d P i) (number_read m e Q i) (denominator-read m e Q i)

  pub short_of : short_way (back n) (back d) (back m) (back e) ≡ true → Short n d m e
  short_of t = go (or_cases (small m e) (middling n d && middling m e) (sym way-read ∙ t))
    where
      go : (small m e ≡ true) ⊎ ((middling n d && middling m e) ≡ true) → Short n d m e
      go (inl r) = second r
      go (inr r) = both r

-- the short way
module _ (n d m e : ℤ) (P : Coordinate n d) (Q : Coordinate m e) where
  pub first_fits : Short n d m e → SFits w64 (back n *ℤ back e)
  first_fits (by_second m_is e-is) = let n_is = P.n_is in fits (search tr depth 20) tt
  first_fits (by_both n_is d_is m_is e-is) = fits (search tr depth 20) tt

  pub second_fits : Short n d m e → SFits w64 (back m *ℤ back d)
  second_fits (by_second m_is e-is) = let d_is = P.d_is in fits (search tr depth 20) tt
  second_fits (by_both n_is d_is m_is e-is) = fits (search tr depth 20) tt

  one : Short n d m e → back (back n *ℤ back e) ≡ n *ℤ e
  one (by_second m_is e-is) = let n_is = P.n_is in plain (search tr depth 20) tt
  one (by_both n_is d_is m_is e-is) = plain (search tr depth 20) tt

  two : Short n d m e → back (back m *ℤ back d) ≡ m *ℤ d
  two (by_second m_is e-is) = let d_is = P.d_is in plain (search tr depth 20) tt
  two (by_both n_is d_is m_is e-is) = plain (search tr depth 20) tt

  pub short_test : Short n d m e → lt_z (back (back n *ℤ back e)) (back (back m *ℤ back d)) ≡ is_neg (sgn (n *ℤ e -ℤ m *ℤ d))
  short_test w = (λ i. lt_z (one w i) (two w i)) ∙ lt-sign (n *ℤ e) (m *ℤ d)

  pub short : Short n d m e → back (back n *ℤ back e) -ℤ back (back m *ℤ back d) ≡ n *ℤ e -ℤ m *ℤ d
  short w = λ i. one w i -ℤ two w i

-- the long way
module _ (n d m e : ℤ) (P : Coordinate n d) (Q : Coordinate m e) where
  pub factors : Factors (back n) (back e) (back m) (back d)
  factors = record { a_is = atmost (search tru depth 20) tt; b_is = under (search tru depth 20) tt; c_is = atmost (search tru depth 20) tt; d_is = under (search tru depth 20) tt }

  pub long : back n *ℤ back e -ℤ back m *ℤ back d ≡ n *ℤ e -ℤ m *ℤ d
  long = plain (search tr depth 20) tt

-- one denominator
module _ (n d m e : ℤ) (P : Coordinate n d) (Q : Coordinate m e) where
  common : (n d m : ℤ) → d *ℤ (n -ℤ m) ≡ n *ℤ d -ℤ m *ℤ d
  common n d m = ring (n ∷ d ∷ m ∷ []) (search reify depth 20) tt

  one_read : of_z w64 d ≡ of_z w64 e → d ≡ e
  one_read q = sym (denominator-read n d P) ∙ ap (to_z w64) q ∙ denominator-read m e Q

  pub level-number : of_z w64 d ≡ of_z w64 e → sgn (n -ℤ m) ≡ sgn (n *ℤ e -ℤ m *ℤ d)
  level-number q = sym (sgn-scale (n -ℤ m) d P.positive) ∙ ap sgn (common n d m) ∙ (λ i. sgn (n *ℤ one_read q i -ℤ m *ℤ d))

  pub level-read : of_z w64 d ≡ of_z w64 e → sgn (back n -ℤ back m) ≡ sgn (n *ℤ e -ℤ m *ℤ d)
  level-read q = (λ i. sgn (number_read n d P i -ℤ number_read m e Q i)) ∙ level-number q

level_none : (y : ℤ) → y -ℤ y ≡ pos 0
level_none y = ring (y ∷ []) (search reify depth 20) tt

-- two points by their numbers: the test of y first, then that of x
module _ (px py qx qy : ℤ) where
  as_high : py ≡ qy → lex_s (py -ℤ qy) (px -ℤ qx) ≡ sgn (px -ℤ qx)
  as_high e = ap (λ (s : Sign). pick s (sgn (px -ℤ qx))) (ap (λ (y : ℤ). sgn (y -ℤ qy)) e ∙ ap sgn (level_none qy))

  pub first_level : py ≡ qy → lt_z px qx ≡ is_neg (lex_s (py -ℤ qy) (px -ℤ qx))
  first_level e = lt-sign px qx ∙ sym (ap is_neg (as_high e))

  pub same_level : py ≡ qy → eq_z px qx ≡ is_zer (lex_s (py -ℤ qy) (px -ℤ qx))
  same_level e = eq-sign px qx ∙ sym (ap is_zer (as_high e))

  not_zero : (s t : Sign) → is_zer s ≡ false → (is_neg s ≡ is_neg (pick s t)) × (false ≡ is_zer (pick s t))
  not_zero neg t e = (refl, refl)
  not_zero zer t e = never (sym e)
  not_zero plus t e = (refl, refl)

  apart : (py ≡ qy → ⊥) → is_zer (sgn (py -ℤ qy)) ≡ false
  apart d = sym (eq-sign py qy) ∙ not-true (eq_z py qy) (λ e. d (eq_t py qy e))

  pub first_apart : (py ≡ qy → ⊥) → lt_z py qy ≡ is_neg (lex_s (py -ℤ qy) (px -ℤ qx))
  first_apart d = lt-sign py qy ∙ (not_zero (sgn (py -ℤ qy)) (sgn (px -ℤ qx)) (apart d)).0

  pub same_apart : (py ≡ qy → ⊥) → false ≡ is_zer (lex_s (py -ℤ qy) (px -ℤ qx))
  same_apart d = (not_zero (sgn (py -ℤ qy)) (sgn (px -ℤ qx)) (apart d)).1

-- the coordinates of two points, and how far apart the machine finds them
module _ (px py pd qx qy qd : ℤ) (P : Near (pt px py pd)) (Q : Near (pt qx qy qd)) where
  x_over : (x y d : ℤ) → Near (pt x y d) → Coordinate x d
  x_over x y d N = record { positive = N.positive; n_is = N.X-is; d_is = N.D-is }

  y_over : (x y d : ℤ) → Near (pt x y d) → Coordinate y d
  y_over x y d N = record { positive = N.positive; n_is = N.Y-is; d_is = N.D-is }

  pub xs : Coordinate (back px) (back pd) × Coordinate (back qx) (back qd)
  xs = (read px pd (x_over px py pd P), read qx qd (x_over qx qy qd Q))

  pub ys : Coordinate (back py) (back pd) × Coordinate (back qy) (back qd)
  ys = (read py pd (y_over px py pd P), read qy qd (y_over qx qy qd Q))

  pub by_x : back px *ℤ back qd -ℤ back qx *ℤ back pd ≡ px *ℤ qd -ℤ qx *ℤ pd
  by_x = long px pd qx qd (x_over px py pd P) (x_over qx qy qd Q)

  pub by_y : back py *ℤ back qd -ℤ back qy *ℤ back pd ≡ py *ℤ qd -ℤ qy *ℤ pd
  by_y = long py pd qy qd (y_over px py pd P) (y_over qx qy qd Q)

  -- of one denominator the order of two points is that of their numbers
  pub level-order : of_z w64 pd ≡ of_z w64 qd → level (pt px py pd) (pt qx qy qd) ≡ order (pt px py pd) (pt qx qy qd)
  level-order e i = pick (level-number py pd qy qd (y_over px py pd P) (y_over qx qy qd Q) e i) (level-number px pd qx qd (x_over px py pd P) (x_over qx qy qd Q) e i)
