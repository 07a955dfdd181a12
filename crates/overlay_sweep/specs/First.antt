-- Which of two points comes first where one of them is a corner, by whole numbers over one denominator. Assumes nothing.
use Rattle.std.specs.Prelude.{◌≡◌, refl, [], ◌∷◌, ℤ, pos, ◌-ℤ◌, ◌*ℤ◌, ◌&&◌, ◌||◌}
use Rattle.std.proofs.Common.{sym, ◌∙◌}
use Rattle.std.specs.Int.Signed.{lt_z}
use Rattle.seq.specs.Seq.{Bool, true, false}
use Rattle.exact.specs.Solve.{ring, reify}
use Rattle.exact.specs.Tests.{never, lt-sign, gt-sign, eq_z, eq-sign}
use Rattle.exact.specs.Sign.{Sign, neg, zer, plus, sgn, is_neg, is_zer, is_plus, pick, lex_s}
use Rattle.paper.specs.Plane.{Pt, Vec, whole, before}

-- x, y comes before u, v: "smaller y first, then smaller x"
abbrev pub first : ℤ → ℤ → ℤ → ℤ → Bool
first x y u v = is_neg (lex_s (y -ℤ v) (x -ℤ u))

-- as the code tests it
module _ (x y u v : ℤ) where
  below : (s t : Sign) → is_neg s ≡ true → true ≡ is_neg (pick s t)
  below neg t e = refl
  below zer t e = never e
  below plus t e = never e

  above : (s t : Sign) → is_plus s ≡ true → false ≡ is_neg (pick s t)
  above neg t e = never e
  above zer t e = never e
  above plus t e = refl

  level : (s t : Sign) → is_neg s ≡ false → is_plus s ≡ false → is_neg t ≡ is_neg (pick s t)
  level neg t e f = never (sym e)
  level zer t e f = refl
  level plus t e f = never (sym f)

  pub first_below : lt_z y v ≡ true → true ≡ first x y u v
  first_below e = below (sgn (y -ℤ v)) (sgn (x -ℤ u)) (sym (lt-sign y v) ∙ e)

  pub first_above : lt_z v y ≡ true → false ≡ first x y u v
  first_above e = above (sgn (y -ℤ v)) (sgn (x -ℤ u)) (sym (gt-sign y v) ∙ e)

  pub first_level : lt_z y v ≡ false → lt_z v y ≡ false → lt_z x u ≡ first x y u v
  first_level e f = lt-sign x u ∙ level (sgn (y -ℤ v)) (sgn (x -ℤ u)) (sym (lt-sign y v) ∙ e) (sym (gt-sign y v) ∙ f)

  both : (s t : Sign) → (is_neg s || (is_zer s && is_neg t)) ≡ is_neg (pick s t)
  both neg t = refl
  both zer t = refl
  both plus t = refl

  pub first_test : (lt_z y v || (eq_z y v && lt_z x u)) ≡ first x y u v
  first_test = (λ i. lt-sign y v i || (eq-sign y v i && lt-sign x u i)) ∙ both (sgn (y -ℤ v)) (sgn (x -ℤ u))

one : (z : ℤ) → z ≡ z *ℤ pos 1
one z = ring (z ∷ []) (search reify depth 20) tt

-- of two corners, and of a corner and a point
pub of_corners : (a b : Vec) → first a.x a.y b.x b.y ≡ before (whole a) (whole b)
of_corners a b = λ i. first (one a.x i) (one a.y i) (one b.x i) (one b.y i)

module _ (a : Vec) (p : Pt) where
  pub of_corner : first (a.x *ℤ p.D) (a.y *ℤ p.D) p.X p.Y ≡ before (whole a) p
  of_corner = λ i. first (a.x *ℤ p.D) (a.y *ℤ p.D) (one p.X i) (one p.Y i)

  pub of_point : first p.X p.Y (a.x *ℤ p.D) (a.y *ℤ p.D) ≡ before p (whole a)
  of_point = λ i. first (one p.X i) (one p.Y i) (a.x *ℤ p.D) (a.y *ℤ p.D)
