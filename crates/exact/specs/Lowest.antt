-- A point as a triple (X, Y, D), meaning X/D, Y/D, and the triple divided by the greatest common divisor of the three (01, "Points, sides, followers").
-- In order: the triple; `lowest`, which divides it; `Lowest`, what a triple in lowest terms is. Then the laws:
--     lowest-is, lowest-x, lowest-y           `lowest` of D > 0 is in lowest terms, and the same point
--     lowest-x-le, lowest-y-le, lowest-d-le   no number of it has grown
--     lowest-coprime, lowest-fixed, lowest-whole     a triple with the divisor 1 stays as it is; in particular one with D = 1
--     lowest-unique                           two triples in lowest terms that are the same point are equal
--     lowest-same                             so `lowest` gives one triple for one point
-- Assumes nothing.
use Rattle.std.specs.Prelude.{◌≡◌, [], ◌∷◌, ℕ, ◌≤◌, ℤ, pos, negsuc, neg_ℤ, nat_abs, ◌*ℤ◌, ◌<ℤ◌}
use Rattle.std.proofs.Common.{sym, ◌∙◌, ap, le_refl, arith}
use Rattle.std.proofs.Math.Nat.{mod-one, one-dvd}
use Rattle.std.proofs.Math.IntN.{*ℤ-one, one}
use Rattle.std.specs.Int.Signed.{quot_z}
use Rattle.exact.specs.Solve.{ring, reify}
use Rattle.exact.specs.Order.{pos-<, <→≢}
use Rattle.exact.specs.Mul.{*-cancel-≡, ≡-by₂}
pub use Rattle.exact.specs.Abs.{abs-pos}
use Rattle.exact.specs.Abs.{bd_quot}
use Rattle.exact.specs.Gcd.{gcd_step, gcd_zero, reduce-lowest, reduce_x, reduce_y, quot_exact}
use Rattle.exact.specs.Gcd as Gcd
use Rattle.exact.specs.Exact.{gcd3, gcd_of}
pub use Rattle.exact.specs.Exact.{Pt, pt, lowest, Lowest}

-- ---- dividing gives lowest terms of the same point
module _ (X Y : ℤ) where
  pub lowest_is : (D : ℤ) → pos 0 <ℤ D → Lowest (lowest X Y D)
  lowest_is (pos d) h = let l = reduce-lowest X Y d (abs-pos (pos d) h) in record { positive = pos-< 0 _ l.positive; coprime = l.coprime }
  lowest_is (negsuc d) h = absurd h.lt

  pub lowest_x : (D : ℤ) → pos 0 <ℤ D → (lowest X Y D).X *ℤ D ≡ X *ℤ (lowest X Y D).D
  lowest_x (pos d) h = reduce_x X Y d (abs-pos (pos d) h)
  lowest_x (negsuc d) h = absurd h.lt

  pub lowest_y : (D : ℤ) → pos 0 <ℤ D → (lowest X Y D).Y *ℤ D ≡ Y *ℤ (lowest X Y D).D
  lowest_y (pos d) h = reduce_y X Y d (abs-pos (pos d) h)
  lowest_y (negsuc d) h = absurd h.lt

-- ---- no number grows
module _ (X Y D : ℤ) where
  abbrev g : ℤ
  g = pos (gcd3 (nat_abs X) (nat_abs Y) (nat_abs D))

  pub lowest_x-le : nat_abs (lowest X Y D).X ≤ nat_abs X
  lowest_x-le = bd_quot X g (nat_abs X) (le_refl (nat_abs X))

  pub lowest_y-le : nat_abs (lowest X Y D).Y ≤ nat_abs Y
  lowest_y-le = bd_quot Y g (nat_abs Y) (le_refl (nat_abs Y))

  pub lowest_d-le : nat_abs (lowest X Y D).D ≤ nat_abs D
  lowest_d-le = bd_quot D g (nat_abs D) (le_refl (nat_abs D))

-- ---- what has the divisor 1 stays as it is
quot_one : (x : ℤ) → quot_z x (pos 1) ≡ x
unfolding one
quot_one x = sym (*ℤ-one (quot_z x (pos 1))) ∙ quot_exact x 1 (one-dvd (nat_abs x))

pub lowest-coprime : (X Y D : ℤ) → gcd3 (nat_abs X) (nat_abs Y) (nat_abs D) ≡ 1 → lowest X Y D ≡ pt X Y D
lowest-coprime X Y D e =
    (λ i. pt (quot_z X (pos (e i))) (quot_z Y (pos (e i))) (quot_z D (pos (e i)))) ∙ (λ i. pt (quot_one X i) (quot_one Y i) (quot_one D i))

pub lowest-fixed : (p : Pt) → Lowest p → lowest p.X p.Y p.D ≡ p
lowest-fixed p l = lowest-coprime p.X p.Y p.D l.coprime

-- a point with whole coordinates
pub whole-coprime : (x y : ℕ) → gcd3 x y 1 ≡ 1
whole-coprime x y = gcd_step (gcd_of x y) 1 (omega arith) ∙ ap (gcd_of 1) (mod-one (gcd_of x y)) ∙ gcd_zero 1

pub whole-lowest : (X Y : ℤ) → Lowest (pt X Y (pos 1))
whole-lowest X Y = record { positive = record { lt = tt }; coprime = whole-coprime (nat_abs X) (nat_abs Y) }

pub lowest-whole : (X Y : ℤ) → lowest X Y (pos 1) ≡ pt X Y (pos 1)
lowest-whole X Y = lowest-coprime X Y (pos 1) (whole-coprime (nat_abs X) (nat_abs Y))

-- ---- lowest terms are unique
unique : (X Y D X' Y' D' : ℤ) → Lowest (pt X Y D) → Lowest (pt X' Y' D') → X *ℤ D' ≡ X' *ℤ D → Y *ℤ D' ≡ Y' *ℤ D → pt X Y D ≡ pt X' Y' D'
unique X Y (pos d) X' Y' (pos d') l l' e f =
    let u = Gcd.lowest-unique X Y d X' Y' d' (record { positive = abs-pos (pos d) l.positive; coprime = l.coprime }) (record { positive = abs-pos (pos d') l'.positive; coprime = l'.coprime }) e f in
    λ i. pt (u.0 i) (u.1 i) (pos (u.2 i))
unique X Y (pos d) X' Y' (negsuc d') l l' e f = absurd l'.positive.lt
unique X Y (negsuc d) X' Y' D' l l' e f = absurd l.positive.lt

pub lowest-unique : (p q : Pt) → Lowest p → Lowest q → p.X *ℤ q.D ≡ q.X *ℤ p.D → p.Y *ℤ q.D ≡ q.Y *ℤ p.D → p ≡ q
lowest-unique p q = unique p.X p.Y p.D q.X q.Y q.D

-- what stands in lowest terms for a point is what `lowest` gives
pub lowest-only : (X Y D : ℤ) (p : Pt) → pos 0 <ℤ D → Lowest p → p.X *ℤ D ≡ X *ℤ p.D → p.Y *ℤ D ≡ Y *ℤ p.D → p ≡ lowest X Y D
lowest-only X Y D p h l e f =
    let q = lowest X Y D in
    lowest-unique p q l (lowest_is X Y D h) (cross D X p.D q.D p.X q.X h e (lowest_x X Y D h)) (cross D Y p.D q.D p.Y q.Y h f (lowest_y X Y D h))
  where
    cross : (d x e e' a a' : ℤ) → pos 0 <ℤ d → a *ℤ d ≡ x *ℤ e → a' *ℤ d ≡ x *ℤ e' → a *ℤ e' ≡ a' *ℤ e
    cross d x e e' a a' h p q =
        *-cancel-≡ d (a *ℤ e') (a' *ℤ e) (λ z. <→≢ h (sym z)) (≡-by₂ p e' q (neg_ℤ e) (ring (d ∷ x ∷ e ∷ e' ∷ a ∷ a' ∷ []) (search reify depth 20) tt))

pub lowest_same : (X Y D X' Y' D' : ℤ) → pos 0 <ℤ D → pos 0 <ℤ D' → X *ℤ D' ≡ X' *ℤ D → Y *ℤ D' ≡ Y' *ℤ D → lowest X Y D ≡ lowest X' Y' D'
lowest_same X Y D X' Y' D' h h' e f =
    let p = lowest X Y D in
    lowest-only X' Y' D' p h' (lowest_is X Y D h) (through p.X X X' p.D (lowest_x X Y D h) e) (through p.Y Y Y' p.D (lowest_y X Y D h) f)
  where
    through : (a x x' d : ℤ) → a *ℤ D ≡ x *ℤ d → x *ℤ D' ≡ x' *ℤ D → a *ℤ D' ≡ x' *ℤ d
    through a x x' d p q =
        *-cancel-≡ D (a *ℤ D') (x' *ℤ d) (λ z. <→≢ h (sym z)) (≡-by₂ p D' q d (ring (a ∷ x ∷ x' ∷ d ∷ D ∷ D' ∷ []) (search reify depth 20) tt))
