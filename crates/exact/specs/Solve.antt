-- A ring solver for ℤ. `search reify` reads a plain ℤ term over the atoms of a list ρ, at most 30 of them, as an expression of Poly, and `ring` proves
-- an equation of two such terms whose difference comes to the polynomial 0:
--     ring (a ∷ b ∷ []) (search reify depth 20) tt : x ≡ y
-- In order: what a reading is, sums and products, the atom at each place of ρ, `reify`, `ring`, `ring-show`. The names of Poly are passed on.
-- Assumes nothing.
use Rattle.std.specs.Prelude.{◌≡◌, refl, List, ◌∷◌, ℕ, T, ℤ, pos, negsuc, neg_ℤ, ◌+ℤ◌, ◌*ℤ◌}
use Rattle.std.proofs.Common.{sym, ◌∙◌, subst}
pub use Rattle.exact.specs.Poly.{Expr, v, k, ◌⊞◌, ◌⊠◌, ⊖◌, ◌⊟◌, nth, eval, P, pc, px, is_z, mkc, mk, addc, sel3, addx, add, neg_p, scl, sclb, mulv, mul, norm, is_zero_p, ev, ev-norm, sub-zero→, solve}

-- ---- reading a goal: `search reify` writes the expression of a plain ℤ term, so that an identity is proved with no `Expr` written
pub record Re (ρ : List ℤ) (x : ℤ) : Type 0 where
  pub e : Expr
  pub is : eval ρ e ≡ x

module _ {ρ : List ℤ} where
  abbrev pub re+ : {x y : ℤ} → Re ρ x → Re ρ y → Re ρ (x +ℤ y)
  re+ a b = record { e = a.e ⊞ b.e; is = λ l. a.is l +ℤ b.is l }

  abbrev pub re* : {x y : ℤ} → Re ρ x → Re ρ y → Re ρ (x *ℤ y)
  re* a b = record { e = a.e ⊠ b.e; is = λ l. a.is l *ℤ b.is l }

  abbrev pub re- : {x : ℤ} → Re ρ x → Re ρ (neg_ℤ x)
  re- a = record { e = ⊖ a.e; is = λ l. neg_ℤ (a.is l) }

  abbrev pub re_pos : {n : ℕ} → Re ρ (pos n)
  re_pos {n} = record { e = k (pos n); is = refl }

  abbrev pub re_neg : {n : ℕ} → Re ρ (negsuc n)
  re_neg {n} = record { e = k (negsuc n); is = refl }

-- the variable at each place of ρ, a lemma each: no chain, so `search` goes no deeper than the expression
module _ {ρ : List ℤ} where
  abbrev pub re0 : {x0 : ℤ} → Re (x0 ∷ ρ) x0
  re0 = record { e = v 0; is = refl }

  abbrev pub re1 : {x0 x1 : ℤ} → Re (x0 ∷ x1 ∷ ρ) x1
  re1 = record { e = v 1; is = refl }

  abbrev pub re2 : {x0 x1 x2 : ℤ} → Re (x0 ∷ x1 ∷ x2 ∷ ρ) x2
  re2 = record { e = v 2; is = refl }

  abbrev pub re3 : {x0 x1 x2 x3 : ℤ} → Re (x0 ∷ x1 ∷ x2 ∷ x3 ∷ ρ) x3
  re3 = record { e = v 3; is = refl }

  abbrev pub re4 : {x0 x1 x2 x3 x4 : ℤ} → Re (x0 ∷ x1 ∷ x2 ∷ x3 ∷ x4 ∷ ρ) x4
  re4 = record { e = v 4; is = refl }

  abbrev pub re5 : {x0 x1 x2 x3 x4 x5 : ℤ} → Re (x0 ∷ x1 ∷ x2 ∷ x3 ∷ x4 ∷ x5 ∷ ρ) x5
  re5 = record { e = v 5; is = refl }

  abbrev pub re6 : {x0 x1 x2 x3 x4 x5 x6 : ℤ} → Re (x0 ∷ x1 ∷ x2 ∷ x3 ∷ x4 ∷ x5 ∷ x6 ∷ ρ) x6
  re6 = record { e = v 6; is = refl }

  abbrev pub re7 : {x0 x1 x2 x3 x4 x5 x6 x7 : ℤ} → Re (x0 ∷ x1 ∷ x2 ∷ x3 ∷ x4 ∷ x5 ∷ x6 ∷ x7 ∷ ρ) x7
  re7 = record { e = v 7; is = refl }

  abbrev pub re8 : {x0 x1 x2 x3 x4 x5 x6 x7 x8 : ℤ} → Re (x0 ∷ x1 ∷ x2 ∷ x3 ∷ x4 ∷ x5 ∷ x6 ∷ x7 ∷ x8 ∷ ρ) x8
  re8 = record { e = v 8; is = refl }

  abbrev pub re9 : {x0 x1 x2 x3 x4 x5 x6 x7 x8 x9 : ℤ} → Re (x0 ∷ x1 ∷ x2 ∷ x3 ∷ x4 ∷ x5 ∷ x6 ∷ x7 ∷ x8 ∷ x9 ∷ ρ) x9
  re9 = record { e = v 9; is = refl }

  abbrev pub re10 : {x0 x1 x2 x3 x4 x5 x6 x7 x8 x9 x10 : ℤ} → Re (x0 ∷ x1 ∷ x2 ∷ x3 ∷ x4 ∷ x5 ∷ x6 ∷ x7 ∷ x8 ∷ x9 ∷ x10 ∷ ρ) x10
  re10 = record { e = v 10; is = refl }

  abbrev pub re11 : {x0 x1 x2 x3 x4 x5 x6 x7 x8 x9 x10 x11 : ℤ} → Re (x0 ∷ x1 ∷ x2 ∷ x3 ∷ x4 ∷ x5 ∷ x6 ∷ x7 ∷ x8 ∷ x9 ∷ x10 ∷ x11 ∷ ρ) x11
  re11 = record { e = v 11; is = refl }

  abbrev pub re12 : {x0 x1 x2 x3 x4 x5 x6 x7 x8 x9 x10 x11 x12 : ℤ} → Re (x0 ∷ x1 ∷ x2 ∷ x3 ∷ x4 ∷ x5 ∷ x6 ∷ x7 ∷ x8 ∷ x9 ∷ x10 ∷ x11 ∷ x12 ∷ ρ) x12
  re12 = record { e = v 12; is = refl }

  abbrev pub re13 : {x0 x1 x2 x3 x4 x5 x6 x7 x8 x9 x10 x11 x12 x13 : ℤ} → Re (x0 ∷ x1 ∷ x2 ∷ x3 ∷ x4 ∷ x5 ∷ x6 ∷ x7 ∷ x8 ∷ x9 ∷ x10 ∷ x11 ∷ x12 ∷ x13 ∷ ρ) x13
  re13 = record { e = v 13; is = refl }

  abbrev pub re14 : {x0 x1 x2 x3 x4 x5 x6 x7 x8 x9 x10 x11 x12 x13 x14 : ℤ} → Re (x0 ∷ x1 ∷ x2 ∷ x3 ∷ x4 ∷ x5 ∷ x6 ∷ x7 ∷ x8 ∷ x9 ∷ x10 ∷ x11 ∷ x12 ∷ x13 ∷ x14 ∷ ρ) x14
  re14 = record { e = v 14; is = refl }

  abbrev pub re15 : {x0 x1 x2 x3 x4 x5 x6 x7 x8 x9 x10 x11 x12 x13 x14 x15 : ℤ} → Re (x0 ∷ x1 ∷ x2 ∷ x3 ∷ x4 ∷ x5 ∷ x6 ∷ x7 ∷ x8 ∷ x9 ∷ x10 ∷ x11 ∷ x12 ∷ x13 ∷ x14 ∷ x15 ∷ ρ) x15
  re15 = record { e = v 15; is = refl }

  abbrev pub re16 : {x0 x1 x2 x3 x4 x5 x6 x7 x8 x9 x10 x11 x12 x13 x14 x15 x16 : ℤ} → Re (x0 ∷ x1 ∷ x2 ∷ x3 ∷ x4 ∷ x5 ∷ x6 ∷ x7 ∷ x8 ∷ x9 ∷ x10 ∷ x11 ∷ x12 ∷ x13 ∷ x14 ∷ x15 ∷ x16 ∷ ρ) x16
  re16 = record { e = v 16; is = refl }

  abbrev pub re17 : {x0 x1 x2 x3 x4 x5 x6 x7 x8 x9 x10 x11 x12 x13 x14 x15 x16 x17 : ℤ} → Re (x0 ∷ x1 ∷ x2 ∷ x3 ∷ x4 ∷ x5 ∷ x6 ∷ x7 ∷ x8 ∷ x9 ∷ x10 ∷ x11 ∷ x12 ∷ x13 ∷ x14 ∷ x15 ∷ x16 ∷ x17 ∷ ρ) x17
  re17 = record { e = v 17; is = refl }

  abbrev pub re18 : {x0 x1 x2 x3 x4 x5 x6 x7 x8 x9 x10 x11 x12 x13 x14 x15 x16 x17 x18 : ℤ} → Re (x0 ∷ x1 ∷ x2 ∷ x3 ∷ x4 ∷ x5 ∷ x6 ∷ x7 ∷ x8 ∷ x9 ∷ x10 ∷ x11 ∷ x12 ∷ x13 ∷ x14 ∷ x15 ∷ x16 ∷ x17 ∷ x18 ∷ ρ) x18
  re18 = record { e = v 18; is = refl }

  abbrev pub re19 : {x0 x1 x2 x3 x4 x5 x6 x7 x8 x9 x10 x11 x12 x13 x14 x15 x16 x17 x18 x19 : ℤ} → Re (x0 ∷ x1 ∷ x2 ∷ x3 ∷ x4 ∷ x5 ∷ x6 ∷ x7 ∷ x8 ∷ x9 ∷ x10 ∷ x11 ∷ x12 ∷ x13 ∷ x14 ∷ x15 ∷ x16 ∷ x17 ∷ x18 ∷ x19 ∷ ρ) x19
  re19 = record { e = v 19; is = refl }

  abbrev pub re20 : {x0 x1 x2 x3 x4 x5 x6 x7 x8 x9 x10 x11 x12 x13 x14 x15 x16 x17 x18 x19 x20 : ℤ} → Re (x0 ∷ x1 ∷ x2 ∷ x3 ∷ x4 ∷ x5 ∷ x6 ∷ x7 ∷ x8 ∷ x9 ∷ x10 ∷ x11 ∷ x12 ∷ x13 ∷ x14 ∷ x15 ∷ x16 ∷ x17 ∷ x18 ∷ x19 ∷ x20 ∷ ρ) x20
  re20 = record { e = v 20; is = refl }

  abbrev pub re21 : {x0 x1 x2 x3 x4 x5 x6 x7 x8 x9 x10 x11 x12 x13 x14 x15 x16 x17 x18 x19 x20 x21 : ℤ} → Re (x0 ∷ x1 ∷ x2 ∷ x3 ∷ x4 ∷ x5 ∷ x6 ∷ x7 ∷ x8 ∷ x9 ∷ x10 ∷ x11 ∷ x12 ∷ x13 ∷ x14 ∷ x15 ∷ x16 ∷ x17 ∷ x18 ∷ x19 ∷ x20 ∷ x21 ∷ ρ) x21
  re21 = record { e = v 21; is = refl }

  abbrev pub re22 : {x0 x1 x2 x3 x4 x5 x6 x7 x8 x9 x10 x11 x12 x13 x14 x15 x16 x17 x18 x19 x20 x21 x22 : ℤ} → Re (x0 ∷ x1 ∷ x2 ∷ x3 ∷ x4 ∷ x5 ∷ x6 ∷ x7 ∷ x8 ∷ x9 ∷ x10 ∷ x11 ∷ x12 ∷ x13 ∷ x14 ∷ x15 ∷ x16 ∷ x17 ∷ x18 ∷ x19 ∷ x20 ∷ x21 ∷ x22 ∷ ρ) x22
  re22 = record { e = v 22; is = refl }

  abbrev pub re23 : {x0 x1 x2 x3 x4 x5 x6 x7 x8 x9 x10 x11 x12 x13 x14 x15 x16 x17 x18 x19 x20 x21 x22 x23 : ℤ} → Re (x0 ∷ x1 ∷ x2 ∷ x3 ∷ x4 ∷ x5 ∷ x6 ∷ x7 ∷ x8 ∷ x9 ∷ x10 ∷ x11 ∷ x12 ∷ x13 ∷ x14 ∷ x15 ∷ x16 ∷ x17 ∷ x18 ∷ x19 ∷ x20 ∷ x21 ∷ x22 ∷ x23 ∷ ρ) x23
  re23 = record { e = v 23; is = refl }

  abbrev pub re24 : {x0 x1 x2 x3 x4 x5 x6 x7 x8 x9 x10 x11 x12 x13 x14 x15 x16 x17 x18 x19 x20 x21 x22 x23 x24 : ℤ} → Re (x0 ∷ x1 ∷ x2 ∷ x3 ∷ x4 ∷ x5 ∷ x6 ∷ x7 ∷ x8 ∷ x9 ∷ x10 ∷ x11 ∷ x12 ∷ x13 ∷ x14 ∷ x15 ∷ x16 ∷ x17 ∷ x18 ∷ x19 ∷ x20 ∷ x21 ∷ x22 ∷ x23 ∷ x24 ∷ ρ) x24
  re24 = record { e = v 24; is = refl }

  abbrev pub re25 : {x0 x1 x2 x3 x4 x5 x6 x7 x8 x9 x10 x11 x12 x13 x14 x15 x16 x17 x18 x19 x20 x21 x22 x23 x24 x25 : ℤ} → Re (x0 ∷ x1 ∷ x2 ∷ x3 ∷ x4 ∷ x5 ∷ x6 ∷ x7 ∷ x8 ∷ x9 ∷ x10 ∷ x11 ∷ x12 ∷ x13 ∷ x14 ∷ x15 ∷ x16 ∷ x17 ∷ x18 ∷ x19 ∷ x20 ∷ x21 ∷ x22 ∷ x23 ∷ x24 ∷ x25 ∷ ρ) x25
  re25 = record { e = v 25; is = refl }

  abbrev pub re26 : {x0 x1 x2 x3 x4 x5 x6 x7 x8 x9 x10 x11 x12 x13 x14 x15 x16 x17 x18 x19 x20 x21 x22 x23 x24 x25 x26 : ℤ} → Re (x0 ∷ x1 ∷ x2 ∷ x3 ∷ x4 ∷ x5 ∷ x6 ∷ x7 ∷ x8 ∷ x9 ∷ x10 ∷ x11 ∷ x12 ∷ x13 ∷ x14 ∷ x15 ∷ x16 ∷ x17 ∷ x18 ∷ x19 ∷ x20 ∷ x21 ∷ x22 ∷ x23 ∷ x24 ∷ x25 ∷ x26 ∷ ρ) x26
  re26 = record { e = v 26; is = refl }

  abbrev pub re27 : {x0 x1 x2 x3 x4 x5 x6 x7 x8 x9 x10 x11 x12 x13 x14 x15 x16 x17 x18 x19 x20 x21 x22 x23 x24 x25 x26 x27 : ℤ} → Re (x0 ∷ x1 ∷ x2 ∷ x3 ∷ x4 ∷ x5 ∷ x6 ∷ x7 ∷ x8 ∷ x9 ∷ x10 ∷ x11 ∷ x12 ∷ x13 ∷ x14 ∷ x15 ∷ x16 ∷ x17 ∷ x18 ∷ x19 ∷ x20 ∷ x21 ∷ x22 ∷ x23 ∷ x24 ∷ x25 ∷ x26 ∷ x27 ∷ ρ) x27
  re27 = record { e = v 27; is = refl }

  abbrev pub re28 : {x0 x1 x2 x3 x4 x5 x6 x7 x8 x9 x10 x11 x12 x13 x14 x15 x16 x17 x18 x19 x20 x21 x22 x23 x24 x25 x26 x27 x28 : ℤ} → Re (x0 ∷ x1 ∷ x2 ∷ x3 ∷ x4 ∷ x5 ∷ x6 ∷ x7 ∷ x8 ∷ x9 ∷ x10 ∷ x11 ∷ x12 ∷ x13 ∷ x14 ∷ x15 ∷ x16 ∷ x17 ∷ x18 ∷ x19 ∷ x20 ∷ x21 ∷ x22 ∷ x23 ∷ x24 ∷ x25 ∷ x26 ∷ x27 ∷ x28 ∷ ρ) x28
  re28 = record { e = v 28; is = refl }

  abbrev pub re29 : {x0 x1 x2 x3 x4 x5 x6 x7 x8 x9 x10 x11 x12 x13 x14 x15 x16 x17 x18 x19 x20 x21 x22 x23 x24 x25 x26 x27 x28 x29 : ℤ} → Re (x0 ∷ x1 ∷ x2 ∷ x3 ∷ x4 ∷ x5 ∷ x6 ∷ x7 ∷ x8 ∷ x9 ∷ x10 ∷ x11 ∷ x12 ∷ x13 ∷ x14 ∷ x15 ∷ x16 ∷ x17 ∷ x18 ∷ x19 ∷ x20 ∷ x21 ∷ x22 ∷ x23 ∷ x24 ∷ x25 ∷ x26 ∷ x27 ∷ x28 ∷ x29 ∷ ρ) x29
  re29 = record { e = v 29; is = refl }

-- both sides at once, so that one `search` reads an equation
pub record Re₂ (ρ : List ℤ) (x y : ℤ) : Type 0 where
  pub l : Re ρ x
  pub r : Re ρ y

abbrev pub re₂ : {ρ : List ℤ} {x y : ℤ} → Re ρ x → Re ρ y → Re₂ ρ x y
re₂ a b = record { l = a; r = b }

pub ruleset reify = (re₂, re0, re1, re2, re3, re4, re5, re6, re7, re8, re9, re10, re11, re12, re13, re14, re15, re16, re17, re18, re19, re20, re21, re22, re23, re24, re25, re26, re27, re28, re29, re+, re*, re-, re_pos, re_neg)

-- `ring (a ∷ b ∷ []) (search reify depth 20) tt` proves an identity in a and b; ρ lists the atoms, which may be any terms
pub ring : (ρ : List ℤ) {x y : ℤ} (q : Re₂ ρ x y) → T (is_zero_p (norm (q.l.e ⊟ q.r.e))) → x ≡ y
ring ρ q t = sym q.l.is ∙ solve ρ q.l.e q.r.e t ∙ q.r.is

-- to find out why an identity is refused: `ring-show ρ (search reify depth 20) ?` under --allow-holes. The goal at the hole has the difference of the two sides, as a polynomial
pub ring-show : (ρ : List ℤ) {x y : ℤ} (q : Re₂ ρ x y) → norm (q.l.e ⊟ q.r.e) ≡ pc (pos 0) → x ≡ y
ring-show ρ q e = ring ρ q (subst (λ (p : P). T (is_zero_p p)) (sym e) tt)
