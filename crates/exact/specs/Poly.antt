-- Polynomials over ℤ, by reflection. `Expr` is a polynomial expression over the variables of a list ρ; `norm` takes it to a normal form, `P`,
-- sparse Horner polynomials; `ev-norm`: the normal form has the expression's value; `solve` proves an equation of two expressions whose difference
-- comes to 0. What a check costs is the steps of `norm`.
--     solve ρ a b tt : eval ρ a ≡ eval ρ b
-- How a plain ℤ term is read as an expression is in Solve. Assumes nothing.
use Rattle.std.specs.Prelude.{◌≡◌, Bool, true, false, List, [], ◌∷◌, T, ℤ, negsuc, ◌+ℤ◌, ◌-ℤ◌, ◌*ℤ◌}
use Rattle.std.proofs.Math.Path.{refl, ap}
use Rattle.std.proofs.Common.{sym, ◌∙◌, subst, eqb→eq}
use Prim.Native.Nat.{ℕ, zero, suc, compare, Ordering}
use Rattle.std.proofs.Math.Dec.{compare_is_eq}
use Rattle.std.proofs.Math.IntN.{pos, neg_ℤ, one, +ℤ_assoc, +ℤ_comm, +ℤ_idl, +ℤ_idr, zero-*ℤ, *ℤ-zero, *ℤ-one, neg_ℤ-+ℤ, neg_ℤ-neg_ℤ}
use Rattle.exact.specs.Ring.{+ℤ-swap4, *ℤ-distr, *ℤ-distl, *ℤ-neg, *ℤ-assoc, *ℤ-swapl, neg_unique}

-- ---- expressions
infixl 6 ◌⊞◌ ◌⊟◌
infixl 7 ◌⊠◌
infix 8 ⊖◌
pub data Expr : Type 0 where
  v : ℕ → Expr
  k : ℤ → Expr
  ◌⊞◌ : Expr → Expr → Expr
  ◌⊠◌ : Expr → Expr → Expr
  ⊖◌ : Expr → Expr

abbrev pub ◌⊟◌ : Expr → Expr → Expr
a ⊟ b = a ⊞ (⊖ b)

abbrev pub nth : List ℤ → ℕ → ℤ
nth [] i = pos 0
nth (x ∷ ρ) zero = x
nth (x ∷ ρ) (suc i) = nth ρ i

abbrev pub eval : List ℤ → Expr → ℤ
eval ρ (v i) = nth ρ i
eval ρ (k c) = c
eval ρ (a ⊞ b) = eval ρ a +ℤ eval ρ b
eval ρ (a ⊠ b) = eval ρ a *ℤ eval ρ b
eval ρ (⊖ a) = neg_ℤ (eval ρ a)

-- ---- polynomials: `px i p q` is xᵢ·p + q, where p has no variable before xᵢ and q none before xᵢ₊₁, and p is not 0
pub data P : Type 0 where
  pc : ℤ → P
  px : ℕ → P → P → P

abbrev pub is_z : ℤ → Bool
is_z (pos zero) = true
is_z (pos (suc n)) = false
is_z (negsuc n) = false

abbrev pub mkc : Bool → ℕ → ℤ → P → P
mkc true i c q = q
mkc false i c q = px i (pc c) q

abbrev pub mk : ℕ → P → P → P
mk i (pc c) q = mkc (is_z c) i c q
mk i (px j r s) q = px i (px j r s) q

abbrev pub addc : ℤ → P → P
addc c (pc a) = pc (c +ℤ a)
addc c (px i p q) = px i p (addc c q)

-- by the order of two indices; each case waits, as a function of a number that it does not read
abbrev pub sel3 : Ordering → (ℕ → P) → (ℕ → P) → (ℕ → P) → P
sel3 Ordering.lt a b c = a 0
sel3 Ordering.eq a b c = b 0
sel3 Ordering.gt a b c = c 0

-- (xᵢ·p + q) + t, where fp adds p and fq adds q
abbrev pub addx : ℕ → P → P → (P → P) → (P → P) → P → P
addx i p q fp fq (pc c) = px i p (addc c q)
addx i p q fp fq (px j r s) = sel3 (compare i j) (λ _. px i p (fq (px j r s))) (λ _. mk i (fp r) (fq s)) (λ _. px j r (addx i p q fp fq s))

abbrev pub add : P → P → P
add (pc c) t = addc c t
add (px i p q) t = addx i p q (add p) (add q) t

abbrev pub neg_p : P → P
neg_p (pc c) = pc (neg_ℤ c)
neg_p (px i p q) = px i (neg_p p) (neg_p q)

abbrev pub scl : ℤ → P → P
scl c (pc a) = pc (c *ℤ a)
scl c (px i p q) = px i (scl c p) (scl c q)

abbrev pub sclb : Bool → ℤ → P → P
sclb true c t = pc (pos 0)
sclb false c t = scl c t

abbrev pub mulv : ℕ → P → P
mulv i (pc a) = mk i (pc a) (pc (pos 0))
mulv i (px j p q) = sel3 (compare i j) (λ _. px i (px j p q) (pc (pos 0))) (λ _. px i (px j p q) (pc (pos 0))) (λ _. px j (mulv i p) (mulv i q))

abbrev pub mul : P → P → P
mul (pc c) t = sclb (is_z c) c t
mul (px i p q) t = add (mulv i (mul p t)) (mul q t)

abbrev pub norm : Expr → P
norm (v i) = px i (pc (pos 1)) (pc (pos 0))
norm (k c) = pc c
norm (a ⊞ b) = add (norm a) (norm b)
norm (a ⊠ b) = mul (norm a) (norm b)
norm (⊖ a) = neg_p (norm a)

abbrev pub is_zero_p : P → Bool
is_zero_p (pc c) = is_z c
is_zero_p (px i p q) = false

-- ---- each step keeps the value
is_z→0 : (c : ℤ) → T (is_z c) → c ≡ pos 0
is_z→0 (pos zero) t = refl
is_z→0 (pos (suc n)) t = absurd t
is_z→0 (negsuc n) t = absurd t

eq→ : (i j : ℕ) → compare i j ≡ Ordering.eq → i ≡ j
eq→ i j e = eqb→eq i j (subst (λ (o : Ordering). T (compare_is_eq o)) (sym e) tt)

module _ (ρ : List ℤ) where
  abbrev pub ev : P → ℤ
  ev (pc a) = a
  ev (px i p q) = nth ρ i *ℤ ev p +ℤ ev q

  sel3-ind : (o : Ordering) (a b c : ℕ → P) (Q : ℤ → Type 0) → Q (ev (a 0)) → (o ≡ Ordering.eq → Q (ev (b 0))) → Q (ev (c 0)) → Q (ev (sel3 o a b c))
  sel3-ind Ordering.lt a b c Q x y z = x
  sel3-ind Ordering.eq a b c Q x y z = y refl
  sel3-ind Ordering.gt a b c Q x y z = z

  -- x·0 + q = q
  zero-head : (x q : ℤ) → q ≡ x *ℤ pos 0 +ℤ q
  zero-head x q = sym (ap (λ (y : ℤ). y +ℤ q) (*ℤ-zero x) ∙ +ℤ_idl q)

  ev-mkc : (b : Bool) (i : ℕ) (c : ℤ) (q : P) → (T b → c ≡ pos 0) → ev (mkc b i c q) ≡ nth ρ i *ℤ c +ℤ ev q
  ev-mkc true i c q h = zero-head (nth ρ i) (ev q) ∙ ap (λ (y : ℤ). nth ρ i *ℤ y +ℤ ev q) (sym (h tt))
  ev-mkc false i c q h = refl

  ev-mk : (i : ℕ) (p q : P) → ev (mk i p q) ≡ nth ρ i *ℤ ev p +ℤ ev q
  ev-mk i (pc c) q = ev-mkc (is_z c) i c q (is_z→0 c)
  ev-mk i (px j r s) q = refl

  -- a + (c + b) = c + (a + b)
  swapl : (a c b : ℤ) → a +ℤ (c +ℤ b) ≡ c +ℤ (a +ℤ b)
  swapl a c b = sym (+ℤ_assoc a c b) ∙ ap (λ (y : ℤ). y +ℤ b) (+ℤ_comm a c) ∙ +ℤ_assoc c a b

  ev-addc : (c : ℤ) (t : P) → ev (addc c t) ≡ c +ℤ ev t
  ev-addc c (pc a) = refl
  ev-addc c (px i p q) = ap (λ (y : ℤ). nth ρ i *ℤ ev p +ℤ y) (ev-addc c q) ∙ swapl (nth ρ i *ℤ ev p) c (ev q)

  -- the three cases of a sum
  add-lt : (x p q t : ℤ) → x *ℤ p +ℤ (q +ℤ t) ≡ (x *ℤ p +ℤ q) +ℤ t
  add-lt x p q t = sym (+ℤ_assoc (x *ℤ p) q t)

  add-eq : (x p q r s : ℤ) → x *ℤ (p +ℤ r) +ℤ (q +ℤ s) ≡ (x *ℤ p +ℤ q) +ℤ (x *ℤ r +ℤ s)
  add-eq x p q r s = ap (λ (y : ℤ). y +ℤ (q +ℤ s)) (*ℤ-distl x p r) ∙ +ℤ-swap4 (x *ℤ p) (x *ℤ r) q s

  module _ (i : ℕ) (p q : P) (fp fq : P → P) (hp : (t : P) → ev (fp t) ≡ ev p +ℤ ev t) (hq : (t : P) → ev (fq t) ≡ ev q +ℤ ev t) where
    ev-addx : (t : P) → ev (addx i p q fp fq t) ≡ ev (px i p q) +ℤ ev t
    ev-addx (pc c) = ap (λ (y : ℤ). nth ρ i *ℤ ev p +ℤ y) (ev-addc c q ∙ +ℤ_comm c (ev q)) ∙ add-lt (nth ρ i) (ev p) (ev q) c
    ev-addx (px j r s) =
        sel3-ind (compare i j) (λ _. px i p (fq (px j r s))) (λ _. mk i (fp r) (fq s)) (λ _. px j r (addx i p q fp fq s)) (λ (y : ℤ). y ≡ ev (px i p q) +ℤ ev (px j r s))
        (ap (λ (y : ℤ). nth ρ i *ℤ ev p +ℤ y) (hq (px j r s)) ∙ add-lt (nth ρ i) (ev p) (ev q) (ev (px j r s)))
        (λ e. ev-mk i (fp r) (fq s) ∙ (λ l. nth ρ i *ℤ hp r l +ℤ hq s l) ∙ add-eq (nth ρ i) (ev p) (ev q) (ev r) (ev s) ∙ ap (λ (m : ℕ). ev (px i p q) +ℤ (nth ρ m *ℤ ev r +ℤ ev s)) (eq→ i j e))
        (ap (λ (y : ℤ). nth ρ j *ℤ ev r +ℤ y) (ev-addx s) ∙ swapl (nth ρ j *ℤ ev r) (ev (px i p q)) (ev s))

  ev-add : (a t : P) → ev (add a t) ≡ ev a +ℤ ev t
  ev-add (pc c) t = ev-addc c t
  ev-add (px i p q) t = ev-addx i p q (add p) (add q) (ev-add p) (ev-add q) t

  ev-neg : (a : P) → ev (neg_p a) ≡ neg_ℤ (ev a)
  ev-neg (pc c) = refl
  ev-neg (px i p q) =
      (λ l. nth ρ i *ℤ ev-neg p l +ℤ ev-neg q l) ∙ ap (λ (y : ℤ). y +ℤ neg_ℤ (ev q)) (*ℤ-neg (nth ρ i) (ev p)) ∙ sym (neg_ℤ-+ℤ (nth ρ i *ℤ ev p) (ev q))

  -- x·(c·p) + c·q = c·(x·p + q)
  scl-step : (x c p q : ℤ) → x *ℤ (c *ℤ p) +ℤ c *ℤ q ≡ c *ℤ (x *ℤ p +ℤ q)
  scl-step x c p q = ap (λ (y : ℤ). y +ℤ c *ℤ q) (*ℤ-swapl x c p) ∙ sym (*ℤ-distl c (x *ℤ p) q)

  ev-scl : (c : ℤ) (a : P) → ev (scl c a) ≡ c *ℤ ev a
  ev-scl c (pc a) = refl
  ev-scl c (px i p q) = (λ l. nth ρ i *ℤ ev-scl c p l +ℤ ev-scl c q l) ∙ scl-step (nth ρ i) c (ev p) (ev q)

  ev-sclb : (b : Bool) (c : ℤ) (t : P) → (T b → c ≡ pos 0) → ev (sclb b c t) ≡ c *ℤ ev t
  ev-sclb true c t h = sym (ap (λ (y : ℤ). y *ℤ ev t) (h tt) ∙ zero-*ℤ (ev t))
  ev-sclb false c t h = ev-scl c t

  ev-mulv : (i : ℕ) (a : P) → ev (mulv i a) ≡ nth ρ i *ℤ ev a
  ev-mulv i (pc a) = ev-mk i (pc a) (pc (pos 0)) ∙ +ℤ_idr (nth ρ i *ℤ a)
  ev-mulv i (px j p q) =
      sel3-ind (compare i j) (λ _. px i (px j p q) (pc (pos 0))) (λ _. px i (px j p q) (pc (pos 0))) (λ _. px j (mulv i p) (mulv i q)) (λ (y : ℤ). y ≡ nth ρ i *ℤ ev (px j p q))
      (+ℤ_idr (nth ρ i *ℤ ev (px j p q)))
      (λ e. +ℤ_idr (nth ρ i *ℤ ev (px j p q)))
      ((λ l. nth ρ j *ℤ ev-mulv i p l +ℤ ev-mulv i q l) ∙ scl-step (nth ρ j) (nth ρ i) (ev p) (ev q))

  -- x·(p·t) + q·t = (x·p + q)·t
  mul-step : (x p q t : ℤ) → x *ℤ (p *ℤ t) +ℤ q *ℤ t ≡ (x *ℤ p +ℤ q) *ℤ t
  mul-step x p q t = ap (λ (y : ℤ). y +ℤ q *ℤ t) (sym (*ℤ-assoc x p t)) ∙ sym (*ℤ-distr (x *ℤ p) q t)

  ev-mul : (a t : P) → ev (mul a t) ≡ ev a *ℤ ev t
  ev-mul (pc c) t = ev-sclb (is_z c) c t (is_z→0 c)
  ev-mul (px i p q) t =
      ev-add (mulv i (mul p t)) (mul q t) ∙ ap (λ (y : ℤ). y +ℤ ev (mul q t)) (ev-mulv i (mul p t)) ∙ (λ l. nth ρ i *ℤ ev-mul p t l +ℤ ev-mul q t l) ∙ mul-step (nth ρ i) (ev p) (ev q) (ev t)

  pub ev-norm : (e : Expr) → ev (norm e) ≡ eval ρ e
  unfolding one
  ev-norm (v i) = +ℤ_idr (nth ρ i *ℤ pos 1) ∙ *ℤ-one (nth ρ i)
  ev-norm (k c) = refl
  ev-norm (a ⊞ b) = ev-add (norm a) (norm b) ∙ (λ l. ev-norm a l +ℤ ev-norm b l)
  ev-norm (a ⊠ b) = ev-mul (norm a) (norm b) ∙ (λ l. ev-norm a l *ℤ ev-norm b l)
  ev-norm (⊖ a) = ev-neg (norm a) ∙ ap neg_ℤ (ev-norm a)

  zero_p : (a : P) → T (is_zero_p a) → ev a ≡ pos 0
  zero_p (pc c) t = is_z→0 c t
  zero_p (px i p q) t = absurd t

-- a - b = 0 gives a = b
pub sub-zero→ : (a b : ℤ) → a -ℤ b ≡ pos 0 → a ≡ b
sub-zero→ a b e = neg_unique (neg_ℤ b) a e ∙ neg_ℤ-neg_ℤ b

pub solve : (ρ : List ℤ) (a b : Expr) → T (is_zero_p (norm (a ⊟ b))) → eval ρ a ≡ eval ρ b
solve ρ a b t = sub-zero→ (eval ρ a) (eval ρ b) (sym (ev-norm ρ (a ⊟ b)) ∙ zero_p ρ (norm (a ⊟ b)) t)
