-- Threads: a vertex more on some edges, and what it makes of threads of the vertices below it. Assumes nothing.
use Rattle.std.specs.Prelude.{◌≡◌, refl, ◌≤◌, ◌<◌, ◌||◌, ◌∷◌, ◌+◌, ◌-◌, ◌*◌}
use Rattle.std.proofs.Common.{sym, ◌∙◌, ap, ⊎_elim, arith, eqb-true, eq-eqb, ne_eqb}
use Rattle.std.proofs.Math.Decide.{ℕ_discrete}
use Rattle.seq.specs.Seq.{Bool, true, false, cond, List, [], ℕ, zero, suc, eqb, get_or}
use Rattle.seq.specs.Tests.{or_l, or_r, or_cases, clash}
use Rattle.overlay_cut.specs.Threads.{down, along, thread, heads, topped, named_in}

-- ── along the links ──

along_none : (ns : List ℕ) (f : ℕ) → along ns f 0 ≡ []
along_none ns zero = refl
along_none ns (suc f) = refl

-- links go to earlier nodes: more steps find no more
pub along-enough : (ns : List ℕ) (t : ℕ) → ((r : ℕ) → r < t → get_or ns (2 * r + 1) 0 ≤ r) → (f g x : ℕ) → x ≤ t → x ≤ f → x ≤ g → along ns f x ≡ along ns g x
along-enough ns t F zero g zero h k l = sym (along_none ns g)
along-enough ns t F zero g (suc r) h k l = absurd (omega arith)
along-enough ns t F (suc f) zero zero h k l = refl
along-enough ns t F (suc f) zero (suc r) h k l = absurd (omega arith)
along-enough ns t F (suc f) (suc g) zero h k l = refl
along-enough ns t F (suc f) (suc g) (suc r) h k l =
    ap (λ (z : List ℕ). get_or ns (2 * r) 0 ∷ z) (along-enough ns t F f g (get_or ns (2 * r + 1) 0) (omega (arith, F r (omega arith))) (omega (arith, F r (omega arith))) (omega (arith, F r (omega arith))))

-- two tables that are the same in the first t nodes
pub along_same : (ns ms : List ℕ) (t : ℕ) → ((r : ℕ) → r < t → get_or ns (2 * r + 1) 0 ≤ r) → ((i : ℕ) → i < 2 * t → get_or ms i 0 ≡ get_or ns i 0) → (f x : ℕ) → x ≤ t → along ms f x ≡ along ns f x
along_same ns ms t F S zero x h = refl
along_same ns ms t F S (suc f) zero h = refl
along_same ns ms t F S (suc f) (suc r) h =
    let a = S (2 * r) (omega arith) in
    let b = S (2 * r + 1) (omega arith) in
    let c = along_same ns ms t F S f (get_or ns (2 * r + 1) 0) (omega (arith, F r (omega arith))) in
    (λ i. a i ∷ along ms f (b i)) ∙ ap (λ (z : List ℕ). get_or ns (2 * r) 0 ∷ z) c

-- the first vertex of a thread
pub heads_none : (ns : List ℕ) (v x : ℕ) → x ≡ 0 → false ≡ heads v (thread ns x)
heads_none ns v x e = sym (ap (λ (y : ℕ). heads v (thread ns y)) e)

pub heads_some : (ns : List ℕ) (v x : ℕ) → (x ≡ 0 → ⊥) → eqb (get_or ns (2 * (x - 1)) 0) v ≡ heads v (thread ns x)
heads_some ns v zero f = absurd (f refl)
heads_some ns v (suc r) f = let e : suc r - 1 ≡ r = omega arith in ap (λ (y : ℕ). eqb (get_or ns (2 * y) 0) v) e

-- ── a list that starts with v ──

pub topped-once : (v : ℕ) (l : List ℕ) → topped v (topped v l) ≡ topped v l
topped-once v l = by (heads v l) refl
  where
    by : (b : Bool) → heads v l ≡ b → topped v (cond b l (v ∷ l)) ≡ cond b l (v ∷ l)
    by true e = rw e
    by false e = rw (eq-eqb v v refl)

pub topped_is : (v : ℕ) (l : List ℕ) → heads v l ≡ true → topped v l ≡ l
topped_is v l e = rw e

pub topped_new : (v : ℕ) (l : List ℕ) → heads v l ≡ false → topped v l ≡ v ∷ l
topped_new v l e = rw e

-- the numbers below i do not start with v, which is not below i
pub down_under : (on : ℕ → Bool) (i v : ℕ) → i ≤ v → heads v (down on i) ≡ false
down_under on zero v h = refl
down_under on (suc i) v h = by (on i) (down_under on i v (omega arith))
  where
    by : (b : Bool) → heads v (down on i) ≡ false → heads v (cond b (i ∷ down on i) (down on i)) ≡ false
    by true r = ne_eqb i v (λ e. omega arith)
    by false r = r

pub down_ext : (f g : ℕ → Bool) (n : ℕ) → ((v : ℕ) → v < n → f v ≡ g v) → down f n ≡ down g n
down_ext f g zero h = refl
down_ext f g (suc n) h =
    let a = h n (omega arith) in
    let r = down_ext f g n (λ v l. h v (omega arith)) in
    λ i. cond (a i) (n ∷ r i) (r i)

-- ── cells that name an edge ──

pub named_more : (cells : List ℕ) (a i k : ℕ) → a ≤ i → named_in cells a (i + 1 - a) k ≡ (named_in cells a (i - a) k || eqb (get_or cells i 0) k)
named_more cells a i k h =
    let e : i + 1 - a ≡ suc (i - a) = omega arith in
    let f : a + (i - a) ≡ i = omega arith in
    ap (λ (n : ℕ). named_in cells a n k) e ∙ ap (λ (j : ℕ). named_in cells a (i - a) k || eqb (get_or cells j 0) k) f

pub named_none : (cells : List ℕ) (a k : ℕ) → named_in cells a (a - a) k ≡ false
named_none cells a k = let e : a - a ≡ 0 = omega arith in ap (λ (n : ℕ). named_in cells a n k) e

-- a cell that names k, and where one does
pub named_in_lem : (cells : List ℕ) (a n k i : ℕ) → i < n → get_or cells (a + i) 0 ≡ k → named_in cells a n k ≡ true
named_in_lem cells a zero k i h e = absurd (omega arith)
named_in_lem cells a (suc n) k i h e =
    elim (ℕ_discrete i n) [
      | yes q ↦ or_r (named_in cells a n k) (eq-eqb (get_or cells (a + n) 0) k (ap (λ (j : ℕ). get_or cells (a + j) 0) (sym q) ∙ e))
      | no q ↦ or_l (eqb (get_or cells (a + n) 0) k) (named_in_lem cells a n k i (omega arith) e)
    ]

pub in_named : (cells : List ℕ) (a n k : ℕ) → named_in cells a n k ≡ true → (i : ℕ) × (i < n) × (get_or cells (a + i) 0 ≡ k)
in_named cells a zero k e = absurd (clash e refl)
in_named cells a (suc n) k e =
    ⊎_elim (λ g. let r = in_named cells a n k g in (r.0, omega (arith, r.1), r.2)) (λ f. (n, omega arith, eqb-true (get_or cells (a + n) 0) k f))
    (or_cases (named_in cells a n k) (eqb (get_or cells (a + n) 0) k) e)
