-- `select p n`: its members are exactly the numbers below n that have p, they rise, there are `count p n` of them, and a number that has p stands at
-- its rank (`select_at`, `position-count`). Where all have it; tests that agree; and rows appended for those that have it (`rows-select`). Assumes nothing.
use Rattle.std.specs.Prelude.{◌≡◌, refl, ◌<◌, ◌∷◌, ◌++◌, ◌+◌}
use Rattle.std.proofs.Common.{sym, ◌∙◌, ap, append-nil, inl, inr, ⊎_elim, not-suc-le-zero, add-one, arith, length-append}
use Rattle.std.proofs.Math.Decide.{dec_lt}
use Rattle.std.proofs.Math.ListN.{get_or-append}
use Rattle.std.proofs.lemmas.List.{get_or_at}
use Rattle.seq.specs.Seq.{Bool, true, false, cond, List, [], ℕ, zero, suc, length, get_or, count, select, position, rows}
use Rattle.seq.specs.Terms.{Among, Asc}
use Rattle.seq.specs.Tests.{clash}
use Rattle.seq.specs.Members.{among-++, ++-among}
use Rattle.seq.specs.Pairs.{pairs-snoc}
use Rattle.seq.specs.Count.{count_all, count_below, count-onto}
use Rattle.seq.specs.Rows.{rows_ext}
use Rattle.seq.specs.Position.{among-position, position_at}

module _ (p : ℕ → Bool) where
  -- ── what a loop asks ──

  pub select_more : (n : ℕ) → p n ≡ true → select p (n + 1) ≡ select p n ++ (n ∷ [])
  select_more n e = rw (add-one n, e)

  pub select-skip : (n : ℕ) → p n ≡ false → select p (n + 1) ≡ select p n
  select-skip n e = rw (add-one n, e)

  -- ── members ──

  from_step : (n z : ℕ) (l : List ℕ) (c : Bool) → p n ≡ c → (Among z l → (z < n) × (p z ≡ true)) → Among z (cond c (l ++ (n ∷ [])) l) → (z < suc n) × (p z ≡ true)
  from_step n z l false e ih i = let r = ih i in (omega arith, r.1)
  from_step n z l true e ih i =
      ⊎_elim (λ j. let r = ih j in (omega arith, r.1)) (λ j. ⊎_elim (λ q. (omega arith, ap p q ∙ e)) (λ w. absurd w) j) (among-++ z l (n ∷ []) i)

  -- each is below n and has p
  pub select_from_lem : (n z : ℕ) → Among z (select p n) → (z < n) × (p z ≡ true)
  select_from_lem zero z i = absurd i
  select_from_lem (suc n) z i = from_step n z (select p n) (p n) refl (select_from_lem n z) i

  last : (z n : ℕ) → z < suc n → (z < n → ⊥) → z ≡ n
  last z n h s = omega arith

  has_step : (n z : ℕ) (l : List ℕ) (c : Bool) → p n ≡ c → (z < n → Among z l) → z < suc n → p z ≡ true → Among z (cond c (l ++ (n ∷ [])) l)
  has_step n z l false e ih h q = ih (elim (dec_lt z n) [ yes s ↦ s | no s ↦ absurd (clash (ap p (sym (last z n h s)) ∙ q) e) ])
  has_step n z l true e ih h q = ++-among z l (n ∷ []) (elim (dec_lt z n) [ yes s ↦ inl (ih s) | no s ↦ inr (inl (last z n h s)) ])

  -- and each that is below n and has p is there
  pub select_has : (n z : ℕ) → z < n → p z ≡ true → Among z (select p n)
  select_has zero z h q = absurd (not-suc-le-zero h)
  select_has (suc n) z h q = has_step n z (select p n) (p n) refl (λ s. select_has n z s q) h q

  asc_step : (n : ℕ) (l : List ℕ) (c : Bool) → Asc l → ((z : ℕ) → Among z l → z < n) → Asc (cond c (l ++ (n ∷ [])) l)
  asc_step n l true a h = pairs-snoc ◌<◌ l n a h
  asc_step n l false a h = a

  pub select_asc : (n : ℕ) → Asc (select p n)
  select_asc zero = tt
  select_asc (suc n) = asc_step n (select p n) (p n) (select_asc n) (λ z i. (select_from_lem n z i).0)

  -- ── positions ──

  length-step : (n : ℕ) (l : List ℕ) (c : Bool) → length (cond c (l ++ (n ∷ [])) l) ≡ cond c (suc (length l)) (length l)
  length-step n l true = length-append l (n ∷ []) ∙ add-one (length l)
  length-step n l false = refl

  pub length-select : (n : ℕ) → length (select p n) ≡ count p n
  length-select zero = refl
  length-select (suc n) = length-step n (select p n) (p n) ∙ ap (λ (r : ℕ). cond (p n) (suc r) r) (length-select n)

  at_step : (n k d : ℕ) (c : Bool) → p n ≡ c → (k < n → get_or (select p n) (count p k) d ≡ k) → k < suc n → p k ≡ true → get_or (cond c (select p n ++ (n ∷ [])) (select p n)) (count p k) d ≡ k
  at_step n k d false e ih h q = ih (elim (dec_lt k n) [ yes s ↦ s | no s ↦ absurd (clash (ap p (sym (last k n h s)) ∙ q) e) ])
  at_step n k d true e ih h q =
      elim (dec_lt k n) [
        | yes s ↦ get_or-append (select p n) (n ∷ []) d (count p k) (omega (arith, length-select n, count_below p n k s q)) ∙ ih s
        | no s ↦ let t : k ≡ n = last k n h s in rw t (get_or_at (select p n) n [] d (count p n) (length-select n))
      ]

  -- a number that has p stands at its rank
  pub select_at : (n k d : ℕ) → k < n → p k ≡ true → get_or (select p n) (count p k) d ≡ k
  select_at zero k d h q = absurd (not-suc-le-zero h)
  select_at (suc n) k d h q = at_step n k d (p n) refl (λ s. select_at n k d s q) h q

  -- and what stands at i is below n, has p, and has the rank i
  pub select-nth : (n i d : ℕ) → i < count p n → (get_or (select p n) i d < n) × (p (get_or (select p n) i d) ≡ true) × (count p (get_or (select p n) i d) ≡ i)
  select-nth n i d h =
      let r = count-onto p n i h in
      let k : ℕ = r.0 in
      let e : get_or (select p n) i d ≡ k = ap (λ (j : ℕ). get_or (select p n) j d) (sym r.3) ∙ select_at n k d r.1 r.2 in
      rw e (r.1, r.2, r.3)

  -- its place is how many are selected before it: what a running count gives
  pub position-count : (n v : ℕ) → v < n → p v ≡ true → position v (select p n) ≡ count p v
  position-count n v l e =
      let i : ℕ = position v (select p n) in
      let h : i < length (select p n) = among-position v (select p n) (select_has n v l e) in
      let q : get_or (select p n) i 0 ≡ v = position_at v (select p n) 0 h in
      sym (select-nth n i 0 (omega (arith, length-select n))).2 ∙ ap (count p) q

  -- ── all of them ──

  pub select_all : (n i : ℕ) → ((k : ℕ) → k < n → p k ≡ true) → i < n → get_or (select p n) i 0 ≡ i
  select_all n i h l = ap (λ (j : ℕ). get_or (select p n) j 0) (sym (count_all p i (λ k b. h k (omega arith)))) ∙ select_at n i 0 l (h i l)

  pub length_all : (n : ℕ) → ((k : ℕ) → k < n → p k ≡ true) → length (select p n) ≡ n
  length_all n h = length-select n ∙ count_all p n h

-- tests that agree below the bound
pub select-ext : (p q : ℕ → Bool) (n : ℕ) → ((k : ℕ) → k < n → p k ≡ q k) → select p n ≡ select q n
select-ext p q zero h = refl
select-ext p q (suc n) h = rw (select-ext p q n (λ k l. h k (omega arith)), h n (omega arith))

-- ── for v in 0..n { if p(v) { append the row } } ──

module _ (f : ℕ → List ℕ) (p : ℕ → Bool) where
  abbrev picked : ℕ → List ℕ
  picked v = cond (p v) (f v) []

  select-step : (n : ℕ) (l : List ℕ) (c : Bool) → rows (λ i. f (get_or l i 0)) (length l) ≡ rows picked n
      → rows (λ i. f (get_or (cond c (l ++ (n ∷ [])) l) i 0)) (length (cond c (l ++ (n ∷ [])) l)) ≡ rows picked n ++ cond c (f n) []
  select-step n l false ih = ih ∙ sym (append-nil (rows picked n))
  select-step n l true ih =
      let e : length (l ++ (n ∷ [])) ≡ suc (length l) = length-append l (n ∷ []) ∙ add-one (length l) in
      let a : rows (λ i. f (get_or (l ++ (n ∷ [])) i 0)) (length l) ≡ rows picked n =
      rows_ext (λ i. f (get_or (l ++ (n ∷ [])) i 0)) (λ i. f (get_or l i 0)) (length l) (λ k b. ap f (get_or-append l (n ∷ []) 0 k b)) ∙ ih in
      let b : f (get_or (l ++ (n ∷ [])) (length l) 0) ≡ f n = ap f (get_or_at l n [] 0 (length l) refl) in
      ap (rows (λ i. f (get_or (l ++ (n ∷ [])) i 0))) e ∙ (λ i. a i ++ b i)

  -- the rows of those that are selected
  pub rows-select : (n : ℕ) → rows (λ i. f (get_or (select p n) i 0)) (length (select p n)) ≡ rows (λ v. cond (p v) (f v) []) n
  rows-select zero = refl
  rows-select (suc n) = select-step n (select p n) (p n) (rows-select n)
