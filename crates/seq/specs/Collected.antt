-- `collect same l xs`: the elements of xs appended to l one after the other, each where it is not there yet. It goes over lists end to end, so that nested
-- loops are one; no element is like one before it; and where the test says what is equal it has exactly the members of both. Assumes nothing.
use Rattle.std.specs.Prelude.{◌≡◌, refl, ◌⊎◌, ◌≤◌, ◌∷◌, ◌++◌, ◌+◌}
use Rattle.std.proofs.Common.{sym, subst, inl, inr, ⊎_elim, arith, length-append}
use Rattle.seq.specs.Seq.{Bool, true, false, cond, List, [], length, is_in, fresh, collect}
use Rattle.seq.specs.Terms.{Among, Every, Distinct}
use Rattle.seq.specs.Tests.{clash, or_l, or_r, or_cases, or_false}
use Rattle.seq.specs.Members.{among-++, ++-among}

module _ {A : Type 0} (same : A → A → Bool) where
  -- ── is_in ──

  pub in_witness : (x : A) (l : List A) → is_in same x l ≡ true → (y : A) × Among y l × (same x y ≡ true)
  in_witness x [] e = absurd (clash e refl)
  in_witness x (y ∷ ys) e = ⊎_elim (λ f. (y, inl refl, f)) (λ f. let r = in_witness x ys f in (r.0, inr r.1, r.2)) (or_cases (same x y) (is_in same x ys) e)

  pub in_has : (x y : A) (l : List A) → Among y l → same x y ≡ true → is_in same x l ≡ true
  in_has x y [] i e = absurd i
  in_has x y (z ∷ zs) (inl q) e = or_l (is_in same x zs) (subst (λ (w : A). same x w ≡ true) q e)
  in_has x y (z ∷ zs) (inr i) e = or_r (same x z) (in_has x y zs i e)

  -- ── one more, and lists end to end ──

  pub fresh_old : (l : List A) (x : A) → is_in same x l ≡ true → fresh same l x ≡ l
  fresh_old l x e = rw e

  pub fresh_new : (l : List A) (x : A) → is_in same x l ≡ false → fresh same l x ≡ l ++ (x ∷ [])
  fresh_new l x e = rw e

  pub collect-++ : (l xs ys : List A) → collect same l (xs ++ ys) ≡ collect same (collect same l xs) ys
  collect-++ l [] ys = refl
  collect-++ l (x ∷ xs) ys = collect-++ (fresh same l x) xs ys

  fresh-le : (l : List A) (x : A) (c : Bool) → length (cond c l (l ++ (x ∷ []))) ≤ length l + 1
  fresh-le l x true = omega arith
  fresh-le l x false = omega (arith, length-append l (x ∷ []))

  pub collect-le : (l xs : List A) → length (collect same l xs) ≤ length l + length xs
  collect-le l [] = omega arith
  collect-le l (x ∷ xs) = omega (arith, collect-le (fresh same l x) xs, fresh-le l x (is_in same x l))

  -- ── no element is like one before it ──

  distinct_snoc : (l : List A) (x : A) → Distinct same l → is_in same x l ≡ false → Distinct same (l ++ (x ∷ []))
  distinct_snoc [] x h e = (λ z i. absurd i, tt)
  distinct_snoc (y ∷ ys) x h e =
      let f = or_false (same x y) (is_in same x ys) e in
      (λ z i. ⊎_elim (λ j. h.0 z j) (λ j. ⊎_elim (λ q. subst (λ (w : A). same w y ≡ false) (sym q) f.0) (λ w. absurd w) j) (among-++ z ys (x ∷ []) i), distinct_snoc ys x h.1 f.1)

  distinct-step : (l : List A) (x : A) (c : Bool) → is_in same x l ≡ c → Distinct same l → Distinct same (cond c l (l ++ (x ∷ [])))
  distinct-step l x true e h = h
  distinct-step l x false e h = distinct_snoc l x h e

  pub collect-distinct : (l xs : List A) → Distinct same l → Distinct same (collect same l xs)
  collect-distinct l [] h = h
  collect-distinct l (x ∷ xs) h = collect-distinct (fresh same l x) xs (distinct-step l x (is_in same x l) refl h)

  -- ── members ──

  from_step : (z : A) (l : List A) (x : A) (c : Bool) → Among z (cond c l (l ++ (x ∷ []))) → Among z l ⊎ (z ≡ x)
  from_step z l x true i = inl i
  from_step z l x false i = ⊎_elim (λ j. inl j) (λ j. ⊎_elim (λ e. inr e) (λ w. absurd w) j) (among-++ z l (x ∷ []) i)

  -- nothing is made up
  pub collect_from : (z : A) (l xs : List A) → Among z (collect same l xs) → Among z l ⊎ Among z xs
  collect_from z l [] i = inl i
  collect_from z l (x ∷ xs) i =
      ⊎_elim (λ j. ⊎_elim (λ k. inl k) (λ e. inr (inl e)) (from_step z l x (is_in same x l) j)) (λ j. inr (inr j)) (collect_from z (fresh same l x) xs i)

  keeps-step : (z : A) (l : List A) (x : A) (c : Bool) → Among z l → Among z (cond c l (l ++ (x ∷ [])))
  keeps-step z l x true i = i
  keeps-step z l x false i = ++-among z l (x ∷ []) (inl i)

  -- what was there stays
  pub collect-keeps : (z : A) (l xs : List A) → Among z l → Among z (collect same l xs)
  collect-keeps z l [] i = i
  collect-keeps z l (x ∷ xs) i = collect-keeps z (fresh same l x) xs (keeps-step z l x (is_in same x l) i)

  -- ── where the test says what is equal, of what has P ──

  module _ (P : A → Type 0) (one : (x y : A) → P x → P y → same x y ≡ true → x ≡ y) where
    has_step : (l : List A) (x : A) (c : Bool) → is_in same x l ≡ c → P x → ((y : A) → Among y l → P y) → Among x (cond c l (l ++ (x ∷ [])))
    has_step l x true e px h = let r = in_witness x l e in subst (λ (w : A). Among w l) (sym (one x r.0 px (h r.0 r.1) r.2)) r.1
    has_step l x false e px h = ++-among x l (x ∷ []) (inr (inl refl))

    all_P : (l : List A) (x : A) → P x → ((y : A) → Among y l → P y) → (y : A) → Among y (fresh same l x) → P y
    all_P l x px h y i = ⊎_elim (λ j. h y j) (λ e. subst P (sym e) px) (from_step y l x (is_in same x l) i)

    -- nothing is lost
    pub collect_has : (z : A) (l xs : List A) → ((y : A) → Among y l → P y) → Every P xs → Among z xs → Among z (collect same l xs)
    collect_has z l [] h k i = absurd i
    collect_has z l (x ∷ xs) h k (inl e) =
        subst (λ (w : A). Among w (collect same l (x ∷ xs))) (sym e) (collect-keeps x (fresh same l x) xs (has_step l x (is_in same x l) refl k.0 h))
    collect_has z l (x ∷ xs) h k (inr i) = collect_has z (fresh same l x) xs (all_P l x k.0 h) k.1 i
