-- A list in which each element stands once, all of them members of another list, is no longer than that. So two such lists with the same members are equally long. Assumes
-- nothing.
use Rattle.std.specs.Prelude.{◌≡◌, refl, ◌⊎◌, ◌≤◌, ◌∷◌, ◌++◌}
use Rattle.std.proofs.Common.{sym, ◌∙◌, ap, subst, inl, inr, ⊎_elim, arith}
use Rattle.seq.specs.Seq.{Bool, true, List, [], map, suc, length}
use Rattle.seq.specs.Terms.{Among, Rising, Distinct, Asymmetric}
use Rattle.seq.specs.Tests.{clash}
use Rattle.seq.specs.Members.{among-++, among_one, map-among, length-map}

module _ {A : Type 0} where
  -- no element stands again
  abbrev pub Each : List A → Type 0
  Each [] = Unit {0}
  Each (x ∷ xs) = (Among x xs → ⊥) × Each xs

  -- one more that is new
  pub each_snoc : (l : List A) (x : A) → Each l → (Among x l → ⊥) → Each (l ++ (x ∷ []))
  each_snoc [] x h d = (λ i. i, tt)
  each_snoc (y ∷ ys) x h d = (
    λ i. ⊎_elim (λ j. h.0 j) (λ j. d (inl (sym (among_one y x j)))) (among-++ y ys (x ∷ []) i),
    each_snoc ys x h.1 (λ i. d (inr i)),
  )

  -- m without x
  pub without : (x : A) (m : List A) → Among x m → (k : List A) × (length m ≡ suc (length k)) × ((z : A) → Among z m → (z ≡ x) ⊎ Among z k)
  without x [] i = absurd i
  without x (y ∷ ys) (inl e) = (ys, refl, λ z j. ⊎_elim (λ q. inl (q ∙ sym e)) (λ q. inr q) j)
  without x (y ∷ ys) (inr i) =
      let (k, l, h) = without x ys i in
      (y ∷ k, ap suc l, λ z j. ⊎_elim (λ q. inr (inl q)) (λ q. ⊎_elim (λ r. inl r) (λ r. inr (inr r)) (h z q)) j)

  pub fewer : (l m : List A) → Each l → ((z : A) → Among z l → Among z m) → length l ≤ length m
  fewer [] m h f = omega arith
  fewer (x ∷ xs) m h f =
      let (k, l, g) = without x m (f x (inl refl)) in
      omega (arith, fewer xs k h.1 (λ z i. ⊎_elim (λ e. absurd (h.0 (subst (λ (w : A). Among w xs) e i))) (λ j. j) (g z (f z (inr i)))))

  pub as_many : (l m : List A) → Each l → Each m → ((z : A) → Among z l → Among z m) → ((z : A) → Among z m → Among z l) → length l ≡ length m
  as_many l m h k f g = omega (arith, fewer l m h f, fewer m l k g)

  -- in strict order, or told apart by a test
  pub rising_each : (b : A → A → Bool) → Asymmetric b → (l : List A) → Rising b l → Each l
  rising_each b asym [] r = tt
  rising_each b asym (x ∷ xs) r = (λ i. let e : b x x ≡ true = r.0 x i in asym x x e e, rising_each b asym xs r.1)

  pub distinct_each : (same : A → A → Bool) → ((x : A) → same x x ≡ true) → (l : List A) → Distinct same l → Each l
  distinct_each same self [] d = tt
  distinct_each same self (x ∷ xs) d = (λ i. clash (self x) (d.0 x i), distinct_each same self xs d.1)

-- by a function that takes no two of them to one
module _ {A : Type 0} {B : Type 0} (f : A → B) where
  each_map : (l : List A) → Each l → ((x y : A) → Among x l → Among y l → f x ≡ f y → x ≡ y) → Each (map f l)
  each_map [] h once = tt
  each_map (x ∷ xs) h once = (
    λ i. let (y, j, e) = map-among f (f x) xs i in h.0 (subst (λ (w : A). Among w xs) (once y x (inr j) (inl refl) e) j),
    each_map xs h.1 (λ y z i j. once y z (inr i) (inr j)),
  )

  pub fewer_by : (l : List A) (m : List B) → Each l → ((x y : A) → Among x l → Among y l → f x ≡ f y → x ≡ y) → ((x : A) → Among x l → Among (f x) m) → length l ≤ length m
  fewer_by l m h once into =
      omega (arith, length-map f l, fewer (map f l) m (each_map l h once) (λ z i. let (x, j, e) = map-among f z l i in subst (λ (w : B). Among w m) e (into x j)))
