-- Of Tallies of specs/, what rests on its definitions.
use Rattle.std.specs.Prelude.{◌≡◌, refl, ◌≤◌, ◌<◌, ◌∷◌, ◌++◌, ◌+◌}
use Rattle.std.proofs.Common.{sym, ◌∙◌, ap, subst, inl, inr, ⊎_elim, append-nil, le_refl, add-zero, add-suc, arith, eq-eqb, ne_eqb}
use Rattle.std.proofs.Math.Seq.{append_snoc}
use Rattle.seq.specs.Seq.{Bool, true, false, cond, List, [], map, ℕ, suc, length, is_in, insert_by}
use Rattle.seq.specs.Terms.{Among, Rising}
use Rattle.seq.specs.Tests.{clash, not-true}
use Rattle.seq.specs.Members.{among-++, ++-among}
use Rattle.seq.specs.PairOrder.{pair_before, same_pair, not_same, same_pair-self, pair-irr, pair-asym, pair_one}
use Rattle.seq.specs.HowMany.{how_many, many-++, many_none}
use Rattle.paper.specs.Year.{Pair, sorted_pairs}
use Rattle.laws_year.specs.Step.{Tally, tally_before, first_face, the_one_more, add_face, add_faces}
use Rattle.laws_year.specs.Pairs.{sorted-rising, sorted_from, sorted_has, sorted_same, in_among, among_in}
use Rattle.laws_year.specs.Tallies.{tally_by, sheets_to, faces_to, last_to, one, tallies_to, face-grows}

-- ── one face more in a sorted list ──

module _ (s t l s' t' l' : Pair → ℕ) (n : ℕ) (p : Pair) where
  abbrev f : Pair → Tally
  f = tally_by s t l

  abbrev f' : Pair → Tally
  f' = tally_by s' t' l'

  abbrev new : Tally
  new = first_face n p

  abbrev keep : Pair → Pair → Pair
  keep x y = y

  module _ (other : (q : Pair) → (q ≡ p → ⊥) → tally_by s t l q ≡ tally_by s' t' l' q) where
    -- no other row changes
    others : (qs : List Pair) → (Among p qs → ⊥) → map (tally_by s t l) qs ≡ map (tally_by s' t' l') qs
    others [] h = refl
    others (q ∷ qs) h = λ i. other q (λ e. h (inl (sym e))) i ∷ others qs (λ j. h (inr j)) i

    module _ (Was : Type 0) (old : Was → the_one_more (first_face n p) (tally_by s t l p) ≡ tally_by s' t' l' p) (fresh : (Was → ⊥) → first_face n p ≡ tally_by s' t' l' p) where
      insert-step : (q : Pair) (qs : List Pair) (c d : Bool) → pair_before p q ≡ c → pair_before q p ≡ d → Rising pair_before (q ∷ qs) → (Was → Among p (q ∷ qs)) → (Among p (q ∷ qs) → Was)
          → ((Was → Among p qs) → (Among p qs → Was) → insert_by tally_before the_one_more new (map f qs) ≡ map f' (insert_by pair_before keep p qs))
          → cond c (new ∷ f q ∷ map f qs) (cond d (f q ∷ insert_by tally_before the_one_more new (map f qs)) (the_one_more new (f q) ∷ map f qs)) ≡ map f' (cond c (p ∷ q ∷ qs) (cond d (q ∷ insert_by pair_before keep p qs) (keep p q ∷ qs)))
      insert-step q qs true d e g h was is ih =
          let away : Among p (q ∷ qs) → ⊥ = λ i. ⊎_elim (λ x. pair-irr p (subst (λ (y : Pair). pair_before p y ≡ true) (sym x) e)) (λ j. pair-asym p q e (h.0 p j)) i in
          (λ i. fresh (λ w. away (was w)) i ∷ others (q ∷ qs) away i)
      insert-step q qs false true e g h was is ih =
          let apart : q ≡ p → ⊥ = λ x. pair-irr p (subst (λ (y : Pair). pair_before y p ≡ true) x g) in
          let r = ih (λ w. ⊎_elim (λ x. absurd (apart (sym x))) (λ j. j) (was w)) (λ j. is (inr j)) in
          (λ i. other q apart i ∷ r i)
      insert-step q qs false false e g h was is ih =
          let x : p ≡ q = pair_one p q e g in
          let away : Among p qs → ⊥ = λ j. pair-irr p (subst (λ (y : Pair). pair_before y p ≡ true) (sym x) (h.0 p j)) in
          let z : the_one_more new (f q) ≡ f' q = subst (λ (y : Pair). the_one_more new (f y) ≡ f' y) x (old (is (inl x))) in
          (λ i. z i ∷ others qs away i)

      insert-map : (qs : List Pair) → Rising pair_before qs → (Was → Among p qs) → (Among p qs → Was) → insert_by tally_before the_one_more new (map f qs) ≡ map f' (insert_by pair_before keep p qs)
      insert-map [] h was is = λ i. fresh (λ w. was w) i ∷ []
      insert-map (q ∷ qs) h was is = insert-step q qs (pair_before p q) (pair_before q p) refl refl h was is (insert-map qs h.1)

-- ── the faces of one sheet ──

-- with the sheets, faces and last files of the sheets before, and the faces seen of sheet n
module _ (before : List Pair) (S T L : Pair → ℕ) (n : ℕ) (earlier : (p : Pair) → L p < n)
    (unseen : (p : Pair) → (Among p before → ⊥) → (S p ≡ 0) × (T p ≡ 0)) where
  module _ (seen : List Pair) (p : Pair) where
    abbrev more : List Pair
    more = seen ++ (p ∷ [])

    more_in : (q : Pair) → (q ≡ p → ⊥) → is_in same_pair q (seen ++ (p ∷ [])) ≡ is_in same_pair q seen
    more_in q d = go (is_in same_pair q seen) refl
      where
        go : (c : Bool) → is_in same_pair q seen ≡ c → is_in same_pair q (seen ++ (p ∷ [])) ≡ c
        go true e = among_in q more (++-among q seen (p ∷ []) (inl (in_among q seen e)))
        go false e = not-true (is_in same_pair q more) (λ g. ⊎_elim (λ i. clash (among_in q seen i) e) (λ i. ⊎_elim (λ x. d x) (λ w. absurd w) i) (among-++ q seen (p ∷ []) (in_among q more g)))

    p_in : is_in same_pair p (seen ++ (p ∷ [])) ≡ true
    p_in = among_in p more (++-among p seen (p ∷ []) (inr (inl refl)))

    more_times : (q : Pair) → (q ≡ p → ⊥) → how_many (same_pair q) (seen ++ (p ∷ [])) ≡ how_many (same_pair q) seen
    more_times q d = many-++ (same_pair q) seen (p ∷ []) ∙ rw (not_same q p d) (add-zero (how_many (same_pair q) seen))

    p_times : how_many (same_pair p) (seen ++ (p ∷ [])) ≡ suc (how_many (same_pair p) seen)
    p_times = many-++ (same_pair p) seen (p ∷ []) ∙ rw (same_pair-self p) (omega arith)

    other_row : (q : Pair) → (q ≡ p → ⊥) → tally_by (sheets_to before S T L n earlier unseen seen) (faces_to before S T L n earlier unseen seen) (last_to before S T L n earlier unseen seen) q ≡ tally_by (sheets_to before S T L n earlier unseen more) (faces_to before S T L n earlier unseen more) (last_to before S T L n earlier unseen more) q
    other_row q d = rw (more_in q d, more_times q d)

    abbrev Was : Type 0
    Was = Among p (before ++ seen)

    old_step : (c : Bool) → is_in same_pair p seen ≡ c → the_one_more (first_face n p) (tally_by (λ q. S q + one before S T L n earlier unseen c) (faces_to before S T L n earlier unseen seen) (λ q. cond c n (L q)) p)
        ≡ record { pair = p; sheets = S p + 1; faces = T p + suc (how_many (same_pair p) seen); last = n }
    old_step true e = λ i. record { pair = p; sheets = cond (eq-eqb n n refl i) (S p + 1) (suc (S p + 1)); faces = sym (add-suc (T p) (how_many (same_pair p) seen)) i; last = n }
    old_step false e = (λ i. record { pair = p; sheets = cond (ne_eqb (L p) n apart i) (S p + 0) (suc (S p + 0)); faces = sym (add-suc (T p) (how_many (same_pair p) seen)) i; last = n }) ∙ (λ i. record { pair = p; sheets = first i; faces = T p + suc (how_many (same_pair p) seen); last = n })
      where
        apart : L p ≡ n → ⊥
        apart x = omega (arith, earlier p)

        first : suc (S p + 0) ≡ S p + 1
        first = omega arith

    now : tally_by (sheets_to before S T L n earlier unseen more) (faces_to before S T L n earlier unseen more) (last_to before S T L n earlier unseen more) p ≡ record { pair = p; sheets = S p + 1; faces = T p + suc (how_many (same_pair p) seen); last = n }
    now = rw (p_in, p_times)

    old_row : the_one_more (first_face n p) (tally_by (sheets_to before S T L n earlier unseen seen) (faces_to before S T L n earlier unseen seen) (last_to before S T L n earlier unseen seen) p) ≡ tally_by (sheets_to before S T L n earlier unseen more) (faces_to before S T L n earlier unseen more) (last_to before S T L n earlier unseen more) p
    old_row = old_step (is_in same_pair p seen) refl ∙ sym now

    new_row : (Among p (before ++ seen) → ⊥) → first_face n p ≡ tally_by (sheets_to before S T L n earlier unseen more) (faces_to before S T L n earlier unseen more) (last_to before S T L n earlier unseen more) p
    new_row h =
        let z = unseen p (λ i. h (++-among p before seen (inl i))) in
        let a : 1 ≡ S p + 1 = omega (arith, z.0) in
        let b : 1 ≡ T p + suc (how_many (same_pair p) seen) = rw (not_seen) (omega (arith, z.1)) in
        (λ i. record { pair = p; sheets = a i; faces = b i; last = n }) ∙ sym now
      where
        not_seen : how_many (same_pair p) seen ≡ 0
        not_seen = many_none (same_pair p) seen (λ q i. not_same p q (λ e. h (++-among p before seen (inr (subst (λ (z : Pair). Among z seen) (sym e) i)))))

    pub add-face : add_face n (tallies_to before S T L n earlier unseen seen) p ≡ tallies_to before S T L n earlier unseen more
    add-face =
        insert-map (sheets_to before S T L n earlier unseen seen) (faces_to before S T L n earlier unseen seen) (last_to before S T L n earlier unseen seen) (sheets_to before S T L n earlier unseen more) (faces_to before S T L n earlier unseen more) (last_to before S T L n earlier unseen more) n p other_row
        (Among p (before ++ seen)) (λ w. old_row) new_row (sorted_pairs (before ++ seen)) (sorted-rising (before ++ seen))
        (λ i. sorted_has (before ++ seen) p i) (λ i. sorted_from (before ++ seen) p i)
        ∙ ap (map (tally_by (sheets_to before S T L n earlier unseen more) (faces_to before S T L n earlier unseen more) (last_to before S T L n earlier unseen more))) (sorted_same (p ∷ (before ++ seen)) (before ++ more) there back)
      where
        there : (z : Pair) → Among z (p ∷ (before ++ seen)) → Among z (before ++ more)
        there z (inl e) = ++-among z before more (inr (++-among z seen (p ∷ []) (inr (inl e))))
        there z (inr i) = ⊎_elim (λ j. ++-among z before more (inl j)) (λ j. ++-among z before more (inr (++-among z seen (p ∷ []) (inl j)))) (among-++ z before seen i)

        back : (z : Pair) → Among z (before ++ more) → Among z (p ∷ (before ++ seen))
        back z i =
            ⊎_elim (λ j. inr (++-among z before seen (inl j)))
            (λ j. ⊎_elim (λ k. inr (++-among z before seen (inr k))) (λ k. ⊎_elim (λ e. inl e) (λ w. absurd w) k) (among-++ z seen (p ∷ []) j))
            (among-++ z before more i)

  pub add-faces : (seen ps : List Pair) → add_faces n (tallies_to before S T L n earlier unseen seen) ps ≡ tallies_to before S T L n earlier unseen (seen ++ ps)
  add-faces seen [] = ap (tallies_to before S T L n earlier unseen) (sym (append-nil seen))
  add-faces seen (p ∷ ps) =
      ap (λ (ts : List Tally). add_faces n ts ps) (add-face seen p) ∙ add-faces (seen ++ (p ∷ [])) ps ∙ ap (tallies_to before S T L n earlier unseen) (append_snoc seen p ps)

  -- a whole sheet
  pub add-sheet : (ps : List Pair) → add_faces n (tallies_to before S T L n earlier unseen []) ps ≡ tallies_to before S T L n earlier unseen ps
  add-sheet ps = add-faces [] ps

-- ── tallies only grow ──

module _ (n : ℕ) where
  pub faces-grow : (ts : List Tally) (ps : List Pair) → length ts ≤ length (add_faces n ts ps)
  faces-grow ts [] = le_refl (length ts)
  faces-grow ts (p ∷ ps) = omega (arith, face-grows n ts p, faces-grow (add_face n ts p) ps)
