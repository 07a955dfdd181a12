-- The list of what was done: an entry is there exactly where its step was taken (`entry_is`, `is_entry`), entries stand by step, then number (`entries-rise`), and they account for
-- every vertex and edge that is not kept (`vertex-balance`, `edge-balance`). An edge that is dropped in step 3 has an earlier one that is kept. Assumes nothing.
use Rattle.std.specs.Prelude.{◌≡◌, refl, ◌⊎◌, ◌<◌, ◌&&◌, ◌∷◌, ◌++◌, ◌+◌}
use Rattle.std.proofs.Common.{sym, ◌∙◌, ap, subst, inl, inr, ⊎_elim, arith, length-append, eq-eqb, ne_eqb, lt-ltb, ltb-true}
use Rattle.std.proofs.lemmas.Bool.{eqb-false}
use Rattle.seq.specs.Seq.{true, false, not, List, [], ℕ, length, eqb, ltb, least, the_some_below, count, select}
use Rattle.seq.specs.Terms.{Among, Asc, Rising}
use Rattle.seq.specs.Tests.{clash, not-true, or_l, and_parts, was-false}
use Rattle.seq.specs.Members.{among-++, ++-among, among-map, map-among, length-map}
use Rattle.seq.proofs.Least.{least-holds, least_min}
use Rattle.seq.specs.Select.{select_from_lem, select_has, select_asc, length-select}
use Rattle.seq.specs.Count.{count_three}
use Rattle.seq.specs.PairOrder.{pair_before, is_before}
use Rattle.seq.specs.HowMany.{how_many, many-++}
use Rattle.seq.specs.Pairs.{parts-pairs, map-pairs}
use Rattle.paper.specs.Plane.{same}
use Rattle.paper.specs.Graph.{Graph, edge_count, point}
use Rattle.paper.specs.Map.{doubled}
use Rattle.paper.specs.Mend.{from_now, to_now, shrunk, alike, repeated, kept_edge, kept_edges, has_edge, bare, kept_vertices, listed, entries}
use Rattle.laws_mend.specs.Merged.{edge_three, vertex_three, alike_is, is_alike, keeps-edge}

-- how many entries have a step
abbrev pub of_step : ℕ → List (ℕ × ℕ) → ℕ
of_step i es = how_many (λ e. eqb e.0 i) es

-- ── entries of one step ──

module _ (i : ℕ) where
  pub listed-among : (n : ℕ) (l : List ℕ) → Among n l → Among (i, n) (listed i l)
  listed-among n l a = among-map (λ (x : ℕ). (i, x)) n l a

  pub among-listed : (e : ℕ × ℕ) (l : List ℕ) → Among e (listed i l) → (e.0 ≡ i) × Among e.1 l
  among-listed e l a =
      let r = map-among (λ (x : ℕ). (i, x)) e l a in
      (ap (λ (z : ℕ × ℕ). z.0) (sym r.2), subst (λ (x : ℕ). Among x l) (ap (λ (z : ℕ × ℕ). z.1) r.2) r.1)

  listed-rise : (l : List ℕ) → Asc l → Rising pair_before (listed i l)
  listed-rise l a = map-pairs (λ (x : ℕ). (i, x)) ◌<◌ (λ x y. pair_before x y ≡ true) l (λ x y _ _ h. is_before (i, x) (i, y) (inr (refl, h))) a

  own-step : (l : List ℕ) → of_step i (listed i l) ≡ length l
  own-step [] = refl
  own-step (x ∷ xs) = rw (eq-eqb i i refl, own-step xs)

  other_step : (j : ℕ) (l : List ℕ) → (i ≡ j → ⊥) → of_step j (listed i l) ≡ 0
  other_step j [] d = refl
  other_step j (x ∷ xs) d = rw (ne_eqb i j d, other_step j xs d)

module _ (g : Graph) where
  abbrev v_count : ℕ
  v_count = length g.points

  abbrev e_count : ℕ
  e_count = edge_count g

  abbrev e1 : List ℕ
  e1 = select (doubled g) (length g.points)

  abbrev e2 : List ℕ
  e2 = select (shrunk g) (edge_count g)

  abbrev e3 : List ℕ
  e3 = select (repeated g) (edge_count g)

  abbrev e4 : List ℕ
  e4 = select (bare g (kept_edges g)) (length g.points)

  -- ── which entries there are ──

  -- entry e, by its step
  pub data Entry (e : ℕ × ℕ) : Type 0 where
    merges : e.0 ≡ 1 → e.1 < length g.points → doubled g e.1 ≡ true → Entry e
    shrinks : e.0 ≡ 2 → e.1 < edge_count g → shrunk g e.1 ≡ true → Entry e
    repeats : e.0 ≡ 3 → e.1 < edge_count g → repeated g e.1 ≡ true → Entry e
    drops : e.0 ≡ 4 → e.1 < length g.points → bare g (kept_edges g) e.1 ≡ true → Entry e

  pub entry_is : (e : ℕ × ℕ) → Among e (entries g) → Entry e
  entry_is e a =
      ⊎_elim
      (λ b. ⊎_elim
      (λ c. ⊎_elim
      (λ d. let r = among-listed 1 e e1 d in let q = select_from_lem (doubled g) v_count e.1 r.1 in merges r.0 q.0 q.1)
      (λ d. let r = among-listed 2 e e2 d in let q = select_from_lem (shrunk g) e_count e.1 r.1 in shrinks r.0 q.0 q.1)
      (among-++ e (listed 1 e1) (listed 2 e2) c))
      (λ c. let r = among-listed 3 e e3 c in let q = select_from_lem (repeated g) e_count e.1 r.1 in repeats r.0 q.0 q.1)
      (among-++ e (listed 1 e1 ++ listed 2 e2) (listed 3 e3) b))
      (λ b. let r = among-listed 4 e e4 b in let q = select_from_lem (bare g (kept_edges g)) v_count e.1 r.1 in drops r.0 q.0 q.1)
      (among-++ e (listed 1 e1 ++ listed 2 e2 ++ listed 3 e3) (listed 4 e4) a)

  pub lists-merged : (v : ℕ) → v < length g.points → doubled g v ≡ true → Among (1, v) (entries g)
  lists-merged v l e =
      ++-among (1, v) (listed 1 e1 ++ listed 2 e2 ++ listed 3 e3) (listed 4 e4) (inl (++-among (1, v) (listed 1 e1 ++ listed 2 e2) (listed 3 e3) (inl (++-among (1, v) (listed 1 e1) (listed 2 e2)
      (inl (listed-among 1 v e1 (select_has (doubled g) v_count v l e)))))))

  pub lists-shrunk : (k : ℕ) → k < edge_count g → shrunk g k ≡ true → Among (2, k) (entries g)
  lists-shrunk k l e =
      ++-among (2, k) (listed 1 e1 ++ listed 2 e2 ++ listed 3 e3) (listed 4 e4) (inl (++-among (2, k) (listed 1 e1 ++ listed 2 e2) (listed 3 e3) (inl (++-among (2, k) (listed 1 e1) (listed 2 e2)
      (inr (listed-among 2 k e2 (select_has (shrunk g) e_count k l e)))))))

  pub lists-repeated : (k : ℕ) → k < edge_count g → repeated g k ≡ true → Among (3, k) (entries g)
  lists-repeated k l e =
      ++-among (3, k) (listed 1 e1 ++ listed 2 e2 ++ listed 3 e3) (listed 4 e4) (inl (++-among (3, k) (listed 1 e1 ++ listed 2 e2) (listed 3 e3)
      (inr (listed-among 3 k e3 (select_has (repeated g) e_count k l e)))))

  pub lists-bare : (v : ℕ) → v < length g.points → bare g (kept_edges g) v ≡ true → Among (4, v) (entries g)
  lists-bare v l e =
      ++-among (4, v) (listed 1 e1 ++ listed 2 e2 ++ listed 3 e3) (listed 4 e4) (inr (listed-among 4 v e4 (select_has (bare g (kept_edges g)) v_count v l e)))

  pub is_entry : (e : ℕ × ℕ) → Entry e → Among e (entries g)
  is_entry (i, n) (merges q l t) = subst (λ (j : ℕ). Among (j, n) (entries g)) (sym q) (lists-merged n l t)
  is_entry (i, n) (shrinks q l t) = subst (λ (j : ℕ). Among (j, n) (entries g)) (sym q) (lists-shrunk n l t)
  is_entry (i, n) (repeats q l t) = subst (λ (j : ℕ). Among (j, n) (entries g)) (sym q) (lists-repeated n l t)
  is_entry (i, n) (drops q l t) = subst (λ (j : ℕ). Among (j, n) (entries g)) (sym q) (lists-bare n l t)

  -- ── their order ──

  lower-step : (i j : ℕ) (l k : List ℕ) → i < j → (x y : ℕ × ℕ) → Among x (listed i l) → Among y (listed j k) → pair_before x y ≡ true
  lower-step i j l k h x y a b = or_l (eqb x.0 y.0 && ltb x.1 y.1) (lt-ltb x.0 y.0 (omega (arith, (among-listed i x l a).0, (among-listed j y k b).0)))

  -- "entries stand by step, then number"
  pub entries-rise : Rising pair_before (entries g)
  entries-rise =
      parts-pairs (λ x y. pair_before x y ≡ true) (listed 1 e1 ++ listed 2 e2 ++ listed 3 e3) (listed 4 e4)
      (parts-pairs (λ x y. pair_before x y ≡ true) (listed 1 e1 ++ listed 2 e2) (listed 3 e3)
      (parts-pairs (λ x y. pair_before x y ≡ true) (listed 1 e1) (listed 2 e2) (listed-rise 1 e1 (select_asc (doubled g) v_count)) (listed-rise 2 e2 (select_asc (shrunk g) e_count)) (lower-step 1 2 e1 e2 (omega arith)))
      (listed-rise 3 e3 (select_asc (repeated g) e_count))
      (λ x y a b. ⊎_elim (λ c. lower-step 1 3 e1 e3 (omega arith) x y c b) (λ c. lower-step 2 3 e2 e3 (omega arith) x y c b) (among-++ x (listed 1 e1) (listed 2 e2) a)))
      (listed-rise 4 e4 (select_asc (bare g (kept_edges g)) v_count))
      (λ x y a b. ⊎_elim
      (λ c. ⊎_elim (λ d. lower-step 1 4 e1 e4 (omega arith) x y d b) (λ d. lower-step 2 4 e2 e4 (omega arith) x y d b) (among-++ x (listed 1 e1) (listed 2 e2) c))
      (λ c. lower-step 3 4 e3 e4 (omega arith) x y c b) (among-++ x (listed 1 e1 ++ listed 2 e2) (listed 3 e3) a))

  -- ── how many of each step, and in all ──

  shape : (i : ℕ) → of_step i (entries g) ≡ of_step i (listed 1 e1) + of_step i (listed 2 e2) + of_step i (listed 3 e3) + of_step i (listed 4 e4)
  shape i = omega (arith, many-++ (λ e. eqb e.0 i) (listed 1 e1 ++ listed 2 e2 ++ listed 3 e3) (listed 4 e4), many-++ (λ e. eqb e.0 i) (listed 1 e1 ++ listed 2 e2) (listed 3 e3), many-++ (λ e. eqb e.0 i) (listed 1 e1) (listed 2 e2))

  differ : (i j : ℕ) → i < j → i ≡ j → ⊥
  differ i j l e = omega arith

  above : (i j : ℕ) → j < i → i ≡ j → ⊥
  above i j l e = omega arith

  pub step_1 : of_step 1 (entries g) ≡ count (doubled g) (length g.points)
  step_1 = shape 1 ∙ omega (arith, own-step 1 e1, other_step 2 1 e2 (above 2 1 (omega arith)), other_step 3 1 e3 (above 3 1 (omega arith)), other_step 4 1 e4 (above 4 1 (omega arith)), length-select (doubled g) v_count)

  pub step_2 : of_step 2 (entries g) ≡ count (shrunk g) (edge_count g)
  step_2 = shape 2 ∙ omega (arith, other_step 1 2 e1 (differ 1 2 (omega arith)), own-step 2 e2, other_step 3 2 e3 (above 3 2 (omega arith)), other_step 4 2 e4 (above 4 2 (omega arith)), length-select (shrunk g) e_count)

  pub step_3 : of_step 3 (entries g) ≡ count (repeated g) (edge_count g)
  step_3 = shape 3 ∙ omega (arith, other_step 1 3 e1 (differ 1 3 (omega arith)), other_step 2 3 e2 (differ 2 3 (omega arith)), own-step 3 e3, other_step 4 3 e4 (above 4 3 (omega arith)), length-select (repeated g) e_count)

  pub step_4 : of_step 4 (entries g) ≡ count (bare g (kept_edges g)) (length g.points)
  step_4 = shape 4 ∙ omega (arith, other_step 1 4 e1 (differ 1 4 (omega arith)), other_step 2 4 e2 (differ 2 4 (omega arith)), other_step 3 4 e3 (differ 3 4 (omega arith)), own-step 4 e4, length-select (bare g (kept_edges g)) v_count)

  -- E' = E − those dropped
  pub edge-balance : length (kept_edges g) + of_step 2 (entries g) + of_step 3 (entries g) ≡ edge_count g
  edge-balance = omega (arith, step_2, step_3, length-select (kept_edge g) e_count, count_three (shrunk g) (repeated g) (kept_edge g) e_count (λ k l. edge_three g k))

  pub entries-count : length (entries g) ≡ of_step 1 (entries g) + of_step 2 (entries g) + of_step 3 (entries g) + of_step 4 (entries g)
  entries-count =
      omega (
        arith,
        step_1,
        step_2,
        step_3,
        step_4,
        length-append (listed 1 e1 ++ listed 2 e2 ++ listed 3 e3) (listed 4 e4),
        length-append (listed 1 e1 ++ listed 2 e2) (listed 3 e3),
        length-append (listed 1 e1) (listed 2 e2),
        length-map {B = ℕ × ℕ} (λ x. (1, x)) e1,
        length-map {B = ℕ × ℕ} (λ x. (2, x)) e2,
        length-map {B = ℕ × ℕ} (λ x. (3, x)) e3,
        length-map {B = ℕ × ℕ} (λ x. (4, x)) e4,
        length-select (doubled g) v_count,
        length-select (shrunk g) e_count,
        length-select (repeated g) e_count,
        length-select (bare g (kept_edges g)) v_count,
      )

  -- ── an edge that is dropped in step 3 has an earlier one that is kept ──

  alike-trans : (k j i : ℕ) → alike g k j ≡ true → alike g j i ≡ true → alike g k i ≡ true
  alike-trans k j i a b = is_alike g k i (go (alike_is g k j a) (alike_is g j i b))
    where
      go : ((from_now g k ≡ from_now g j) × (to_now g k ≡ to_now g j)) ⊎ ((from_now g k ≡ to_now g j) × (to_now g k ≡ from_now g j))
          → ((from_now g j ≡ from_now g i) × (to_now g j ≡ to_now g i)) ⊎ ((from_now g j ≡ to_now g i) × (to_now g j ≡ from_now g i))
          → ((from_now g k ≡ from_now g i) × (to_now g k ≡ to_now g i)) ⊎ ((from_now g k ≡ to_now g i) × (to_now g k ≡ from_now g i))
      go (inl (p, q)) (inl (r, s)) = inl (p ∙ r, q ∙ s)
      go (inl (p, q)) (inr (r, s)) = inr (p ∙ r, q ∙ s)
      go (inr (p, q)) (inl (r, s)) = inr (p ∙ s, q ∙ r)
      go (inr (p, q)) (inr (r, s)) = inl (p ∙ s, q ∙ r)

  not_shrunk : (k j : ℕ) → shrunk g k ≡ false → alike g k j ≡ true → shrunk g j ≡ false
  not_shrunk k j e a = ne_eqb (from_now g j) (to_now g j) (λ q. eqb-false (from_now g k) (to_now g k) e (go q (alike_is g k j a)))
    where
      go : from_now g j ≡ to_now g j → ((from_now g k ≡ from_now g j) × (to_now g k ≡ to_now g j)) ⊎ ((from_now g k ≡ to_now g j) × (to_now g k ≡ from_now g j)) → from_now g k ≡ to_now g k
      go q (inl (p, r)) = p ∙ q ∙ sym r
      go q (inr (p, r)) = p ∙ sym q ∙ sym r

  pub repeats-kept : (k : ℕ) → repeated g k ≡ true → (j : ℕ) × (j < k) × (kept_edge g j ≡ true) × (alike g k j ≡ true)
  repeats-kept k e =
      let r = and_parts (not (shrunk g k)) (the_some_below (alike g k) k) e in
      let j : ℕ = least (alike g k) k in
      let l : j < k = ltb-true j k r.1 in
      let a : alike g k j ≡ true = least-holds (alike g k) k l in
      let f : shrunk g k ≡ false = was-false (shrunk g k) r.0 in
      (j, l, keeps-edge g j (not_shrunk k j f a) (λ i b. not-true (alike g j i) (λ c. clash (alike-trans k j i a c) (least_min (alike g k) k i b))), a)

  module _ (equal : (u v : ℕ) → same (point g u) (point g v) ≡ true → point g u ≡ point g v) where
    -- V' = V − those merged − those dropped
    pub vertex-balance : length (kept_vertices g) + of_step 1 (entries g) + of_step 4 (entries g) ≡ length g.points
    vertex-balance =
        omega (
          arith,
          step_1,
          step_4,
          length-select (has_edge g (kept_edges g)) v_count,
          count_three (doubled g) (bare g (kept_edges g)) (has_edge g (kept_edges g)) v_count (λ v l. vertex_three g equal v),
        )
