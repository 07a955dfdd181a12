-- A pair counted into a table of n pairs, as the code does it: its place found, and there the count grows or a row is put in. Assumes nothing.
use Rattle.std.specs.Prelude.{◌≡◌, refl, ◌≤◌, ◌<◌, set, ◌&&◌, ◌||◌, ◌∷◌, ◌+◌, ◌*◌}
use Rattle.std.proofs.Common.{sym, ◌∙◌, ap, ⊎_elim, add-zero, add-one, arith, ltb-true, eqb-true, lt-ltb, le-ltb, eq-eqb, ne_eqb, length-set, get_or-set_same, get_or-set_other, ext_get_or}
use Rattle.std.proofs.Math.Decide.{ℕ_discrete}
use Rattle.seq.specs.Tests.{clash, or_cases, and_parts, and_both}
use Rattle.seq.specs.Seq.{Bool, true, false, List, [], ℕ, zero, suc, eqb, ltb, length, get_or, cell, insert_by, row_stored}
use Rattle.seq.specs.Terms.{Asymmetric}
use Rattle.seq.specs.Table.{length-table, table_at}
use Rattle.seq.specs.Lifted.{length-lifted, lifted_below, lifted_in, put_at, length_put_at, table_put_at}
use Rattle.seq.specs.Loops.Lifting.{lifted}
use Rattle.seq.specs.RowInserted.{row_inserted, cell_below, cell_new, cell-moved}
use Rattle.seq.specs.Placed.{place_by, place, insert_new, insert-joined}
use Rattle.seq.proofs.Placed.{place-table, place-le, place_here}
use Rattle.paper.specs.Soundings.{Entry, less_list, lesser, added, once}
use Rattle.laws_soundings.specs.Tally.{total, neither-list_less}
use Rattle.soundings_count.specs.Entries.{pair_width, the_labels_at, entry, entry_at, entries_in, Grown}

-- ── the order of labels ──

pub less_asym : (xs ys : List ℕ) → less_list xs ys ≡ true → less_list ys xs ≡ true → ⊥
less_asym [] ys e f = clash e refl
less_asym (x ∷ xs) [] e f = clash e refl
less_asym (x ∷ xs) (y ∷ ys) e f =
    ⊎_elim
    (λ a. ⊎_elim (λ b. omega (arith, ltb-true x y a, ltb-true y x b)) (λ b. omega (arith, ltb-true x y a, eqb-true y x (and_parts (eqb y x) (less_list ys xs) b).0)) (or_cases (ltb y x) (eqb y x && less_list ys xs) f))
    (λ a. ⊎_elim (λ b. omega (arith, ltb-true y x b, eqb-true x y (and_parts (eqb x y) (less_list xs ys) a).0)) (λ b. less_asym xs ys (and_parts (eqb x y) (less_list xs ys) a).1 (and_parts (eqb y x) (less_list ys xs) b).1) (or_cases (ltb y x) (eqb y x && less_list ys xs) f))
    (or_cases (ltb x y) (eqb x y && less_list xs ys) e)

pub lesser-asym : Asymmetric lesser
lesser-asym p q e f = less_asym p.labels q.labels e f

-- nothing is less than itself
less_self : (xs ys : List ℕ) → xs ≡ ys → less_list xs ys ≡ false
less_self xs ys e = go (less_list xs ys) refl
  where
    go : (c : Bool) → less_list xs ys ≡ c → less_list xs ys ≡ false
    go true f = absurd (less_asym xs ys f (ap (λ (l : List ℕ). less_list l xs) (sym e) ∙ ap (less_list xs) e ∙ f))
    go false f = f

-- ── what the code asks of a row ──

module _ (ls : List ℕ) (r a b : ℕ) where
  abbrev first : ℕ
  first = get_or ls (pair_width * r) 0

  abbrev second : ℕ
  second = get_or ls (pair_width * r + 1) 0

  first_is : first ≡ cell 0 pair_width ls r 0
  first_is = ap (λ (i : ℕ). get_or ls i 0) (sym (add-zero (pair_width * r)))

  last_less : (x y : ℕ) → ltb x y ≡ (ltb x y || (eqb x y && false))
  last_less x y = go (ltb x y) (eqb x y)
    where
      go : (c d : Bool) → c ≡ (c || (d && false))
      go true d = refl
      go false true = refl
      go false false = refl

  pub less_level : first ≡ a → ltb second b ≡ less_list (the_labels_at ls r) (a ∷ b ∷ [])
  less_level e =
      let f : cell 0 pair_width ls r 0 ≡ a = sym first_is ∙ e in
      last_less second b ∙ sym (rw (le-ltb (cell 0 pair_width ls r 0) a (omega arith), eq-eqb (cell 0 pair_width ls r 0) a f))

  pub less_apart : (first ≡ a → ⊥) → ltb first a ≡ less_list (the_labels_at ls r) (a ∷ b ∷ [])
  less_apart n = ap (λ (x : ℕ). ltb x a) first_is ∙ go (ltb (cell 0 pair_width ls r 0) a) refl
    where
      go : (c : Bool) → ltb (cell 0 pair_width ls r 0) a ≡ c → ltb (cell 0 pair_width ls r 0) a ≡ less_list (the_labels_at ls r) (a ∷ b ∷ [])
      go true e = e ∙ sym (rw e)
      go false e = e ∙ sym (rw (e, ne_eqb (cell 0 pair_width ls r 0) a (λ f. n (first_is ∙ f))))

  module _ (n : ℕ) where
    abbrev pub stands_in : Bool
    stands_in = ltb r n && (eqb (cell 0 pair_width ls r 0) a && eqb (cell 0 pair_width ls r 1) b)

    pub stands_past : n ≤ r → false ≡ stands_in
    stands_past h = sym (rw (le-ltb r n h))

    pub stands-level : r < n → first ≡ a → eqb second b ≡ stands_in
    stands-level h e = sym (rw (lt-ltb r n h, eq-eqb (cell 0 pair_width ls r 0) a (sym first_is ∙ e)))

    pub stands-apart : r < n → (first ≡ a → ⊥) → false ≡ stands_in
    stands-apart h e = sym (rw (lt-ltb r n h, ne_eqb (cell 0 pair_width ls r 0) a (λ f. e (first_is ∙ f))))

-- ── at the place ──

abbrev none : Entry
none = entry [] 0

-- a count is at most the sum
pub at_most : (t : List Entry) (i : ℕ) → (get_or t i none).times ≤ total t
at_most [] i = omega arith
at_most (e ∷ es) zero = omega arith
at_most (e ∷ es) (suc i) = omega (arith, at_most es i)

module _ (ls cs : List ℕ) (n r a b : ℕ) (at : r ≡ place_by less_list (a ∷ b ∷ []) (the_labels_at ls) n) where
  abbrev t : List Entry
  t = entries_in ls cs n

  abbrev new : Entry
  new = once (a ∷ b ∷ [])

  abbrev put : List Entry
  put = insert_by lesser added new t

  is_place : r ≡ place lesser none new t
  is_place = at ∙ place-table lesser none new (entry_at ls cs) n

  pub place_within : r ≤ n
  place_within = omega (arith, is_place, place-le lesser none new t, length-table (entry_at ls cs) n)

  at_row : r < n → get_or t (place lesser none new t) none ≡ entry_at ls cs r
  at_row h = ap (λ (i : ℕ). get_or t i none) (sym is_place) ∙ table_at (entry_at ls cs) n r none h

  -- a row's count is at most the sum
  pub count_most : r < n → get_or cs r 0 ≤ total t
  count_most h = rw (sym (ap (λ (e : Entry). e.times) (table_at (entry_at ls cs) n r none h))) (at_most t r)

  pub stands-there : (c : Bool) → c ≡ stands_in ls r a b n → c ≡ true → r < n
  stands-there c d e = ltb-true r n (and_parts (ltb r n) (eqb (cell 0 pair_width ls r 0) a && eqb (cell 0 pair_width ls r 1) b) (sym d ∙ e)).0

  -- the pair stands there: its count grows
  module _ (c : Bool) (d : c ≡ stands_in ls r a b n) (e : c ≡ true) (long : r < length cs) (v : ℕ) (w : v ≡ get_or cs r 0 + 1) where
    there : r < n
    there = stands-there c d e

    labels-are : the_labels_at ls r ≡ a ∷ b ∷ []
    labels-are =
        let s = and_parts (ltb r n) (eqb (cell 0 pair_width ls r 0) a && eqb (cell 0 pair_width ls r 1) b) (sym d ∙ e) in
        let u = and_parts (eqb (cell 0 pair_width ls r 0) a) (eqb (cell 0 pair_width ls r 1) b) s.1 in
        λ i. eqb-true (cell 0 pair_width ls r 0) a u.0 i ∷ eqb-true (cell 0 pair_width ls r 1) b u.1 i ∷ []

    one_more : (k : ℕ) → k + 1 ≡ 1 + k
    one_more k = omega arith

    cells_are : (i : ℕ) → i < n → entry_at ls (set cs r v) i ≡ get_or (set t r (added new (entry_at ls cs r))) i none
    cells_are i l =
        elim (ℕ_discrete i r) [
          | yes q ↦ ap (entry_at ls (set cs r v)) q ∙ ap (entry (the_labels_at ls r)) (get_or-set_same cs r v 0 long ∙ w ∙ one_more (get_or cs r 0))
              ∙ sym (ap (λ (j : ℕ). get_or (set t r (added new (entry_at ls cs r))) j none) q ∙ get_or-set_same t r (added new (entry_at ls cs r)) none (omega (arith, there, length-table (entry_at ls cs) n)))
          | no q ↦ ap (entry (the_labels_at ls i)) (get_or-set_other cs r i v 0 q) ∙ sym (get_or-set_other t r i (added new (entry_at ls cs r)) none q ∙ table_at (entry_at ls cs) n i none l)
        ]

    grown_is : entries_in ls (set cs r v) n ≡ put
    grown_is =
        ext_get_or none (entries_in ls (set cs r v) n) (set t r (added new (entry_at ls cs r))) (length-table (entry_at ls (set cs r v)) n ∙ sym (length-set t r (added new (entry_at ls cs r)) ∙ length-table (entry_at ls cs) n))
        (λ i q. let l : i < n = omega (arith, length-table (entry_at ls (set cs r v)) n) in table_at (entry_at ls (set cs r v)) n i none l ∙ cells_are i l)
        ∙ (λ i. set t (is_place i) (added new (sym (at_row there) i)))
        ∙ sym (insert-joined lesser none lesser-asym added new t (place lesser none new t) (place_here lesser none lesser-asym added new t) (omega (arith, there, is_place, length-table (entry_at ls cs) n))
        (less_self (a ∷ b ∷ []) (get_or t (place lesser none new t) none).labels (sym labels-are ∙ ap (λ (e : Entry). e.labels) (sym (at_row there)))))

    pub count-grows : (room : ℕ) → Grown room put ls (set cs r v) n
    count-grows room = record { entries = sym (length-table (entry_at ls (set cs r v)) n) ∙ ap length grown_is; held = λ h. grown_is }

  -- it does not: a row is put in
  module _ (c : Bool) (d : c ≡ stands_in ls r a b n) (e : c ≡ false) where
    apart : r < n → the_labels_at ls r ≡ a ∷ b ∷ [] → ⊥
    apart h q =
        clash (and_both (lt-ltb r n h) (and_both
        (eq-eqb (cell 0 pair_width ls r 0) a (ap (λ (l : List ℕ). get_or l 0 0) q))
        (eq-eqb (cell 0 pair_width ls r 1) b (ap (λ (l : List ℕ). get_or l 1 0) q)))) (sym d ∙ e)

    before_next : place lesser none new t < length t → lesser new (get_or t (place lesser none new t) none) ≡ true
    before_next l = go (lesser new (get_or t (place lesser none new t) none)) refl
      where
        h : r < n
        h = omega (arith, l, is_place, length-table (entry_at ls cs) n)

        go : (c : Bool) → lesser new (get_or t (place lesser none new t) none) ≡ c → lesser new (get_or t (place lesser none new t) none) ≡ true
        go true f = f
        go false f =
            absurd (apart h (ap (λ (e : Entry). e.labels) (sym (at_row h)) ∙ sym (neither-list_less (a ∷ b ∷ []) (get_or t (place lesser none new t) none).labels (sym (ap (λ (e : Entry). length e.labels) (at_row h))) f ((place_here lesser none lesser-asym added new t).stops l))))

    put_is : put ≡ put_at r new t
    put_is =
        insert_new lesser none lesser-asym added new t (place lesser none new t) (place_here lesser none lesser-asym added new t) before_next
        ∙ ap (λ (i : ℕ). put_at i new t) (sym is_place)

    put-length : n + 1 ≡ length put
    put-length = sym (ap length put_is ∙ length_put_at r new t (omega (arith, place_within, length-table (entry_at ls cs) n)) ∙ ap suc (length-table (entry_at ls cs) n) ∙ sym (add-one n))

    -- there is no room
    pub none_grows : (room : ℕ) (us vs : List ℕ) → room ≤ n → Grown room put us vs (n + 1)
    none_grows room us vs h = record { entries = put-length; held = λ l. absurd (omega arith) }

    module _ (room-labels : pair_width * n + pair_width ≤ length ls) (room-counts : n + 1 ≤ length cs) where
      abbrev ls' : List ℕ
      ls' = row_inserted pair_width ls n r (a ∷ b ∷ [])

      abbrev cs' : List ℕ
      cs' = set (lifted r n 1 cs) r 1

      count_below : (k : ℕ) → k < r → get_or cs' k 0 ≡ get_or cs k 0
      count_below k l = get_or-set_other (lifted r n 1 cs) r k 1 0 (λ q. omega arith) ∙ lifted_below r n 1 cs k 0 (omega arith)

      count-moved : (k : ℕ) → r ≤ k → k < n → get_or cs' (suc k) 0 ≡ get_or cs k 0
      count-moved k l h =
          let s : suc k ≡ k + 1 = omega arith in
          get_or-set_other (lifted r n 1 cs) r (suc k) 1 0 (λ q. omega arith) ∙ ap (λ (i : ℕ). get_or (lifted r n 1 cs) i 0) s ∙ lifted_in r n 1 cs k 0 l h room-counts

      opened : entries_in ls' cs' (n + 1) ≡ put_at r new t
      opened =
          table_put_at (entry_at ls cs) (entry_at ls' cs') new n r place_within
          (λ k l. λ i. entry (cell_below pair_width ls n r (a ∷ b ∷ []) refl place_within room-labels k 0 0 (omega arith) l i ∷ cell_below pair_width ls n r (a ∷ b ∷ []) refl place_within room-labels k 1 0 (omega arith) l i ∷ []) (count_below k l i))
          (λ i. entry (cell_new pair_width ls n r (a ∷ b ∷ []) refl place_within room-labels 0 0 (omega arith) i ∷ cell_new pair_width ls n r (a ∷ b ∷ []) refl place_within room-labels 1 0 (omega arith) i ∷ []) (get_or-set_same (lifted r n 1 cs) r 1 0 (omega (arith, place_within, length-lifted r n 1 cs)) i))
          (λ k l h. λ i. entry (cell-moved pair_width ls n r (a ∷ b ∷ []) refl place_within room-labels k 0 0 (omega arith) l h i ∷ cell-moved pair_width ls n r (a ∷ b ∷ []) refl place_within room-labels k 1 0 (omega arith) l h i ∷ []) (count-moved k l h i))

      pub row-grows : (room : ℕ) (us vs : List ℕ) → us ≡ row_stored pair_width (lifted (pair_width * r) (pair_width * n) pair_width ls) r (a ∷ b ∷ []) → vs ≡ set (lifted r n 1 cs) r 1 → Grown room put us vs (n + 1)
      row-grows room us vs f g = record { entries = put-length; held = λ h. (λ i. entries_in (f i) (g i) (n + 1)) ∙ opened ∙ sym put_is }
