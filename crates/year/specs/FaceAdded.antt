-- A face added to a table of n pairs, as the code does it: where its pair stands, one more in that row; otherwise a row put in at its place, if there is room. Assumes nothing.
use Rattle.std.specs.Prelude.{◌≡◌, refl, ◌≤◌, ◌<◌, set, ◌+◌, ◌*◌}
use Rattle.std.proofs.Common.{sym, ◌∙◌, ap, subst, arith, ltb-true, lt-ltb, le-ltb}
use Rattle.seq.specs.Seq.{Bool, true, false, List, ℕ, suc, min, ltb, length, get_or, row_stored}
use Rattle.seq.specs.Terms.{Asymmetric}
use Rattle.seq.specs.Tests.{clash, not-true, and_parts, and_both}
use Rattle.seq.specs.Table.{length-table, table_at}
use Rattle.seq.specs.Lifted.{put_at, length_put_at}
use Rattle.seq.specs.Placed.{place_by, place, Here, insert_new, insert-joined}
use Rattle.seq.proofs.Placed.{place-table, place-le, place_here}
use Rattle.seq.specs.RowInserted.{row_inserted, read-inserted}
use Rattle.seq.specs.PairOrder.{pair_before, same_pair}
use Rattle.paper.specs.Limits.{year_pairs}
use Rattle.paper.specs.Year.{Pair}
use Rattle.laws_year.specs.Step.{Tally, tally_before, first_face, the_one_more, add_face}
use Rattle.laws_year.specs.Capped.{Capped, capped, cap_face}
use Rattle.seq.specs.PairOrder.{pair-asym, pair-irr, same_pair_is, is_same_pair, pair_one}
use Rattle.year.specs.TallyRows.{tally_width, read_tally, read-ext, cells_of, tally_at, pair_at, tallies_in, no_tally, again, tally-stored}
use Rattle.year.specs.Kept.{kept}
use Rattle.year.specs.Compared.{stands_in}

tally-asym : Asymmetric tally_before
tally-asym x y e f = pair-asym x.pair y.pair e f

module _ (t : List ℕ) (n r zone block file : ℕ) (at : r ≡ place_by pair_before (zone, block) (pair_at t) n) where
  abbrev p : Pair
  p = (zone, block)

  abbrev new : Tally
  new = first_face file (zone, block)

  abbrev l : List Tally
  l = tallies_in t n

  is_place : r ≡ place tally_before no_tally (first_face file (zone, block)) (tallies_in t n)
  is_place = at ∙ place-table tally_before no_tally new (tally_at t) n

  pub place_within : r ≤ n
  place_within = omega (arith, is_place, place-le tally_before no_tally new l, length-table (tally_at t) n)

  here : Here tally_before no_tally tally-asym the_one_more (first_face file (zone, block)) (tallies_in t n) r
  here = subst (λ (i : ℕ). Here tally_before no_tally tally-asym the_one_more new l i) (sym is_place) (place_here tally_before no_tally tally-asym the_one_more new l)

  found : r < n → get_or (tallies_in t n) r no_tally ≡ tally_at t r
  found h = table_at (tally_at t) n r no_tally h

  -- the pair stands there
  pub there : stands_in t r zone block n ≡ true → r < n
  there e = ltb-true r n (and_parts (ltb r n) (same_pair (pair_at t r) p) e).0

  pair_is : stands_in t r zone block n ≡ true → pair_at t r ≡ (zone, block)
  pair_is e = same_pair_is (pair_at t r) p (and_parts (ltb r n) (same_pair (pair_at t r) p) e).1

  pub face-counted : stands_in t r zone block n ≡ true → tally_width * r + tally_width ≤ length t
      → tallies_in (row_stored tally_width t r (cells_of (again file (tally_at t r)))) n ≡ add_face file (tallies_in t n) (zone, block)
  face-counted e room =
      let h : r < n = there e in
      let q : pair_before (zone, block) (get_or l r no_tally).pair ≡ false =
      not-true (pair_before (zone, block) (get_or l r no_tally).pair) (λ b. pair-irr p (subst (λ (x : Pair). pair_before p x ≡ true) (ap (λ (x : Tally). x.pair) (found h) ∙ pair_is e) b)) in
      tally-stored t r (again file (tally_at t r)) room n h
      ∙ ap (λ (x : Tally). set l r (the_one_more new x)) (sym (found h))
      ∙ sym (insert-joined tally_before no_tally tally-asym the_one_more new l r here (omega (arith, h, length-table (tally_at t) n)) q)

  -- it does not
  ahead : stands_in t r zone block n ≡ false → r < length (tallies_in t n) → tally_before (first_face file (zone, block)) (get_or (tallies_in t n) r no_tally) ≡ true
  ahead e h =
      let m : r < n = omega (arith, h, length-table (tally_at t) n) in
      go (pair_before p (get_or l r no_tally).pair) refl m
    where
      go : (b : Bool) → pair_before (zone, block) (get_or (tallies_in t n) r no_tally).pair ≡ b → r < n → pair_before (zone, block) (get_or (tallies_in t n) r no_tally).pair ≡ true
      go true f m = f
      go false f m =
          let s : (get_or l r no_tally).pair ≡ p = sym (pair_one p (get_or l r no_tally).pair f (here.stops h)) in
          let u : pair_at t r ≡ p = ap (λ (x : Tally). x.pair) (sym (found m)) ∙ s in
          absurd (clash (and_both {a = ltb r n} (lt-ltb r n m) (is_same_pair (pair_at t r) p u)) e)

  inserts : stands_in t r zone block n ≡ false → add_face file (tallies_in t n) (zone, block) ≡ put_at r (first_face file (zone, block)) (tallies_in t n)
  inserts e = insert_new tally_before no_tally tally-asym the_one_more new l r here (ahead e)

  pub face-opened : stands_in t r zone block n ≡ false → tally_width * n + tally_width ≤ length t
      → tallies_in (row_inserted tally_width t n r (cells_of (first_face file (zone, block)))) (n + 1) ≡ add_face file (tallies_in t n) (zone, block)
  face-opened e room = read-inserted tally_width t n r (cells_of new) refl place_within room read_tally read-ext 0 ∙ sym (inserts e)

  face-longer : stands_in t r zone block n ≡ false → length (add_face file (tallies_in t n) (zone, block)) ≡ suc n
  face-longer e = ap length (inserts e) ∙ length_put_at r new l (omega (arith, place_within, length-table (tally_at t) n)) ∙ ap suc (length-table (tally_at t) n)

-- ── with room for 500 ──

kept_few : (t : List ℕ) (n : ℕ) → n ≤ year_pairs → kept t n ≡ record { tallies = tallies_in t n; over = false }
kept_few t n h = let m : min year_pairs n ≡ n = omega arith in λ i. record { tallies = tallies_in t (m i); over = le-ltb year_pairs n h i }

pub kept_over : (t : List ℕ) (n file : ℕ) (p : Pair) → year_pairs < n → kept t n ≡ cap_face file (kept t n) p
kept_over t n file p h = sym (rw (lt-ltb year_pairs n h))

room_for : (old new : List Tally) → length new ≤ year_pairs → capped old new ≡ record { tallies = new; over = false }
room_for old new h = rw (le-ltb year_pairs (length new) h)

no_room : (old new : List Tally) → year_pairs < length new → capped old new ≡ record { tallies = old; over = true }
no_room old new h = rw (lt-ltb year_pairs (length new) h)

module _ (t : List ℕ) (n r zone block file : ℕ) (few : n ≤ year_pairs) (at : r ≡ place_by pair_before (zone, block) (pair_at t) n) (b : Bool) (is : b ≡ stands_in t r zone block n) where
  by_list : (c : Capped) → c ≡ capped (tallies_in t n) (add_face file (tallies_in t n) (zone, block)) → c ≡ cap_face file (kept t n) (zone, block)
  by_list c e = e ∙ sym (ap (λ (k : Capped). cap_face file k (zone, block)) (kept_few t n few))

  pub kept_within : r ≤ n
  kept_within = place_within t n r zone block file at

  pub kept_there : b ≡ true → r < n
  kept_there e = there t n r zone block file at (sym is ∙ e)

  pub kept-counts : (u : List ℕ) → b ≡ true → tally_width * year_pairs ≤ length t → u ≡ row_stored tally_width t r (cells_of (again file (tally_at t r))) → kept u n ≡ cap_face file (kept t n) (zone, block)
  kept-counts u e room g =
      let h : r < n = kept_there e in
      let q : tallies_in u n ≡ add_face file (tallies_in t n) (zone, block) = ap (λ (v : List ℕ). tallies_in v n) g ∙ face-counted t n r zone block file at (sym is ∙ e) (omega arith) in
      by_list (kept u n) (kept_few u n few ∙ (λ i. record { tallies = q i; over = false })
      ∙ sym (room_for (tallies_in t n) (add_face file (tallies_in t n) (zone, block)) (omega (arith, ap length (sym q), length-table (tally_at u) n))))

  pub kept_full : b ≡ false → year_pairs ≤ n → kept t (n + 1) ≡ cap_face file (kept t n) (zone, block)
  kept_full e h =
      let m : min year_pairs (n + 1) ≡ n = omega arith in
      by_list (kept t (n + 1)) ((λ i. record { tallies = tallies_in t (m i); over = lt-ltb year_pairs (n + 1) (omega arith) i })
      ∙ sym (no_room (tallies_in t n) (add_face file (tallies_in t n) (zone, block)) (omega (arith, face-longer t n r zone block file at (sym is ∙ e)))))

  pub kept-opens : (u : List ℕ) → b ≡ false → n < year_pairs → tally_width * year_pairs ≤ length t → u ≡ row_inserted tally_width t n r (cells_of (first_face file (zone, block))) → kept u (n + 1) ≡ cap_face file (kept t n) (zone, block)
  kept-opens u e h room g =
      let q : tallies_in u (n + 1) ≡ add_face file (tallies_in t n) (zone, block) = ap (λ (v : List ℕ). tallies_in v (n + 1)) g ∙ face-opened t n r zone block file at (sym is ∙ e) (omega arith) in
      by_list (kept u (n + 1)) (kept_few u (n + 1) (omega arith) ∙ (λ i. record { tallies = q i; over = false })
      ∙ sym (room_for (tallies_in t n) (add_face file (tallies_in t n) (zone, block)) (omega (arith, face-longer t n r zone block file at (sym is ∙ e)))))
