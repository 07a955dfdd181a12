-- What the code asks of a row of the table, cell by cell, is the order of pairs and whether a pair stands there. Assumes nothing.
use Rattle.std.specs.Prelude.{◌≡◌, refl, ◌≤◌, ◌<◌, ◌&&◌, ◌∷◌, ◌+◌, ◌*◌}
use Rattle.std.proofs.Common.{sym, ◌∙◌, ap, add-zero, add-one, arith, lt-ltb, le-ltb, eq-eqb, ne_eqb}
use Rattle.seq.specs.Seq.{Bool, true, false, List, [], ℕ, eqb, ltb, get_or, row_stored}
use Rattle.seq.specs.PairOrder.{pair_before, same_pair}
use Rattle.year.specs.TallyRows.{tally_width, tally_at, pair_at, cells_of, again}

module _ (t : List ℕ) (r zone block : ℕ) where
  abbrev first : ℕ
  first = get_or t (tally_width * r) 0

  abbrev second : ℕ
  second = get_or t (tally_width * r + 1) 0

  pub first_is : first ≡ (pair_at t r).0
  first_is = ap (λ (i : ℕ). get_or t i 0) (sym (add-zero (tally_width * r)))

  -- the same zone: by the block
  pub earlier-level : first ≡ zone → ltb second block ≡ pair_before (pair_at t r) (zone, block)
  earlier-level e = let f : (pair_at t r).0 ≡ zone = sym first_is ∙ e in sym (rw (le-ltb (pair_at t r).0 zone (omega arith), eq-eqb (pair_at t r).0 zone f))

  pub earlier-apart : (first ≡ zone → ⊥) → ltb first zone ≡ pair_before (pair_at t r) (zone, block)
  earlier-apart n = ap (λ (x : ℕ). ltb x zone) first_is ∙ go (ltb (pair_at t r).0 zone) refl
    where
      go : (c : Bool) → ltb (pair_at t r).0 zone ≡ c → ltb (pair_at t r).0 zone ≡ pair_before (pair_at t r) (zone, block)
      go true e = e ∙ sym (rw e)
      go false e = e ∙ sym (rw (e, ne_eqb (pair_at t r).0 zone (λ f. n (first_is ∙ f))))

  -- ── whether it stands there, in a table of n rows ──

  module _ (n : ℕ) where
    abbrev pub stands_in : Bool
    stands_in = ltb r n && same_pair (pair_at t r) (zone, block)

    pub stands_past : n ≤ r → false ≡ stands_in
    stands_past h = sym (rw (le-ltb r n h))

    pub stands-level : r < n → first ≡ zone → eqb second block ≡ stands_in
    stands-level h e = let f : (pair_at t r).0 ≡ zone = sym first_is ∙ e in sym (rw (lt-ltb r n h, eq-eqb (pair_at t r).0 zone f))

    pub stands-apart : r < n → (first ≡ zone → ⊥) → false ≡ stands_in
    stands-apart h q = sym (rw (lt-ltb r n h, ne_eqb (pair_at t r).0 zone (λ f. q (first_is ∙ f))))

-- ── one face more ──

module _ (t : List ℕ) (r file : ℕ) where
  pub sheets_same : get_or t (tally_width * r + 4) 0 ≡ file → get_or t (tally_width * r + 2) 0 ≡ (again file (tally_at t r)).sheets
  sheets_same e = sym (rw (eq-eqb (get_or t (tally_width * r + 4) 0) file e))

  pub sheets_more : (get_or t (tally_width * r + 4) 0 ≡ file → ⊥) → get_or t (tally_width * r + 2) 0 + 1 ≡ (again file (tally_at t r)).sheets
  sheets_more q = add-one (get_or t (tally_width * r + 2) 0) ∙ sym (rw (ne_eqb (get_or t (tally_width * r + 4) 0) file q))

  pub count-row : (u : List ℕ) (s : ℕ) → s ≡ (again file (tally_at t r)).sheets
      → u ≡ row_stored tally_width t r (get_or t (tally_width * r) 0 ∷ get_or t (tally_width * r + 1) 0 ∷ s ∷ (get_or t (tally_width * r + 3) 0 + 1) ∷ file ∷ [])
      → u ≡ row_stored tally_width t r (cells_of (again file (tally_at t r)))
  count-row u s e g =
      g ∙ (λ i. row_stored tally_width t r (first_is t r 0 0 i ∷ get_or t (tally_width * r + 1) 0 ∷ e i ∷ add-one (get_or t (tally_width * r + 3) 0) i ∷ file ∷ []))
