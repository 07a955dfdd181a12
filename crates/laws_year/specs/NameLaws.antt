-- The lists of names. A list ends well exactly if it is entries end to end (`list-whole`, `whole-list`); the name that is found is that of the first entry for the label, or empty
-- (`name_is`); it is a part that lies within the list (`part_within`); and a walk from entry to entry, with no bound on their number, finds the same (`whole_next`, `name_next` and
-- those beside them). Assumes nothing.
use Rattle.std.specs.Prelude.{◌≡◌, refl, ◌⊎◌, ◌≤◌, ◌<◌, ◌∷◌, ◌++◌, ◌+◌, ◌^◌}
use Rattle.std.proofs.Common.{sym, ◌∙◌, ap, subst, inl, inr, ⊎_elim, le_refl, arith, leb-true, le-leb, eqb-true, eq-eqb, ne_eqb, length-append, length-drop, drop-cons, length-take-le}
use Rattle.std.proofs.lemmas.Bool.{lt-leb}
use Rattle.seq.specs.Seq.{Bool, true, false, cond, List, [], Option, none, some, Option·getD, ℕ, zero, suc, leb, eqb, length, take, drop, gather}
use Rattle.seq.specs.Terms.{Every}
use Rattle.paper.specs.Bytes.{byte_at, u16, le}
use Rattle.laws_file.specs.Bytes.{Bytes, Stands, number_of, number_below, le-number}
use Rattle.laws_file.specs.Stands.{front-stands, back_stands, both_stand, stands_self, stands-whole}
use Rattle.paper.specs.Names.{name_start, name_length, entry_end, entry_fits, whole_from, whole_names, Part, part, name_from, name_part, part_of}

-- ── entries, as bytes ──

-- a label and a name
abbrev pub Entry : Type 0
Entry = ℕ × List ℕ

abbrev pub entry_bytes : Entry → List ℕ
entry_bytes e = le 2 e.0 ++ (length e.1 ∷ e.1)

abbrev pub list_bytes : List Entry → List ℕ
list_bytes es = gather entry_bytes es

-- a label of 16 bits, a length of 8
abbrev pub Fits : Entry → Type 0
Fits e = (e.0 < 256 ^ 2) × (length e.1 < 256)

-- "The first entry for a label counts"; "nothing where the list lacks the label"
abbrev pub first_name : List Entry → ℕ → List ℕ
first_name [] label = []
first_name (e ∷ es) label = let r = first_name es label in cond (eqb e.0 label) e.1 r

entry_long : (e : Entry) → length (entry_bytes e) ≡ 3 + length e.1
entry_long e = length-append (le 2 e.0) (length e.1 ∷ e.1) ∙ omega arith

few_entries : (es : List Entry) → length es ≤ length (list_bytes es)
few_entries [] = le_refl 0
few_entries (e ∷ es) = omega (arith, length-append (entry_bytes e) (list_bytes es), entry_long e, few_entries es)

module _ (s : List ℕ) where
  -- ── parts of a list ──

  stands-part : (i : ℕ) (x : List ℕ) → Stands s i x → i + length x ≤ length s → take (length x) (drop i s) ≡ x
  stands-part i [] h l = refl
  stands-part i (b ∷ x) h l =
      ap (take (suc (length x))) (drop-cons s i 0 (omega arith)) ∙ (λ j. h.0 j ∷ stands-part (suc i) x h.1 (omega arith) j)

  part-stands : (k i : ℕ) → i + k ≤ length s → Stands s i (take k (drop i s))
  part-stands zero i l = tt
  part-stands (suc k) i l = subst (λ (x : List ℕ). Stands s i (take (suc k) x)) (sym (drop-cons s i 0 (omega arith))) (refl, part-stands k (suc i) (omega arith))

  -- ── where the entries from i on are known ──

  module _ (label : ℕ) where
    record At (es : List Entry) (n i : ℕ) : Type 0 where
      ends : whole_from n s i ≡ true
      found : part_of s (Option·getD (name_from n s label i) (part 0 0)) ≡ first_name es label

    no_entry : (n i : ℕ) → i ≡ length s → At [] n i
    no_entry zero i e = record { ends = eq-eqb i (length s) e; found = refl }
    no_entry (suc n) i e = let q : leb (entry_end s i) (length s) ≡ false = lt-leb (entry_end s i) (length s) (omega arith) in record { ends = rw q (eq-eqb i (length s) e); found = rw q }

    at : (es : List Entry) (n i : ℕ) → Every Fits es → Stands s i (list_bytes es) → length s ≡ i + length (list_bytes es) → length es ≤ n → At es n i
    at [] n i F h l b = no_entry n i (omega arith)
    at (e ∷ es) zero i F h l b = absurd (omega arith)
    at (e ∷ es) (suc n) i F h l b =
        let long : length s ≡ i + (3 + length e.1 + length (list_bytes es)) = omega (arith, length-append (entry_bytes e) (list_bytes es), entry_long e) in
        let front = front-stands s i (entry_bytes e) (list_bytes es) h in
        let tag : u16 s i ≡ e.0 = number_of 2 e.0 s i F.0.0 (front-stands s i (le 2 e.0) (length e.1 ∷ e.1) front) in
        let body : Stands s (i + 2) (length e.1 ∷ e.1) = back_stands s i (le 2 e.0) (length e.1 ∷ e.1) front in
        let size : byte_at s (i + 2) ≡ length e.1 = body.0 in
        let third : suc (i + 2) ≡ i + 3 = omega arith in
        let name : take (length e.1) (drop (i + 3) s) ≡ e.1 = stands-part (i + 3) e.1 (subst (λ (j : ℕ). Stands s j e.1) third body.1) (omega arith) in
        let next : i + length (entry_bytes e) ≡ entry_end s i = omega (arith, entry_long e, size) in
        let ih = at es n (entry_end s i) F.1 (subst (λ (j : ℕ). Stands s j (list_bytes es)) next (back_stands s i (entry_bytes e) (list_bytes es) h)) (omega (arith, size)) (omega arith) in
        let r = ih.found in
        record {
          ends = rw (le-leb (entry_end s i) (length s) (omega (arith, size))) ih.ends;
          found = rw (le-leb (entry_end s i) (length s) (omega (arith, size))) (pick e es n i tag size name r (eqb e.0 label) refl);
        }
      where
        pick : (e : Entry) (es : List Entry) (n i : ℕ) → u16 s i ≡ e.0 → byte_at s (i + 2) ≡ length e.1 → take (length e.1) (drop (i + 3) s) ≡ e.1
            → part_of s (Option·getD (name_from n s label (entry_end s i)) (part 0 0)) ≡ first_name es label → (c : Bool) → eqb e.0 label ≡ c
            → part_of s (Option·getD (cond (eqb (u16 s i) label) (some (part (name_start i) (name_length s i))) (name_from n s label (entry_end s i))) (part 0 0)) ≡ cond (eqb e.0 label) e.1 (first_name es label)
        pick e es n i tag size name r true q = rw (tag, q, size) name
        pick e es n i tag size name r false q = rw (tag, q) r

  -- ── a list that ends well ──

  within_step : (i : ℕ) (a r : Bool) → leb (entry_end s i) (length s) ≡ a → cond a r (eqb i (length s)) ≡ true → (i ≡ length s) ⊎ ((entry_end s i ≤ length s) × (r ≡ true))
  within_step i true r e h = inr (leb-true (entry_end s i) (length s) e, h)
  within_step i false r e h = inl (eqb-true i (length s) h)

  -- nothing more, or an entry and the rest
  whole-step : (n i : ℕ) → whole_from (suc n) s i ≡ true → (i ≡ length s) ⊎ ((entry_end s i ≤ length s) × (whole_from n s (entry_end s i) ≡ true))
  whole-step n i e = within_step i (leb (entry_end s i) (length s)) (whole_from n s (entry_end s i)) refl e

  module _ (B : Bytes s) where
    record Whole (i : ℕ) : Type 0 where
      entries : List Entry
      fit : Every Fits entries
      stand : Stands s i (list_bytes entries)
      long : length s ≡ i + length (list_bytes entries)

    none_left : (i : ℕ) → i ≡ length s → Whole i
    none_left i e = record { entries = []; fit = tt; stand = tt; long = omega arith }

    one_more : (i : ℕ) → entry_end s i ≤ length s → Whole (entry_end s i) → Whole i
    one_more i h W =
        let k : ℕ = byte_at s (i + 2) in
        let x : List ℕ = take k (drop (i + 3) s) in
        let kx : length x ≡ k = length-take-le k (drop (i + 3) s) (rw (length-drop (i + 3) s) (omega arith)) in
        let e : Entry = (u16 s i, x) in
        let third : i + 3 ≡ suc (i + 2) = omega arith in
        let next : entry_end s i ≡ i + length (entry_bytes e) = omega (arith, entry_long e, kx) in
        let body : Stands s (i + 2) (length x ∷ x) = (sym kx, subst (λ (j : ℕ). Stands s j x) third (part-stands k (i + 3) (omega arith))) in
        let whole : Stands s i (entry_bytes e) = both_stand s i (le 2 (u16 s i)) (length x ∷ x) (le-number 2 s i B) body in
        record {
          entries = e ∷ W.entries;
          fit = ((number_below 2 s i B, omega (arith, kx, B (i + 2))), W.fit);
          stand = both_stand s i (entry_bytes e) (list_bytes W.entries) whole (subst (λ (j : ℕ). Stands s j (list_bytes W.entries)) next W.stand);
          long = W.long ∙ omega (arith, length-append (entry_bytes e) (list_bytes W.entries), next);
        }

    whole_is : (n i : ℕ) → whole_from n s i ≡ true → Whole i
    whole_is zero i e = none_left i (eqb-true i (length s) e)
    whole_is (suc n) i e =
        ⊎_elim (λ q. none_left i q) (λ q. one_more i q.0 (whole_is n (entry_end s i) q.1)) (whole-step n i e)

    -- 20 is not given exactly for entries end to end
    pub whole-list : whole_names s ≡ true → (es : List Entry) × Every Fits es × (s ≡ list_bytes es)
    whole-list e = let W = whole_is (length s) 0 e in (W.entries, W.fit, stands-whole s (list_bytes W.entries) (W.long ∙ omega arith) W.stand)

  -- ── the part lies within the list ──

  abbrev Inside : Option Part → Type 0
  Inside o = (Option·getD o (part 0 0)).start + (Option·getD o (part 0 0)).size ≤ length s

  part_step : (label n i : ℕ) → Inside (name_from n s label i)
  part_step label zero i = omega arith
  part_step label (suc n) i = go (leb (entry_end s i) (length s)) (eqb (u16 s i) label) refl (part_step label n (entry_end s i))
    where
      go : (a c : Bool) → leb (entry_end s i) (length s) ≡ a → Inside (name_from n s label (entry_end s i)) → Inside (cond a (cond c (some (part (name_start i) (name_length s i))) (name_from n s label (entry_end s i))) none)
      go true true e h = leb-true (entry_end s i) (length s) e
      go true false e h = h
      go false c e h = omega arith

  pub part_within : (label : ℕ) → (name_part s label).start + (name_part s label).size ≤ length s
  part_within label = part_step label (length s) 0

  -- ── a walk from entry to entry ──

  -- the last entry, or none
  pub whole_last : (n i : ℕ) → length s < entry_end s i → whole_from n s i ≡ eqb i (length s)
  whole_last zero i h = refl
  whole_last (suc n) i h = rw (lt-leb (entry_end s i) (length s) h)

  pub name_last : (label n i : ℕ) → length s < entry_end s i → name_from n s label i ≡ none
  name_last label zero i h = refl
  name_last label (suc n) i h = rw (lt-leb (entry_end s i) (length s) h)

  -- how many are allowed for makes no difference once it is enough
  whole-enough : (n m i : ℕ) → length s ≤ i + n → length s ≤ i + m → whole_from n s i ≡ whole_from m s i
  whole-enough zero m i h k = sym (whole_last m i (omega arith))
  whole-enough (suc n) zero i h k = whole_last (suc n) i (omega arith)
  whole-enough (suc n) (suc m) i h k = ap (λ (r : Bool). cond (entry_fits s i) r (eqb i (length s))) (whole-enough n m (entry_end s i) (omega arith) (omega arith))

  name-enough : (label n m i : ℕ) → length s ≤ i + n → length s ≤ i + m → name_from n s label i ≡ name_from m s label i
  name-enough label zero m i h k = sym (name_last label m i (omega arith))
  name-enough label (suc n) zero i h k = name_last label (suc n) i (omega arith)
  name-enough label (suc n) (suc m) i h k =
      ap (λ (r : Option Part). cond (entry_fits s i) (cond (eqb (u16 s i) label) (some (part (name_start i) (name_length s i))) r) none) (name-enough label n m (entry_end s i) (omega arith) (omega arith))

  -- to the next entry
  next_whole : (n i : ℕ) → length s ≤ i + n → entry_end s i ≤ length s → whole_from n s i ≡ whole_from (length s) s (entry_end s i)
  next_whole zero i h k = absurd (omega arith)
  next_whole (suc n) i h k = rw (le-leb (entry_end s i) (length s) k) (whole-enough n (length s) (entry_end s i) (omega arith) (omega arith))

  next_name : (label n i : ℕ) → length s ≤ i + n → entry_end s i ≤ length s → name_from n s label i ≡ cond (eqb (u16 s i) label) (some (part (name_start i) (name_length s i))) (name_from (length s) s label (entry_end s i))
  next_name label zero i h k = absurd (omega arith)
  next_name label (suc n) i h k =
      rw (le-leb (entry_end s i) (length s) k)
      (ap (λ (r : Option Part). cond (eqb (u16 s i) label) (some (part (name_start i) (name_length s i))) r) (name-enough label n (length s) (entry_end s i) (omega arith) (omega arith)))

  pub whole_next : (i : ℕ) → entry_end s i ≤ length s → whole_from (length s) s i ≡ whole_from (length s) s (entry_end s i)
  whole_next i h = next_whole (length s) i (omega arith) h

  pub name-found : (label i : ℕ) → entry_end s i ≤ length s → u16 s i ≡ label → name_from (length s) s label i ≡ some (part (name_start i) (name_length s i))
  name-found label i h e = next_name label (length s) i (omega arith) h ∙ rw (eq-eqb (u16 s i) label e)

  pub name_next : (label i : ℕ) → entry_end s i ≤ length s → (u16 s i ≡ label → ⊥) → name_from (length s) s label i ≡ name_from (length s) s label (entry_end s i)
  name_next label i h q = next_name label (length s) i (omega arith) h ∙ rw (ne_eqb (u16 s i) label q)

-- ── a list of entries ──

module _ (es : List Entry) (F : Every Fits es) where
  known : (label : ℕ) → At (list_bytes es) label es (length (list_bytes es)) 0
  known label = at (list_bytes es) label es (length (list_bytes es)) 0 F (stands_self (list_bytes es)) (omega arith) (few_entries es)

  pub list-whole : whole_names (list_bytes es) ≡ true
  list-whole = (known 0).ends

  pub name_is : (label : ℕ) → part_of (list_bytes es) (name_part (list_bytes es) label) ≡ first_name es label
  name_is label = (known label).found
