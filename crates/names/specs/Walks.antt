-- The loops that go from entry to entry of a list of names, where an end is a number and 0 is none (`Walking`): what is found from the entry at i on is what is found from the start. The loops of today have an Option for the end, and Walking tells them (`end_is` and `end_not` for `walk_end`); no proof uses these, which stand since laws stand. Assumes nothing.
use Rattle.std.specs.Prelude.{◌≡◌, refl, ◌≤◌, ◌<◌}
use Rattle.std.proofs.Common.{sym, ◌∙◌, ap, arith, leb-true, leb-false, le-leb}
use Rattle.std.proofs.lemmas.Bool.{lt-leb}
use Rattle.seq.specs.Seq.{Bool, true, false, cond, List, Option, Option·getD, ℕ, leb, eqb, length}
use Rattle.paper.specs.Bytes.{u16}
use Rattle.paper.specs.Names.{name_start, name_length, entry_end, entry_fits, whole_from, whole_names, Part, part, name_from, name_part}
use Rattle.laws_year.specs.NameLaws.{whole_last, whole_next, name_last, name-found, name_next}

-- where the entry at i ends, or 0 where the list ends inside it
abbrev pub end_or : List ℕ → ℕ → ℕ
end_or s i = cond (entry_fits s i) (entry_end s i) 0

module _ (s : List ℕ) where
  pub end_whole : (i : ℕ) → entry_end s i ≤ length s → entry_end s i ≡ end_or s i
  end_whole i h = sym (rw (le-leb (entry_end s i) (length s) h))

  pub end-torn : (i : ℕ) → length s < entry_end s i → 0 ≡ end_or s i
  end-torn i h = sym (rw (lt-leb (entry_end s i) (length s) h))

  -- the loop stands at i, where an entry ends at e, or none if e is 0
  pub record Walking (i e : ℕ) : Type 0 where
    pub within : i ≤ length s
    pub ends : e ≡ end_or s i

  module _ {i e : ℕ} (r : Walking i e) where
    told : (c : Bool) → leb (entry_end s i) (length s) ≡ c → e ≡ cond c (entry_end s i) 0
    told c h = r.ends ∙ ap (λ (b : Bool). cond b (entry_end s i) 0) h

    pub walk_end : (e ≡ 0 → ⊥) → (e ≡ entry_end s i) × (e ≤ length s)
    walk_end n = go (leb (entry_end s i) (length s)) refl
      where
        go : (c : Bool) → leb (entry_end s i) (length s) ≡ c → (e ≡ entry_end s i) × (e ≤ length s)
        go true h = (told true h, omega (arith, told true h, leb-true (entry_end s i) (length s) h))
        go false h = absurd (n (told false h))

    fits : (e ≡ 0 → ⊥) → entry_end s i ≤ length s
    fits n = let q = walk_end n in omega (arith, q.0, q.1)

    torn : e ≡ 0 → length s < entry_end s i
    torn z = go (leb (entry_end s i) (length s)) refl
      where
        go : (c : Bool) → leb (entry_end s i) (length s) ≡ c → length s < entry_end s i
        go true h = absurd (omega (arith, told true h))
        go false h = leb-false (entry_end s i) (length s) h

    walk_turns : (e ≡ 0 → ⊥) → (f : ℕ) → f ≡ end_or s e → Walking e f
    walk_turns n f h = record { within = (walk_end n).1; ends = h }

  -- ── to the list's end ──

  pub record Passing (i e : ℕ) : Type 0 where
    pub walking : Walking i e
    pub is : whole_names s ≡ whole_from (length s) s i

  pub pass_starts : (e : ℕ) → e ≡ end_or s 0 → Passing 0 e
  pass_starts e h = record { walking = record { within = omega arith; ends = h }; is = refl }

  module _ {i e : ℕ} (r : Passing i e) where
    pub pass_turns : (e ≡ 0 → ⊥) → (f : ℕ) → f ≡ end_or s e → Passing e f
    pass_turns n f h = record {
      walking = walk_turns r.walking n f h;
      is = r.is ∙ whole_next s i (fits r.walking n) ∙ ap (whole_from (length s) s) (sym (walk_end r.walking n).0);
    }

    pub pass_ends : e ≡ 0 → eqb i (length s) ≡ whole_names s
    pass_ends z = sym (r.is ∙ whole_last s (length s) i (torn r.walking z))

  -- ── looking for a label ──

  pub record Seeking (label i e : ℕ) : Type 0 where
    pub walking : Walking i e
    pub is : name_from (length s) s label 0 ≡ name_from (length s) s label i

  pub seek_starts : (label e : ℕ) → e ≡ end_or s 0 → Seeking label 0 e
  seek_starts label e h = record { walking = record { within = omega arith; ends = h }; is = refl }

  module _ {label i e : ℕ} (r : Seeking label i e) where
    pub seek_turns : (e ≡ 0 → ⊥) → (u16 s i ≡ label → ⊥) → (f : ℕ) → f ≡ end_or s e → Seeking label e f
    seek_turns n q f h = record {
      walking = walk_turns r.walking n f h;
      is = r.is ∙ name_next s label i (fits r.walking n) q ∙ ap (name_from (length s) s label) (sym (walk_end r.walking n).0);
    }

    pub seek_found : (e ≡ 0 → ⊥) → u16 s i ≡ label → name_part s label ≡ part (name_start i) (name_length s i)
    seek_found n h = ap (λ (o : Option Part). Option·getD o (part 0 0)) (r.is ∙ name-found s label i (fits r.walking n) h)

    pub seek_ends : e ≡ 0 → name_part s label ≡ part 0 0
    seek_ends z = ap (λ (o : Option Part). Option·getD o (part 0 0)) (r.is ∙ name_last s label (length s) i (torn r.walking z))
