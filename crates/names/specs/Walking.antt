-- The loops that go from entry to entry of a list of names: what is found from the entry at i on is what is found from the start. Assumes nothing.
use Rattle.std.specs.Prelude as std
use Rattle.std.specs.Prelude.{◌≡◌, refl, ◌≤◌, ◌<◌, Some, None}
use Rattle.std.proofs.Common.{sym, ◌∙◌, ap, arith, leb-true, leb-false, le-leb}
use Rattle.std.proofs.lemmas.Bool.{lt-leb}
use Rattle.seq.specs.Seq.{Bool, true, false, cond, List, Option, Option·getD, ℕ, eqb, length}
use Rattle.paper.specs.Bytes.{u16}
use Rattle.paper.specs.Names.{name_start, name_length, entry_end, entry_fits, whole_from, whole_names, Part, part, name_from, name_part}
use Rattle.laws_year.specs.NameLaws.{whole_last, whole_next, name_last, name-found, name_next}

-- where the entry at i ends; none where the list ends inside it
abbrev pub end_in : List ℕ → ℕ → std.Option ℕ
end_in s i = cond (entry_fits s i) (Some (entry_end s i)) None

module _ (s : List ℕ) where
  pub end_whole : (i : ℕ) → entry_end s i ≤ length s → Some (entry_end s i) ≡ end_in s i
  end_whole i h = sym (rw (le-leb (entry_end s i) (length s) h))

  pub end-torn : (i : ℕ) → length s < entry_end s i → None ≡ end_in s i
  end-torn i h = sym (rw (lt-leb (entry_end s i) (length s) h))

  told : (i : ℕ) {o : std.Option ℕ} → o ≡ end_in s i → (c : Bool) → entry_fits s i ≡ c → o ≡ cond c (Some (entry_end s i)) None
  told i e c h = e ∙ ap (λ (b : Bool). cond b (Some (entry_end s i)) None) h

  value : {x y : ℕ} → ◌≡◌ {A = std.Option ℕ} (Some x) (Some y) → x ≡ y
  value h = cc

  -- an entry ends at e
  pub end_is : (i e : ℕ) → Some e ≡ end_in s i → (e ≡ entry_end s i) × (entry_end s i ≤ length s)
  end_is i e q = go (entry_fits s i) refl
    where
      go : (c : Bool) → entry_fits s i ≡ c → (e ≡ entry_end s i) × (entry_end s i ≤ length s)
      go true h = (value (told i q true h), leb-true (entry_end s i) (length s) h)
      go false h = absurd (let z : ◌≡◌ {A = std.Option ℕ} (Some e) None = told i q false h in cc)

  -- none ends there
  pub end_not : (i : ℕ) → None ≡ end_in s i → length s < entry_end s i
  end_not i q = go (entry_fits s i) refl
    where
      go : (c : Bool) → entry_fits s i ≡ c → length s < entry_end s i
      go true h = absurd (let z : ◌≡◌ {A = std.Option ℕ} None (Some (entry_end s i)) = told i q true h in cc)
      go false h = leb-false (entry_end s i) (length s) h

  -- ── to the list's end ──

  -- the loop stands at i, where an entry ends
  pub record Passing (i : ℕ) : Type 0 where
    pub within : i ≤ length s
    pub is : whole_names s ≡ whole_from (length s) s i

  pub pass_starts : Passing 0
  pass_starts = record { within = omega arith; is = refl }

  module _ {i : ℕ} (r : Passing i) where
    pub pass_turns : (e : ℕ) → Some e ≡ end_in s i → Passing e
    pass_turns e q =
        let n = end_is i e q in
        record { within = omega (arith, n.0, n.1); is = r.is ∙ whole_next s i n.1 ∙ ap (whole_from (length s) s) (sym n.0) }

    pub pass_ends : None ≡ end_in s i → eqb i (length s) ≡ whole_names s
    pass_ends q = sym (r.is ∙ whole_last s (length s) i (end_not i q))

  -- ── looking for a label ──

  pub record Seeking (label i : ℕ) : Type 0 where
    pub within : i ≤ length s
    pub is : name_from (length s) s label 0 ≡ name_from (length s) s label i

  pub seek_starts : (label : ℕ) → Seeking label 0
  seek_starts label = record { within = omega arith; is = refl }

  module _ {label i : ℕ} (r : Seeking label i) where
    pub seek_turns : (e : ℕ) → Some e ≡ end_in s i → (u16 s i ≡ label → ⊥) → Seeking label e
    seek_turns e q f =
        let n = end_is i e q in
        record { within = omega (arith, n.0, n.1); is = r.is ∙ name_next s label i n.1 f ∙ ap (name_from (length s) s label) (sym n.0) }

    pub seek_found : (e : ℕ) → Some e ≡ end_in s i → u16 s i ≡ label → name_part s label ≡ part (name_start i) (name_length s i)
    seek_found e q h = ap (λ (o : Option Part). Option·getD o (part 0 0)) (r.is ∙ name-found s label i (end_is i e q).1 h)

    pub seek_ends : None ≡ end_in s i → name_part s label ≡ part 0 0
    seek_ends q = ap (λ (o : Option Part). Option·getD o (part 0 0)) (r.is ∙ name_last s label (length s) i (end_not i q))
