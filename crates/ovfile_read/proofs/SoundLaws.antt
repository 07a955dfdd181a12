-- Sound edge records by the stored fields: a record of the tables that a file holds is sound exactly if its fields are, and one look into the table of the half-edges that follow one so
-- far stands for a search. Assumes nothing.
use Rattle.std.specs.Prelude.{◌&&◌, ◌+◌, ◌*◌, ◌-◌, ◌%◌}
use mathlib.Core.Path.{◌≡◌, refl, sym, ◌∙◌, ap, subst}
use Prim.Native.Nat.{◌≤◌, ◌<◌}
use native.Mathlib.Decide.{ℕ_discrete}
use native.Mathlib.Omega.{arith}
use borrow.Author.Tests.{ltb-true, eq-eqb, ne_eqb}
use lib.ListN.{set, length-set, get_or-replicate, length-replicate}
use lib.Seq.{get_or-set_same, get_or-set_other}
use Rattle.seq.specs.Seq.{Bool, true, false, cond, not, List, ℕ, ltb, eqb, length, get_or, replicate, the_some_below}
use Rattle.seq.proofs.Least.{some_has, some_witness, no_some, no_some_is, some_ext}
use Rattle.seq.specs.Table.{table_at}
use Rattle.paper.specs.Limits.{maps}
use Rattle.paper.specs.Graph.{twin}
use Rattle.paper.specs.Tables.{origin_of, follower_of, face_of, Tables}
use Rattle.paper.specs.Ovfile.{Layout, sound_follower}
use Rattle.paper.specs.Reader.{counts_in, stored_origin, stored_follower, stored_face, tables_in}
use Rattle.laws_file.specs.Agree.{twin_below}
use Rattle.laws_roundtrip.specs.ReadCells.{half-cell}
use Rattle.ovfile_read.specs.Starts.{Taken}

-- ── the half-edges that follow one so far ──

-- one number more, that has not the property
some_skips : (p : ℕ → Bool) (h : ℕ) → p h ≡ false → the_some_below p (h + 1) ≡ the_some_below p h
some_skips p h e = by (the_some_below p h) refl
  where
    by : (b : Bool) → the_some_below p h ≡ b → the_some_below p (h + 1) ≡ b
    by true q = let w = some_witness p h q in some_has p (h + 1) w.0 (omega (arith, w.1)) w.2
    by false q =
        no_some p (h + 1)
        (λ k l. elim (ℕ_discrete k h) [
          | yes z ↦ ap p z ∙ e
          | no z ↦ no_some_is p h q k (omega arith)
        ])

pub taken_starts : (key : ℕ → ℕ) (n m : ℕ) → n ≤ m → Taken key n 0 (replicate m 0)
taken_starts key n m l = record {
  room = omega (arith, length-replicate {A = ℕ} m 0);
  at = λ x b. eq-eqb (get_or (replicate m 0) x 0) 0 (get_or-replicate m x 0 0 (omega arith));
}

pub taken_turns : {key : ℕ → ℕ} {n h : ℕ} {t : List ℕ} → Taken key n h t → {u : List ℕ} → u ≡ set t (key h) 1 → Taken key n (h + 1) u
taken_turns {key} {n} {h} {t} r {u} e = record {
  room = omega (arith, r.room, ap length e ∙ length-set t (key h) 1);
  at = λ x b. ap (λ (y : List ℕ). eqb (get_or y x 0) 0) e ∙ by x b (ℕ_discrete x (key h));
}
  where
    by : (x : ℕ) → x < n → Dec (x ≡ key h) → eqb (get_or (set t (key h) 1) x 0) 0 ≡ not (the_some_below (λ j. eqb (key j) x) (h + 1))
    by x b (yes q) =
        let one : get_or (set t (key h) 1) x 0 ≡ 1 = ap (get_or (set t (key h) 1) x) refl ∙ at_key x q (omega (arith, r.room)) in
        ne_eqb (get_or (set t (key h) 1) x 0) 0 (λ z. omega (arith, z, one)) ∙ sym (ap not (some_has (λ j. eqb (key j) x) (h + 1) h (omega arith) (eq-eqb (key h) x (sym q))))
      where
        at_key : (y : ℕ) → y ≡ key h → y < length t → get_or (set t (key h) 1) y 0 ≡ 1
        at_key y p l = ap (λ (k : ℕ). get_or (set t (key h) 1) k 0) p ∙ get_or-set_same t (key h) 1 0 (omega arith)
    by x b (no q) =
        ap (λ (y : ℕ). eqb y 0) (get_or-set_other t (key h) x 1 0 q) ∙ r.at x b
        ∙ sym (ap not (some_skips (λ j. eqb (key j) x) h (ne_eqb (key h) x (λ z. q (sym z)))))

-- the same number, written otherwise
pub taken_same : {key : ℕ → ℕ} {n h g : ℕ} {t : List ℕ} → Taken key n h t → h ≡ g → Taken key n g t
taken_same {key} {n} {t = t} r e = subst (λ (k : ℕ). Taken key n k t) e r

-- ── the cells of a record ──

-- what a test guards has to be the same only where the test holds
guarded : (a x y : Bool) → (a ≡ true → x ≡ y) → (a && x) ≡ (a && y)
guarded true x y h = h refl
guarded false x y h = refl

-- the two half-edges of an edge
pub twin-lower : (k : ℕ) → 2 * k + 1 ≡ twin (2 * k)
twin-lower k = ap (λ (b : Bool). cond b (2 * k + 1) (2 * k - 1)) (sym (eq-eqb (2 * k % 2) 0 (omega arith)))

pub twin-upper : (k : ℕ) → 2 * k ≡ twin (2 * k + 1)
twin-upper k =
    let e : 2 * k ≡ 2 * k + 1 - 1 = omega arith in
    e ∙ ap (λ (b : Bool). cond b (2 * k + 1 + 1) (2 * k + 1 - 1)) (sym (ne_eqb ((2 * k + 1) % 2) 0 (λ z. omega arith)))

module _ (l : Layout) (s : List ℕ) where
  abbrev t : Tables
  t = tables_in maps l s

  module _ (h : ℕ) (b : h < 2 * (counts_in s).edges) where
    pub origin_is : stored_origin l s h ≡ origin_of (tables_in maps l s) h
    origin_is = sym (half-cell maps l s h 0 b (omega arith))

    pub face_is : stored_face l s h ≡ face_of (tables_in maps l s) h
    face_is = sym (half-cell maps l s h 4 b (omega arith))

    follower_is : stored_follower l s h ≡ follower_of (tables_in maps l s) h
    follower_is = sym (half-cell maps l s h 2 b (omega arith) ∙ table_at (stored_follower l s) (2 * (counts_in s).edges) h 0 b)

  pub follower_by : (h : ℕ) (taken : List ℕ) → h < 2 * (counts_in s).edges → Taken (stored_follower l s) (2 * (counts_in s).edges) h taken
      → (let f = stored_follower l s h in ltb f (2 * (counts_in s).edges) && (eqb (stored_origin l s f) (stored_origin l s (twin h)) && eqb (get_or taken f 0) 0))
      ≡ sound_follower (counts_in s) (tables_in maps l s) h
  follower_by h taken b r =
      let n : ℕ = 2 * (counts_in s).edges in
      let f : ℕ = stored_follower l s h in
      guarded (ltb f n) (eqb (stored_origin l s f) (stored_origin l s (twin h)) && eqb (get_or taken f 0) 0) (eqb (origin_of t f) (origin_of t (twin h)) && not (the_some_below (λ j. eqb (follower_of t j) f) h))
      (λ q i.
      eqb (origin_is f (ltb-true f n q) i) (origin_is (twin h) (twin_below h (counts_in s).edges b) i)
      && (r.at f (ltb-true f n q)
      ∙ ap not (some_ext (λ j. eqb (stored_follower l s j) f) (λ j. eqb (follower_of t j) f) h (λ j m. ap (λ (x : ℕ). eqb x f) (follower_is j (omega arith))))) i)
      ∙ ap (λ (g : ℕ). ltb g n && (eqb (origin_of t g) (origin_of t (twin h)) && not (the_some_below (λ j. eqb (follower_of t j) g) h))) (follower_is h b)
