-- The queue: points put into it, and what is found of new neighbours. Assumes nothing.
use Rattle.std.specs.Prelude.{◌≡◌, refl, ◌⊎◌, ◌∷◌}
use Rattle.std.proofs.Common.{sym, subst, inl, inr, ⊎_elim, eqb→eq}
use Rattle.std.proofs.Math.Dec.{eqb_refl}
use Rattle.seq.specs.Seq.{Bool, true, false, cond, List, [], Option, none, some, ℕ, eqb, optional}
use Rattle.seq.specs.Terms.{Among, Every, Rising, Ordered}
use Rattle.seq.specs.Members.{in_every}
use Rattle.seq.specs.Tests.{clash, true_T, T_true, not-true}
use Rattle.seq.specs.Sorted.{insert-ordered, ordered-rising, rising-ordered}
use Rattle.seq.specs.Inserted.{kept_from, kept-keeps, kept_has}
use Rattle.seq.specs.Kept.{kept, kept_from as from-kept, kept_has as Has-kept}
use Rattle.seq.specs.Pairs.{Touching, first_in, last_in, first, last}
use Rattle.seq.specs.Options.{optional_some, some_optional}
use Rattle.paper.specs.Plane.{Pt, before, crossing}
use Rattle.laws_plane.specs.Points.{LowestP, same_point, before_transitive}
use Rattle.laws_sweep.specs.Sweep.{Strand, ahead, ahead_of, joint, put}
use Rattle.laws_sweep.specs.Scene.{Tested}

abbrev keep : Pt → Pt → Pt
keep p r = r

pub put_from : (xs q : List Pt) (z : Pt) → Among z (put xs q) → Among z xs ⊎ Among z q
put_from [] q z i = inr i
put_from (x ∷ xs) q z i = ⊎_elim (λ e. inl (inl e)) (λ j. ⊎_elim (λ k. inl (inr k)) (λ k. inr k) (put_from xs q z j)) (kept_from before keep (λ p r. refl) x z (put xs q) i)

pub put_keeps : (xs q : List Pt) (z : Pt) → Among z q → Among z (put xs q)
put_keeps [] q z i = i
put_keeps (x ∷ xs) q z i = kept-keeps before keep (λ p r. refl) x z (put xs q) (put_keeps xs q z i)

put-every : (xs q : List Pt) → ((z : Pt) → Among z xs → LowestP z) → ((z : Pt) → Among z q → LowestP z) → Every LowestP (put xs q)
put-every xs q f g = in_every LowestP (put xs q) (λ z i. ⊎_elim (f z) (g z) (put_from xs q z i))

pub put_has : (xs q : List Pt) → ((z : Pt) → Among z xs → LowestP z) → ((z : Pt) → Among z q → LowestP z) → (z : Pt) → Among z xs → Among z (put xs q)
put_has [] q f g z i = absurd i
put_has (x ∷ xs) q f g z (inl e) =
    subst (λ (w : Pt). Among w (put (x ∷ xs) q)) (sym e)
    (kept_has before keep (λ p r. refl) LowestP same_point x (put xs q) (f x (inl refl)) (put-every xs q (λ z i. f z (inr i)) g))
put_has (x ∷ xs) q f g z (inr i) = kept-keeps before keep (λ p r. refl) x z (put xs q) (put_has xs q (λ z i. f z (inr i)) g z i)

put-ordered : (xs q : List Pt) → Ordered before q → Ordered before (put xs q)
put-ordered [] q o = o
put-ordered (x ∷ xs) q o = insert-ordered before keep x (record { after = λ y r u v e. e; ahead = λ r y u v e. e }) (put xs q) (put-ordered xs q o)

pub put-rising : (xs q : List Pt) → ((z : Pt) → Among z xs → LowestP z) → ((z : Pt) → Among z q → LowestP z) → Rising before q → Rising before (put xs q)
put-rising xs q f g r = ordered-rising before LowestP before_transitive (put xs q) (put-every xs q f g) (put-ordered xs q (rising-ordered before q r))

-- ── what is found ──

pub record Found (p : Pt) (e f : Strand) (z : Pt) : Type 0 where
  pub differ : e.of ≡ f.of → ⊥
  pub is : crossing e.seg f.seg ≡ some z
  pub later : before p z ≡ true

module _ (p : Pt) (e f : Strand) where
  pub ahead_from : (z : Pt) → Among z (ahead p e f) → Found p e f z
  ahead_from z i = go (eqb e.of f.of) refl i
    where
      go : (b : Bool) → eqb e.of f.of ≡ b → Among z (cond b [] (kept (before p) (optional (crossing e.seg f.seg)))) → Found p e f z
      go true b j = absurd j
      go false b j =
          let r = from-kept (before p) z (optional (crossing e.seg f.seg)) j in
          record { differ = λ o. clash (refl_b o) b; is = optional_some z (crossing e.seg f.seg) r.0; later = r.1 }
        where
          refl_b : e.of ≡ f.of → eqb e.of f.of ≡ true
          refl_b o = subst (λ (n : ℕ). eqb e.of n ≡ true) o (T_true (eqb e.of e.of) (eqb_refl e.of))

  pub ahead_has : (z : Pt) → Found p e f z → Among z (ahead p e f)
  ahead_has z h =
      subst (λ (b : Bool). Among z (cond b [] (kept (before p) (optional (crossing e.seg f.seg))))) (sym (not-true (eqb e.of f.of) (λ b. h.differ (eqb→eq e.of f.of (true_T b)))))
      (Has-kept (before p) z (optional (crossing e.seg f.seg)) (some_optional z (crossing e.seg f.seg) h.is) h.later)

pub record Joint (p : Pt) (l r : List Strand) (z : Pt) : Type 0 where
  pub one : Strand
  pub other : Strand
  pub one_in : Among one l
  pub other_in : Among other r
  pub found : Found p one other z

pub joint_from : (p : Pt) (l r : List Strand) (z : Pt) → Among z (joint p l r) → Joint p l r z
joint_from p l r z i = go (last l) (first r) refl refl i
  where
    go : (a b : Option Strand) → last l ≡ a → first r ≡ b → Among z (ahead_of p a b) → Joint p l r z
    go none b e f j = absurd j
    go (some x) none e f j = absurd j
    go (some x) (some y) e f j = record { one = x; other = y; one_in = last_in l x e; other_in = first_in r y f; found = ahead_from p x y z j }

-- where the joint's crossings are in a queue, the last of the one and the first of the other are tested
pub joint-tested : (p : Pt) (l r : List Strand) (q : List Pt) → ((z : Pt) → Among z (joint p l r) → Among z q) → Touching (Tested p q) (last l) (first r)
joint-tested p l r q = go (last l) (first r)
  where
    go : (a b : Option Strand) → ((z : Pt) → Among z (ahead_of p a b) → Among z q) → Touching (Tested p q) a b
    go none b h = tt
    go (some x) none h = tt
    go (some x) (some y) h = λ o z c l. h z (ahead_has p x y z (record { differ = o; is = c; later = l }))
