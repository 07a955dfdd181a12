-- Sound edge records as the code judges them: the first half-edge with each follower, and one test of it in place of a search. Assumes nothing.
use Rattle.std.specs.Prelude.{◌&&◌, ◌||◌, ◌+◌, ◌-◌}
use mathlib.Core.Path.{◌≡◌, refl, sym, ◌∙◌, ap}
use Prim.Native.Nat.{◌≤◌, ◌<◌}
use native.Mathlib.Decide.{ℕ_discrete}
use native.Mathlib.Omega.{arith}
use borrow.Author.Tests.{ltb-true, lt-ltb, eq-eqb, ne_eqb}
use Rattle.seq.specs.Seq.{Bool, true, false, cond, not, List, ℕ, ltb, eqb, length, get_or, least, the_some_below}
use Rattle.seq.proofs.Least.{least_at_most, least-holds, least_min, some_has, no_some}
use Rattle.seq.specs.Firsts.{length-firsts}
use Rattle.seq.proofs.Firsts.{firsts_all}
use Rattle.paper.specs.Limits.{maps}
use Rattle.paper.specs.Graph.{even, twin}
use Rattle.ovfile.specs.Firsts.{column, first_followed, FirstPlaces, Followed}

-- a cell of a table of first places
pub first_at_lem : (key : ℕ → ℕ) {n : ℕ} {d t : List ℕ} → FirstPlaces key n d t → (v none : ℕ) → v < length t → get_or d v 0 ≡ none
    → get_or t v 0 ≡ (let h = least (λ k. eqb (key k) v) n in cond (ltb h n) h none)
first_at_lem key {n} {d} {t} r v none l e =
    ap (λ (y : List ℕ). get_or y v 0) r.is ∙ firsts_all key n v d (omega (arith, ap length r.is ∙ length-firsts key 0 n d))
    ∙ ap (λ (z : ℕ). let h = least (λ k. eqb (key k) v) n in cond (ltb h n) h z) e

-- where there is one, the table has it
pub followed_by : (hs : List ℕ) {n : ℕ} {d t : List ℕ} → FirstPlaces (column hs 2) n d t → n ≤ length t → Followed hs n t
followed_by hs {n} {d} {t} r h = record {
  at = λ x l b. first_at_lem (column hs 2) r x (get_or d x 0) (omega arith) refl ∙ ap (λ (c : Bool). cond c (first_followed hs n x) (get_or d x 0)) (lt-ltb (first_followed hs n x) n b);
}

-- ── one test in place of a search ──

-- h has p, and is the first that has it, exactly if none below has it
pub first_or_not : (p : ℕ → Bool) (n h : ℕ) → h < n → p h ≡ true → eqb (least p n) h ≡ not (the_some_below p h)
first_or_not p n h l e =
    elim (ℕ_discrete (least p n) h) [
      | yes q ↦ eq-eqb (least p n) h q ∙ sym (ap not (no_some p h (λ k m. least_min p n k (omega arith))))
      | no q ↦
          let below : least p n < h = omega (arith, least_at_most p n h e) in
          ne_eqb (least p n) h q ∙ sym (ap not (some_has p h (least p n) below (least-holds p n (omega arith))))
    ]

and_same : (a b c d : Bool) → (a ≡ true → c ≡ d) → (a && (b && c)) ≡ (a && (b && d))
and_same true b c d h = rw (h refl)
and_same false b c d h = refl

pub follower-test : (hs t : List ℕ) (n h : ℕ) (starts : Bool) → h < n → Followed hs n t
    → let f = column hs 2 h in (ltb f n && (starts && eqb (get_or t f 0) h)) ≡ (ltb f n && (starts && not (the_some_below (λ j. eqb (column hs 2 j) f) h)))
follower-test hs t n h starts l r =
    let f : ℕ = column hs 2 h in
    let own : eqb (column hs 2 h) f ≡ true = eq-eqb f f refl in
    and_same (ltb f n) starts (eqb (get_or t f 0) h) (not (the_some_below (λ j. eqb (column hs 2 j) f) h))
    (λ b. ap (λ (x : ℕ). eqb x h) (r.at f (ltb-true f n b) (omega (arith, least_at_most (λ j. eqb (column hs 2 j) f) n h own)))
    ∙ first_or_not (λ j. eqb (column hs 2 j) f) n h l own)

-- of three tests the last decides where the others hold
pub last_decides : (a b c : Bool) → a ≡ true → b ≡ true → c ≡ (a && (b && c))
last_decides true true c p q = refl
last_decides true false c p q = cc
last_decides false b c p q = cc

-- ── twins ──

pub twin-le : (h : ℕ) → twin h ≤ h + 1
twin-le h = by (even h)
  where
    by : (c : Bool) → cond c (h + 1) (h - 1) ≤ h + 1
    by true = omega arith
    by false = omega arith

-- ── the sources of all maps ──

pub some_source : (p : ℕ → Bool) → (p 0 || (p 1 || p 2)) ≡ the_some_below p maps
some_source p = by (p 0) (p 1) (p 2)
  where
    by : (a b c : Bool) → (a || (b || c))
        ≡ (let r = cond (ltb (cond a 0 1) 1) (cond a 0 1) (cond b 1 2) in ltb (cond (ltb r 2) r (cond c 2 3)) 3)
    by true b c = refl
    by false true c = refl
    by false false true = refl
    by false false false = refl
