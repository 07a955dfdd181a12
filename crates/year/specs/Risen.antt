-- A table of pairs in strict order stays so as faces are added (`faces-ordered`); a pair's place in it can be found by halves (`rows_last`); and whether it is so is seen at neighbours
-- (`next_ordered`). Assumes nothing.
use Rattle.std.specs.Prelude.{◌≡◌, ◌≤◌, ◌<◌, ◌∷◌, ◌+◌, ◌*◌}
use Rattle.std.proofs.Common.{sym, ◌∙◌, ap, subst, not-suc-le-zero, add-one, arith}
use Rattle.std.proofs.Math.Decide.{dec_lt}
use Rattle.seq.specs.Seq.{Bool, true, false, cond, not, List, [], ℕ, zero, suc, min, ltb, length, get_or}
use Rattle.seq.specs.Terms.{Ordered, Joins}
use Rattle.seq.specs.Tests.{clash, not-true, was-false}
use Rattle.seq.specs.Members.{in_every}
use Rattle.seq.specs.Sorted.{rising-ordered, ordered-rising, insert-ordered}
use Rattle.seq.specs.Halves.{Lasts, Rises, rising-rises, rises-rising}
use Rattle.seq.specs.PairOrder.{pair_before, pair-trans}
use Rattle.paper.specs.Limits.{year_pairs}
use Rattle.paper.specs.Year.{Pair}
use Rattle.laws_year.specs.Step.{Tally, tally_before, first_face, the_one_more, add_face}
use Rattle.laws_year.specs.Capped.{Capped, capped, cap_face, cap_faces}
use Rattle.year.specs.TallyRows.{tally_width, tally_at, pair_at, tallies_in}
use Rattle.year.specs.Kept.{kept}

-- the pairs of some tallies are in strict order
abbrev pub InOrder : List Tally → Type 0
InOrder l = Ordered tally_before l

-- ── as faces are added ──

joins : (p : Tally) → Joins tally_before the_one_more p
joins p = record { after = λ x q u v e. e; ahead = λ q x u v e. e }

either : (c d : Capped) (b : Bool) → InOrder c.tallies → InOrder d.tallies → InOrder (cond b c d).tallies
either c d true f g = f
either c d false f g = g

face-ordered : (n : ℕ) (c : Capped) (p : Pair) → InOrder c.tallies → InOrder (cap_face n c p).tallies
face-ordered n c p o =
    let new : List Tally = add_face n c.tallies p in
    either c (capped c.tallies new) c.over o
    (either (record { tallies = c.tallies; over = true }) (record { tallies = new; over = false }) (ltb year_pairs (length new)) o
    (insert-ordered tally_before the_one_more (first_face n p) (joins (first_face n p)) c.tallies o))

pub faces-ordered : (n : ℕ) (c : Capped) (ps : List Pair) → InOrder c.tallies → InOrder (cap_faces n c ps).tallies
faces-ordered n c [] o = o
faces-ordered n c (p ∷ ps) o = faces-ordered n (cap_face n c p) ps (face-ordered n c p o)

-- of a table with room, all that is kept
pub kept-ordered : (t : List ℕ) (n m : ℕ) → min year_pairs n ≡ m → InOrder (kept t n).tallies → InOrder (tallies_in t m)
kept-ordered t n m e o = subst (λ (k : ℕ). InOrder (tallies_in t k)) e o

pub ordered-kept : (t : List ℕ) (n m : ℕ) → m ≡ min year_pairs n → InOrder (tallies_in t m) → InOrder (kept t n).tallies
ordered-kept t n m e o = subst (λ (k : ℕ). InOrder (tallies_in t k)) e o

-- ── the place of a pair ──

abbrev Any : Tally → Type 0
Any x = Unit {0}

trans : (x y z : Tally) → tally_before x y ≡ true → tally_before y z ≡ true → tally_before x z ≡ true
trans x y z e f = pair-trans x.pair y.pair z.pair tt tt tt e f

module _ (t : List ℕ) (n : ℕ) where
  rows-rise : InOrder (tallies_in t n) → Rises tally_before (tally_at t) n
  rows-rise o =
      rising-rises tally_before (tally_at t) n (ordered-rising tally_before Any (λ x y z p q r e f. trans x y z e f) (tallies_in t n) (in_every Any (tallies_in t n) (λ z i. tt)) o)

  -- once a row's pair does not come before, none after it does
  pub rows_last : (zone block : ℕ) → InOrder (tallies_in t n) → Lasts (λ k. not (pair_before (pair_at t k) (zone, block))) n
  rows_last zone block o i j s k e =
      ap not (not-true (pair_before (pair_at t j) (zone, block))
      (λ f. clash (pair-trans (pair_at t i) (pair_at t j) (zone, block) tt tt tt (rows-rise o i j s k) f) (was-false (pair_before (pair_at t i) (zone, block)) e)))

-- ── neighbours ──

-- the row after row k, where the code reads it
pub next_read : (t : List ℕ) (k : ℕ) → (get_or t (tally_width * k + tally_width) 0, get_or t (tally_width * k + tally_width + 1) 0) ≡ pair_at t (k + 1)
next_read t k =
    let e : tally_width * k + tally_width ≡ tally_width * (k + 1) + 0 = omega arith in
    let g : tally_width * k + tally_width + 1 ≡ tally_width * (k + 1) + 1 = omega arith in
    λ i. (get_or t (e i) 0, get_or t (g i) 0)

-- each of the rows 1 to k comes after the one before it
pub record Nexts (t : List ℕ) (k : ℕ) : Type 0 where
  pub at : (i : ℕ) → i < k → pair_before (pair_at t i) (pair_at t (i + 1)) ≡ true

pub nexts-start : (t : List ℕ) → Nexts t 0
nexts-start t = record { at = λ i h. absurd (not-suc-le-zero h) }

pub nexts-turn : {t : List ℕ} {k : ℕ} → Nexts t k → pair_before (pair_at t k) (pair_at t (k + 1)) ≡ true → Nexts t (k + 1)
nexts-turn {t} {k} r e = record {
  at = λ i h. elim (dec_lt i k) [
    | yes q ↦ r.at i q
    | no q ↦ let s : k ≡ i = omega arith in subst (λ (j : ℕ). pair_before (pair_at t j) (pair_at t (j + 1)) ≡ true) s e
  ];
}

module _ {t : List ℕ} {k : ℕ} (r : Nexts t k) where
  rise : (i j : ℕ) → i < j → j < k + 1 → tally_before (tally_at t i) (tally_at t j) ≡ true
  rise i zero h l = absurd (not-suc-le-zero h)
  rise i (suc j) h l =
      let e : tally_before (tally_at t j) (tally_at t (suc j)) ≡ true = ap (λ (m : ℕ). pair_before (pair_at t j) (pair_at t m)) (sym (add-one j)) ∙ r.at j (omega arith) in
      elim (dec_lt i j) [
        | yes q ↦ trans (tally_at t i) (tally_at t j) (tally_at t (suc j)) (rise i j q (omega arith)) e
        | no q ↦ let s : j ≡ i = omega arith in subst (λ (m : ℕ). tally_before (tally_at t m) (tally_at t (suc j)) ≡ true) s e
      ]

  pub next_ordered : (n : ℕ) → n ≤ k + 1 → InOrder (tallies_in t n)
  next_ordered n h = rising-ordered tally_before (tallies_in t n) (rises-rising tally_before (tally_at t) n (λ i j s l. rise i j s (omega arith)))
