-- Whether a count that was handed in can go on, as the code tests it (`sound`): its numbers within their bounds, the rows of both maps edges between corners, and, where there are at most 1,334 pairs, these in strict order, their
-- counts adding up to no more than the soundings, and no more edges read than there are for so many. Then what the code finds, test by test. Assumes nothing.
use Rattle.std.specs.Prelude.{◌≡◌, ◌≤◌, ◌<◌, ◌&&◌, ◌||◌, ◌*◌}
use Rattle.std.proofs.Common.{sym, ◌∙◌, ap, arith, le-leb, lt-ltb, le-ltb}
use Rattle.std.proofs.lemmas.Bool.{lt-leb}
use Rattle.seq.specs.Seq.{Bool, true, false, not, List, ℕ, length, ltb, leb, the_some_below, ℤ}
use Rattle.seq.specs.Tests.{or_l}
use Rattle.paper.specs.Limits.{map_edges, overlay_faces, list_soundings}
use Rattle.looks.specs.Straying.{strays_at}
use Rattle.soundings_count.specs.Entries.{pair_width}
use Rattle.soundings_count.specs.Handed.{falls_at, sum_of}
use Rattle.soundings.specs.Rows.{most_read}
use Rattle.soundings.specs.declared.state.Progress.{Progress}

abbrev pub numbers_sound : Progress → Bool
numbers_sound p = leb p.soundings list_soundings && (leb p.far p.soundings && ltb p.rest 4)

abbrev pub rows_sound : List ℤ → ℕ → Bool
rows_sound rs e = leb e map_edges && not (the_some_below (strays_at rs) e)

abbrev pub table_sound : List ℕ → List ℕ → Progress → Bool
table_sound ls cs p = not (the_some_below (falls_at ls) p.entries) && (leb (sum_of cs p.entries) p.soundings && leb p.read (most_read * p.soundings))

abbrev pub sound : List ℤ → ℕ → List ℤ → ℕ → List ℕ → List ℕ → Progress → Bool
sound rs e rs2 f ls cs p = numbers_sound p && (rows_sound rs e && (rows_sound rs2 f && (ltb overlay_faces p.entries || table_sound ls cs p)))

-- the tables of a count: 1,334 rows
pub record TableRoom (ls cs : List ℕ) : Type 0 where
  pub labels : pair_width * overlay_faces ≤ length ls
  pub counts : overlay_faces ≤ length cs

-- ── one test after the other ──

pub first_no : (a b : Bool) → a ≡ false → false ≡ (a && b)
first_no a b e = sym (ap (λ (x : Bool). x && b) e)

pub first_yes : (a b c : Bool) → a ≡ true → c ≡ b → c ≡ (a && b)
first_yes a b c e f = f ∙ sym (ap (λ (x : Bool). x && b) e)

module _ (p : Progress) where
  pub numbers-many : list_soundings < p.soundings → false ≡ numbers_sound p
  numbers-many h = first_no (leb p.soundings list_soundings) _ (lt-leb p.soundings list_soundings h)

  module _ (l : p.soundings ≤ list_soundings) where
    pub numbers-far : p.soundings < p.far → false ≡ numbers_sound p
    numbers-far h = first_yes (leb p.soundings list_soundings) (leb p.far p.soundings && ltb p.rest 4) false (le-leb p.soundings list_soundings l) (first_no (leb p.far p.soundings) (ltb p.rest 4) (lt-leb p.far p.soundings h))

    pub numbers-rest : p.far ≤ p.soundings → ltb p.rest 4 ≡ numbers_sound p
    numbers-rest h =
        first_yes (leb p.soundings list_soundings) (leb p.far p.soundings && ltb p.rest 4) (ltb p.rest 4) (le-leb p.soundings list_soundings l)
        (first_yes (leb p.far p.soundings) (ltb p.rest 4) (ltb p.rest 4) (le-leb p.far p.soundings h) (λ i. ltb p.rest 4))

module _ (rs : List ℤ) (e : ℕ) where
  pub rows-many : map_edges < e → false ≡ rows_sound rs e
  rows-many h = first_no (leb e map_edges) (not (the_some_below (strays_at rs) e)) (lt-leb e map_edges h)

  pub rows-stray : (b : Bool) → e ≤ map_edges → b ≡ the_some_below (strays_at rs) e → not b ≡ rows_sound rs e
  rows-stray b h q = first_yes (leb e map_edges) (not (the_some_below (strays_at rs) e)) (not b) (le-leb e map_edges h) (ap not q)

module _ (ls cs : List ℕ) (p : Progress) where
  abbrev sums : Bool
  sums = leb (sum_of cs p.entries) p.soundings

  abbrev reads : Bool
  reads = leb p.read (most_read * p.soundings)

  pub table-falls : (b : Bool) → b ≡ the_some_below (falls_at ls) p.entries → b ≡ true → false ≡ table_sound ls cs p
  table-falls b e t = first_no (not (the_some_below (falls_at ls) p.entries)) (sums && reads) (ap not (sym e ∙ t))

  module _ (b : Bool) (e : b ≡ the_some_below (falls_at ls) p.entries) (f : b ≡ false) where
    pub table-many : p.soundings < sum_of cs p.entries → false ≡ table_sound ls cs p
    table-many h = first_yes (not (the_some_below (falls_at ls) p.entries)) (sums && reads) false (ap not (sym e ∙ f)) (first_no sums reads (lt-leb (sum_of cs p.entries) p.soundings h))

    pub table-reads : (c : Bool) → sum_of cs p.entries ≤ p.soundings → c ≡ reads → c ≡ table_sound ls cs p
    table-reads c h q =
        first_yes (not (the_some_below (falls_at ls) p.entries)) (sums && reads) c (ap not (sym e ∙ f)) (first_yes sums reads c (le-leb (sum_of cs p.entries) p.soundings h) q)

module _ (rs : List ℤ) (e : ℕ) (rs2 : List ℤ) (f : ℕ) (ls cs : List ℕ) (p : Progress) where
  abbrev table : Bool
  table = ltb overlay_faces p.entries || table_sound ls cs p

  pub sound-numbers : numbers_sound p ≡ false → false ≡ sound rs e rs2 f ls cs p
  sound-numbers h = first_no (numbers_sound p) (rows_sound rs e && (rows_sound rs2 f && table)) h

  module _ (n : numbers_sound p ≡ true) where
    pub sound_first : rows_sound rs e ≡ false → false ≡ sound rs e rs2 f ls cs p
    sound_first h = first_yes (numbers_sound p) (rows_sound rs e && (rows_sound rs2 f && table)) false n (first_no (rows_sound rs e) (rows_sound rs2 f && table) h)

    module _ (r : rows_sound rs e ≡ true) where
      then : (c : Bool) → c ≡ (rows_sound rs2 f && table) → c ≡ sound rs e rs2 f ls cs p
      then c h = first_yes (numbers_sound p) (rows_sound rs e && (rows_sound rs2 f && table)) c n (first_yes (rows_sound rs e) (rows_sound rs2 f && table) c r h)

      pub sound-second : rows_sound rs2 f ≡ false → false ≡ sound rs e rs2 f ls cs p
      sound-second h = then false (first_no (rows_sound rs2 f) table h)

      pub sound_over : rows_sound rs2 f ≡ true → overlay_faces < p.entries → true ≡ sound rs e rs2 f ls cs p
      sound_over h o = then true (first_yes (rows_sound rs2 f) table true h (sym (or_l (table_sound ls cs p) (lt-ltb overlay_faces p.entries o))))

      pub sound-table : (c : Bool) → rows_sound rs2 f ≡ true → p.entries ≤ overlay_faces → c ≡ table_sound ls cs p → c ≡ sound rs e rs2 f ls cs p
      sound-table c h o q = then c (first_yes (rows_sound rs2 f) table c h (q ∙ sym (ap (λ (b : Bool). b || table_sound ls cs p) (le-ltb overlay_faces p.entries o))))
