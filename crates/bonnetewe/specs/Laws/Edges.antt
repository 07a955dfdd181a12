-- What the two numbers of an edge record tell is the record: where a half-edge table has cells of 16 bits, as C's has, two records that the same two numbers tell are one
-- (`edge-means`). Assumes nothing.
use Rattle.std.specs.Prelude.{◌≡◌, refl, ◌<◌, ◌≤◌, ◌&&◌, ◌∷◌, ◌+◌, ◌*◌, ◌^◌}
use Rattle.std.proofs.Common.{sym, ◌∙◌, ap, arith, leb-true}
use Rattle.seq.specs.Seq.{Bool, true, false, cond, List, [], Option, none, some, Option·map, ℕ, zero, suc, ltb, leb, eqb, all_below, get_or}
use Rattle.seq.specs.Tests.{and_parts}
use Rattle.seq.proofs.Least.{all_is}
use Rattle.seq.specs.Terms.{Every}
use Rattle.paper.specs.Limits.{maps}
use Rattle.paper.specs.Tables.{Tables, origin_of, source_cell}
use Rattle.paper.specs.Lent.{lengths_of, edge_room}
use Rattle.paper.specs.Record.{Source, first, second, both, third, first_third, second_third, all, source_by, OverlayEdge, has_edge, edge_record}
use Rattle.tables.specs.Values.{tables_by}
use Rattle.bonnetewe.specs.Told.{four, kind, in_first, in_second, in_third, told_ends, told_sources}
use Rattle.bonnetewe.specs.Laws.Means.{four-apart}

-- ── records of numbers of 16 bits ──

abbrev pub EdgeFits : Option OverlayEdge → Type 0
EdgeFits none = Unit {0}
EdgeFits (some e) = (e.lower < 65536) × (e.upper < 65536) × (in_first e.source < 65536) × (in_second e.source < 65536)

kinds : (s : Source) → (0 < kind s) × (kind s < 65536)
kinds (first j) = (omega arith, omega arith)
kinds (second k) = (omega arith, omega arith)
kinds (both j k) = (omega arith, omega arith)
kinds (third l) = (omega arith, omega arith)
kinds (first_third j l) = (omega arith, omega arith)
kinds (second_third k l) = (omega arith, omega arith)
kinds (all j k l) = (omega arith, omega arith)

-- a source by its kind and its edge numbers
abbrev source_for : ℕ → ℕ → ℕ → ℕ → Source
source_for n j k l =
    cond (eqb n 1) (first j)
    (cond (eqb n 2) (second k)
    (cond (eqb n 3) (both j k)
    (cond (eqb n 4) (third l)
    (cond (eqb n 5) (first_third j l)
    (cond (eqb n 6) (second_third k l) (all j k l))))))

source_back_lem : (s : Source) → source_for (kind s) (in_first s) (in_second s) (in_third s) ≡ s
source_back_lem (first j) = refl
source_back_lem (second k) = refl
source_back_lem (both j k) = refl
source_back_lem (third l) = refl
source_back_lem (first_third j l) = refl
source_back_lem (second_third k l) = refl
source_back_lem (all j k l) = refl

source_by_lem : (s z : Source) → kind s ≡ kind z → in_first s ≡ in_first z → in_second s ≡ in_second z → in_third s ≡ in_third z → s ≡ z
source_by_lem s z e f g h = sym (source_back_lem s) ∙ (λ i. source_for (e i) (f i) (g i) (h i)) ∙ source_back_lem z

pub told-edge-means : (a b : Option OverlayEdge) → EdgeFits a → EdgeFits b → told_ends a ≡ told_ends b → told_sources a ≡ told_sources b → a ≡ b
told-edge-means none none h l e f = refl
told-edge-means none (some y) h l e f = absurd (let k = kinds y.source in omega (arith, k.0, k.1, e))
told-edge-means (some x) none h l e f = absurd (let k = kinds x.source in omega (arith, k.0, k.1, e))
told-edge-means (some x) (some y) (xl, xu, xf, xs) (yl, yu, yf, ys) e f =
    let k = kinds x.source in
    let z = kinds y.source in
    let ends = four-apart (kind x.source) x.lower x.upper 0 (kind y.source) y.lower y.upper 0 k.1 xl xu z.1 yl yu e in
    let from = four-apart (kind x.source) (in_first x.source) (in_second x.source) (in_third x.source) (kind y.source) (in_first y.source) (in_second y.source) (in_third y.source) k.1 xf xs z.1 yf ys f in
    let s = source_by_lem x.source y.source ends.0 from.1 from.2 from.3 in
    λ i. some (record { lower = ends.1 i; upper = ends.2 i; source = s i })

-- ── the records of C's tables ──

-- cells of 16 bits
abbrev pub Narrow : List ℕ → Type 0
Narrow xs = Every (λ (x : ℕ). x < 65536) xs

narrow_at : (xs : List ℕ) (i : ℕ) → Narrow xs → get_or xs i 0 < 65536
narrow_at [] i h = omega arith
narrow_at (x ∷ xs) zero h = h.0
narrow_at (x ∷ xs) (suc i) h = narrow_at xs i h.1

module _ (hs ss : List ℕ) (k : ℕ) (narrow : Narrow hs) where
  abbrev t : Tables
  t = tables_by [] hs ss []

  abbrev a : ℕ
  a = source_cell maps t k 0

  abbrev b : ℕ
  b = source_cell maps t k 1

  -- a source is "edge numbers of 16 bits"
  abbrev narrow_source : ℕ → Bool
  narrow_source i = leb (source_cell maps t k i) (256 ^ 2)

  -- where the tables have the edge
  sources-fit : has_edge t k ≡ true → (a ≤ 65536) × (b ≤ 65536)
  sources-fit e =
      let q = all_is narrow_source maps (and_parts (ltb k (edge_room maps (lengths_of t))) (all_below narrow_source maps) e).1 in
      (leb-true a (256 ^ 2) (q 0 (omega arith)), leb-true b (256 ^ 2) (q 1 (omega arith)))

  abbrev made : Bool → ℕ → ℕ → ℕ → Option OverlayEdge
  made h x y z = cond h (Option·map (λ s. record { lower = origin_of t (2 * k); upper = origin_of t (2 * k + 1); source = s }) (source_by x y z)) none

  abbrev Fits : ℕ → ℕ → Type 0
  Fits x y = (x ≤ 65536) × (y ≤ 65536)

  fits_by : (h : Bool) (x y z : ℕ) → (h ≡ true → Fits x y) → EdgeFits (made h x y z)
  fits_by false x y z f = tt
  fits_by true zero zero zero f = tt
  fits_by true zero zero (suc z) f = (narrow_at hs _ narrow, narrow_at hs _ narrow, omega arith, omega arith)
  fits_by true zero (suc y) zero f = (narrow_at hs _ narrow, narrow_at hs _ narrow, omega arith, omega (arith, (f refl).1))
  fits_by true zero (suc y) (suc z) f = (narrow_at hs _ narrow, narrow_at hs _ narrow, omega arith, omega (arith, (f refl).1))
  fits_by true (suc x) zero zero f = (narrow_at hs _ narrow, narrow_at hs _ narrow, omega (arith, (f refl).0), omega arith)
  fits_by true (suc x) zero (suc z) f = (narrow_at hs _ narrow, narrow_at hs _ narrow, omega (arith, (f refl).0), omega arith)
  fits_by true (suc x) (suc y) zero f = (narrow_at hs _ narrow, narrow_at hs _ narrow, omega (arith, (f refl).0), omega (arith, (f refl).1))
  fits_by true (suc x) (suc y) (suc z) f = (narrow_at hs _ narrow, narrow_at hs _ narrow, omega (arith, (f refl).0), omega (arith, (f refl).1))

  pub edge_fits : EdgeFits (edge_record (tables_by [] hs ss []) k)
  edge_fits = fits_by (has_edge t k) a b (source_cell maps t k 2) sources-fit

-- the record that is told is that of the whole tables: it looks at half-edges and sources alone
pub edge-alone : (t : Tables) (k : ℕ) → edge_record (tables_by [] t.halves t.sources []) k ≡ edge_record t k
edge-alone t k = refl

-- two numbers, one record: of bonnetewe_edge_ends and bonnetewe_edge_sources, whatever the tables hold
pub edge-means : (hs ss gs rs : List ℕ) (k j : ℕ) → Narrow hs → Narrow gs → {r q : ℕ}
    → r ≡ told_ends (edge_record (tables_by [] hs ss []) k) → q ≡ told_sources (edge_record (tables_by [] hs ss []) k)
    → r ≡ told_ends (edge_record (tables_by [] gs rs []) j) → q ≡ told_sources (edge_record (tables_by [] gs rs []) j)
    → edge_record (tables_by [] hs ss []) k ≡ edge_record (tables_by [] gs rs []) j
edge-means hs ss gs rs k j h g re qe rf qf =
    told-edge-means (edge_record (tables_by [] hs ss []) k) (edge_record (tables_by [] gs rs []) j) (edge_fits hs ss k h) (edge_fits gs rs j g) (sym re ∙ rf) (sym qe ∙ qf)
