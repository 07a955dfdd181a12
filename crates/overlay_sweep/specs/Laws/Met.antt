-- The line between two stops, by tables: the sides of the next stop rise along the status, so that the search by halves may be made (`right_steady`). Assumes nothing.
use Rattle.std.specs.Prelude.{◌≡◌, refl, ◌<◌, ◌∷◌}
use Rattle.std.proofs.Common.{sym, ◌∙◌, ap, subst, arith}
use Rattle.exact.specs.Sign.{Sign, neg, zer, plus, is_neg}
use Rattle.seq.specs.Seq.{true, false, List, ℤ, ℕ, get_or, table}
use Rattle.seq.specs.Terms.{Pairs}
use Rattle.seq.specs.Table.{length-table, table_at, table-map}
use Rattle.seq.specs.Tests.{never}
use Rattle.paper.specs.Plane.{Pt}
use Rattle.laws_sweep.specs.Gap.{at_most}
use Rattle.laws_sweep.specs.Sweep.{Strand, right}
use Rattle.seq.specs.Pairs.{pairs-map}
use Rattle.seq.specs.Search.{Steady, steady_by}
use Rattle.laws_sweep.specs.Scene.{Scene, State}
use Rattle.laws_sweep.specs.Turn.{side}
use Rattle.laws_sweep.proofs.Turn.{sides_v}
use Rattle.overlay_sweep.specs.Numbers.{numbers_in}
use Rattle.overlay_sweep.specs.Sides.{right_at}
use Rattle.overlay_sweep.specs.Ahead.{strand_at}
use Rattle.overlay_sweep.specs.Turned.{strands_in}

not_right : (s t : Sign) → at_most s t ≡ true → is_neg s ≡ false → is_neg t ≡ false
not_right neg t h e = never (sym e)
not_right zer neg h e = never h
not_right zer zer h e = refl
not_right zer plus h e = refl
not_right plus neg h e = never h
not_right plus zer h e = never h
not_right plus plus h e = refl

-- the search by halves may be made
pub right_steady : (cs : List ℤ) (starts : List ℕ) (st : List ℕ) (c : ℕ) (es : List Strand) (corners stops : List Pt) → Scene es corners stops → (p v : Pt) (vs queue : List Pt)
    → State es corners stops p (v ∷ vs) queue (strands_in cs starts (numbers_in st c)) → Steady (right_at cs st v) c
right_steady cs starts st c es corners stops S p v vs queue I i j h l f =
    let s = table (λ k. strand_at cs starts (get_or st k 0)) c in
    let d = strand_at cs starts 0 in
    let e : strands_in cs starts (numbers_in st c) ≡ s = table-map (strand_at cs starts) (λ k. get_or st k 0) c in
    let sides = subst (Pairs (λ x y. at_most (side v x) (side v y) ≡ true)) e (sides_v es corners stops S p v vs queue (strands_in cs starts (numbers_in st c)) I) in
    let falls = pairs-map (λ x y. at_most (side v x) (side v y) ≡ true) (λ x y. right v x ≡ false → right v y ≡ false) s (λ x y a b k. not_right (side v x) (side v y) k) sides in
    sym (at j l) ∙ steady_by d (right v) s falls i j h (omega (arith, length-table (λ k. strand_at cs starts (get_or st k 0)) c)) (at i (omega arith) ∙ f)
  where
    at : (k : ℕ) → k < c → right v (get_or (table (λ k. strand_at cs starts (get_or st k 0)) c) k (strand_at cs starts 0)) ≡ right_at cs st v k
    at k q = ap (right v) (table_at (λ k. strand_at cs starts (get_or st k 0)) c k (strand_at cs starts 0) q)
