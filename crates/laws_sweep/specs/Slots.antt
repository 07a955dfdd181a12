-- Edges put into a list, each before the first that it is to stand before: a fan of edges by falling angle (`fan-pairs`), and the edges by their lower ends (`foot-pairs`). Assumes nothing.
use Rattle.std.specs.Prelude.{◌≡◌}
use Rattle.std.proofs.Common.{◌∙◌, ap}
use Rattle.exact.specs.Sign.{sgn, is_neg}
use Rattle.exact.specs.Signs.{plus_not-neg, neg-turned, not_less-sum}
use Rattle.seq.specs.Seq.{false, List, []}
use Rattle.seq.specs.Terms.{Among, Pairs}
use Rattle.seq.specs.Slotted.{slots, slots-pairs}
use Rattle.paper.specs.Plane.{cross, before}
use Rattle.laws_plane.specs.Cone.{UpV}
use Rattle.laws_plane.specs.Points.{before_asym, le_trans}
use Rattle.laws_plane.specs.Ends.{0<1}
use Rattle.laws_plane.specs.Angles.{turn-swap}
use Rattle.laws_plane.proofs.Angles.{turn-trans}
use Rattle.laws_sweep.specs.Gap.{spread}
use Rattle.laws_sweep.specs.Sweep.{Strand, lo, steeper, sooner}

-- ── a fan ──

-- f has no greater angle than e
abbrev pub Wide : Strand → Strand → Type 0
Wide e f = is_neg (sgn (spread e.seg f.seg)) ≡ false

pub fan-pairs : (xs : List Strand) → ((z : Strand) → Among z xs → UpV z.seg.up) → Pairs Wide (slots steeper [] xs)
fan-pairs xs us =
    slots-pairs steeper (λ e. UpV e.seg.up) Wide
    (λ e f ue uf h. plus_not-neg (sgn (cross f.seg.up e.seg.up)) h)
    (λ e f ue uf h. ap is_neg (turn-swap f.seg.up e.seg.up) ∙ neg-turned (sgn (cross f.seg.up e.seg.up)) ∙ h)
    (λ e f z ue uf uz h k.
    not_less-sum (sgn (cross z.seg.up f.seg.up)) (sgn (cross f.seg.up e.seg.up)) (sgn (cross z.seg.up e.seg.up))
    (turn-trans z.seg.up f.seg.up e.seg.up uz uf ue) k h)
    [] xs (λ z i. absurd i) us tt

-- ── by lower ends ──

-- f does not start before e
abbrev pub Later : Strand → Strand → Type 0
Later e f = before (lo f) (lo e) ≡ false

pub foot-pairs : (xs : List Strand) → Pairs Later (slots sooner [] xs)
foot-pairs xs =
    slots-pairs sooner (λ e. Unit {0}) Later (λ e f ue uf h. before_asym (lo e) (lo f) h) (λ e f ue uf h. h)
    (λ e f z ue uf uz h k. le_trans (lo e) (lo f) (lo z) 0<1 0<1 0<1 (before_asym (lo e) (lo f) h) k) [] xs (λ z i. absurd i) (λ z i. tt) tt
