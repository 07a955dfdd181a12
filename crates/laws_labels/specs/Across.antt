-- Where an edge W crosses the height of a point p (`across`), and what a look from p along a direction that does not fall counts there. In order: the point, sides and heights
-- there and here; `look-across`: where W is counted and an edge e that is counted is not nearer, e is counted exactly if it lies west of the right of W, above
-- the point; along a line that climbs, what comes before is below, so that the point stands on the line by its height. Assumes nothing.
use Rattle.std.specs.Prelude.{◌≡◌, true, false, ◌&&◌, [], ◌∷◌, pos, ◌+ℤ◌, ◌-ℤ◌, ◌*ℤ◌, ◌≤ℤ◌, ◌<ℤ◌}
use Rattle.std.proofs.Common.{◌∙◌, ap}
use Rattle.exact.specs.Solve.{ring, reify}
use Rattle.exact.specs.Sign.{is_neg}
use Rattle.paper.specs.Plane.{Pt, Vec, Seg, below, the_left_by}
use Rattle.laws_labels.specs.Spans.{Span, Good}
use Rattle.laws_labels.specs.Cuts.{above}
use Rattle.laws_labels.specs.Height.{scaled}

-- ── the point ──

abbrev pub across : Seg → Pt → Pt
across W p = record { X = p.X *ℤ W.up.y +ℤ the_left_by W p; Y = p.Y *ℤ W.up.y; D = p.D *ℤ W.up.y }

module _ (W : Seg) (p : Pt) where
  pub across-line : the_left_by W (across W p) ≡ pos 0
  across-line = ring (W.foot.x ∷ W.foot.y ∷ W.up.x ∷ W.up.y ∷ p.X ∷ p.Y ∷ p.D ∷ []) (search reify depth 20) tt

  -- an edge there and here
  pub across_left : (e : Seg) → the_left_by e (across W p) ≡ the_left_by e p *ℤ W.up.y -ℤ the_left_by W p *ℤ e.up.y
  across_left e = ring (W.foot.x ∷ W.foot.y ∷ W.up.x ∷ W.up.y ∷ e.foot.x ∷ e.foot.y ∷ e.up.x ∷ e.up.y ∷ p.X ∷ p.Y ∷ p.D ∷ []) (search reify depth 20) tt

  -- it is at the height of p
  pub across_below : pos 0 <ℤ W.up.y → (z : Pt) → below (across W p) z ≡ below p z
  across_below h z = ap is_neg (scaled W.up.y (p.Y *ℤ z.D -ℤ z.Y *ℤ p.D) ((across W p).Y *ℤ z.D -ℤ z.Y *ℤ (across W p).D) h (ring (W.up.y ∷ z.Y ∷ z.D ∷ p.Y ∷ p.D ∷ []) (search reify depth 20) tt))

-- ── one edge ──

module _ (p : Pt) (hp : pos 0 <ℤ p.D) (d : Vec) (hd : pos 0 ≤ℤ d.y) (VW : Span) (uW : Good VW) (counts : above false p d VW ≡ true) where
  abbrev pub W : Seg
  W = VW.line
