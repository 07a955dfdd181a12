-- The cuts by height. The cut above p along d, for a direction that does not fall, is 01's candidates: by height ("lower y ≤ y of p < upper y") and not by point order,
-- for a level edge is not counted, and an edge that starts or ends at the height of p is on the side of p that its end is (`above_height`, `right_height`).
-- Assumes nothing.
use Rattle.std.specs.Prelude.{◌≡◌, Bool, not, ◌&&◌, [], ◌∷◌, ℤ, ◌-ℤ◌, ◌*ℤ◌, ◌≤ℤ◌, ◌<ℤ◌}
use Rattle.std.proofs.Math.Path.{ap}
use Rattle.std.proofs.Common.{sym, ◌∙◌}
use Rattle.std.proofs.Math.Bool.{true}
use Rattle.std.proofs.Math.IntN.{pos}
use Rattle.exact.specs.Order.{<→≢, <→0<}
use Rattle.exact.specs.Mul.{zero-cancel, drop_first}
use Rattle.exact.specs.Sign.{sgn}
use Rattle.exact.specs.Tests.{and_parts}
use Rattle.exact.specs.Signs.{sgn-scale}
use Rattle.seq.specs.Tests.{was-false}
use Rattle.paper.specs.Plane.{Pt, Seg, dir, below}
use Rattle.laws_plane.specs.Cone.{above as rising, level, UpV}
use Rattle.laws_plane.specs.Ends.{below_lt, level_below}
use Rattle.laws_plane.specs.Sides.{chord}
use Rattle.laws_labels.specs.Spans.{Span, Good}
use Rattle.laws_labels.specs.Cuts.{lo, hi}

-- "lower y ≤ y of p < upper y"
abbrev pub at_height_of : Pt → Span → Bool
at_height_of p e = not (below p (lo e)) && below p (hi e)

pub scaled : (c t z : ℤ) → pos 0 <ℤ c → z ≡ c *ℤ t → sgn z ≡ sgn t
scaled c t z p h = ap sgn h ∙ sgn-scale t c p

-- ── p against a point of the line at its height ──

module _ (p : Pt) (e : Span) (G : Good e) where
  abbrev pub t : Seg
  t = e.line

  -- a level edge has its own height all along
  pub no_climb : t.up.y ≡ pos 0 → pos 0 <ℤ t.up.x → (dir (lo e) (hi e)).y ≡ pos 0
  no_climb h x = zero-cancel t.up.x (dir (lo e) (hi e)).y x (drop_first t.up.y (dir (lo e) (hi e)).x t.up.x (dir (lo e) (hi e)).y h ∙ chord t (lo e) (hi e) G.p_on G.r_on)

-- ── the candidates ──

-- an edge at the height of a point is not level
pub span-steep : (p : Pt) (e : Span) → Good e → pos 0 <ℤ p.D → at_height_of p e ≡ true → pos 0 <ℤ e.line.up.y
span-steep p e G d h =
    let r = and_parts (not (below p (lo e))) (below p (hi e)) h in
    go G.rises (climb r.0 r.1)
  where
    climb : not (below p (lo e)) ≡ true → below p (hi e) ≡ true → pos 0 <ℤ (dir (lo e) (hi e)).y
    climb a b = <→0< {a = (lo e).Y *ℤ (hi e).D} {b = (hi e).Y *ℤ (lo e).D} (below_lt (lo e) (hi e) (level_below (lo e) p (hi e) G.p_real d G.r_real (was-false (below p (lo e)) a) b))

    go : UpV e.line.up → pos 0 <ℤ (dir (lo e) (hi e)).y → pos 0 <ℤ e.line.up.y
    go (rising x) c = x
    go (level z x) c = absurd (<→≢ c (sym (no_climb p e G z x)))
