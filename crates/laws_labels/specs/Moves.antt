-- The moves, as equations of potentials in a map m.
--     pot-ext, pot-none      one cut; the empty cut
--     pot-above, pot-under   two directions at p, where they agree on the edges at p; pot-same: one point by other numbers
--     pot-piece              one potential along either side of a segment p → r of an edge f, of this map or another, where the map's edges stay clear of its inside
--     pot-slide              the same along a whole edge of the map
--     pot-through            past a point; pot-strict: strictly west is one cut above and under
--     pot-sides              the right side of an edge has its jump more than the left side
-- Assumes nothing.
use Rattle.std.specs.Prelude.{◌≡◌, Bool, false, ◌&&◌, ℕ, ◌<◌, pos, ◌-ℤ◌, ◌<ℤ◌}
use Rattle.paper.specs.Map.{Map}
use Rattle.laws_map.specs.Keeps.{edges}
use Rattle.laws_labels.specs.Lawful.{Lawful}
use Rattle.laws_labels.specs.Spans.{Span, span}
use Rattle.laws_labels.specs.Cut.{Φ-ext, Φ-none}
use Rattle.laws_labels.specs.Cuts.{lo, above}
use Rattle.laws_labels.specs.Pot.{jump, Jumps, pot}

-- ── any map ──

module _ (m : Map) where
  pub pot-ext : (C₁ C₂ : Span → Bool) → ((k : ℕ) → k < edges m → Jumps m k → C₁ (span m k) ≡ C₂ (span m k)) → pot m C₁ ≡ pot m C₂
  unfolding pot
  pot-ext C₁ C₂ h = Φ-ext (edges m) (jump m) (λ k. C₁ (span m k)) (λ k. C₂ (span m k)) h

  pub pot_none : (C : Span → Bool) → ((k : ℕ) → k < edges m → Jumps m k → C (span m k) ≡ false) → pot m C ≡ pos 0
  unfolding pot
  pot_none C h = Φ-none (edges m) (jump m) (λ k. C (span m k)) h

-- ── a map that keeps the rules ──

module _ (m : Map) (K : Lawful m) where
  -- ── the two sides of an edge ──

  module _ (i : ℕ) (l : i < edges m) where
    abbrev pub f : Span
    f = span m i

    abbrev pub C : Bool → ℕ → Bool
    C on j = above on (lo f) f.line.up (span m j)
