-- The label of a half-edge in a map that stands in flat tables, from what the code has of the half-edge: its number, its lower end, its upward direction, and
-- the source + 1 or 0 of its piece in the map. That is the definition's. Assumes nothing.
use Rattle.std.specs.Prelude.{◌≡◌, refl, ◌/◌}
use Rattle.seq.specs.Seq.{cond, Option, none, some, ℕ, zero, suc, or_zero}
use Rattle.paper.specs.Plane.{Pt, Vec}
use Rattle.paper.specs.Graph.{Graph, even, twin, low, upward, east_side, west}
use Rattle.paper.specs.Map.{Map, label}
use Rattle.paper.specs.Faces.{label_in}

-- the label of edge k at the left of half-edge h along it
abbrev pub own_label : Map → ℕ → ℕ → ℕ
own_label m h k = let down = east_side m.graph k in label m (cond (even h) (twin down) down)

-- the label of what is seen from p along d
abbrev pub seen_label : Map → Pt → Vec → ℕ
seen_label m p d = or_zero (label m) (west m.graph p d)

-- by a source that is stored as a number + 1 or 0
abbrev pub label_by : Map → ℕ → Pt → Vec → ℕ → ℕ
label_by m h p d zero = seen_label m p d
label_by m h p d (suc k) = own_label m h k

-- ── the definition's ──

-- the source that is stored
abbrev pub stored : Option ℕ → ℕ
stored none = zero
stored (some k) = suc k

pub label_by_lem : (m : Map) (g : Graph) (h : ℕ) (o : Option ℕ) → label_by m h (low g (h / 2)) (upward g (h / 2)) (stored o) ≡ label_in m g h o
label_by_lem m g h none = refl
label_by_lem m g h (some k) = refl
