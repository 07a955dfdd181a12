-- The potential of a cut in a map: the jumps of the labels across the edges of the cut, from west to east, added up. It never mentions faces. In order: the
-- jumps; the potential; the edge's ends as vertices; balance, from rule 10's first half: the follower is a bijection of the half-edges, starts where its
-- half-edge arrives and has the same label, so that at every vertex the labels that leave add up to the labels that arrive. Angles are not needed.
-- Assumes nothing.
use Rattle.std.specs.Prelude.{◌≡◌, Bool, [], ◌∷◌, ℕ, ◌+◌, ◌*◌, ℤ, pos, ◌+ℤ◌, ◌-ℤ◌, ◌*ℤ◌}
use Rattle.paper.specs.Graph.{origin, east_side}
use Rattle.paper.specs.Map.{Map, label}
use Rattle.laws_graph.specs.East.{west_side}
use Rattle.laws_map.specs.Keeps.{edges}
use Rattle.laws_labels.specs.Spans.{Span, span}
use Rattle.laws_labels.specs.Cut.{Φ}

-- a half-edge's label, as a whole number
abbrev pub lab : Map → ℕ → ℤ
lab m h = pos (label m h)

-- the labels on the two sides of edge k
abbrev pub west : Map → ℕ → ℤ
west m k = lab m (west_side m.graph k)

abbrev pub east : Map → ℕ → ℤ
east m k = lab m (east_side m.graph k)

abbrev pub jump : Map → ℕ → ℤ
jump m k = east m k -ℤ west m k

-- the labels on its two sides differ
abbrev pub Jumps : Map → ℕ → Type 0
Jumps m k = jump m k ≡ pos 0 → ⊥

unfoldable pub pot : Map → (Span → Bool) → ℤ
pot m C = Φ (edges m) (jump m) (λ k. C (span m k))

-- the vertices at the lower and at the upper end of edge k
abbrev pub low_end : Map → ℕ → ℕ
low_end m k = origin m.graph (west_side m.graph k)

abbrev pub the_high_end : Map → ℕ → ℕ
the_high_end m k = origin m.graph (east_side m.graph k)
