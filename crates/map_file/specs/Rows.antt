-- A map's graph in flat tables: the row of a point and of a carrier. Origins and labels are one number for each half-edge. Assumes nothing.
use Rattle.std.specs.Prelude.{◌∷◌}
use Rattle.seq.specs.Seq.{List, [], ℕ, ℤ, pos}
use Rattle.paper.specs.Graph.{point, edge, Graph}

-- X, Y, D, and a spare cell
abbrev pub point_row : Graph → ℕ → List ℤ
point_row g v = let p = point g v in p.X ∷ p.Y ∷ p.D ∷ pos 0 ∷ []

-- the lower end, and the direction to the upper end
abbrev pub carrier_row : Graph → ℕ → List ℤ
carrier_row g k = let c = (edge g k).carrier in c.foot.x ∷ c.foot.y ∷ c.up.x ∷ c.up.y ∷ []
