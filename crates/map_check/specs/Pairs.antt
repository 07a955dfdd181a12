-- Two edges with an end in common. Assumes nothing.
use Rattle.std.specs.Prelude.{◌≡◌, ◌⊎◌}
use Rattle.paper.specs.Plane.{Seg, head}

-- they start together or end together
abbrev pub CommonEnd : Seg → Seg → Type 0
CommonEnd s t = (s.foot ≡ t.foot) ⊎ (head s ≡ head t)
