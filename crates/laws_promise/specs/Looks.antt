-- What a look sees by 01's words (`Looks`): no second answer has them (`looks-once`), and the definition's answer does (`west-looks`), in a plane graph in which no two edges share a stretch. In order: no second
-- answer; an edge's point at a height; the tests by points; the definition's answer; along directions of one way the same is seen (`looks-along`). Assumes nothing.
use Rattle.std.specs.Prelude.{◌≡◌, ◌⊎◌, ◌<ℤ◌, ◌∷◌, ◌+ℤ◌, ◌-ℤ◌, ◌*ℤ◌}
use Rattle.std.proofs.Common.{◌∙◌}
use Rattle.seq.specs.Seq.{true, []}
use Rattle.paper.specs.Plane.{Vec, nowhere, rises}

-- ── angles of upward directions ──

-- the directions along which is looked: upward ones, and none
abbrev pub Lookable : Vec → Type 0
Lookable d = (rises d ≡ true) ⊎ (d ≡ nowhere)
