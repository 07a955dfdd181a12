-- `soundings::sounding::sounding_in` meets its contract. Assumes nothing.
use mathlib.Core.Path.{◌∙◌}
use mir.Syntax.{w64}
use mir.ValLaws.{to_z-of_z}
use Rattle.paper.specs.Plane.{vec}
use Rattle.soundings.proofs.sounding.sounding_in.Goals as goal

pub returns : goal.returns
returns c =
    let x = to_z-of_z w64 _ (record { sfits = c.i16_at.type_inv }) ∙ c.i16_at.ensures in
    let y = to_z-of_z w64 _ (record { sfits = c.i16_at-2.type_inv }) ∙ c.i16_at-2.ensures in
    λ i. vec (x i) (y i)
