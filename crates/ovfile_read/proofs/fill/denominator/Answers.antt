-- `ovfile_read::fill::denominator` meets its contract: four bytes are far below what 64 bits hold. Assumes nothing.
use native.Mathlib.Omega.{arith}
use mathlib.Core.Path.{ap, ◌∙◌}
use mir.Syntax.{w64}
use mir.ValLaws.{to_z_pos}
use Rattle.seq.specs.Seq.{pos}
use Rattle.laws_file.specs.Bytes.{number_below}
use Rattle.ovfile_read.proofs.fill.denominator.Goals as goal

pub overflow_cast-result : goal.overflow_cast-result
overflow_cast-result c =
    record { sfits = omega (arith, c.number_at.ensures, number_below 4 c.args.file.now c.args.at (λ i. (c.type_inv.file i).fits)) }

pub returns : goal.returns
returns c =
    to_z_pos w64 c.number_at.result (omega (arith, c.number_at.ensures, number_below 4 c.args.file.now c.args.at (λ i. (c.type_inv.file i).fits))) ∙ ap pos c.number_at.ensures
