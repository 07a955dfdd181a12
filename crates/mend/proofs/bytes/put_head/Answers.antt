-- `mend::bytes::put_head` meets its contract. Assumes nothing.
use Rattle.std.specs.Prelude.{◌∷◌}
use mathlib.Core.Path.{refl}
use Rattle.seq.specs.Seq.{[], gather}
use Rattle.paper.specs.Bytes.{ascii, le}
use Rattle.mend.proofs.AppendLaws.{then-behind}
use Rattle.mend.proofs.bytes.put_head.Goals as goal

pub returns : goal.returns
returns c =
    let a = c.args in
    then-behind a.out.now 0 (ascii "ZMP") (gather (le 2) (1 ∷ a.vertices ∷ a.edges ∷ [])) _ _ 3 c.put_mark.ensures c.put_fields.ensures refl
