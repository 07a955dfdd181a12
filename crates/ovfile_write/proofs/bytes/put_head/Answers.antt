-- `ovfile_write::bytes::put_head` meets its contract. Assumes nothing.
use mathlib.Core.Path.{refl}
use Rattle.seq.specs.Seq.{gather}
use Rattle.paper.specs.Bytes.{ascii, le}
use Rattle.tables.specs.Values.{counts_of}
use Rattle.ovfile_write.specs.Judged.{head_fields}
use Rattle.ovfile_write.proofs.PutLaws.{then-behind}
use Rattle.ovfile_write.proofs.bytes.put_head.Goals as goal

pub returns : goal.returns
returns c =
    let a = c.args in
    then-behind a.buffer.now 0 (ascii "ZOV") (gather (le 2) (head_fields (counts_of a.c))) _ _ 3 c.put_mark.ensures c.put_fields.ensures refl
