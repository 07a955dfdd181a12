-- `bonnetewe::calls::bonnetewe_mend` meets its contract. Assumes nothing.
use borrow.Author.Rules.{rules}
use Rattle.seq.specs.Seq.{length}
use Rattle.paper.specs.Mend.{mend}
use Rattle.bonnetewe.specs.Told.{told_mending}
use Rattle.bonnetewe.proofs.calls.bonnetewe_mend.Goals as goal

pub returns : goal.returns
returns c =
    let a = c.args in
    told_mending (mend (length a.out.now) (length a.list.now) a.file.now) c.mend-answer.ensures c.of_mended.ensures
