-- `bonnetewe::calls::bonnetewe_read` meets its contract. Assumes nothing.
use borrow.Author.Rules.{rules}
use Rattle.seq.specs.Seq.{length}
use Rattle.paper.specs.Reader.{read}
use Rattle.tables.specs.Values.{lengths_by}
use Rattle.bonnetewe.specs.Told.{told_by}
use Rattle.bonnetewe.proofs.calls.bonnetewe_read.Goals as goal

pub returns : goal.returns
returns c =
    let a = c.args in
    told_by
    (read (lengths_by (length a.vertices.now) (length a.halves.now) (length a.sources.now) (length a.faces.now)) a.file.now)
    c.read-answer.ensures
    c.of_answer.ensures
