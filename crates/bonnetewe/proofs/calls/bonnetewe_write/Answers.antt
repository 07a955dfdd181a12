-- `bonnetewe::calls::bonnetewe_write` meets its contract. Assumes nothing.
use native.Mathlib.Omega.{arith}
use borrow.Author.Rules.{rules}
use Rattle.seq.specs.Seq.{length}
use Rattle.paper.specs.Writer.{write}
use Rattle.tables.specs.Values.{tables_by}
use Rattle.bonnetewe.specs.Told.{counts, told-file, write_short}
use Rattle.bonnetewe.proofs.calls.bonnetewe_write.Goals as goal

pub of_written-requires : goal.of_written-requires
of_written-requires c =
    let a = c.args in
    write_short
    (length a.buffer.now)
    a.v
    a.e
    a.f
    (tables_by a.vertices.now a.halves.now a.sources.now a.faces.now)
    (omega arith)
    (omega arith)
    (omega arith)
    c.write-answer.ensures

pub returns : goal.returns
returns c =
    let a = c.args in
    told-file
    (write (length a.buffer.now) (counts a.v a.e a.f) (tables_by a.vertices.now a.halves.now a.sources.now a.faces.now))
    c.write-answer.ensures
    c.of_written.ensures
