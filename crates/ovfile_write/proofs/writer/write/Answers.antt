-- `ovfile_write::writer::write` meets its contract. Assumes nothing.
use mathlib.Core.Path.{sym, ap, ◌∙◌}
use Rattle.seq.specs.Seq.{length}
use Rattle.seq.specs.Wiped.{padded_none}
use Rattle.paper.specs.Refusal.{done, refused}
use Rattle.map_file.specs.Verdict.{verdict, refusal_of}
use Rattle.tables.specs.Values.{counts_of}
use Rattle.ovfile_write.proofs.WriteLaws.{all_fit, room_enough, write_done, write-refused}
use Rattle.ovfile_write.proofs.writer.write.Goals as goal

pub put_file-requires : goal.put_file-requires
put_file-requires c =
    let a = c.args in
    let n = length a.buffer.now in
    let e = sym c.judge.ensures ∙ ap verdict c.in_default.is in
    (all_fit n (counts_of a.c) a.vertices.now a.halves.now a.sources.now a.faces.now e, room_enough n (counts_of a.c) a.vertices.now a.halves.now a.sources.now a.faces.now e)

pub returns-in-Err : goal.returns-in-Err
returns-in-Err c =
    let a = c.args in
    let n = length a.buffer.now in
    (λ i. record { answer = refused (refusal_of c.in-Err.r); buffer = (c.fill.ensures.after (λ y e. e) ∙ sym (padded_none 0 n)) i })
    ∙ write-refused n (counts_of a.c) a.vertices.now a.halves.now a.sources.now a.faces.now _ (sym c.judge.ensures ∙ ap verdict c.in-Err.is)

pub returns : goal.returns
returns c =
    let a = c.args in
    let n = length a.buffer.now in
    let e = sym c.judge.ensures ∙ ap verdict c.in_default.is in
    (λ i. record { answer = done (c.file_length.ensures i); buffer = c.put_file.ensures i })
    ∙ write_done n (counts_of a.c) a.vertices.now a.halves.now a.sources.now a.faces.now e
