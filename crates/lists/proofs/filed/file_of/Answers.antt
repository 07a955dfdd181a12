-- `lists::filed::file_of` meets its contract. Assumes nothing.
use mathlib.Core.Path.{refl, sym, ◌∙◌, ap}
use Rattle.seq.specs.Seq.{length}
use Rattle.seq.specs.Wiped.{padded_none}
use Rattle.paper.specs.Refusal.{refused}
use Rattle.map_file.specs.Verdict.{refusal_of}
use Rattle.tables.specs.Values.{answer_of, outcome_of, tables_by}
use Rattle.lists.specs.Filed.{filed_by_lem}
use Rattle.lists.proofs.filed.file_of.Goals as goal

pub returns-in-Ok : goal.returns-in-Ok
returns-in-Ok c =
    let a = c.args in
    filed_by_lem (length a.buffer.now) (outcome_of a.answer (tables_by a.vertices.now a.halves.now a.sources.now a.faces.now)) refl (ap answer_of c.in-Ok.is) c.write.ensures

pub returns-in-Err : goal.returns-in-Err
returns-in-Err c =
    let a = c.args in
    let n = length a.buffer.now in
    filed_by_lem n (outcome_of a.answer (tables_by a.vertices.now a.halves.now a.sources.now a.faces.now)) refl (ap answer_of c.in-Err.is)
    (λ i. record { answer = refused (refusal_of c.in-Err.r); buffer = (c.fill.ensures.after (λ y e. e) ∙ sym (padded_none 0 n)) i })
