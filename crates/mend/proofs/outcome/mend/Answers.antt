-- `mend::outcome::mend` meets its contract: rules 1 to 4 first. Assumes nothing.
use mathlib.Core.Path.{sym, ap, ◌∙◌}
use borrow.Author.Rules.{rules}
use Rattle.seq.specs.Seq.{length}
use Rattle.map_file.specs.Verdict.{verdict}
use Rattle.mend.proofs.OutcomeLaws.{mend_unformed}
use Rattle.mend.proofs.outcome.mend.Goals as goal

pub form_fault-requires : goal.form_fault-requires
form_fault-requires c = c.read_header-h.ensures

pub mend_read-requires : goal.mend_read-requires
mend_read-requires c = record { fact_1 = c.read_header-h.ensures; fact_2 = sym c.form_fault.ensures ∙ ap verdict c.in-Ok.is }

pub returns-in-Err : goal.returns-in-Err
returns-in-Err c =
    let a = c.args in
    c.refuse.ensures ∙ mend_unformed (length a.out.now) (length a.list.now) a.file.now _ (sym c.form_fault.ensures ∙ ap verdict c.in-Err.is)

pub returns-in-Ok : goal.returns-in-Ok
returns-in-Ok c = c.mend_read.ensures
