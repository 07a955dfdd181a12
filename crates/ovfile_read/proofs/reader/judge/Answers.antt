-- `ovfile_read::reader::judge` meets its contract. Assumes nothing.
use mathlib.Core.Path.{◌≡◌, sym, ap, ◌∙◌}
use borrow.Author.Rules.{rules}
use Rattle.map_file.specs.Verdict.{verdict}
use Rattle.tables.specs.Values.{lengths_by}
use Rattle.ovfile.specs.Values.{layout_from}
use Rattle.ovfile_read.proofs.ReadLaws.{judged}
use Rattle.ovfile_read.proofs.reader.judge.Goals as goal

pub returns-in_err-body-clause-told : goal.returns-in_err-body-clause-told
returns-in_err-body-clause-told c =
    let a = c.args in
    let st = c.in_ok-stored.stored in
    let h = c.in_ok-stored.ensures.same in
    let r : verdict c.from_residual-in_err-body.result ≡ verdict c.body.result = search rules in
    judged a.file.now st.file.now (lengths_by a.vertices a.halves a.sources a.faces) (layout_from st.layout) (λ i. (h i).now) (λ i. record { coordinate = st.bytes_named i; maps = st.maps_named i })
    (sym c.head.ensures.told ∙ ap verdict c.in_ok-stored.was) (r ∙ c.body.ensures)

pub returns-clause-told : goal.returns-clause-told
returns-clause-told c =
    let a = c.args in
    let st = c.in_ok-stored.stored in
    let h = c.in_ok-stored.ensures.same in
    judged a.file.now st.file.now (lengths_by a.vertices a.halves a.sources a.faces) (layout_from st.layout) (λ i. (h i).now) (λ i. record { coordinate = st.bytes_named i; maps = st.maps_named i })
    (sym c.head.ensures.told ∙ ap verdict c.in_ok-stored.was) (sym (ap verdict c.in_ok-body.was) ∙ c.body.ensures)
