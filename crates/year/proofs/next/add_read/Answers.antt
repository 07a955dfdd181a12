-- `year::next::add_read` meets its contract. Assumes nothing.
use Rattle.std.specs.Prelude.{◌-◌}
use mathlib.Core.Path.{◌≡◌, sym, ap, ◌∙◌}
use Rattle.seq.specs.Seq.{ℕ, some}
use Rattle.paper.specs.Reader.{counts_in}
use Rattle.map_file.specs.Verdict.{verdict}
use Rattle.laws_year.specs.Capped.{cap_read}
use Rattle.ovfile.specs.Values.{layout_from}
use Rattle.year.specs.Faced.{pairs_from}
use Rattle.year.specs.Stated.{state_of}
use Rattle.year.specs.OneFile.{layout_in, sheet-fine}
use Rattle.year.proofs.next.add_read.Goals as goal

pub returns-in-Ok : goal.returns-in-Ok
returns-in-Ok c =
    let a = c.args in
    let st = c.in-Ok.stored in
    let h = c.in-Ok.ensures.same in
    let before = state_of a.rows.now a.sums in
    let same : st.file.now ≡ a.file.now = λ i. (h i).now in
    let named : layout_from st.layout ≡ layout_in st.file.now = λ i. record { coordinate = st.bytes_named i; maps = st.maps_named i } in
    let faces : c.others.result ≡ (counts_in st.file.now).faces - 1 = c.others.ensures ∙ ap (λ (n : ℕ). n - 1) st.faces_counted in
    c.add_sheet.ensures
    ∙ (λ i. cap_read before (some (pairs_from (named i) st.file.now (faces i))))
    ∙ (λ i. cap_read before (some (pairs_from (layout_in (same i)) (same i) ((counts_in (same i)).faces - 1))))
    ∙ ap (cap_read before) (sym (sheet-fine a.file.now (sym c.judge.ensures.told ∙ ap verdict c.in-Ok.is)))
