-- `ovfile::bytes::number_at` meets its contract. Assumes nothing.
use mathlib.Core.Path.{sym, ap, ◌∙◌}
use Rattle.seq.specs.Seq.{ℕ}
use Rattle.paper.specs.Bytes.{number}
use Rattle.ovfile.proofs.BytesLaws.{number_past}
use Rattle.ovfile.proofs.bytes.number_at.Goals as goal
use Rattle.ovfile.proofs.bytes.number_at.Goals.{Start, Then-width-eq4, Then-width-eq6}

pub returns-then-file-at : goal.returns-then-file-at
returns-then-file-at c =
    let a = c.args in
    sym (number_past a.width a.file.now a.at c.if-file-at.true)

pub returns-then-width-eq6 : goal.returns-then-width-eq6
returns-then-width-eq6 c =
    let a = c.args in
    c.number_of.ensures ∙ ap (λ (w : ℕ). number w a.file.now a.at) (sym c.if-width-eq6.true)

pub returns-then-width-eq4 : goal.returns-then-width-eq4
returns-then-width-eq4 c =
    let a = c.args in
    c.number_of-then-width-eq4.ensures ∙ ap (λ (w : ℕ). number w a.file.now a.at) (sym c.if-width-eq4.true)
