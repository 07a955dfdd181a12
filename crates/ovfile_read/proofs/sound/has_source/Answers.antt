-- `ovfile_read::sound::has_source` meets its contract. Assumes nothing.
use Rattle.std.proofs.Common.{refl, ◌∙◌, sym, ap, arith, rules}
use Rattle.std.proofs.lemmas.Iterator.{YieldsList-from_range}
use Rattle.std.proofs.lemmas.Iterator.Search.{any_from_yields_List}
use borrow.Author.Tests.{tests}
use Rattle.seq.specs.Seq.{ℕ, not, eqb}
use Rattle.seq.proofs.Least.{some_ext}
use Rattle.seq.proofs.Ranges.{any-some}
use Rattle.paper.specs.Limits.{maps}
use Rattle.paper.specs.Tables.{source_cell}
use Rattle.paper.specs.Reader.{stored_source, tables_in}
use Rattle.laws_roundtrip.specs.ReadCells.{source-cell}
use Rattle.ovfile.specs.Values.{layout_from}
use Rattle.ovfile_read.proofs.sound.has_source.Goals as goal

pub returns : goal.returns
returns c =
    let a = c.args in
    let l = layout_from a.stored.now.layout in
    let s = a.stored.now.file.now in
    let p = λ (i : ℕ). not (eqb (stored_source l s a.k i) 0) in
    any_from_yields_List p _ _ _ c.any.ensures.ran (YieldsList-from_range 0 3 3 refl (omega arith)) (λ x b q k. search (rules, tests))
    ∙ any-some p 3
    ∙ some_ext p (λ i. not (eqb (source_cell maps (tables_in maps l s) a.k i) 0)) 3 (λ i b. ap (λ (x : ℕ). not (eqb x 0)) (sym (source-cell maps l s a.k i c.requires b)))
