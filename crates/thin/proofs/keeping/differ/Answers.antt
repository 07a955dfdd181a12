-- `thin::keeping::differ` meets its contract. Assumes nothing.
use Rattle.std.proofs.Common.{refl, ◌∙◌, arith, rules}
use Rattle.std.proofs.lemmas.Iterator.{YieldsList-from_range}
use Rattle.std.proofs.lemmas.Iterator.Search.{any_from_yields_List}
use borrow.Author.Tests.{tests}
use Rattle.seq.specs.Seq.{Bool, ℕ, not, eqb, cell}
use Rattle.seq.proofs.Ranges.{any-some}
use Rattle.paper.specs.Limits.{maps}
use Rattle.thin.proofs.keeping.differ.Goals as goal

pub returns : goal.returns
returns c =
    let a = c.args in
    let p : ℕ → Bool = λ i. not (eqb (cell 0 maps a.triples.now a.f i) (cell 0 maps a.triples.now a.g i)) in
    any_from_yields_List p _ _ _ c.any.ensures.ran (YieldsList-from_range 0 maps maps refl (omega arith)) (λ x b q k. search (rules, tests)) ∙ any-some p maps
