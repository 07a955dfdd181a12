-- `graph::places::fill` meets its contract. Assumes nothing.
use Rattle.std.specs.Prelude.{◌++◌}
use mathlib.Core.Path.{◌≡◌, sym, ◌∙◌, ap}
use Rattle.std.proofs.Math.Seq.{length-take-le}
use Rattle.std.proofs.lemmas.List.{length-replicate, get_or-replicate}
use Rattle.seq.specs.Seq.{List, ℕ, length, get_or, replicate, drop, table, over, filled}
use Rattle.seq.specs.Table.{length-table, table_is}
use Rattle.graph.proofs.places.fill.Goals as goal

-- n cells of one value over the first n of d
filled_one : (v n : ℕ) (xs d : List ℕ) → xs ≡ replicate n v → xs ++ drop n d ≡ filled n (λ i. v) d
unfolding over
filled_one v n xs d e =
    (λ j. table_is (λ i. v) n xs 0 (ap length e ∙ length-replicate n v) (λ i l. ap (λ (ys : List ℕ). get_or ys i 0) e ∙ get_or-replicate n i v 0 l) j ++ drop n d)
    ∙ ap (λ (k : ℕ). table (λ i. v) n ++ drop k d) (sym (length-table (λ i. v) n))

pub returns : goal.returns
returns c =
    let a = c.args in
    filled_one a.value a.n c.fill.new.self a.out.now (c.fill.ensures.after (λ y e. e) ∙ ap (λ (k : ℕ). replicate k a.value) (length-take-le a.n a.out.now c.requires))
