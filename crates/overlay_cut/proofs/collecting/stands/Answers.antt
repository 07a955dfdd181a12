-- `overlay_cut::collecting::stands` meets its contract. Assumes nothing.
use Rattle.std.proofs.Common.{refl, sym, ◌∙◌, arith, rules}
use Rattle.std.proofs.lemmas.Iterator.{YieldsList-from_range}
use Rattle.std.proofs.lemmas.Iterator.Search.{any_from_yields_List}
use Rattle.seq.specs.Seq.{ℕ}
use Rattle.seq.proofs.Ranges.{any-some}
use Rattle.plane.specs.Values.{pt_of}
use Rattle.graph.specs.Flat.{the_point_at}
use Rattle.overlay_cut.specs.Points.{equal}
use Rattle.overlay_cut.specs.Collecting.{among-rows}
use Rattle.overlay_cut.proofs.collecting.stands.Goals as goal

pub returns : goal.returns
returns c =
    let a = c.args in
    let f = λ (k : ℕ). equal (pt_of a.p) (the_point_at a.points.now k) in
    any_from_yields_List f _ _ _ c.any.ensures.ran (YieldsList-from_range 0 a.n a.n refl (omega arith)) (λ x b q k. search rules) ∙ any-some f a.n
    ∙ sym (among-rows a.points.now a.n (pt_of a.p))
