-- `overlay_maps::west::take` meets its contract. Assumes nothing.
use mathlib.Core.Path.{sym, ◌∙◌, ap}
use Rattle.seq.specs.Seq.{Bool, cond}
use Rattle.paper.specs.Plane.{Seg}
use Rattle.plane.specs.Values.{pt_of}
use Rattle.graph.specs.Look.{nearer_at}
use Rattle.graph.specs.Pick.{better}
use Rattle.overlay_maps.specs.Ended.{height_of}
use Rattle.overlay_maps.proofs.west.take.Goals as goal
use Rattle.overlay_maps.proofs.west.take.Goals.{else-at_height-via-then-at_height+else-candidate, else-at_height-via-else-at_height}

pub returns-then-candidate : goal.returns-then-candidate
returns-then-candidate c =
    let a = c.args in
    let b = better (nearer_at a.m.carriers.now (pt_of a.p)) a.m.edges a.k a.r in
    c.nearest.ensures ∙ ap (λ (x : Bool). cond x b a.r) (sym c.if-candidate.true ∙ c.candidate.ensures)

-- not at that height, or no candidate
pub returns-else-at_height : goal.returns-else-at_height
returns-else-at_height c =
    let a = c.args in
    let b = better (nearer_at a.m.carriers.now (pt_of a.p)) a.m.edges a.k a.r in
    elim c.else-at_height.branch [
      | else-at_height-via-then-at_height+else-candidate w ↦ ap (λ (x : Bool). cond x b a.r) (sym w.if-candidate.false ∙ w.candidate.ensures)
      | else-at_height-via-else-at_height w ↦
          ap (λ (x : Bool). cond x b a.r) (sym (c.requires.fact_2 (ap (λ (s : Seg). height_of s (pt_of a.p)) (sym c.carrier_at.ensures.is) ∙ sym c.at_height.ensures ∙ w.if-at_height.false)))
    ]
