-- `map_check::pairs::fork` meets its contract: two lines that are not parallel have one point in common. Assumes nothing.
use mathlib.Core.Path.{◌≡◌, ◌∙◌}
use mathlib.Core.Logic.{⊎_elim}
use Rattle.exact.specs.Tests.{never}
use Rattle.seq.specs.Seq.{pos}
use Rattle.paper.specs.Plane.{cross}
use Rattle.laws_fast.specs.Sides.{common-foot, common-head}
use Rattle.plane.specs.Values.{seg_of}
use Rattle.plane.proofs.Machine.{vec_back}
use Rattle.map_check.proofs.pairs.fork.Goals as goal

pub returns-then-share_end : goal.returns-then-share_end
returns-then-share_end c =
    let s = c.args.s in
    let t = c.args.t in
    let p = c.requires in
    let is = c.cross_of.ensures.is ∙ (λ i. cross (vec_back s.u s.v p.0.up_is i) (vec_back t.u t.v p.1.up_is i)) in
    λ e.
    let off : c.cross_of.result ≡ pos 0 → ⊥ = λ z. never (rw z at e) in
    ⊎_elim (common-foot (seg_of s) (seg_of t) p.2 p.3 (λ z. off (is ∙ z))) (common-head (seg_of s) (seg_of t) p.2 p.3 (λ z. off (is ∙ z))) (c.share_end.ensures c.if-share_end.true)
