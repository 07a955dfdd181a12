-- `plane::crossings::crossing_over` meets its contract: the numbers of its calls are those of the definition. Assumes nothing.
use mathlib.Core.Path.{◌≡◌, ◌∙◌}
use Rattle.exact.specs.Mach.{tr, plain}
use Rattle.paper.specs.Plane.{cross_by}
use Rattle.plane.specs.Values.{seg_of}
use Rattle.plane.specs.Parameters.{first_over, number_over}
use Rattle.plane.proofs.Machine.{back, number_back}
use Rattle.plane.proofs.crossings.crossing_over.Goals as goal
use Rattle.plane.proofs.crossings.crossing_over.Goals.{Start}

pub returns : goal.returns
returns c =
    let b = c.before in
    let st = b.before.before in
    let s = seg_of st.args.s in
    let t = seg_of st.args.t in
    let d : back st.args.d ≡ first_over s t = number_back st.args.d st.requires.3 ∙ st.requires.2 in
    let n : back b.number_over-n.result ≡ number_over s t t = plain (search tr depth 20) tt ∙ b.number_over-n.ensures.is in
    let m : back b.number_over-m.result ≡ number_over s t s = plain (search tr depth 20) tt ∙ b.number_over-m.ensures.is in
    record { is = c.cross_by.ensures.is ∙ (λ i. cross_by s (n i) (m i) (d i)); near = c.cross_by.ensures.near }
