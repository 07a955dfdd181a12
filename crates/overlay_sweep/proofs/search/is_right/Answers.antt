-- `overlay_sweep::search::is_right` meets its contract. Assumes nothing.
use mathlib.Core.Path.{◌∙◌, ap}
use lib.IntN.{ℤ, pos}
use lib.Signed.{lt_z}
use native.Mathlib.Omega.{arith}
use Rattle.exact.specs.Mach.{trb, test}
use Rattle.paper.specs.Plane.{Seg, the_left_by}
use Rattle.seq.specs.Seq.{get_or}
use Rattle.graph.specs.Flat.{carrier_at}
use Rattle.plane.specs.Values.{pt_of}
use Rattle.overlay_sweep.specs.Sides.{neg-test}
use Rattle.overlay_sweep.proofs.search.is_right.Goals as goal

pub carrier_at-s-requires : goal.carrier_at-s-requires
carrier_at-s-requires c =
    let k = c.args.cut.named.named c.args.i c.requires.fact_1 in
    record { row = omega (arith, k, c.args.cut.sheet.carried.long); near = c.args.cut.sheet.carried.near (get_or c.args.cut.status.now c.args.i 0) k }

pub left_by-requires : goal.left_by-requires
left_by-requires c = (c.carrier_at-s.ensures.near, c.requires.fact_2)

pub returns : goal.returns
returns c =
    let a = c.args in
    test (search trb depth 20) tt ∙ ap (λ (z : ℤ). lt_z z (pos 0)) (c.left_by.ensures.is ∙ ap (λ (t : Seg). the_left_by t (pt_of a.p)) c.carrier_at-s.ensures.is)
    ∙ neg-test (the_left_by (carrier_at a.cut.sheet.carriers.now (get_or a.cut.status.now a.i 0)) (pt_of a.p))
