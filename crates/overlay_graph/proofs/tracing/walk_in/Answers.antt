-- `overlay_graph::tracing::walk_in` meets its contract. Assumes nothing.
use Prim.Native.Nat.{ℕ, ◌*◌, ◌≤◌}
use native.Mathlib.Omega.{arith}
use lib.ListN.{length, replicate, length-replicate}
use Rattle.graph_faces.specs.Laws.Linking.{linked-led}
use Rattle.overlay_graph.proofs.tracing.walk_in.Goals as goal

pub link-requires : goal.link-requires
link-requires g c =
    let p = c.requires in
    let few : 2 * c.args.cut.edges ≤ length (replicate g.row.N 0) = omega (arith, p.fact_5.0, length-replicate {A = ℕ} g.row.N 0) in
    record { fact_1 = p.fact_1; fact_2 = p.fact_2.0; fact_3 = p.fact_2.1; fact_4 = p.fact_3; fact_5 = (p.fact_4.0, few, few) }

pub enclose-requires : goal.enclose-requires
enclose-requires g c =
    let a = c.args.cut in
    let p = c.requires in
    let k = c.link in
    let few : 2 * c.args.cut.edges ≤ length (replicate g.row.N 0) = omega (arith, p.fact_5.0, length-replicate {A = ℕ} g.row.N 0) in
    let led = linked-led a.points.now c.args.ends.now c.args.lines.now a.vertices a.edges p.fact_1 p.fact_3 k.new.next k.new.lead k.new.top k.ensures few few in
    record { fact_1 = p.fact_1; fact_2 = p.fact_2.1; fact_3 = p.fact_3; fact_4 = led; fact_5 = (p.fact_4.1, p.fact_4.2, p.fact_4.3) }

pub returns : goal.returns
returns g c =
    let k = c.link.ensures in
    let f = c.enclose.ensures in
    record { next_is = k.next_is; face_is = f.face_is; outers_is = f.outers_is; count_is = f.count_is; holes_is = f.holes_is }
