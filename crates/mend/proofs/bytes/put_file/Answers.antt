-- `mend::bytes::put_file` meets its contract. Assumes nothing.
use native.Mathlib.Omega.{arith}
use Rattle.mend.proofs.ByteLaws.{file-put, corners_room, edges_room}
use Rattle.mend.proofs.bytes.put_file.Goals as goal

pub put_corners-requires : goal.put_corners-requires
put_corners-requires c =
    let a = c.args in
    (c.requires.0, c.requires.1.vertices_long, corners_room a.t.points.now a.t.labels.now a.t.ends.now a.t.numbers.now a.t.corners.now a.t.pieces.now a.t.n a.t.e a.t.vertices a.t.edges c.requires.1 _ (omega (arith, c.requires.2, c.put_head.auto)))

pub put_edges-requires : goal.put_edges-requires
put_edges-requires c =
    let a = c.args in
    (c.requires.1.edges_long, edges_room a.t.points.now a.t.labels.now a.t.ends.now a.t.numbers.now a.t.corners.now a.t.pieces.now a.t.n a.t.e a.t.vertices a.t.edges c.requires.1 _ _ c.vertex_place.ensures (omega (arith, c.requires.2, c.put_head.auto, c.put_corners.auto)))

pub returns : goal.returns
returns c =
    let a = c.args in
    file-put a.t.points.now a.t.labels.now a.t.ends.now a.t.numbers.now a.t.corners.now a.t.pieces.now a.t.n a.t.e a.t.vertices a.t.edges c.requires.1 a.out.now c.requires.2 _ _ _ _ _ _
    c.put_head.ensures c.put_corners.ensures c.put_edges.ensures c.wipe_from.ensures c.vertex_place.ensures c.map_length.ensures
