-- `mend::outcome::finish` meets its contract: room is judged first, and then both are stored, or both are wiped. Assumes nothing.
use Rattle.std.specs.Prelude.{◌+◌, ◌-◌}
use mathlib.Core.Path.{refl, sym, ap, ◌∙◌}
use native.Mathlib.Omega.{arith}
use Rattle.seq.specs.Count.{count-le}
use Rattle.seq.specs.Seq.{length}
use Rattle.paper.specs.Map.{vertex_count, edges_in}
use Rattle.paper.specs.Refusal.{done}
use Rattle.map_file.specs.Verdict.{verdict}
use Rattle.mend.specs.Steps.{step_is}
use Rattle.mend.proofs.OutcomeLaws.{room_both, counted-here, corners-here, list_room, mend-refused, mend-done}
use Rattle.mend.proofs.TableLaws.{can-mend}
use Rattle.mend.proofs.outcome.finish.Goals as goal

pub overflow_cast-length : goal.overflow_cast-length
overflow_cast-length c =
    let a = c.args in
    let f = (can-mend a.file.now c.requires.2.good).form in
    omega (arith, c.map_length-bytes.ensures, c.requires.2.counted.vertices, c.requires.2.counted.edges, count-le (step_is a.t.corners.now 0) (vertex_count a.file.now), count-le (step_is a.t.pieces.now 0) (edges_in a.file.now), f.few_vertices, f.few_edges)

pub overflow_sub-entries : goal.overflow_sub-entries
overflow_sub-entries c =
    let a = c.args in
    omega (arith, c.requires.0, c.requires.2.counted.vertices, count-le (step_is a.t.corners.now 0) (vertex_count a.file.now))

pub overflow_sub-entries-2 : goal.overflow_sub-entries-2
overflow_sub-entries-2 c =
    let a = c.args in
    omega (arith, c.requires.1, c.requires.2.counted.edges, count-le (step_is a.t.pieces.now 0) (edges_in a.file.now))

pub overflow_add-entries : goal.overflow_add-entries
overflow_add-entries c =
    let a = c.args in
    let f = (can-mend a.file.now c.requires.2.good).form in
    omega (arith, c.requires.0, c.requires.1, f.few_vertices, f.few_edges)

pub put_file-requires : goal.put_file-requires
put_file-requires c =
    let a = c.args in
    let r = room_both (length a.out.now) (length a.list.now) _ _ (sym c.judge.ensures ∙ ap verdict c.in-Ok.is) in
    (corners-here a.file.now a.t.points.now a.t.labels.now a.t.ends.now a.t.numbers.now a.t.corners.now a.t.pieces.now a.t.vertices a.t.edges c.requires.2 a.t.n a.t.e c.requires.0 c.requires.1 (length a.out.now) (length a.list.now) _ _ c.map_length-bytes.ensures refl, counted-here a.file.now a.t.points.now a.t.labels.now a.t.ends.now a.t.numbers.now a.t.corners.now a.t.pieces.now a.t.vertices a.t.edges c.requires.2 a.t.n a.t.e c.requires.0 c.requires.1 (length a.out.now) (length a.list.now) _ _ c.map_length-bytes.ensures refl, omega (arith, r.0, c.map_length-bytes.ensures))

pub put_list-requires : goal.put_list-requires
put_list-requires c =
    let a = c.args in
    let r = room_both (length a.out.now) (length a.list.now) _ _ (sym c.judge.ensures ∙ ap verdict c.in-Ok.is) in
    (omega (arith, c.requires.0, c.requires.2.counted.vertices_long), omega (arith, c.requires.1, c.requires.2.counted.edges_long), list_room a.file.now a.t.points.now a.t.labels.now a.t.ends.now a.t.numbers.now a.t.corners.now a.t.pieces.now a.t.vertices a.t.edges c.requires.2 a.t.n a.t.e c.requires.0 c.requires.1 (length a.out.now) (length a.list.now) _ _ c.map_length-bytes.ensures refl r.1)

pub returns-in-Err : goal.returns-in-Err
returns-in-Err c =
    let a = c.args in
    c.refuse.ensures ∙ mend-refused a.file.now a.t.points.now a.t.labels.now a.t.ends.now a.t.numbers.now a.t.corners.now a.t.pieces.now a.t.vertices a.t.edges c.requires.2 a.t.n a.t.e c.requires.0 c.requires.1 (length a.out.now) (length a.list.now) _ _ c.map_length-bytes.ensures refl _ (sym c.judge.ensures ∙ ap verdict c.in-Err.is)

pub returns-in-Ok : goal.returns-in-Ok
returns-in-Ok c =
    let a = c.args in
    (λ i. record { answer = done (c.map_length-bytes.result, (a.t.n - a.t.vertices) + (a.t.e - a.t.edges)); file = c.put_file.ensures i; list = c.put_list.ensures i })
    ∙ mend-done a.file.now a.t.points.now a.t.labels.now a.t.ends.now a.t.numbers.now a.t.corners.now a.t.pieces.now a.t.vertices a.t.edges c.requires.2 a.t.n a.t.e c.requires.0 c.requires.1 (length a.out.now) (length a.list.now) _ _ c.map_length-bytes.ensures refl (sym c.judge.ensures ∙ ap verdict c.in-Ok.is)
