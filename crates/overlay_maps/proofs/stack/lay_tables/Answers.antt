-- `overlay_maps::stack::lay_tables` meets its contract: the third map follows where the first two give nothing, behind them. Assumes nothing.
use mathlib.Core.Path.{sym, ap, ◌∙◌}
use mathlib.Core.List.{[], ◌∷◌}
use native.Mathlib.Omega.{arith}
use Rattle.paper.specs.Map.{vertex_count, edges_in}
use Rattle.laws_refusals.specs.Refusals.{no_refusal}
use Rattle.map_file.specs.Verdict.{verdict}
use Rattle.map_check.proofs.RoomLaws.{room_within}
use Rattle.overlay_maps.proofs.StackLaws.{stack_more, before_refused, before_passes, all_pass}
use Rattle.overlay_maps.proofs.HeldLaws.{stored_is}
use Rattle.overlay_maps.proofs.stack.lay_tables.Goals as goal

pub lay_pair-c-requires : goal.lay_pair-c-requires
lay_pair-c-requires c = room_within c.requires (omega arith) (omega arith)

pub lay_behind-requires : goal.lay_behind-requires
lay_behind-requires c =
    let room = c.requires in
    let pair = c.lay_pair-c in
    let files = c.args.zones.now ∷ c.args.blocks.now ∷ [] in
    let none = sym pair.ensures.0 ∙ ap verdict c.in-Ok.is in
    let v = c.vertex_count.ensures in
    let w = c.vertex_count-in-Ok.ensures in
    let e = c.edge_count.ensures in
    let f = c.edge_count-in-Ok.ensures in
    let a = c.args.zones.now in
    let b = c.args.blocks.now in
    let pa = all_pass files none 0 (omega arith) in
    let pb = all_pass files none 1 (omega arith) in
    let va = stored_is a pa vertex_count in
    let ea = stored_is a pa edges_in in
    let vb = stored_is b pb vertex_count in
    let eb = stored_is b pb edges_in in
    let kept = pair.auto in
    record {
      corners = omega (arith, room.corners, v, w, va, vb, kept.corners);
      origins = omega (arith, room.origins, e, f, ea, eb, kept.origins);
      carriers = omega (arith, room.carriers, e, f, ea, eb, kept.carriers);
      labels = omega (arith, room.labels, e, f, ea, eb, kept.labels);
    }

pub returns-in-Err : goal.returns-in-Err
returns-in-Err c =
    let a = c.args in
    let told = ap verdict c.in-Err.is in
    let refused = before_refused (a.zones.now ∷ a.blocks.now ∷ []) a.bed.now (sym c.lay_pair-c.ensures.0 ∙ told) in
    (told ∙ sym refused, λ q. absurd (no_refusal (sym refused ∙ q)))

pub returns-in-Ok : goal.returns-in-Ok
returns-in-Ok c =
    let room = c.requires in
    let files = c.args.zones.now ∷ c.args.blocks.now ∷ [] in
    let s = c.args.bed.now in
    let pair = c.lay_pair-c.ensures in
    let last = c.lay_behind.ensures in
    let none = sym pair.0 ∙ ap verdict c.in-Ok.is in
    let v = c.vertex_count.ensures in
    let w = c.vertex_count-in-Ok.ensures in
    let e = c.edge_count.ensures in
    let f = c.edge_count-in-Ok.ensures in
    let a = c.args.zones.now in
    let b = c.args.blocks.now in
    let pa = all_pass files none 0 (omega arith) in
    let pb = all_pass files none 1 (omega arith) in
    let va = stored_is a pa vertex_count in
    let ea = stored_is a pa edges_in in
    let vb = stored_is b pb vertex_count in
    let eb = stored_is b pb edges_in in (
      last.0 ∙ sym (before_passes files s none),
      λ q.
          let pass = all_pass (c.args.zones.now ∷ c.args.blocks.now ∷ s ∷ []) q 2 (omega arith) in
          let vs = stored_is s pass vertex_count in
          let es = stored_is s pass edges_in in
          stack_more files s _ _ (omega (arith, v, w)) (omega (arith, e, f)) (omega (arith, room.corners, v, w, va, vb, vs)) (omega (arith, room.origins, e, f, ea, eb, es)) (omega (arith, room.carriers, e, f, ea, eb, es)) (omega (arith, room.labels, e, f, ea, eb, es))
          (pair.1 none) (last.1 pass),
    )
