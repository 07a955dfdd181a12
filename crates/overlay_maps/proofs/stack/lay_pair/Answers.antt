-- `overlay_maps::stack::lay_pair` meets its contract: the second map follows where the first gives nothing, behind it. Assumes nothing.
use mathlib.Core.Path.{sym, ap, ◌∙◌}
use mathlib.Core.List.{[], ◌∷◌}
use native.Mathlib.Omega.{arith}
use Rattle.paper.specs.Map.{vertex_count, edges_in, fault}
use Rattle.laws_refusals.specs.Refusals.{no_refusal, first_one, of_none}
use Rattle.map_file.specs.Verdict.{verdict}
use Rattle.map_check.proofs.RoomLaws.{room_within}
use Rattle.overlay_maps.proofs.StackLaws.{stack_none, stack_more, before_refused, before_passes, all_pass}
use Rattle.overlay_maps.proofs.HeldLaws.{stored_is}
use Rattle.overlay_maps.proofs.stack.lay_pair.Goals as goal

pub lay_behind-c-requires : goal.lay_behind-c-requires
lay_behind-c-requires c =
    room_within c.requires (omega arith) (omega arith)

pub lay_behind-requires : goal.lay_behind-requires
lay_behind-requires c =
    let room = c.requires in
    let first = c.lay_behind-c in
    let a = c.args.zones.now in
    let v = c.vertex_count-v.ensures in
    let e = c.edge_count-e.ensures in
    let pass = of_none 1 (fault a) (sym first.ensures.0 ∙ ap verdict c.in-Ok.is) in
    let sv = stored_is a pass vertex_count in
    let se = stored_is a pass edges_in in
    let kept = first.auto in
    record {
      corners = omega (arith, room.corners, v, sv, kept.corners);
      origins = omega (arith, room.origins, e, se, kept.origins);
      carriers = omega (arith, room.carriers, e, se, kept.carriers);
      labels = omega (arith, room.labels, e, se, kept.labels);
    }

pub returns-in-Err : goal.returns-in-Err
returns-in-Err c =
    let a = c.args in
    let told = ap verdict c.in-Err.is in
    let refused = before_refused (a.zones.now ∷ []) a.blocks.now (first_one _ ∙ sym c.lay_behind-c.ensures.0 ∙ told) in
    (told ∙ sym refused, λ q. absurd (no_refusal (sym refused ∙ q)))

pub returns-in-Ok : goal.returns-in-Ok
returns-in-Ok c =
    let room = c.requires in
    let a = c.args.zones.now in
    let b = c.args.blocks.now in
    let first = c.lay_behind-c.ensures in
    let second = c.lay_behind.ensures in
    let none = sym first.0 ∙ ap verdict c.in-Ok.is in
    let v = c.vertex_count-v.ensures in
    let e = c.edge_count-e.ensures in (
      second.0 ∙ sym (before_passes (a ∷ []) b (first_one _ ∙ none)),
      λ q.
          let pa = all_pass (a ∷ b ∷ []) q 0 (omega arith) in
          let pb = all_pass (a ∷ b ∷ []) q 1 (omega arith) in
          let va = stored_is a pa vertex_count in
          let ea = stored_is a pa edges_in in
          let vb = stored_is b pb vertex_count in
          let eb = stored_is b pb edges_in in
          let one =
          stack_more [] a 0 0 (omega arith) (omega arith) (omega (arith, room.corners, va)) (omega (arith, room.origins, ea)) (omega (arith, room.carriers, ea)) (omega (arith, room.labels, ea))
          (stack_none _ _ _ _) (first.1 pa) in
          stack_more (a ∷ []) b _ _ (omega (arith, v)) (omega (arith, e)) (omega (arith, room.corners, v, va, vb)) (omega (arith, room.origins, e, ea, eb)) (omega (arith, room.carriers, e, ea, eb)) (omega (arith, room.labels, e, ea, eb))
          one (second.1 pb),
    )
