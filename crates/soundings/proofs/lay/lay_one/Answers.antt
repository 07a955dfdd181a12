-- `soundings::lay::lay_one` meets its contract: what is not refused is laid, and then its edges are put in order. Assumes nothing.
use mathlib.Core.Path.{sym, ap, ◌∙◌}
use Rattle.paper.specs.Limits.{map_vertices, map_edges}
use Rattle.paper.specs.Refusal.{the_of_map}
use Rattle.paper.specs.Map.{fault}
use Rattle.laws_refusals.specs.Refusals.{of_none}
use Rattle.map_check.proofs.RoomLaws.{any_room, cleared_room}
use Rattle.soundings.specs.Laid.{refused_in, refused_with_lem, is_laid}
use Rattle.soundings.proofs.lay.lay_one.Goals as goal

pub lay_map-c-requires : goal.lay_map-c-requires
lay_map-c-requires c = any_room _ (cleared_room map_vertices map_edges)

pub put_in_order-requires : goal.put_in_order-requires
put_in_order-requires c =
    let a = c.args in
    let is = ap (the_of_map a.map) (ap refused_in c.lay_map-c.ensures.0 ∙ refused_with_lem _ (fault a.file.now)) in
    let p = of_none a.map (fault a.file.now) (sym (c.in_ok-of_map.ensures ∙ is)) in
    is_laid a.file.now p _ _ _ _ _ _ _ _ (cleared_room map_vertices map_edges) (c.lay_map-c.ensures.1 p)
