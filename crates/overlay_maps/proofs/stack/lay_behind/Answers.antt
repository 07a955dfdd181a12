-- `overlay_maps::stack::lay_behind` meets its contract: each part comes back with the map's rows at its start. Assumes nothing.
use Rattle.std.specs.Prelude.{◌*◌}
use mathlib.Core.Path.{ap, ◌∙◌}
use native.Mathlib.Omega.{arith}
use Rattle.paper.specs.Refusal.{the_of_map}
use Rattle.paper.specs.Map.{vertex_count, edges_in, fault}
use Rattle.map_check.specs.Held.{stored}
use Rattle.overlay_maps.specs.Refused.{refused_in, refused_with_lem}
use Rattle.overlay_maps.specs.Layers.{corners_of, origins_of, carriers_of, labels_of}
use Rattle.overlay_maps.proofs.PartLaws.{lent_long, part-stored}
use Rattle.overlay_maps.proofs.StackLaws.{corners_long, origins_long, carriers_long, labels_long}
use Rattle.overlay_maps.proofs.HeldLaws.{stored_is}
use Rattle.overlay_maps.proofs.stack.lay_behind.Goals as goal

pub lay_map-c-requires : goal.lay_map-c-requires
lay_map-c-requires c =
    let a = c.args in
    let room = c.requires in
    let s = a.file.now in
    record {
      corners = lent_long a.corners.now (4 * a.v) (4 * stored vertex_count s) (omega (arith, room.corners));
      origins = lent_long a.origins.now (2 * a.e) (2 * stored edges_in s) (omega (arith, room.origins));
      carriers = lent_long a.carriers.now (4 * a.e) (4 * stored edges_in s) (omega (arith, room.carriers));
      labels = lent_long a.labels.now (2 * a.e) (2 * stored edges_in s) (omega (arith, room.labels));
    }

pub returns : goal.returns
returns c =
    let a = c.args in
    let room = c.requires in
    let s = a.file.now in
    let laid = c.lay_map-c.ensures in (
      c.of_map.ensures ∙ ap (the_of_map a.map) (ap refused_in laid.0 ∙ refused_with_lem _ (fault s)),
      λ q.
          let v = stored_is s q vertex_count in
          let e = stored_is s q edges_in in
          let m = laid.1 q in
          record {
            corners-are = part-stored a.corners.now (4 * a.v) (corners_of s) _ (omega (arith, room.corners, corners_long s, v)) m.corners-are;
            origins-are = part-stored a.origins.now (2 * a.e) (origins_of s) _ (omega (arith, room.origins, origins_long s, e)) m.origins-are;
            carriers-are = part-stored a.carriers.now (4 * a.e) (carriers_of s) _ (omega (arith, room.carriers, carriers_long s, e)) m.carriers-are;
            labels-are = part-stored a.labels.now (2 * a.e) (labels_of s) _ (omega (arith, room.labels, labels_long s, e)) m.labels-are;
          },
    )
