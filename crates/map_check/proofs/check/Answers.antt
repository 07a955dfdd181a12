-- `map_check::check` meets its contract: its tables have room for any map. Assumes nothing.
use Rattle.paper.specs.Limits.{map_vertices, map_edges}
use Rattle.map_check.proofs.RoomLaws.{any_room, cleared_room}
use Rattle.map_check.proofs.check.Goals as goal

pub lay_map-requires : goal.lay_map-requires
lay_map-requires c = any_room _ (cleared_room map_vertices map_edges)
