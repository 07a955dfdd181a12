-- `overlay_maps::stack::lay_maps` meets its contract. Assumes nothing.
use Rattle.overlay_maps.proofs.stack.lay_maps.Goals as goal

pub returns : goal.returns
returns c =
    let starts = c.lay_starts.ensures in
    let tables = c.lay_tables.ensures in
    (tables.0, λ q. record { vertices-are = starts.0; edges_are = starts.1; stacked = tables.1 q })

pub lay_starts-requires : goal.lay_starts-requires
lay_starts-requires c = let room = c.requires in (room.vertices, room.edges)

pub lay_tables-requires : goal.lay_tables-requires
lay_tables-requires c = c.requires.tables

pub shape_of-vertices : goal.shape_of-vertices
shape_of-vertices c = c.lay_starts.auto.vertices

pub shape_of-edges : goal.shape_of-edges
shape_of-edges c = c.lay_starts.auto.edges

pub shape_of-corners : goal.shape_of-corners
shape_of-corners c = c.lay_tables.auto.corners

pub shape_of-origins : goal.shape_of-origins
shape_of-origins c = c.lay_tables.auto.origins

pub shape_of-carriers : goal.shape_of-carriers
shape_of-carriers c = c.lay_tables.auto.carriers

pub shape_of-labels : goal.shape_of-labels
shape_of-labels c = c.lay_tables.auto.labels
