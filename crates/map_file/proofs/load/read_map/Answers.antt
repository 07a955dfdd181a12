-- `map_file::load::read_map` meets its contract: what stands behind the header is the map's, at the counts that the header has. Assumes nothing.
use Rattle.map_file.proofs.PlacesLaws.{points-read, origins-read, labels-read}
use Rattle.map_file.proofs.load.read_map.Goals as goal
use Rattle.map_file.proofs.load.read_map.Goals.{After-read_body, Start}

pub returns : goal.returns
returns c =
    let a = c.args in
    let s = a.file.now in
    let is = c.requires.fact_1 in
    let read = c.read_body.ensures in
    (points-read s _ is a.points.now _ read.0, origins-read s _ is a.origins.now _ read.1, labels-read s _ is a.labels.now _ read.2)
