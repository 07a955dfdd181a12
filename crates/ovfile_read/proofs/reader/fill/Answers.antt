-- `ovfile_read::reader::fill` meets its contract. Assumes nothing.
use Rattle.ovfile_read.proofs.reader.fill.Goals as goal

pub returns : goal.returns
returns c i =
    record {
      vertices = c.fill_vertices.ensures i;
      halves = c.fill_halves.ensures i;
      sources = c.fill_sources.ensures i;
      faces = c.fill_faces.ensures i;
    }
