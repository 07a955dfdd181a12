-- `ovfile_write::writer::put_file` meets its contract. Assumes nothing.
use Rattle.tables.specs.Values.{counts_of, tables_by}
use Rattle.ovfile_write.proofs.PutLaws.{file-put}
use Rattle.ovfile_write.proofs.writer.put_file.Goals as goal

pub returns : goal.returns
returns c =
    let a = c.args in
    file-put (counts_of a.c) (tables_by a.vertices.now a.halves.now a.sources.now a.faces.now) a.buffer.now _ _ _ _ _ _
    c.put_head.ensures c.put_vertices.ensures c.put_edges.ensures c.put_faces.ensures c.wipe_from.ensures c.file_length.ensures c.requires.1
