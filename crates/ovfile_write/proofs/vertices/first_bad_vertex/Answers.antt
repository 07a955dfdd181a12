-- `ovfile_write::vertices::first_bad_vertex` meets its contract. Assumes nothing.
use mathlib.Core.Path.{◌∙◌}
use Rattle.tables.specs.Values.{counts_of}
use Rattle.ovfile_write.proofs.JudgeLaws.{by_table}
use Rattle.ovfile_write.proofs.vertices.first_bad_vertex.Goals as goal

pub returns : goal.returns
returns c =
    c.first_bad_vertex_by.ensures ∙ by_table (counts_of c.args.c) c.args.vertices.now c.args.halves.now c.least_starts-starts.ensures c.requires.0
