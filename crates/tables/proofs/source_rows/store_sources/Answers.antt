-- `tables::source_rows::store_sources` meets its contract. Assumes nothing.
use mathlib.Core.Path.{refl}
use Rattle.paper.specs.Limits.{maps}
use Rattle.tables.specs.Rows.{source_of}
use Rattle.tables.proofs.RowLaws.{laid-wiped}
use Rattle.tables.proofs.source_rows.store_sources.Goals as goal
use Rattle.tables.proofs.source_rows.store_sources.Goals.{After-lay, Start}

pub returns : goal.returns
returns c =
    let a = c.args in
    laid-wiped 0 maps a.edges (source_of a.pieces.now) a.sources.now (λ k. refl) c.requires.0 c.lay.ensures c.wipe_from.ensures
