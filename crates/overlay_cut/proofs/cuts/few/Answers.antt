-- `overlay_cut::cuts::few` meets its contract. Assumes nothing.
use mathlib.Core.Path.{◌∙◌, sym}
use borrow.Author.Tests.{le-leb, lt-leb}
use Rattle.graph.specs.Small.{small_vertices}
use Rattle.overlay_cut.proofs.cuts.few.Goals as goal

pub returns-then-n-le-SMALL_VERTICES : goal.returns-then-n-le-SMALL_VERTICES
returns-then-n-le-SMALL_VERTICES c = sym (rw (le-leb c.args.n small_vertices c.if-n-le-SMALL_VERTICES.true))

pub returns-else-n-le-SMALL_VERTICES : goal.returns-else-n-le-SMALL_VERTICES
returns-else-n-le-SMALL_VERTICES c = let e = lt-leb c.args.n small_vertices c.if-n-le-SMALL_VERTICES.false in e ∙ sym (rw e)
