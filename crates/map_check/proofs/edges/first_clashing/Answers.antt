-- `map_check::edges::first_clashing` meets its contract. Assumes nothing.
use mathlib.Core.Path.{sym}
use Rattle.map_check.proofs.edges.first_clashing.Goals as goal

pub returns-then-all_clear : goal.returns-then-all_clear
returns-then-all_clear c = sym (c.all_clear.ensures c.if-all_clear.true)

pub returns-else-all_clear : goal.returns-else-all_clear
returns-else-all_clear c = c.search_clashing.ensures
