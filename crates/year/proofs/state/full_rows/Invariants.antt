-- `year::state::full_rows` meets its contract. Assumes nothing.
use Rattle.year.specs.Stated.{Fulls}
use Rattle.year.proofs.state.full_rows.Given as goal

abbrev pub invariant-loop-r : goal.invariant-loop-r
invariant-loop-r l = Fulls l.rows l.n l.total l.r
