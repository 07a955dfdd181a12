-- `year::next::add_file` meets its contract. Assumes nothing.
use mathlib.Core.Path.{sym, ◌∙◌}
use Rattle.year.specs.Stated.{has_roomy}
use Rattle.year.proofs.next.add_file.Goals as goal

pub add_read-requires-clause-fact_1 : goal.add_read-requires-clause-fact_1
add_read-requires-clause-fact_1 c = has_roomy c.args.rows.now c.args.sums c.requires (sym c.has_room.ensures ∙ c.if-not-has_room.false)
