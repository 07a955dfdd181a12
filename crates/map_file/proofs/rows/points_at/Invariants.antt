-- `map_file::rows::points_at` meets its contract: below the counter the rows are those of the file, and the other cells as they were; the place is behind the last row
-- read. Assumes nothing.
use Rattle.std.specs.Prelude.{◌+◌, ◌*◌}
use mathlib.Core.Path.{◌≡◌}
use Rattle.seq.specs.Loops.Storing.{Laying}
use Rattle.map_file.specs.Places.{point_from}
use Rattle.map_file.proofs.rows.points_at.Given as goal

abbrev pub invariant-loop-v : goal.invariant-loop-v
invariant-loop-v l = Laying 4 (point_from l.file l.at) l.n l.initial.points l.points l.v × (l.place ≡ l.at + 4 * l.v)
