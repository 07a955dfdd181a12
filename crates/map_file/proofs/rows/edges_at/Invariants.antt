-- `map_file::rows::edges_at` meets its contract: below twice the counter the cells of both tables are those of the file, and the others as they were; the place is behind
-- the last edge read. Assumes nothing.
use Rattle.std.specs.Prelude.{◌+◌, ◌*◌}
use mathlib.Core.Path.{◌≡◌}
use Rattle.seq.specs.Loops.Filling.{Filling}
use Rattle.map_file.specs.Places.{origin_from, label_from}
use Rattle.map_file.proofs.rows.edges_at.Given as goal

abbrev pub invariant-loop-k : goal.invariant-loop-k
invariant-loop-k l = Filling (origin_from l.file l.at) (2 * l.n) l.initial.origins l.origins (2 * l.k) × Filling (label_from l.file l.at) (2 * l.n) l.initial.labels l.labels (2 * l.k) × (l.place ≡ l.at + 8 * l.k)
