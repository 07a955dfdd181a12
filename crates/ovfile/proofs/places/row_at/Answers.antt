-- `ovfile::places::row_at` meets its contract: rows of few bytes do not go far. Assumes nothing.
use native.Mathlib.Omega.{arith}
use Rattle.ovfile.specs.Known.{rows-near}
use Rattle.ovfile.proofs.places.row_at.Goals as goal

pub overflow_mul-result : goal.overflow_mul-result
overflow_mul-result c = omega (arith, rows-near c.args.size c.args.n c.requires.1, c.requires.2)

pub overflow_add-result : goal.overflow_add-result
overflow_add-result c = omega (arith, rows-near c.args.size c.args.n c.requires.1, c.requires.0, c.requires.2)
