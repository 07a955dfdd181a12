-- `ovfile::sound::twin` meets its contract. Assumes nothing.
use Rattle.std.specs.Prelude.{◌%◌}
use borrow.Author.Tests.{eq-eqb, ne_eqb}
use Rattle.ovfile.proofs.sound.twin.Goals as goal

pub returns-then-h-eq0 : goal.returns-then-h-eq0
returns-then-h-eq0 c = rw (eq-eqb (c.args.h % 2) 0 c.if-h-eq0.true)

pub returns-else-h-eq0 : goal.returns-else-h-eq0
returns-else-h-eq0 c = rw (ne_eqb (c.args.h % 2) 0 c.if-h-eq0.false)
