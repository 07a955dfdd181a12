-- `ovfile::sound::store` meets its contract. Assumes nothing.
use mathlib.Core.Path.{sym}
use lib.Seq.{set_out}
use Rattle.ovfile.proofs.sound.store.Goals as goal

pub returns-else-i-t : goal.returns-else-i-t
returns-else-i-t c = let a = c.args in sym (set_out a.t.now a.i a.n c.if-i-t.false)
