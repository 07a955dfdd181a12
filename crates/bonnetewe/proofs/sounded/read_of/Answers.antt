-- `bonnetewe::sounded::read_of` meets its contract. Assumes nothing.
use borrow.Author.Rules.{rules}
use mathlib.Core.Path.{sym, ap}
use Rattle.bonnetewe.specs.Sounded.{read_of}
use Rattle.bonnetewe.proofs.sounded.read_of.Goals as goal

pub returns-in-Err : goal.returns-in-Err
returns-in-Err c = sym (ap read_of c.in-Err.is)
