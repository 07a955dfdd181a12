-- `map_check::rules::edges_clash` meets its contract: the other edge is the least after the place. Assumes nothing.
use native.Mathlib.Omega.{arith}
use Rattle.seq.proofs.Least.{least-le}
use Rattle.map_check.specs.Net.{clashing_at}
use Rattle.map_check.specs.Later.{later_at, gives-clash, gives_none}
use Rattle.map_check.proofs.rules.edges_clash.Goals as goal

pub first_clashing-k-requires : goal.first_clashing-k-requires
first_clashing-k-requires c =
    (c.requires.0, c.requires.2, c.requires.1)

pub first_clash-j-requires : goal.first_clash-j-requires
first_clash-j-requires c =
    (c.requires.0, c.if-k-e.true, c.requires.2)

pub overflow_cast-k : goal.overflow_cast-k
overflow_cast-k c =
    omega (arith, c.requires.1, c.first_clashing-k.ensures, least-le (clashing_at c.args.carriers.now c.args.e) c.args.e)

pub overflow_cast-j : goal.overflow_cast-j
overflow_cast-j c =
    omega (arith, c.requires.1, c.first_clash-j.ensures, least-le (later_at c.args.carriers.now c.first_clashing-k.result) c.args.e)

pub returns-then-k-e : goal.returns-then-k-e
returns-then-k-e c =
    gives-clash c.args.carriers.now c.args.e c.beside.ensures c.first_clashing-k.ensures c.first_clash-j.ensures (omega arith)

pub returns-else-k-e : goal.returns-else-k-e
returns-else-k-e c =
    gives_none c.args.carriers.now c.args.e c.first_clashing-k.ensures c.if-k-e.false
