-- `names::name` meets its contract. Assumes nothing.
use borrow.Author.Tests.{eq-eqb, ne_eqb}
use Rattle.names.specs.Parts.{of_block, of_zone}
use Rattle.names.proofs.name.Goals as goal

pub returns-then-zone-eq0 : goal.returns-then-zone-eq0
returns-then-zone-eq0 c =
    let s = c.args in
    let e = eq-eqb s.zone 0 c.if-zone-eq0.true in
    of_block s.zones s.blocks c.entry.result s.zone s.block e c.entry.ensures

pub returns-else-zone-eq0 : goal.returns-else-zone-eq0
returns-else-zone-eq0 c =
    let s = c.args in
    let e = ne_eqb s.zone 0 c.if-zone-eq0.false in
    of_zone s.zones s.blocks c.entry-else-zone-eq0.result s.zone s.block e c.entry-else-zone-eq0.ensures
