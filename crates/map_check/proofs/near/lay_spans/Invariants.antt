-- `map_check::near::lay_spans` meets its contract. Assumes nothing.
use Rattle.seq.specs.Loops.Filling.{Filling}
use Rattle.map_check.specs.Near.{west_of, east_of, from_west, carrier_in}
use Rattle.map_check.proofs.near.lay_spans.Given as goal

abbrev pub invariant-loop-i : goal.invariant-loop-i
invariant-loop-i l =
    Filling (λ i. from_west (west_of (carrier_in l.o.carriers.now l.o.cells.now i))) l.o.count l.initial.wests l.wests l.i
    × Filling (λ i. from_west (east_of (carrier_in l.o.carriers.now l.o.cells.now i))) l.o.count l.initial.easts l.easts l.i
