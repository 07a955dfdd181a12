-- `map_check::near::each_clear` meets its contract. Assumes nothing.
use native.Mathlib.Omega.{arith}
use Rattle.seq.specs.Filled.{filled-holds}
use Rattle.map_check.specs.Near.{west_of, east_of, from_west, carrier_in}
use Rattle.map_check.proofs.near.each_clear.Goals as goal

pub all_above-requires : goal.all_above-requires
all_above-requires c =
    let p = c.requires in
    let a = c.args in
    let W = filled-holds (λ i. from_west (west_of (carrier_in a.o.carriers.now a.o.cells.now i))) _ _ a.o.count (omega (arith, p.3)) c.lay_spans.ensures.wests in
    let E = filled-holds (λ i. from_west (east_of (carrier_in a.o.carriers.now a.o.cells.now i))) _ _ a.o.count (omega (arith, p.3)) c.lay_spans.ensures.easts in
    record { fact_1 = p; fact_2 = record { long_wests = W.long; long_easts = E.long; west_is = W.at; east_is = E.at }; fact_3 = omega (arith, p.3) }
