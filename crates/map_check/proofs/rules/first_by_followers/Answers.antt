-- `map_check::rules::first_by_followers` meets its contract: either tables have room. Assumes nothing.
use native.Mathlib.Omega.{arith}
use Rattle.map_check.proofs.rules.first_by_followers.Goals as goal

pub first_by_followers_in-requires : goal.first_by_followers_in-requires
first_by_followers_in-requires c =
    let w = c.is_small.ensures c.if-is_small.true in
    let p = c.requires in
    record { fact_1 = c.requires.fact_1; fact_2 = p.fact_3; fact_3 = p.fact_4; fact_4 = p.fact_5; fact_5 = (omega (arith, w.1), omega (arith, w.0), omega (arith, w.1)) }

pub first_by_followers_in-requires-else-is_small : goal.first_by_followers_in-requires-else-is_small
first_by_followers_in-requires-else-is_small c =
    let p = c.requires in
    record { fact_1 = c.requires.fact_1; fact_2 = p.fact_3; fact_3 = p.fact_4; fact_4 = p.fact_5; fact_5 = (omega (arith, p.fact_3), omega (arith, p.fact_2), omega (arith, p.fact_3)) }

pub returns-then-is_small : goal.returns-then-is_small
returns-then-is_small c =
    c.first_by_followers_in.ensures

pub returns-else-is_small : goal.returns-else-is_small
returns-else-is_small c =
    c.first_by_followers_in-else-is_small.ensures
