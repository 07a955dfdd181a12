-- `soundings_count::count::put_cell` meets its contract: the place of the pair, and there a count that grows or a row put in. Assumes nothing.
use mathlib.Core.Path.{refl}
use Prim.Native.Nat.{◌<◌}
use Rattle.soundings_count.specs.PutCell.{place_within, stands-there, count_most, count-grows, none_grows, row-grows}
use Rattle.soundings_count.specs.InOrder.{ordered-rows}
use native.Mathlib.Omega.{arith}
use borrow.Author.Rules.{rules}
use Rattle.soundings_count.proofs.count.put_cell.Goals as goal
use Rattle.soundings_count.proofs.count.put_cell.Goals.{Start, Then-stands}

pub place-r-requires : goal.place-r-requires
place-r-requires c =
    let a = c.args in
    record { fact_1 = omega arith; fact_2 = ordered-rows a.labels.now a.counts.now a.n c.requires.fact_5 }

-- where the pair stands its row is one of the table
there : (c : Then-stands) → c.place-r.result < c.args.n
there c = let a = c.args in stands-there a.labels.now a.counts.now a.n c.place-r.result a.a a.b c.place-r.ensures _ c.stands.ensures c.if-stands.true

pub offset_bounds-counts-r : goal.offset_bounds-counts-r
offset_bounds-counts-r c = omega (arith, there (goal.at.offset_bounds-counts-r c).Then-stands)

pub bounds-counts-r : goal.bounds-counts-r
bounds-counts-r c = omega (arith, there (goal.at.bounds-counts-r c).Then-stands)

pub overflow_add-counts : goal.overflow_add-counts
overflow_add-counts c = let a = c.args in omega (arith, count_most a.labels.now a.counts.now a.n c.place-r.result a.a a.b c.place-r.ensures (there (goal.at.overflow_add-counts c).Then-stands))

pub bounds-counts-r-then-stands : goal.bounds-counts-r-then-stands
bounds-counts-r-then-stands c = omega (arith, there (goal.at.bounds-counts-r-then-stands c).Then-stands)

pub returns-then-stands : goal.returns-then-stands
returns-then-stands c = let a = c.args in count-grows a.labels.now a.counts.now a.n c.place-r.result a.a a.b c.place-r.ensures _ c.stands.ensures c.if-stands.true (omega (arith, there (goal.at.returns-then-stands c).Then-stands)) _ refl a.room

pub returns-then-room-n : goal.returns-then-room-n
returns-then-room-n c = let a = c.args in none_grows a.labels.now a.counts.now a.n c.place-r.result a.a a.b c.place-r.ensures _ c.stands.ensures c.if-stands.false a.room _ _ (search rules)

pub open_labels-requires : goal.open_labels-requires
open_labels-requires c = let a = c.args in omega (arith, place_within a.labels.now a.counts.now a.n c.place-r.result a.a a.b c.place-r.ensures)

pub open_count-requires : goal.open_count-requires
open_count-requires c = let a = c.args in omega (arith, place_within a.labels.now a.counts.now a.n c.place-r.result a.a a.b c.place-r.ensures)

pub returns : goal.returns
returns c = let a = c.args in row-grows a.labels.now a.counts.now a.n c.place-r.result a.a a.b c.place-r.ensures _ c.stands.ensures c.if-stands.false (omega arith) (omega arith) a.room _ _ c.open_labels.ensures c.open_count.ensures
