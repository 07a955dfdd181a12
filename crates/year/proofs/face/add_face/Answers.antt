-- `year::face::add_face` meets its contract. Assumes nothing.
use native.Mathlib.Omega.{arith}
use Prim.Native.Nat.{◌<◌}
use Rattle.year.specs.Kept.{most, kept_low}
use Rattle.year.specs.Risen.{kept-ordered}
use Rattle.year.specs.FaceAdded.{kept_over, kept_there, kept_within, kept-counts, kept_full, kept-opens}
use borrow.Author.Rules.{rules}
use Rattle.year.proofs.face.add_face.Goals as goal

pub returns-then-n-gt-YEAR_PAIRS : goal.returns-then-n-gt-YEAR_PAIRS
returns-then-n-gt-YEAR_PAIRS c = let a = c.args in kept_over a.rows.now a.n a.file (a.zone, a.block) (search rules)

pub place-r-requires : goal.place-r-requires
place-r-requires c =
    let a = c.args in
    record { fact_1 = omega (arith, c.requires.fact_1); fact_2 = λ e. kept-ordered a.rows.now a.n a.n (omega arith) (c.requires.fact_3 e) }

pub count-requires : goal.count-requires
count-requires c =
    let a = c.args in
    let r = c.place-r.result in
    let h : r < a.n = kept_there a.rows.now a.n r a.zone a.block a.file (omega arith) c.place-r.ensures _ c.stands.ensures c.if-stands.true in
    record { fact_1 = omega (arith, c.requires.fact_1); fact_2 = kept_low most a.rows.now a.n r c.requires.fact_2 (omega arith) h }

pub returns-then-stands : goal.returns-then-stands
returns-then-stands c =
    let a = c.args in
    kept-counts a.rows.now a.n c.place-r.result a.zone a.block a.file (omega arith) c.place-r.ensures _ c.stands.ensures _ c.if-stands.true c.requires.fact_1 c.count.ensures

pub returns-then-n-ge-YEAR_PAIRS : goal.returns-then-n-ge-YEAR_PAIRS
returns-then-n-ge-YEAR_PAIRS c =
    let a = c.args in
    kept_full a.rows.now a.n c.place-r.result a.zone a.block a.file (omega arith) c.place-r.ensures _ c.stands.ensures c.if-stands.false (omega arith)

pub open_row-requires : goal.open_row-requires
open_row-requires c =
    let a = c.args in
    record {
      fact_1 = omega (arith, c.requires.fact_1);
      fact_2 = kept_within a.rows.now a.n c.place-r.result a.zone a.block a.file (omega arith) c.place-r.ensures _ c.stands.ensures;
    }

pub returns : goal.returns
returns c =
    let a = c.args in
    kept-opens a.rows.now a.n c.place-r.result a.zone a.block a.file (omega arith) c.place-r.ensures _ c.stands.ensures _ c.if-stands.false (omega arith) c.requires.fact_1 c.open_row.ensures
