-- `year::faces::add_faces` meets its contract. Assumes nothing.
use Rattle.year.specs.Faced.{add_starts, add_few, add-ordered, add_turns, add_ends}
use borrow.Author.Rules.{rules}
use native.Mathlib.Omega.{arith}
use Rattle.year.proofs.faces.add_faces.Goals as goal

pub loop-f-init : goal.loop-f-init
loop-f-init c = add_starts _ _ _ _ _ _

pub add_face-total-requires : goal.add_face-total-requires
add_face-total-requires c =
    let l = c.loop-f in
    record {
      fact_1 = omega (arith, c.requires.fact_2, l.invariant.long);
      fact_2 = add_few l.invariant c.requires.fact_1 c.requires.fact_3;
      fact_3 = λ e. add-ordered l.invariant (c.requires.fact_4 e);
    }

pub loop-f-preserved : goal.loop-f-preserved
loop-f-preserved c =
    add_turns c.loop-f.invariant c.add_face-total.new.rows c.add_face-total.result _ _ (search rules) c.add_face-total.auto.rows c.label_of-zone.ensures c.label_of-block.ensures c.add_face-total.ensures

pub returns : goal.returns
returns c = add_ends c.loop-f.invariant (search rules)
