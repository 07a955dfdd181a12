-- `map_check::near::clear_of` meets its contract: of the edges in the cells that are listed, none below the counter clashes. Assumes nothing.
use mathlib.Core.Path.{◌≡◌, sym, ◌∙◌, subst}
use borrow.Author.Count.{below_more}
use native.Mathlib.Omega.{arith}
use Rattle.exact.specs.Tests.{never}
use Rattle.seq.specs.Seq.{false, get_or}
use Rattle.seq.specs.Tests.{was-true}
use Rattle.paper.specs.Plane.{Seg, clash}
use Rattle.laws_plane.specs.Cone.{UpV}
use Rattle.map_check.specs.Near.{carrier_in}
use Rattle.keys.specs.Cells.{the_edge_in}
use Rattle.map_check.specs.Laws.Picks.{pick-clear}
use Rattle.map_check.proofs.near.clear_of.Goals as goal

pub carrier_in-s-requires : goal.carrier_in-s-requires
carrier_in-s-requires c =
    let p = c.requires.fact_1 in
    ((p.0.0, p.0.2), p.1)

pub overflow_cast-j : goal.overflow_cast-j
overflow_cast-j c =
    omega (arith, c.requires.fact_2.1.named c.loop-q.q c.loop-q-test.true, c.requires.fact_1.0.3)

pub carrier_in-t-requires : goal.carrier_in-t-requires
carrier_in-t-requires c =
    let p = c.requires.fact_1 in
    ((p.0.0, p.0.2), c.requires.fact_2.1.named c.loop-q.q c.loop-q-test.true)

pub clear-requires : goal.clear-requires
clear-requires c =
    let p = c.requires.fact_1 in
    let j = get_or c.args.near.now c.loop-q.q 0 in
    let up = p.0.1.up in
    let named = p.0.2.each in (
      c.carrier_in-s.ensures.near,
      c.carrier_in-t.ensures.near,
      subst (λ (s : Seg). UpV s.up) (sym c.carrier_in-s.ensures.is) (up (the_edge_in c.args.o.cells.now c.args.i) (named c.args.i p.1).named),
      subst (λ (s : Seg). UpV s.up) (sym c.carrier_in-t.ensures.is) (up (the_edge_in c.args.o.cells.now j) (named j (c.requires.fact_2.1.named c.loop-q.q c.loop-q-test.true)).named),
    )

pub loop-q-preserved : goal.loop-q-preserved
loop-q-preserved c =
    let a = c.args in
    let cs = a.o.carriers.now in
    let ds = a.o.cells.now in
    below_more (λ p. clash (carrier_in cs ds a.i) (carrier_in cs ds (get_or a.near.now p 0)) ≡ false) _ c.loop-q.invariant
    ((λ i. clash (sym c.carrier_in-s.ensures.is i) (sym c.carrier_in-t.ensures.is i)) ∙ c.clear.ensures (was-true _ c.if-not-clear.false-raw))

pub returns : goal.returns
returns c =
    λ e k l h. pick-clear c.requires.fact_2.1 (λ q b. c.loop-q.invariant q (omega (arith, c.loop-q-test.false, b))) k l h

pub loop-q-init : goal.loop-q-init
loop-q-init c = λ p l. absurd (omega arith)

pub returns-then-not-clear : goal.returns-then-not-clear
returns-then-not-clear c = λ e. never e
