-- `map_check::near::near_above` meets its contract: of the cells below the counter each is listed, or its edge does not clash. Assumes nothing.
use mathlib.Core.Path.{refl, ◌∙◌, ap, subst}
use Prim.Native.Nat.{◌≤◌, ◌*◌}
use native.Mathlib.Omega.{arith}
use lib.ListN.{length-set}
use Rattle.seq.specs.Seq.{ℕ, get_or}
use Rattle.paper.specs.Plane.{Seg, head}
use Rattle.laws_fast.specs.Keys.{number_of}
use Rattle.map_check.specs.Near.{beside_of, carrier_in}
use Rattle.keys.specs.Cells.{base, the_edge_in, cell_at}
use Rattle.map_check.specs.Laws.Picks.{beside-clear, pick_starts, pick_turns, pick_ends}
use Rattle.map_check.specs.Laws.Rising.{above_clear}
use Rattle.map_check.proofs.near.near_above.Goals as goal

-- where the edges start that start where it ends, or after
pub returns-then-end-o : goal.returns-then-end-o
returns-then-end-o c =
    let a = c.args in
    let p = c.requires.fact_1 in
    let cs = a.o.carriers.now in
    let ds = a.o.cells.now in
    let j = c.loop-j.j in
    let ends : number_of (head (carrier_in cs ds a.i)) * base ≤ cell_at ds j =
    subst (λ (x : ℕ). x ≤ cell_at ds j) (c.end_of-end.ensures ∙ ap (λ (s : Seg). number_of (head s) * base) c.carrier_in.ensures.is) c.if-end-o.true in
    pick_ends c.loop-j.invariant.2 c.loop-j.invariant.1 (λ k l h. above_clear cs ds a.o.count (omega (arith, p.0.3)) p.0.2 p.0.0 p.0.1 a.i j k p.1 ends l h)

pub loop-j-preserved : goal.loop-j-preserved
loop-j-preserved c =
    let a = c.args in
    let p = c.requires.fact_1 in
    let B = c.requires.fact_2 in
    let cs = a.o.carriers.now in
    let ds = a.o.cells.now in
    let ws = a.wests.now in
    let es = a.easts.now in
    let i = a.i in
    let j = c.loop-j.j in
    let n = c.loop-j.c in
    let l = c.loop-j-test.true in
    let named = p.0.2.each in
    let beside = beside_of (get_or ws i 0) (get_or es i 0) (get_or ws j 0) (get_or es j 0) in (
      length-set c.loop-j.near n j ∙ c.loop-j.invariant.0,
      omega (arith, l),
      pick_turns c.loop-j.invariant.2 l (omega (arith, c.loop-j.invariant.2.few, c.loop-j.invariant.0, l, c.requires.fact_3)) beside c.over-c.ensures.is
          (beside-clear (carrier_in cs ds i) (carrier_in cs ds j) (p.0.0.near (the_edge_in ds i) (named i p.1).named) (p.0.0.near (the_edge_in ds j) (named j l).named)
          (p.0.1.up (the_edge_in ds i) (named i p.1).named) (p.0.1.up (the_edge_in ds j) (named j l).named)
          (get_or ws i 0) (get_or es i 0) (get_or ws j 0) (get_or es j 0) (B.west_is i p.1) (B.east_is i p.1) (B.west_is j l) (B.east_is j l)),
    )

pub carrier_in-requires : goal.carrier_in-requires
carrier_in-requires c = ((c.requires.fact_1.0.0, c.requires.fact_1.0.2), c.requires.fact_1.1)

pub end_of-end-requires : goal.end_of-end-requires
end_of-end-requires c = c.carrier_in.ensures.near

pub loop-j-init : goal.loop-j-init
loop-j-init c = (refl, omega (arith, c.requires.fact_1.1), pick_starts _)

pub shape_of-near-then-end-o : goal.shape_of-near-then-end-o
shape_of-near-then-end-o c = c.loop-j.invariant.0

pub overflow_cast-near : goal.overflow_cast-near
overflow_cast-near c = omega (arith, c.requires.fact_1.0.3, c.loop-j-test.true)

pub overflow_add-c : goal.overflow_add-c
overflow_add-c c = omega (arith, c.loop-j.invariant.2.few, c.loop-j-test.true, c.requires.fact_1.0.3, c.over-c.ensures.few)

pub shape_of-near : goal.shape_of-near
shape_of-near c = c.loop-j.invariant.0

pub returns : goal.returns
returns c = pick_ends c.loop-j.invariant.2 c.loop-j.invariant.1 (λ k l h. absurd (omega (arith, c.loop-j-test.false, l, h)))
