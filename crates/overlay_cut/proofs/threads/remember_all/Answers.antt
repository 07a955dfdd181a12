-- `overlay_cut::threads::remember_all` meets its contract. Assumes nothing.
use mathlib.Core.Path.{◌≡◌, refl, ◌∙◌, subst}
use Prim.Native.Nat.{ℕ, ◌-◌}
use native.Mathlib.Omega.{arith}
use borrow.Author.Rules.{rules}
use Rattle.overlay_cut.specs.Threads.{named_in, RememberedIf}
use Rattle.overlay_cut.specs.Laws.Remembering.{all_starts, all_turns}
use Rattle.overlay_cut.proofs.threads.remember_all.Goals as goal
use Rattle.overlay_cut.proofs.threads.remember_all.Goals.{After-remember-n, At-loop-i, Start}

pub loop-i-init : goal.loop-i-init
loop-i-init c =
    let a = c.args in
    (refl, refl, omega arith, c.requires.fact_1.1, c.requires.fact_4, all_starts a.e a.room a.v a.cells.now a.from a.last.now a.nodes.now a.t c.requires.fact_3)

pub bounds-cells-i : goal.bounds-cells-i
bounds-cells-i c =
    omega (arith, c.requires.fact_1.0.long, c.loop-i-test.true)

pub overflow_cast-k : goal.overflow_cast-k
overflow_cast-k c =
    omega (arith, c.shared_slice_known-in-loop-i-1.given c.loop-i.i)

pub remember-n-requires : goal.remember-n-requires
remember-n-requires c =
    let l = c.loop-i in
    let S = c.requires.fact_2 in record {
      fact_1 = record { edges = omega (arith, S.edges, l.invariant.0); nodes = omega (arith, S.nodes, l.invariant.1); few = S.few };
      fact_2 = (λ h. (l.invariant.5.now h).chains);
      fact_3 = l.invariant.4;
      fact_4 = c.requires.fact_1.0.named l.i (search rules);
    }

pub loop-i-preserved : goal.loop-i-preserved
loop-i-preserved c =
    let l = c.loop-i in
    let a = c.args in
    let r = c.remember-n in
    (r.auto.last ∙ l.invariant.0, r.auto.nodes ∙ l.invariant.1, omega (arith, l.invariant.2), search rules, r.ensures.1, all_turns a.e a.room a.v a.cells.now a.from l.i l.invariant.2 l.invariant.5 r.ensures.0)

pub returns : goal.returns
returns c =
    let l = c.loop-i in
    let a = c.args in
    let e : l.i ≡ a.to = omega (arith, l.invariant.3, c.loop-i-test.false) in
    (subst (λ (i : ℕ). RememberedIf a.e a.room a.v (named_in a.cells.now a.from (i - a.from)) a.last.now a.nodes.now a.t l.last l.nodes l.n) e l.invariant.5, l.invariant.4)
