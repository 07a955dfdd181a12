-- `overlay_cut::threads::remember` meets its contract. Assumes nothing.
use mathlib.Core.Path.{refl, sym, ◌∙◌}
use Prim.Native.Nat.{◌*◌}
use lib.ListN.{length-set}
use native.Mathlib.Omega.{arith}
use borrow.Author.Rules.{rules}
use Rattle.overlay_cut.specs.Threads.{Chains}
use Rattle.overlay_cut.specs.Laws.Remembering.{remembered_old, remembered_new}
use Rattle.overlay_cut.proofs.threads.remember.Goals as goal
use Rattle.overlay_cut.proofs.threads.remember.Goals.{Else-is_of, Else-room-t, Start}

pub overflow_add-t : goal.overflow_add-t
overflow_add-t c =
    omega (arith, c.requires.fact_1.few, c.requires.fact_3)

pub returns-then-room-t : goal.returns-then-room-t
returns-then-room-t c = (record { was = λ h. absurd (omega arith); now = λ h. absurd (omega arith) }, omega arith)

-- while there is room the threads are kept
kept : (c : Else-room-t) → Chains c.args.e c.args.last.now c.args.nodes.now c.args.t
kept c =
    c.requires.fact_2 (omega (arith, c.if-room-t.false))

pub offset_bounds-last-k : goal.offset_bounds-last-k
offset_bounds-last-k c =
    search rules

pub bounds-last-k : goal.bounds-last-k
bounds-last-k c =
    omega (arith, c.requires.fact_1.edges, c.requires.fact_4)

pub overflow_cast-x : goal.overflow_cast-x
overflow_cast-x c =
    omega (arith, c.slice_known-3-1.given c.args.k)

pub is_of-requires : goal.is_of-requires
is_of-requires c =
    omega (arith, (kept (goal.at.is_of-requires c).Else-room-t).lasts c.args.k c.requires.fact_4, c.requires.fact_1.nodes, c.if-room-t.false)

pub returns-then-is_of : goal.returns-then-is_of
returns-then-is_of c =
    let a = c.args in
    (record { was = λ h. h; now = λ h. remembered_old (kept (goal.at.returns-then-is_of c).Else-room-t) a.k a.v (sym c.is_of.ensures ∙ c.if-is_of.true) }, omega (arith, c.requires.fact_3))

pub overflow_mul-nodes : goal.overflow_mul-nodes
overflow_mul-nodes c =
    omega (arith, c.requires.fact_1.few, c.requires.fact_3)

pub bounds-nodes-t : goal.bounds-nodes-t
bounds-nodes-t c =
    omega (arith, c.requires.fact_1.nodes, c.if-room-t.false)

pub bounds-nodes-t-2 : goal.bounds-nodes-t-2
bounds-nodes-t-2 c =
    let a = c.args in
    omega (arith, c.requires.fact_1.nodes, c.if-room-t.false, length-set a.nodes.now (2 * a.t) a.v)

pub returns : goal.returns
returns c =
    let a = c.args in (
      record {
        was = λ h. omega (arith, c.if-room-t.false);
        now = λ h. remembered_new (kept (goal.at.returns c).Else-room-t) a.k a.v c.requires.fact_4 (omega (arith, c.requires.fact_1.edges, c.requires.fact_4)) (omega (arith, c.requires.fact_1.nodes, c.if-room-t.false))
            (sym c.is_of.ensures ∙ c.if-is_of.false) _ _ refl refl;
      },
      omega (arith, c.if-room-t.false),
    )
