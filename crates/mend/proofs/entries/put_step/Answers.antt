-- `mend::entries::put_step` meets its contract: what is stored are the entries of those below the counter at which the step is taken. Assumes nothing.
use Rattle.std.specs.Prelude.{◌∷◌, ◌+◌, ◌-◌}
use mathlib.Core.Path.{◌≡◌, refl, sym, ap, ◌∙◌}
use Prim.Native.Nat.{◌≤◌, ◌<◌}
use native.Mathlib.Numerals.{add-one}
use native.Mathlib.Omega.{arith}
use borrow.Author.Rules.{rules}
use lib.ListN.{set, length-set}
use Rattle.seq.specs.Count.{count_below}
use Rattle.seq.specs.Seq.{Bool, true, List, [], ℕ, length, sets}
use Rattle.mend.specs.Steps.{step_is}
use Rattle.mend.proofs.AppendLaws.{Appending, append_starts, append_takes, append_leaves, append_ends, append_place}
use Rattle.mend.proofs.entries.put_step.Goals as goal
use Rattle.mend.proofs.entries.put_step.Goals.{Then-is_step, else-is_step, then-is_step}

-- the two numbers of an entry
at_next : (d : List ℕ) (a x y : ℕ) → set (set d a x) (a + 1) y ≡ sets d a (x ∷ y ∷ [])
at_next d a x y = ap (λ (k : ℕ). set (set d a x) k y) (add-one a)

-- the list has room for one more entry
fits : {p : ℕ → Bool} {f : ℕ → List ℕ} {at n : ℕ} {d t : List ℕ} {a i : ℕ} → Appending 2 p f at n d t a i → i < n → p i ≡ true → a + 2 ≤ length t
fits {p = p} {n = n} {i = i} r l e = omega (arith, r.place, r.room, r.kept, count_below p n i l e)

entry-fits : (c : Then-is_step) → c.loop-i.at + 2 ≤ length c.loop-i.list
entry-fits c = fits c.loop-i.invariant c.loop-i-test.true (sym c.is_step.ensures ∙ c.if-is_step.true)

pub offset_bounds-list-at : goal.offset_bounds-list-at
offset_bounds-list-at c = omega (arith, entry-fits c)

pub bounds-list-at : goal.bounds-list-at
bounds-list-at c = omega (arith, entry-fits c)

pub overflow_add-list : goal.overflow_add-list
overflow_add-list c = omega (arith, entry-fits c)

pub offset_bounds-list-at-then-is_step : goal.offset_bounds-list-at-then-is_step
offset_bounds-list-at-then-is_step c =
    let l = c.loop-i in
    omega (arith, entry-fits c, length-set l.list l.at c.args.step)

pub bounds-list-at-then-is_step : goal.bounds-list-at-then-is_step
bounds-list-at-then-is_step c =
    let l = c.loop-i in
    omega (arith, entry-fits c, length-set l.list l.at c.args.step)

pub overflow_add-at : goal.overflow_add-at
overflow_add-at c = omega (arith, entry-fits c)

pub loop-i-preserved : goal.loop-i-preserved
loop-i-preserved c =
    let l = c.loop-i in
    let b = c.loop-i-test.true in
    let q = sym c.is_step.ensures in
    elim c.if-is_step.branch [ then-is_step w ↦ append_takes l.invariant (λ j. refl) b (q ∙ w.if-is_step.true) (w.list-is ∙ at_next l.list l.at c.args.step l.i) w.at-is | else-is_step w ↦ append_leaves l.invariant b (q ∙ w.if-is_step.false) w.list-is w.at-is ]

pub returns : goal.returns
returns c = record { list = append_ends c.loop-i.invariant (omega arith); at = append_place c.loop-i.invariant (omega arith) }

pub loop-i-init : goal.loop-i-init
loop-i-init c = append_starts (search rules)

pub shape_of-list : goal.shape_of-list
shape_of-list c = c.loop-i.invariant.kept
