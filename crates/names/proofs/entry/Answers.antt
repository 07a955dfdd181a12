-- `names::entry` meets its contract. Assumes nothing.
use mathlib.Core.Path.{◌≡◌, refl, sym, ◌∙◌, ap, subst}
use Prim.Native.Nat.{ℕ, ◌+◌, ◌-◌}
use native.Mathlib.Nat.{add_comm, add-zero}
use lib.ListN.{take, drop}
use Rattle.paper.specs.Names.{name_length}
use Rattle.names.specs.Parts.{IsPart}
use Rattle.names.specs.Walking.{end_is, seek_turns, seek_found, seek_ends}
use native.Mathlib.Omega.{arith}
use Rattle.names.proofs.entry.Goals as goal

pub loop-end-preserved : goal.loop-end-preserved
loop-end-preserved c =
    seek_turns _ c.loop-end.invariant c.in-Some.end c.in-Some.ensures (λ h. c.if-u16_at-label.false (c.u16_at.ensures ∙ h))

pub returns-then-u16_at-label : goal.returns-then-u16_at-label
returns-then-u16_at-label c =
    let a = c.args in
    let i = c.loop-end.i in
    let e = (end_is _ i c.in-Some.end c.in-Some.ensures).0 in
    let d : c.in-Some.end - (i + 3) ≡ name_length a.list.now i = omega (arith, e) in
    subst (IsPart a.list _) (sym (seek_found _ c.loop-end.invariant c.in-Some.end c.in-Some.ensures (sym c.u16_at.ensures ∙ c.if-u16_at-label.true)))
    (record { there = ap (λ (m : ℕ). (a.list.ref_ptr.0, m)) (add_comm (i + 3) a.list.ref_ptr.1); is = ap (λ (m : ℕ). take m (drop (i + 3) a.list.now)) d })

pub returns : goal.returns
returns c =
    let a = c.args in
    subst (IsPart a.list _) (sym (seek_ends _ c.loop-end.invariant c.in_default.ensures))
    (record { there = ap (λ (m : ℕ). (a.list.ref_ptr.0, m)) (sym (add-zero a.list.ref_ptr.1)); is = refl })
