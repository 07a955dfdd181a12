-- `graph::heading::carrier_at` meets its contract. Assumes nothing.
use mathlib.Core.Path.{◌≡◌, sym, ◌∙◌, ap, subst}
use Prim.Native.Nat.{ℕ, ◌*◌}
use native.Mathlib.Nat.{add-zero}
use lib.IntN.{ℤ, pos}
use lib.ListN.{get_or}
use mir.Syntax.{w16}
use mir.Val.{to_z, of_z}
use Rattle.exact.specs.Mach.{tr, plain}
use Rattle.plane.proofs.Machine.{back}
use Rattle.plane.specs.Bounds.{Edge}
use Rattle.plane.specs.Values.{seg, seg_of}
use Rattle.graph.specs.Flat.{carrier_at}
use Rattle.graph.proofs.heading.carrier_at.Goals as goal

pub returns : goal.returns
returns c =
    let cs = c.args.carriers.now in
    let k = c.args.k in
    let s = carrier_at cs k in
    let near : Edge s = c.requires.near in
    let first = ap (λ (j : ℕ). get_or cs j (pos 0)) (sym (add-zero (4 * k))) in
    let x : back (to_z w16 (of_z w16 s.foot.x)) ≡ s.foot.x = plain (search tr depth 20) tt in
    let y : back (to_z w16 (of_z w16 s.foot.y)) ≡ s.foot.y = plain (search tr depth 20) tt in
    let u : back (to_z w16 (of_z w16 s.up.x)) ≡ s.up.x = plain (search tr depth 20) tt in
    let v : back (to_z w16 (of_z w16 s.up.y)) ≡ s.up.y = plain (search tr depth 20) tt in
    let e : seg_of _ ≡ s =
    λ i. seg ((ap back (c.from.ensures ∙ ap (λ (z : ℤ). to_z w16 (of_z w16 z)) first) ∙ x) i) ((ap back c.from-2.ensures ∙ y) i) ((ap back c.from-3.ensures ∙ u) i) ((ap back c.from-4.ensures ∙ v) i) in
    record { is = e; near = subst Edge (sym e) near }
