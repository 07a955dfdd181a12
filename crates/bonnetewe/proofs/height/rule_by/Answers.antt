-- `bonnetewe::height::rule_by` meets its contract. Assumes nothing.
use mathlib.Core.Path.{◌≡◌, sym, ap}
use mathlib.Core.Bool.{Bool, false, cond}
use Prim.Native.Nat.{ℕ}
use lib.Dec.{eqb}
use lib.Ieee.{Float}
use borrow.Author.Tests.{eqb-true, eq-eqb}
use Rattle.exact.specs.Tests.{not-true}
use Rattle.paper.specs.Tide.{TideRule, unset, ratio, weights}
use Rattle.bonnetewe.proofs.height.rule_by.Goals as goal

abbrev by : Float → Float → Bool → Bool → TideRule
by a b none one = cond none unset (cond one (ratio a) (weights a b))

other : (n k : ℕ) → (n ≡ k → ⊥) → eqb n k ≡ false
other n k h = not-true (eqb n k) (λ t. h (eqb-true n k t))

pub returns-then-kind-eq0 : goal.returns-then-kind-eq0
returns-then-kind-eq0 c = let z = c.args in sym (ap (λ (t : Bool). by z.a z.b t (eqb z.kind 1)) (eq-eqb z.kind 0 c.if-kind-eq0.true))

pub returns-then-kind-eq1 : goal.returns-then-kind-eq1
returns-then-kind-eq1 c =
    let z = c.args in
    sym (λ i. by z.a z.b (other z.kind 0 c.if-kind-eq0.false i) (eq-eqb z.kind 1 c.if-kind-eq1.true i))

pub returns : goal.returns
returns c =
    let z = c.args in
    sym (λ i. by z.a z.b (other z.kind 0 c.if-kind-eq0.false i) (other z.kind 1 c.if-kind-eq1.false i))
