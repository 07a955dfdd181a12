-- `tide::nearest::nearest` meets its contract. Assumes nothing.
use mathlib.Core.Path.{◌≡◌, sym, ap, ◌∙◌, subst}
use Prim.Native.Nat.{ℕ, zero, suc, ◌^◌, ◌≤◌, ◌<◌}
use mir.Syntax.{w32}
use mir.Val.{SFits, to_z}
use mir.ValLaws.{to_z_pos, to_z-of_z}
use lib.IntN.{ℤ, pos, neg_ℤ, ◌-ℤ◌, +ℤ_idl}
use lib.Signed.{mag}
use native.Mathlib.Omega.{arith}
use lib.Dec.{T}
use lib.Ieee.{binary64, fits, to_bits}
use Rattle.laws_tide.specs.Pattern.{whole_of, by_pattern, no_nan, whole_at_most, below_zero, above_zero}
use Rattle.tide.proofs.nearest.nearest.Goals as goal
use Rattle.tide.proofs.nearest.nearest.Goals.{Start}

held : (c : Start) → T (fits binary64 c.args.x)
held c = subst T (sym c.well_formed.0.1) tt

pub float_to_bits-bits : goal.float_to_bits-bits
float_to_bits-bits c = no_nan 2147483647 c.args.x c.requires

pub magnitude-n-requires : goal.magnitude-n-requires
magnitude-n-requires c = (by_pattern c.args.x (held c) c.requires).0

-- what is called gives the pattern's whole number, which an i32 holds
small : (c : Start) (r : ℕ) → r ≡ whole_of (to_bits binary64 c.args.x) → r < 2 ^ 31
small c r e = at_most r (subst (λ (k : ℕ). k ≤ 2147483647) (sym e) (whole_at_most c.args.x (held c) c.requires))
  where
    at_most : (r : ℕ) → r ≤ 2147483647 → r < 2 ^ 31
    at_most r h = omega arith

pub overflow_cast-n : goal.overflow_cast-n
overflow_cast-n c = record { sfits = small (goal.at.overflow_cast-n c).Start c.magnitude-n.result c.magnitude-n.ensures }

-- 0 - r, as the machine works it out, is -r
minus : (r : ℕ) → r < 2 ^ 31 → pos 0 -ℤ to_z w32 r ≡ neg_ℤ (pos r)
minus r h = ap (λ (z : ℤ). pos 0 -ℤ z) (to_z_pos w32 r h) ∙ +ℤ_idl (neg_ℤ (pos r))

minus-fits : (r : ℕ) → r < 2 ^ 31 → SFits w32 (pos 0 -ℤ to_z w32 r)
minus-fits r h = subst (SFits w32) (sym (minus r h)) (record { sfits = go r h })
  where
    go : (r : ℕ) → r < 2 ^ 31 → mag (neg_ℤ (pos r)) < 2 ^ 31
    go zero h = h
    go (suc r) h = omega arith

pub overflow_sub-result : goal.overflow_sub-result
overflow_sub-result c =
    let m = c.magnitude-n in
    minus-fits m.result (small (goal.at.overflow_sub-result c).Start m.result m.ensures)

pub returns-then-bits-ge-SIGN : goal.returns-then-bits-ge-SIGN
returns-then-bits-ge-SIGN c =
    let z = (goal.at.returns-then-bits-ge-SIGN c).Start in
    let m = c.magnitude-n in
    let l = small z m.result m.ensures in
    to_z-of_z w32 (pos 0 -ℤ to_z w32 m.result) (minus-fits m.result l)
    ∙ minus m.result l
    ∙ ap (λ (k : ℕ). neg_ℤ (pos k)) m.ensures
    ∙ below_zero z.args.x (held z) z.requires c.if-bits-ge-SIGN.true

pub returns-else-bits-ge-SIGN : goal.returns-else-bits-ge-SIGN
returns-else-bits-ge-SIGN c =
    let z = (goal.at.returns-else-bits-ge-SIGN c).Start in
    let m = c.magnitude-n in
    to_z_pos w32 m.result (small z m.result m.ensures) ∙ ap pos m.ensures ∙ above_zero z.args.x (held z) z.requires c.if-bits-ge-SIGN.false
