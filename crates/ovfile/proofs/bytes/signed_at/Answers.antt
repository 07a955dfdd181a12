-- `ovfile::bytes::signed_at` meets its contract: the upper half of the numbers stands for the negative ones. Assumes nothing.
use Rattle.std.specs.Prelude.{◌+◌, ◌/◌, ◌^◌, ◌-ℤ◌}
use mathlib.Core.Path.{sym, ap, ◌∙◌}
use Prim.Native.Nat.{◌<◌}
use native.Mathlib.Omega.{arith}
use borrow.Author.Tests.{lt-ltb, le-ltb}
use Rattle.seq.specs.Seq.{ℕ, true, false, pos}
use Rattle.exact.specs.Mach.{trn, fits, plain}
use Rattle.laws_file.specs.Bytes.{signed_by, number_below}
use Rattle.ovfile.proofs.BytesLaws.{powers_small, number_small, below_zero}
use Rattle.ovfile.proofs.bytes.signed_at.Goals as goal
use Rattle.ovfile.proofs.bytes.signed_at.Goals.{After-numbers-all, After-shared_slice_known-1, Start}

-- both numbers are far below what 64 bits hold
module _ (c : After-numbers-all) where
  number-is-small : c.number_at-n.result < 256 ^ 7 + 1
  number-is-small =
      omega (arith, number_small c.args.width c.args.file.now c.args.at (λ i. (c.shared_slice_known-1.given i).fits) (omega arith))

  numbers-are-small : c.numbers-all.result < 256 ^ 7 + 1
  numbers-are-small = omega (arith, powers_small c.args.width (omega arith))

  number-is-below : c.number_at-n.result < c.numbers-all.result
  number-is-below =
      omega (arith, number_below c.args.width c.args.file.now c.args.at (λ i. (c.shared_slice_known-1.given i).fits))

pub overflow_cast-result : goal.overflow_cast-result
overflow_cast-result c = omega (arith, number-is-small (goal.at.overflow_cast-result c).After-numbers-all)

pub overflow_cast-result-else-n-all : goal.overflow_cast-result-else-n-all
overflow_cast-result-else-n-all c = omega (arith, number-is-small (goal.at.overflow_cast-result-else-n-all c).After-numbers-all)

pub overflow_cast-result-else-n-all-2 : goal.overflow_cast-result-else-n-all-2
overflow_cast-result-else-n-all-2 c = omega (arith, numbers-are-small (goal.at.overflow_cast-result-else-n-all-2 c).After-numbers-all)

pub overflow_sub-result : goal.overflow_sub-result
overflow_sub-result c =
    let h = number-is-small (goal.at.overflow_sub-result c).After-numbers-all in
    let g = numbers-are-small (goal.at.overflow_sub-result c).After-numbers-all in
    fits (search trn depth 20) tt

pub returns-then-n-all : goal.returns-then-n-all
returns-then-n-all c =
    let a = c.args in
    let n = c.number_at-n in
    let h = number-is-small (goal.at.returns-then-n-all c).After-numbers-all in
    plain (search trn depth 20) tt
    ∙ sym (signed_by a.width a.file.now a.at n.result true (lt-ltb n.result (256 ^ a.width / 2) (omega arith)) (sym n.ensures))

pub returns-else-n-all : goal.returns-else-n-all
returns-else-n-all c =
    let a = c.args in
    let n = c.number_at-n in
    let h = number-is-small (goal.at.returns-else-n-all c).After-numbers-all in
    let g = numbers-are-small (goal.at.returns-else-n-all c).After-numbers-all in
    plain (search trn depth 20) tt
    ∙ ap (λ (p : ℕ). pos n.result -ℤ pos p) c.numbers-all.ensures
    ∙ below_zero n.result (256 ^ a.width) (omega (arith, number-is-below (goal.at.returns-else-n-all c).After-numbers-all))
    ∙ sym (signed_by a.width a.file.now a.at n.result false (le-ltb n.result (256 ^ a.width / 2) (omega arith)) (sym n.ensures))
