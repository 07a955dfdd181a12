-- `bonnetewe::height::reading_by` meets its contract. Assumes nothing.
use mathlib.Core.Path.{◌≡◌, sym, ap, ◌∙◌}
use mathlib.Core.Bool.{Bool, cond}
use mir.Syntax.{w32}
use mir.Val.{SFits, to_z, of_z}
use mir.ValLaws.{to_z-of_z}
use lib.IntN.{ℤ, negsuc}
use borrow.Author.Rules.{rules}
use Rattle.exact.specs.Tests.{eq_z, t_eq, eq_t, not-true}
use Rattle.paper.specs.Tide.{Reading, missing, at}
use Rattle.bonnetewe.proofs.height.reading_by.Goals as goal

abbrev by : ℤ → Bool → Reading
by z b = cond b missing (at z)

pub returns-then-x-eqminus2147483648 : goal.returns-then-x-eqminus2147483648
returns-then-x-eqminus2147483648 c =
    let z : ℤ = c.args.x in
    let f : SFits w32 z = search rules in
    let e : z ≡ negsuc 2147483647 = sym (to_z-of_z w32 z f) ∙ ap (to_z w32) c.if-x-eqminus2147483648.true in
    sym (ap (by z) (t_eq {a = z} {b = negsuc 2147483647} e))

pub returns : goal.returns
returns c =
    let z : ℤ = c.args.x in
    let f : SFits w32 z = search rules in
    ap at (to_z-of_z w32 z f)
    ∙ sym (ap (by z) (not-true (eq_z z (negsuc 2147483647)) (λ t. c.if-x-eqminus2147483648.false (ap (of_z w32) (eq_t z (negsuc 2147483647) t)))))
