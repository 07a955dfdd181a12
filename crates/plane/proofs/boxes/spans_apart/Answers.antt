-- `plane::boxes::spans_apart` meets its contract. Assumes nothing.
use mathlib.Core.Path.{◌≡◌, sym, ◌∙◌}
use mathlib.Core.Bool.{◌||◌}
use lib.IntN.{◌+ℤ◌}
use Rattle.exact.specs.Mach.{tr, plain}
use Rattle.laws_plane.specs.Boxes.{lesser}
use Rattle.plane.proofs.Machine.{back}
use Rattle.plane.proofs.boxes.spans_apart.Goals as goal
use Rattle.plane.proofs.boxes.spans_apart.Goals.{After-both_less}

-- what the first call told
told : (c : After-both_less) → let s = c.args in c.both_less.result ≡ lesser s.a (s.a +ℤ s.u) s.b (s.b +ℤ s.v)
told c =
    let s = c.args in
    let a : back s.a ≡ s.a = plain (search tr depth 20) tt in
    let top : back (back s.a +ℤ back s.u) ≡ s.a +ℤ s.u = plain (search tr depth 20) tt in
    let b : back s.b ≡ s.b = plain (search tr depth 20) tt in
    let end : back (back s.b +ℤ back s.v) ≡ s.b +ℤ s.v = plain (search tr depth 20) tt in
    c.both_less.ensures ∙ (λ i. lesser (a i) (top i) (b i) (end i))

pub returns-then-both_less : goal.returns-then-both_less
returns-then-both_less c =
    let s = c.args in
    c.if-both_less.true ∙ (λ i. (sym c.if-both_less.true ∙ told (goal.at.returns-then-both_less c).After-both_less) i || lesser s.b (s.b +ℤ s.v) s.a (s.a +ℤ s.u))

pub returns-else-both_less : goal.returns-else-both_less
returns-else-both_less c =
    let s = c.args in
    let a : back s.a ≡ s.a = plain (search tr depth 20) tt in
    let top : back (back s.a +ℤ back s.u) ≡ s.a +ℤ s.u = plain (search tr depth 20) tt in
    let b : back s.b ≡ s.b = plain (search tr depth 20) tt in
    let end : back (back s.b +ℤ back s.v) ≡ s.b +ℤ s.v = plain (search tr depth 20) tt in
    λ i. (sym c.if-both_less.false ∙ told (goal.at.returns-else-both_less c).After-both_less) i || (c.both_less-else-both_less.ensures ∙ (λ i. lesser (b i) (end i) (a i) (top i))) i
