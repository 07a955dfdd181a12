-- `plane::boxes::boxes_apart` meets its contract. Assumes nothing.
use mathlib.Core.Path.{◌≡◌, sym, ◌∙◌}
use mathlib.Core.Bool.{◌||◌}
use lib.IntN.{◌+ℤ◌}
use Rattle.exact.specs.Mach.{tr, plain}
use Rattle.laws_plane.specs.Boxes.{lesser, under, west}
use Rattle.plane.specs.Values.{seg_of}
use Rattle.plane.proofs.Machine.{back}
use Rattle.plane.proofs.boxes.boxes_apart.Goals as goal
use Rattle.plane.proofs.boxes.boxes_apart.Goals.{After-spans_apart}

-- what the call on heights told
told : (c : After-spans_apart) → let s = seg_of c.args.s in let t = seg_of c.args.t in c.spans_apart.result ≡ (under s t || under t s)
told c =
    let s = c.args.s in
    let t = c.args.t in
    let a : back s.y ≡ s.y = plain (search tr depth 20) tt in
    let u : back s.v ≡ s.v = plain (search tr depth 20) tt in
    let b : back t.y ≡ t.y = plain (search tr depth 20) tt in
    let v : back t.v ≡ t.v = plain (search tr depth 20) tt in
    c.spans_apart.ensures ∙ (λ i. lesser (a i) (a i +ℤ u i) (b i) (b i +ℤ v i) || lesser (b i) (b i +ℤ v i) (a i) (a i +ℤ u i))

pub returns-then-spans_apart : goal.returns-then-spans_apart
returns-then-spans_apart c =
    let s = seg_of c.args.s in
    let t = seg_of c.args.t in
    c.if-spans_apart.true ∙ (λ i. (sym c.if-spans_apart.true ∙ told (goal.at.returns-then-spans_apart c).After-spans_apart) i || (west s t || west t s))

pub returns-else-spans_apart : goal.returns-else-spans_apart
returns-else-spans_apart c =
    let s = c.args.s in
    let t = c.args.t in
    let a : back s.x ≡ s.x = plain (search tr depth 20) tt in
    let u : back s.u ≡ s.u = plain (search tr depth 20) tt in
    let b : back t.x ≡ t.x = plain (search tr depth 20) tt in
    let v : back t.u ≡ t.u = plain (search tr depth 20) tt in
    let across = c.spans_apart-else-spans_apart.ensures ∙ (λ i. lesser (a i) (a i +ℤ u i) (b i) (b i +ℤ v i) || lesser (b i) (b i +ℤ v i) (a i) (a i +ℤ u i)) in
    λ i. (sym c.if-spans_apart.false ∙ told (goal.at.returns-else-spans_apart c).After-spans_apart) i || across i
