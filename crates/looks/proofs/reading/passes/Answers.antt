-- `looks::reading::passes` meets its contract. Assumes nothing.
use mathlib.Core.Path.{◌≡◌, sym, ◌∙◌, ap}
use mathlib.Core.Bool.{Bool, ◌&&◌}
use lib.IntN.{pos, neg_ℤ, ◌+ℤ◌, ◌-ℤ◌}
use lib.Signed.{lt_z}
use Rattle.exact.specs.Mach.{trbs, tr, plain, test}
use Rattle.paper.specs.Plane.{vec, whole, head, below, rises}
use Rattle.paper.specs.Soundings.{east}
use Rattle.plane.proofs.Machine.{back}
use Rattle.plane.specs.Values.{vec_of, seg_of}
use Rattle.graph.specs.Look.{westward_of}
use Rattle.graph.proofs.Rows.{minus}
use Rattle.looks.proofs.WholeLaws.{below_whole, turn-east}
use Rattle.looks.proofs.reading.passes.Goals as goal

pub returns-then-c-top : goal.returns-then-c-top
returns-then-c-top c =
    let s = c.args.s in
    let a = c.args.c in
    let l = c.left_at in
    let near = l.ensures.bound in
    let x : back s.v ≡ s.v = plain (search tr depth 20) tt in
    let y : back (pos 0 -ℤ back l.result) ≡ pos 0 -ℤ l.result = plain (search tr depth 20) tt in
    let under : lt_z a.y (s.y +ℤ s.v) ≡ _ = sym (test (search trbs depth 20) tt) ∙ c.if-c-top.true in
    c.rises.ensures ∙ (λ i. rises (vec ((x ∙ turn-east s.u s.v) i) ((y ∙ minus l.result ∙ ap neg_ℤ l.ensures.is) i)))
    ∙ ap (λ (b : Bool). b && westward_of (seg_of s) (whole (vec_of a)) east) (sym under ∙ below_whole a.x a.y (s.x +ℤ s.u) (s.y +ℤ s.v))

pub returns-else-c-top : goal.returns-else-c-top
returns-else-c-top c =
    let s = c.args.s in
    let a = c.args.c in
    let over : lt_z a.y (s.y +ℤ s.v) ≡ _ = sym (test (search trbs depth 20) tt) ∙ c.if-c-top.false in
    c.if-c-top.false ∙ ap (λ (b : Bool). b && westward_of (seg_of s) (whole (vec_of a)) east) (sym over ∙ below_whole a.x a.y (s.x +ℤ s.u) (s.y +ℤ s.v))
