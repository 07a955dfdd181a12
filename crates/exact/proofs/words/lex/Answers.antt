-- `exact::words::lex` meets its contract. Assumes nothing.
use Rattle.std.proofs.Common.{◌∙◌, ap}
use mir.Syntax.{w64}
use mir.ValLaws.{to_z-of_z}
use Rattle.exact.specs.Exact.{sgn, pick}
use Rattle.exact.specs.Compare.{sign_of, cmp_0, then_pick}
use Rattle.exact.proofs.words.lex.Goals as goal

pub returns : goal.returns
returns c =
    let y = ap sign_of c.cmp.ensures ∙ cmp_0 _ ∙ ap sgn (to_z-of_z w64 c.args.y c.ranges.y) in
    let x = ap sign_of c.cmp-2.ensures ∙ cmp_0 _ ∙ ap sgn (to_z-of_z w64 c.args.x c.ranges.x) in
    ap sign_of c.then.ensures ∙ then_pick c.cmp.result c.cmp-2.result ∙ (λ i. pick (y i) (x i))
