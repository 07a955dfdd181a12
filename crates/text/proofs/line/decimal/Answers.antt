-- `text::line::decimal` meets its contract: the digits that `io` writes are the decimal text. Assumes nothing.
use native.Mathlib.Omega.{arith}
use mathlib.Core.Path.{◌∙◌}
use Rattle.text.proofs.LineLaws.{put_as}
use Rattle.text.proofs.DigitsLaws.{fewest_decimal, fewest_five}
use Rattle.text.proofs.line.decimal.Goals as goal

pub words-requires : goal.words-requires
words-requires c =
    let d = c.decimal-k in
    omega (arith, fewest_five c.args.n d.result (omega arith) d.ensures.len, d.ensures.in_bounds.1)

pub returns : goal.returns
returns c =
    let d = c.decimal-k in
    let n = c.args.n in
    put_as
    c.words.ensures
    (d.ensures.digits ∙ fewest_decimal n d.result d.ensures.len)
    (omega (arith, fewest_five n d.result (omega arith) d.ensures.len, d.ensures.in_bounds.1))
