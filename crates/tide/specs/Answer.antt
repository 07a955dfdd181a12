-- What the height operation takes and says in 02's terms: "If the answer is an enum, a definition provides this paper's number and values for each of
-- its cases". Assumes nothing.
use Rattle.std.specs.Prelude.{ℤ, Option, None, Some, Result, Ok, Err}
use Rattle.paper.specs.Refusal.{Answer, done, refused}
use Rattle.paper.specs.Tide as paper
use Rattle.paper.specs.Tide.{unset, ratio, weights, missing, at}
use Rattle.map_file.specs.Verdict.{refusal_of}
use Rattle.map_file.specs.declared.refusal.Refusal.{Refusal}
use Rattle.tide.specs.declared.rule.TideRule.{TideRule}
use Rattle.tide.specs.declared.rule.TideRule.TheVariants.{Unset, Ratio, Weights}
use Rattle.tide.specs.declared.rule.Height.{Height}

abbrev pub rule_of : TideRule → paper.TideRule
rule_of Unset = unset
rule_of (Ratio r) = ratio r
rule_of (Weights a b) = weights a b

abbrev pub reading_of : Option ℤ → paper.Reading
reading_of None = missing
reading_of (Some z) = at z

abbrev pub height_from : Height → paper.Height
height_from t = record { height = t.height; millimetres = t.millimetres; rule = rule_of t.rule }

-- the height, or the refusal with its number, map and place
abbrev pub answer_of : Result Height Refusal → Answer paper.Height
answer_of (Ok t) = done (height_from t)
answer_of (Err r) = refused (refusal_of r)
