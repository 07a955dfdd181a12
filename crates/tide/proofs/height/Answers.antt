-- `tide::height` meets its contract: in each case of the rule what is refused and the height are those of the definitions. Assumes nothing.
use mathlib.Core.Bool.{not}
use mathlib.Core.List.{[], ◌∷◌}
use mathlib.Core.Path.{◌≡◌, refl, sym, ap, ◌∙◌}
use lib.Ieee.{Float, binary64, mul, add, of_bits, fin}
use lib.IntN.{pos}
use Rattle.seq.specs.Seq.{false}
use Rattle.paper.specs.Refusal.{given, first_of}
use Rattle.paper.specs.Tide as paper
use Rattle.paper.specs.Tide.{unset, ratio, weights, tide_refusal, height_of, tide}
use Rattle.map_file.specs.Verdict.{verdict}
use Rattle.laws_tide.specs.Cases.{tide_by}
use Rattle.laws_tide.proofs.Cases.{small_by}
use Rattle.tide.specs.declared.rule.TideRule.{TideRule}
use Rattle.tide.specs.Answer.{rule_of, reading_of}
use Rattle.tide.proofs.height.Goals as goal
use Rattle.tide.proofs.height.Goals.{After-gauge, After-gauge-in-Weights-2, Start}

-- the readings in 02's terms
abbrev first : Start → paper.Reading
first z = reading_of z.args.first

abbrev second : Start → paper.Reading
second z = reading_of z.args.second

-- what is answered by a variant is answered by the rule that is that variant
by_rule : (z : Start) {v : TideRule} → z.args.rule ≡ v → tide (rule_of v) (first z) (second z) ≡ tide (rule_of z.args.rule) (first z) (second z)
by_rule z e = sym (ap (λ (t : TideRule). tide (rule_of t) (first z) (second z)) e)

-- ── none ──
no-height : of_bits binary64 0 ≡ fin false 0 (pos 0)
unfolding of_bits
no-height = refl

pub answered-requires : goal.answered-requires
answered-requires c = let z = (goal.at.answered-requires c).Start in small_by unset (first z) (second z) c.given.ensures no-height

pub returns-in-Unset : goal.returns-in-Unset
returns-in-Unset c =
    let z = (goal.at.returns-in-Unset c).Start in
    let e = c.in-Unset.is in
    c.answered.ensures ∙ tide_by unset (first z) (second z) c.given.ensures no-height (ap rule_of e) ∙ by_rule z e

-- ── a ratio ──
module _ (c : After-gauge) where
  abbrev start : Start
  start = c.before.before.before.before.before

  abbrev k : Float
  k = c.in-Ratio.ratio

  ratio-fault : verdict c.fault-refusal.result ≡ tide_refusal (ratio k) (first start) (second start)
  ratio-fault =
      c.fault-refusal.ensures
      ∙ (λ i. first_of (given 15 0 (not (c.ratio_in.ensures i)) ∷ given 16 0 (not (c.readable.ensures i)) ∷ []))

  ratio-height : mul binary64 k c.gauge.result ≡ height_of (ratio k) (first start) (second start)
  ratio-height = ap (mul binary64 k) c.gauge.ensures

pub answered-requires-in-Ratio : goal.answered-requires-in-Ratio
answered-requires-in-Ratio c = small_by (ratio (k c)) (first (start c)) (second (start c)) (ratio-fault c) (ratio-height c)

pub returns-in-Ratio : goal.returns-in-Ratio
returns-in-Ratio c =
    let d = (goal.at.returns-in-Ratio c).After-gauge in
    let e = d.in-Ratio.is in
    c.answered-in-Ratio.ensures ∙ tide_by (ratio (k d)) (first (start d)) (second (start d)) (ratio-fault d) (ratio-height d) refl ∙ by_rule (start d) e

-- ── weights ──
module _ (c : After-gauge-in-Weights-2) where
  abbrev start-3 : Start
  start-3 = c.before.before.before.before.before.before

  abbrev a : Float
  a = c.in-Weights.a

  abbrev b : Float
  b = c.in-Weights.b

  weights-fault : verdict c.fault-refusal-in-Weights.result ≡ tide_refusal (weights a b) (first start-3) (second start-3)
  weights-fault =
      c.fault-refusal-in-Weights.ensures
      ∙ (λ i. first_of (given 15 0 (not (c.weights_in.ensures i)) ∷ given 16 0 (not (c.both_readable.ensures i)) ∷ []))

  weights-height : add binary64 (mul binary64 a c.gauge-in-Weights.result) (mul binary64 b c.gauge-in-Weights-2.result) ≡ height_of (weights a b) (first start-3) (second start-3)
  weights-height = λ i. add binary64 (mul binary64 a (c.gauge-in-Weights.ensures i)) (mul binary64 b (c.gauge-in-Weights-2.ensures i))

pub answered-requires-in-Weights : goal.answered-requires-in-Weights
answered-requires-in-Weights c = small_by (weights (a c) (b c)) (first (start-3 c)) (second (start-3 c)) (weights-fault c) (weights-height c)

pub returns-in-Weights : goal.returns-in-Weights
returns-in-Weights c =
    let d = (goal.at.returns-in-Weights c).After-gauge-in-Weights-2 in
    let e = d.in-Weights.is in
    c.answered-in-Weights.ensures ∙ tide_by (weights (a d) (b d)) (first (start-3 d)) (second (start-3 d)) (weights-fault d) (weights-height d) refl ∙ by_rule (start-3 d) e
