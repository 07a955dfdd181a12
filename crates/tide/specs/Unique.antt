-- The answer of the height operation is determined by the rule and the readings: two outcomes that keep its promise are one. Assumes nothing.
use Rattle.std.specs.Prelude.{◌≡◌, refl, Float, ℤ, Option, Result, Ok, Err}
use Rattle.std.proofs.Common.{ap, arith}
use Rattle.seq.specs.Seq.{ℕ}
use Rattle.seq.specs.Unique.{determined}
use Rattle.paper.specs.Refusal as terms
use Rattle.paper.specs.Refusal.{Answer, done, refused}
use Rattle.paper.specs.Tide as paper
use Rattle.paper.specs.Tide.{unset, ratio, weights, tide}
use Rattle.map_file.specs.Verdict.{refusal_of}
use Rattle.map_file.specs.declared.refusal.Refusal.{Refusal}
use Rattle.tide.specs.declared.rule.TideRule.{TideRule}
use Rattle.tide.specs.declared.rule.TideRule.TheVariants.{Unset, Ratio, Weights}
use Rattle.tide.specs.declared.rule.Height.{Height}
use Rattle.tide.specs.Answer.{rule_of, reading_of, height_from, answer_of}

-- ── the parts of a rule ──

abbrev kind : paper.TideRule → ℕ
kind unset = 0
kind (ratio r) = 1
kind (weights a b) = 2

abbrev first : Float → paper.TideRule → Float
first d unset = d
first d (ratio r) = r
first d (weights a b) = a

abbrev second : Float → paper.TideRule → Float
second d unset = d
second d (ratio r) = d
second d (weights a b) = b

other : {A : Type 0} (a b : paper.TideRule) → a ≡ b → (kind a ≡ kind b → ⊥) → A
other a b e f = absurd (f (ap kind e))

pub rule-only : (a b : TideRule) → rule_of a ≡ rule_of b → a ≡ b
rule-only Unset Unset e = refl
rule-only Unset (Ratio r) e = other unset (ratio r) e (λ z. omega arith)
rule-only Unset (Weights a b) e = other unset (weights a b) e (λ z. omega arith)
rule-only (Ratio r) Unset e = other (ratio r) unset e (λ z. omega arith)
rule-only (Ratio r) (Ratio s) e = ap (λ (k : Float). Ratio k) (ap (first r) e)
rule-only (Ratio r) (Weights a b) e = other (ratio r) (weights a b) e (λ z. omega arith)
rule-only (Weights a b) Unset e = other (weights a b) unset e (λ z. omega arith)
rule-only (Weights a b) (Ratio r) e = other (weights a b) (ratio r) e (λ z. omega arith)
rule-only (Weights a b) (Weights c d) e = λ i. Weights (first a (e i)) (second a (e i))

-- ── the parts of an answer ──

abbrev case : Answer paper.Height → ℕ
case (done t) = 0
case (refused r) = 1

abbrev given : paper.Height → Answer paper.Height → paper.Height
given d (done t) = t
given d (refused r) = d

abbrev refusal : terms.Refusal → Answer paper.Height → terms.Refusal
refusal d (done t) = d
refusal d (refused r) = r

differ : {A : Type 0} (a b : Answer paper.Height) → a ≡ b → (case a ≡ case b → ⊥) → A
differ a b e f = absurd (f (ap case e))

-- an answer is that of one outcome
pub answer-only : (a b : Result Height Refusal) → answer_of a ≡ answer_of b → a ≡ b
answer-only (Ok a) (Ok b) e =
    let d : height_from a ≡ height_from b = ap (given (height_from a)) e in
    let r : a.rule ≡ b.rule = rule-only a.rule b.rule (ap (λ (t : paper.Height). t.rule) d) in
    λ i. Ok (record { height = (d i).height; millimetres = (d i).millimetres; rule = r i })
answer-only (Ok a) (Err b) e = differ (answer_of (Ok a)) (answer_of (Err b)) e (λ z. omega arith)
answer-only (Err a) (Ok b) e = differ (answer_of (Err a)) (answer_of (Ok b)) e (λ z. omega arith)
answer-only (Err a) (Err b) e =
    let d : refusal_of a ≡ refusal_of b = ap (refusal (refusal_of a)) e in
    λ i. Err (record { number = (d i).number; map = (d i).map; place = (d i).place; other = (d i).other })

pub height-unique : (t : TideRule) (x y : Option ℤ) (a b : Result Height Refusal) → answer_of a ≡ tide (rule_of t) (reading_of x) (reading_of y)
    → answer_of b ≡ tide (rule_of t) (reading_of x) (reading_of y) → a ≡ b
height-unique t x y a b p q = answer-only a b (determined (tide (rule_of t) (reading_of x)) (reading_of y) (answer_of a) (answer_of b) p q)
