-- What C is told of a height of tide is the answer: by one rule, where two questions have one number and one float, they have one answer, whatever the readings are (`tide-means`). Assumes nothing.
use Rattle.std.specs.Prelude.{◌≡◌, refl, Float, ◌∷◌}
use Rattle.std.proofs.Common.{sym, ◌∙◌, arith}
use Rattle.seq.specs.Seq.{Bool, true, false, not, [], ℕ}
use Rattle.paper.specs.Refusal.{Answer, done, refused, given, first_of, answer}
use Rattle.paper.specs.Tide.{TideRule, Reading, Height, is_unset, in_range, readings_good, tide_of, tide}
use Rattle.bonnetewe.specs.ToldTide.{told_tide, told_height, done-apart, millimetres-told}
use Rattle.bonnetewe.specs.Laws.Means.{Sound, four-apart}

tide_fits_by : (h : Height) (a b c : Bool) → Sound (λ (h : Height). Unit {0}) (answer h (first_of (given 14 0 a ∷ given 15 0 b ∷ given 16 0 c ∷ [])))
tide_fits_by h true b c = (omega arith, omega arith, omega arith, omega arith, omega arith)
tide_fits_by h false true c = (omega arith, omega arith, omega arith, omega arith, omega arith)
tide_fits_by h false false true = (omega arith, omega arith, omega arith, omega arith, omega arith)
tide_fits_by h false false false = tt

pub tide-sound : (t : TideRule) (x y : Reading) → Sound (λ (h : Height). Unit {0}) (tide t x y)
unfolding tide
tide-sound t x y = tide_fits_by (tide_of t x y) (is_unset t) (not (in_range t)) (not (readings_good t x y))

-- the rule used is the one handed in
abbrev RuleIs : TideRule → Answer Height → Type 0
RuleIs t (done h) = h.rule ≡ t
RuleIs t (refused r) = Unit {0}

rule_by_lem : (h : Height) (a b c : Bool) → RuleIs h.rule (answer h (first_of (given 14 0 a ∷ given 15 0 b ∷ given 16 0 c ∷ [])))
rule_by_lem h true b c = tt
rule_by_lem h false true c = tt
rule_by_lem h false false true = tt
rule_by_lem h false false false = refl

rule-used : (t : TideRule) (x y : Reading) → RuleIs t (tide t x y)
unfolding tide
rule-used t x y = rule_by_lem (tide_of t x y) (is_unset t) (not (in_range t)) (not (readings_good t x y))

told-tide-means : (t : TideRule) (a b : Answer Height) → Sound (λ (h : Height). Unit {0}) a → Sound (λ (h : Height). Unit {0}) b → RuleIs t a → RuleIs t b → told_tide a ≡ told_tide b → told_height a ≡ told_height b → a ≡ b
told-tide-means t (done h) (done k) _ _ p q e f =
    let m = millimetres-told h.millimetres k.millimetres e in
    let u : h.rule ≡ k.rule = p ∙ sym q in
    λ i. done (record { height = f i; millimetres = m i; rule = u i })
told-tide-means t (done h) (refused s) _ (o, n, _, _, _) p q e f = absurd (done-apart h s o n e)
told-tide-means t (refused r) (done k) (o, n, _, _, _) _ p q e f = absurd (done-apart k r o n (sym e))
told-tide-means t (refused r) (refused s) (o, n, x, y, z) (v, a, b, c, d) p q e f =
    let w = four-apart r.number r.map r.place r.other s.number s.map s.place s.other n x y a b c e in
    λ i. refused (record { number = w.0 i; map = w.1 i; place = w.2 i; other = w.3 i })

-- of bonnetewe_tide and bonnetewe_tide_height: whatever the readings are, of one rule
pub tide-means : (t : TideRule) (x y v w : Reading) {r : ℕ} {h : Float}
    → r ≡ told_tide (tide t x y) → h ≡ told_height (tide t x y) → r ≡ told_tide (tide t v w) → h ≡ told_height (tide t v w) → tide t x y ≡ tide t v w
tide-means t x y v w a b c d = told-tide-means t (tide t x y) (tide t v w) (tide-sound t x y) (tide-sound t v w) (rule-used t x y) (rule-used t v w) (sym a ∙ c) (sym b ∙ d)
