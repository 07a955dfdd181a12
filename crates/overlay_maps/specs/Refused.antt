-- The refusal that an answer gives, if it gives one. Assumes nothing.
use Rattle.std.specs.Prelude.{◌≡◌, refl}
use Rattle.seq.specs.Seq.{Option, none, some}
use Rattle.paper.specs.Refusal.{Answer, done, refused, Refusal, answer}

abbrev pub refused_in : {A : Type 0} → Answer A → Option Refusal
refused_in (done a) = none
refused_in (refused r) = some r

-- what was answered with
pub refused_with_lem : {A : Type 0} (a : A) (o : Option Refusal) → refused_in (answer a o) ≡ o
refused_with_lem a none = refl
refused_with_lem a (some r) = refl
