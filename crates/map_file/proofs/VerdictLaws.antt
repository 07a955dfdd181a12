-- Chains of checks: the first of a list of refusals, one check at a time. Assumes nothing.
use Rattle.std.specs.Prelude.{◌∷◌, Result, Ok, Err}
use mathlib.Core.Path.{◌≡◌, refl, sym, ap, ◌∙◌}
use Rattle.seq.specs.Seq.{Bool, ℕ, ltb, least, List, [], Option, none, some, Option·getD}
use Rattle.paper.specs.Refusal.{given, first_at, first_of, Refusal}
use Rattle.laws_refusals.specs.Refusals.{no_refusal, first_one}
use Rattle.map_file.specs.Verdict.{refusal_of, verdict}
use Rattle.map_file.specs.declared.refusal.Refusal as code

first_cons : (x : Option Refusal) (fs : List (Option Refusal)) → first_of (x ∷ first_of fs ∷ []) ≡ first_of (x ∷ fs)
first_cons none fs = first_one (first_of fs)
first_cons (some r) fs = refl

-- r is the first of fs. The list can be read off, so that a chain is put together with no list written out
pub record Chain (r : Option Refusal) (fs : List (Option Refusal)) : Type 0 where
  pub is : r ≡ first_of fs

-- the last check of a chain, and one in front of a chain
pub last : {r f : Option Refusal} → r ≡ f → Chain r (f ∷ [])
last {f = f} e = record { is = e ∙ sym (first_one f) }

pub before : {r x y f : Option Refusal} {fs : List (Option Refusal)} → r ≡ first_of (x ∷ y ∷ []) → x ≡ f → Chain y fs → Chain r (f ∷ fs)
before {f = f} {fs = fs} e p q = record { is = e ∙ (λ i. first_of (p i ∷ q.is i ∷ [])) ∙ first_cons f fs }

-- the least place of a rule, and its bound, as the code found them
pub at_least : (number : ℕ) (p : ℕ → Bool) (n : ℕ) (r : Option Refusal) (k m : ℕ) → r ≡ given number k (ltb k m) → k ≡ least p n → m ≡ n → r ≡ first_at number p n
at_least number p n r k m e f g = e ∙ (λ i. given number (f i) (ltb (f i) (g i)))

-- ── nothing is refused ──

-- the first check of a chain that gives nothing, and the others
pub rest : {x : Option Refusal} {fs : List (Option Refusal)} → Chain none (x ∷ fs) → (x ≡ none) × Chain none fs
rest {x = none} c = (refl, record { is = c.is })
rest {x = some r} c = absurd (no_refusal (sym c.is))

-- ── what a verdict says determines the check ──

pub verdict-only : (a b : Result (Unit {0}) code.Refusal) → verdict a ≡ verdict b → a ≡ b
verdict-only (Ok x) (Ok y) e = refl
verdict-only (Ok x) (Err r) e = absurd (no_refusal (sym e))
verdict-only (Err r) (Ok x) e = absurd (no_refusal e)
verdict-only (Err r) (Err q) e =
    let d : refusal_of r ≡ refusal_of q = ap (λ (o : Option Refusal). Option·getD o (refusal_of r)) e in
    λ i. Err (record { number = (d i).number; map = (d i).map; place = (d i).place; other = (d i).other })
