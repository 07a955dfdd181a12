-- Of Refusals of specs/, what rests on its definitions.
use Rattle.std.specs.Prelude.{◌≡◌, ◌⊎◌, ◌<◌, ◌∷◌, ◌++◌}
use Rattle.std.proofs.Common.{sym, ◌∙◌, ap, not-suc-le-zero, arith}
use Rattle.std.proofs.Math.Decide.{ℕ_discrete}
use Rattle.seq.specs.Seq.{[], Option, none, some, ℕ, zero, suc, table}
use Rattle.paper.specs.Refusal.{Refusal, first_of}
use Rattle.laws_refusals.specs.Refusals.{first_none, first_table_none, first_one, first_some}

-- ── what every refusal of a list keeps ──

pub first_table : (f : ℕ → Option Refusal) (n i : ℕ) (r : Refusal) → i < n → ((j : ℕ) → j < i → f j ≡ none) → f i ≡ some r → first_of (table f n) ≡ some r
first_table f zero i r l h e = absurd (not-suc-le-zero l)
first_table f (suc n) i r l h e =
    elim (ℕ_discrete i n) [
      | yes q ↦ first_none (table f n) (f n ∷ []) (first_table_none f n (λ j k. h j (omega arith))) ∙ first_one (f n) ∙ ap f (sym q) ∙ e
      | no q ↦ first_some (table f n) (f n ∷ []) (first_table f n i r (omega arith) h e)
    ]
