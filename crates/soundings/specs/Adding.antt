-- The loop over a batch with the lengths of its tables kept (`Adding`): what holds between two bytes, and that the tables have room as at the start (`adding_room`). The loop of today has tables whose types say their lengths, and Adding of Step tells it; no proof uses these, which stand since laws stand. Assumes nothing.
use Rattle.std.specs.Prelude.{◌≡◌, refl, ◌≤◌, ◌<◌, ◌+◌}
use Rattle.std.proofs.Common.{sym, ◌∙◌, ap, subst, add-one, arith, take-suc, take_all}
use Rattle.seq.specs.Seq.{List, ℕ, length, get_or, take}
use Rattle.laws_soundings.specs.Run.{Look, Run, with_byte, next}
use Rattle.laws_soundings.specs.RunAfter.{next_more}
use Rattle.laws_soundings.specs.RunFit.{FitRun, fit_next}
use Rattle.soundings.specs.Rows.{most_read}
use Rattle.soundings.specs.Sound.{TableRoom}
use Rattle.soundings.specs.State.{run_by}
use Rattle.soundings.specs.declared.state.Progress.{Progress}

-- before turn i the first i bytes are added
pub record Adding (k : Look) (s bs₀ ls₀ cs₀ : List ℕ) (p₀ : Progress) (bs ls cs : List ℕ) (p : Progress) (i : ℕ) : Type 0 where
  pub within : i ≤ length s
  pub bytes-kept : length bs ≡ length bs₀
  pub labels-kept : length ls ≡ length ls₀
  pub counts-kept : length cs ≡ length cs₀
  pub is : run_by k bs ls cs p ≡ next (run_by k bs₀ ls₀ cs₀ p₀) (take i s)

module _ {k : Look} {s bs₀ ls₀ cs₀ : List ℕ} {p₀ : Progress} where
  pub adding_starts : Adding k s bs₀ ls₀ cs₀ p₀ bs₀ ls₀ cs₀ p₀ 0
  adding_starts = record { within = omega arith; bytes-kept = refl; labels-kept = refl; counts-kept = refl; is = refl }

  module _ {bs ls cs : List ℕ} {p : Progress} {i : ℕ} (A : Adding k s bs₀ ls₀ cs₀ p₀ bs ls cs p i) where
    pub adding_fit : FitRun most_read (run_by k bs₀ ls₀ cs₀ p₀) → FitRun most_read (run_by k bs ls cs p)
    adding_fit F = subst (FitRun most_read) (sym A.is) (fit_next most_read (run_by k bs₀ ls₀ cs₀ p₀) (take i s) F)

    pub adding_room : TableRoom ls₀ cs₀ → TableRoom ls cs
    adding_room R = record { labels = omega (arith, R.labels, A.labels-kept); counts = omega (arith, R.counts, A.counts-kept) }

    pub adding_turns : (bs' ls' cs' : List ℕ) (q : Progress) → i < length s → length bs' ≡ length bs → length ls' ≡ length ls → length cs' ≡ length cs → run_by k bs' ls' cs' q ≡ with_byte (run_by k bs ls cs p) (get_or s i 0)
        → Adding k s bs₀ ls₀ cs₀ p₀ bs' ls' cs' q (i + 1)
    adding_turns bs' ls' cs' q l x y z e = record {
      within = omega arith;
      bytes-kept = x ∙ A.bytes-kept;
      labels-kept = y ∙ A.labels-kept;
      counts-kept = z ∙ A.counts-kept;
      is = e ∙ ap (λ (r : Run). with_byte r (get_or s i 0)) A.is
          ∙ sym (ap (next (run_by k bs₀ ls₀ cs₀ p₀)) (ap (λ (j : ℕ). take j s) (add-one i) ∙ take-suc s i 0 l) ∙ next_more (run_by k bs₀ ls₀ cs₀ p₀) (take i s) (get_or s i 0));
    }

    pub adding_ends : length s ≤ i → run_by k bs ls cs p ≡ next (run_by k bs₀ ls₀ cs₀ p₀) s
    adding_ends h = A.is ∙ ap (next (run_by k bs₀ ls₀ cs₀ p₀)) (take_all i s h)
