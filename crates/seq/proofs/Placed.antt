-- Of Placed of specs/, what rests on its definitions.
use Rattle.std.specs.Prelude.{◌≡◌, ◌≤◌, ◌<◌, ◌∷◌}
use Rattle.std.proofs.Math.Path.{ap}
use Rattle.std.proofs.Common.{sym, ◌∙◌}
use Rattle.seq.specs.Seq.{Bool, not, List, [], ℕ, length, get_or, least, table}
use Rattle.seq.specs.Terms.{Asymmetric}
use Rattle.std.proofs.lemmas.Bool.{not-true, not-false}
use Rattle.seq.specs.Least.{least-ext}
use Rattle.seq.proofs.Least.{least-le, least_min, least-holds}
use Rattle.seq.specs.Table.{length-table, table_at}
use Rattle.seq.specs.Placed.{place_by, place, Here}

-- ── the place in a list ──

module _ {A : Type 0} (b : A → A → Bool) (d : A) where
  -- of a list of n cells
  pub place-table : (p : A) (f : ℕ → A) (n : ℕ) → place_by b p f n ≡ place b d p (table f n)
  place-table p f n =
      least-ext (λ k. not (b (f k) p)) (λ k. not (b (get_or (table f n) k d) p)) n (λ k h. ap (λ (q : A). not (b q p)) (sym (table_at f n k d h)))
      ∙ ap (λ (m : ℕ). least (λ k. not (b (get_or (table f n) k d) p)) m) (sym (length-table f n))

  pub place-le : (p : A) (l : List A) → place b d p l ≤ length l
  place-le p l = least-le (λ k. not (b (get_or l k d) p)) (length l)

  module _ (asym : Asymmetric b) (join : A → A → A) (p : A) where
    pub place_here : (l : List A) → Here {A = A} b d asym join p l (place b d p l)
    place_here l = record {
      within = place-le p l;
      ahead = λ k h. not-false (b (get_or l k d) p) (least_min (λ k. not (b (get_or l k d) p)) (length l) k h);
      stops = λ h. not-true (b (get_or l (place b d p l) d) p) (least-holds (λ k. not (b (get_or l k d) p)) (length l) h);
    }
