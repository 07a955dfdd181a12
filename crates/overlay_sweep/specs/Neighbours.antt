-- The neighbours in the cells j - 1 and j of a table of edge numbers: the last of the cells before j and the first from j on, and the crossing ahead of the two (`joint_at`). Assumes nothing.
use Rattle.std.specs.Prelude.{◌≡◌, refl, ◌≤◌, ◌<◌, ◌∷◌, ◌++◌, ◌+◌, ◌-◌}
use Rattle.std.proofs.Common.{◌∙◌, ap, add-zero, arith}
use Rattle.std.proofs.lemmas.List.{map-append}
use Rattle.seq.specs.Seq.{List, [], map, Option, none, some, ℤ, ℕ, get_or}
use Rattle.seq.specs.Table.{table-+}
use Rattle.seq.specs.Pairs.{first, last}
use Rattle.paper.specs.Plane.{Pt}
use Rattle.laws_sweep.specs.Sweep.{Strand, ahead, ahead_of, joint}
use Rattle.overlay_sweep.specs.Fans.{numbers_from, from_more}
use Rattle.overlay_sweep.specs.Ahead.{strand_at}

module _ (cs : List ℤ) (starts : List ℕ) (p : Pt) where
  abbrev g : ℕ → Strand
  g = strand_at cs starts

  last_more : (l : List Strand) (x : Strand) → last (l ++ (x ∷ [])) ≡ some x
  last_more [] x = refl
  last_more (y ∷ []) x = refl
  last_more (y ∷ z ∷ l) x = last_more (z ∷ l) x

  last_at : (t : List ℕ) (from j : ℕ) → from < j → last (map g (numbers_from t from (j - from))) ≡ some (g (get_or t (j - 1) 0))
  last_at t from j h =
      let e : j - from ≡ j - 1 + 1 - from = omega arith in
      ap (λ (k : ℕ). last (map g (numbers_from t from k))) e
      ∙ ap (λ (l : List ℕ). last (map g l)) (from_more t from (j - 1) (omega arith))
      ∙ ap last (map-append g (numbers_from t from (j - 1 - from)) (get_or t (j - 1) 0 ∷ [])) ∙ last_more (map g (numbers_from t from (j - 1 - from))) (g (get_or t (j - 1) 0))

  first_at_lem : (t : List ℕ) (j c : ℕ) → j < c → first (map g (numbers_from t j (c - j))) ≡ some (g (get_or t j 0))
  first_at_lem t j c h =
      let e : c - j ≡ 1 + (c - j - 1) = omega arith in
      ap (λ (k : ℕ). first (map g (numbers_from t j k))) e
      ∙ ap (λ (l : List ℕ). first (map g l)) (table-+ (λ i. get_or t (j + i) 0) 1 (c - j - 1)) ∙ ap (λ (k : ℕ). some (g (get_or t k 0))) (add-zero j)

  -- the crossings ahead of the neighbours in the cells j - 1 and j, of the cells from `from` to c
  abbrev pub joint_at : List ℕ → ℕ → ℕ → ℕ → List Pt
  joint_at t from j c = joint p (map g (numbers_from t from (j - from))) (map g (numbers_from t j (c - j)))

  pub joint_both : (t : List ℕ) (from j c : ℕ) → from < j → j < c → joint_at t from j c ≡ ahead p (g (get_or t (j - 1) 0)) (g (get_or t j 0))
  joint_both t from j c h l = λ i. ahead_of p (last_at t from j h i) (first_at_lem t j c l i)

  pub joint_left : (t : List ℕ) (from j c : ℕ) → j ≤ from → joint_at t from j c ≡ []
  joint_left t from j c h = let e : j - from ≡ 0 = omega arith in ap (λ (k : ℕ). joint p (map g (numbers_from t from k)) (map g (numbers_from t j (c - j)))) e

  none_right : (o : Option Strand) → ahead_of p o none ≡ []
  none_right none = refl
  none_right (some x) = refl

  pub joint_right : (t : List ℕ) (from j c : ℕ) → c ≤ j → joint_at t from j c ≡ []
  joint_right t from j c h =
      let e : c - j ≡ 0 = omega arith in
      ap (λ (k : ℕ). joint p (map g (numbers_from t from (j - from))) (map g (numbers_from t j k))) e ∙ none_right (last (map g (numbers_from t from (j - from))))
