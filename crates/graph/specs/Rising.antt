-- Points in their order: where each vertex comes before the next, which of two comes first is told by their numbers (`number_before`). The loop that finds out, turn by turn. Assumes nothing.
use Rattle.std.specs.Prelude.{◌≡◌, ◌≤◌, ◌<◌, ◌+◌, ◌-◌}
use Rattle.std.proofs.Common.{sym, ◌∙◌, ap, arith, lt-ltb, le-ltb}
use Rattle.std.proofs.Math.Decide.{dec_lt, ℕ_discrete}
use Rattle.seq.specs.Seq.{Bool, true, List, ℕ, ltb, ℤ}
use Rattle.paper.specs.Plane.{before}
use Rattle.laws_plane.specs.Points.{before_irr, before_asym, before_trans}
use Rattle.graph.specs.Flat.{the_point_at, Points}

-- of any two of the first n points the one of the lesser number comes first
abbrev pub Rises : List ℤ → ℕ → Type 0
Rises ps n = (u v : ℕ) → u < v → v < n → before (the_point_at ps u) (the_point_at ps v) ≡ true

-- it is so where the test says so
abbrev pub RisesIf : Bool → List ℤ → ℕ → Type 0
RisesIf c ps n = c ≡ true → Rises ps n

pub rises_starts : (ps : List ℤ) → Rises ps 1
rises_starts ps u v l b = absurd (omega arith)

module _ (ps : List ℤ) (n : ℕ) (P : Points ps n) (w : ℕ) (l : w < n) (some : 0 < w) (R : Rises ps w) (e : before (the_point_at ps (w - 1)) (the_point_at ps w) ≡ true) where
  -- each of those before w comes before w
  to_last : (u : ℕ) → u < w → before (the_point_at ps u) (the_point_at ps w) ≡ true
  to_last u b =
      elim (ℕ_discrete u (w - 1)) [
        | yes q ↦ ap (λ (k : ℕ). before (the_point_at ps k) (the_point_at ps w)) q ∙ e
        | no q ↦ before_trans (the_point_at ps u) (the_point_at ps (w - 1)) (the_point_at ps w) (P.near u (omega arith)).positive (P.near (w - 1) (omega arith)).positive (P.near w l).positive (R u (w - 1) (omega arith) (omega arith)) e
      ]

  pub rises_turns : Rises ps (w + 1)
  rises_turns u v b d =
      elim (ℕ_discrete v w) [
        | yes q ↦ ap (λ (k : ℕ). before (the_point_at ps u) (the_point_at ps k)) q ∙ to_last u (omega arith)
        | no q ↦ R u v b (omega arith)
      ]

pub rises_ends : (ps : List ℤ) (n w : ℕ) → Rises ps w → n ≤ w → Rises ps n
rises_ends ps n w R l u v b d = R u v b (omega arith)

-- which of two comes first
pub number_before : (ps : List ℤ) (n : ℕ) → Rises ps n → (u v : ℕ) → u < n → v < n → ltb u v ≡ before (the_point_at ps u) (the_point_at ps v)
number_before ps n R u v lu lv =
    elim (dec_lt u v) [
      | yes l ↦ lt-ltb u v l ∙ sym (R u v l lv)
      | no l ↦ le-ltb u v (omega arith)
          ∙ sym (elim (ℕ_discrete u v) [
            | yes q ↦ ap (λ (k : ℕ). before (the_point_at ps k) (the_point_at ps v)) q ∙ before_irr (the_point_at ps v)
            | no q ↦ before_asym (the_point_at ps v) (the_point_at ps u) (R v u (omega arith) lu)
          ])
    ]
