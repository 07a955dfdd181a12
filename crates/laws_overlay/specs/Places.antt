-- Points in point order, as vertices stand (`Places`): what stands at i is before what stands at j exactly if i < j, and points of which neither is before the other are one. Assumes nothing.
use Rattle.std.specs.Prelude.{◌≡◌, ◌<◌, ◌<ℤ◌}
use Rattle.std.proofs.Common.{sym, ◌∙◌, ap, subst, arith}
use Rattle.std.proofs.Math.Decide.{dec_lt}
use Rattle.std.proofs.Math.ListN.{get_or-eq_default}
use Rattle.seq.specs.Seq.{true, List, ℕ, length, pos}
use Rattle.seq.specs.Terms.{Among, Every, Rising}
use Rattle.seq.specs.Tests.{clash}
use Rattle.seq.specs.Members.{at_among, among_at, every_in}
use Rattle.seq.specs.Pairs.{rising_at, rising-number}
use Rattle.paper.specs.Plane.{Pt, whole, nowhere, before, same}
use Rattle.paper.specs.Graph.{point_in}
use Rattle.paper.specs.Map.{Map}
use Rattle.paper.specs.Pieces.{vertices_of}
use Rattle.laws_plane.specs.Points.{LowestP, before_irr, before_asym, same_neither, same_sym}
use Rattle.laws_plane.specs.Ends.{0<1}
use Rattle.laws_overlay.specs.Maps.{AllKeep}
use Rattle.laws_overlay.specs.Vertices.{vertices-lowest, vertices-rising}

pub record Places (vs : List Pt) : Type 0 where
  pub lowest : Every LowestP vs
  pub rising : Rising before vs

-- such are the vertices of the overlay
pub places : (ms : List Map) → AllKeep ms → Places (vertices_of ms)
places ms K = record { lowest = vertices-lowest ms K; rising = vertices-rising ms K }

module _ (vs : List Pt) (P : Places vs) where
  pub at_lowest : (v : ℕ) → v < length vs → LowestP (point_in vs v)
  at_lowest v l = every_in LowestP vs P.lowest (point_in vs v) (at_among vs v (whole nowhere) l)

  pub at_real : (v : ℕ) → pos 0 <ℤ (point_in vs v).D
  at_real v =
      elim (dec_lt v (length vs)) [
        | yes l ↦ (at_lowest v l).positive
        | no l ↦ subst (λ (p : Pt). pos 0 <ℤ p.D) (sym (get_or-eq_default vs (whole nowhere) (omega arith))) 0<1
      ]

  pub at_before : (u v : ℕ) → u < v → v < length vs → before (point_in vs u) (point_in vs v) ≡ true
  at_before u v = rising_at before vs (whole nowhere) P.rising u v

  pub before_at : (u v : ℕ) → u < length vs → v < length vs → before (point_in vs u) (point_in vs v) ≡ true → u < v
  before_at u v lu lv e =
      let a : v < u → ⊥ = λ s. clash e (before_asym (point_in vs v) (point_in vs u) (at_before v u s lu)) in
      let b : u ≡ v → ⊥ = λ s. clash (ap (λ (x : ℕ). before (point_in vs u) (point_in vs x)) s ∙ e) (before_irr (point_in vs u)) in
      omega arith

  pub at_same : (u v : ℕ) → u < length vs → v < length vs → same (point_in vs u) (point_in vs v) ≡ true → u ≡ v
  at_same u v lu lv e =
      rising-number before vs (whole nowhere) P.rising u v lu lv (same_neither (point_in vs u) (point_in vs v) e)
      (same_neither (point_in vs v) (point_in vs u) (same_sym (point_in vs u) (point_in vs v) e))

  -- the number of a point of the list
  pub number : (p : Pt) → Among p vs → (v : ℕ) × (v < length vs) × (point_in vs v ≡ p)
  number p i = among_at p vs (whole nowhere) i
