-- The label of a map's edge at the left of a half-edge along it, by which of the edge's half-edges goes up.
-- Assumes nothing.
use Rattle.std.specs.Prelude.{◌+◌, ◌*◌, ◌-◌, ◌%◌}
use mathlib.Core.Path.{◌≡◌, sym, ◌∙◌, ap}
use native.Mathlib.Decide.{dec_lt}
use native.Mathlib.Omega.{arith}
use borrow.Author.Tests.{eq-eqb, ne_eqb}
use Rattle.seq.specs.Seq.{Bool, true, false, cond, ℕ, suc, get_or}
use Rattle.paper.specs.Plane.{Pt, Vec}
use Rattle.paper.specs.Graph.{twin, goes_up, east_side}
use Rattle.paper.specs.Map.{Map}
use Rattle.laws_graph.specs.Halves.{twin_first, twin-second}
use Rattle.overlay_maps.specs.Label.{own_label, seen_label, label_by}

module _ (m : Map) (h k x : ℕ) where
  -- "on that side": h goes up, and it goes down
  pub own_up : h % 2 ≡ 0 → x ≡ twin (east_side m.graph k) → get_or m.labels x 0 ≡ own_label m h k
  own_up q e =
      ap (λ (y : ℕ). get_or m.labels y 0)
      (e ∙ sym (ap (λ (c : Bool). cond c (twin (east_side m.graph k)) (east_side m.graph k)) (eq-eqb (h % 2) 0 q)))

  pub own_down : (h % 2 ≡ 0 → ⊥) → x ≡ east_side m.graph k → get_or m.labels x 0 ≡ own_label m h k
  own_down q e =
      ap (λ (y : ℕ). get_or m.labels y 0)
      (e ∙ sym (ap (λ (c : Bool). cond c (twin (east_side m.graph k)) (east_side m.graph k)) (ne_eqb (h % 2) 0 q)))

-- the two half-edges of edge k, by whether the first goes up
module _ (m : Map) (h k x : ℕ) where
  east_is : (u : Bool) → goes_up m.graph (2 * k) ≡ u → east_side m.graph k ≡ cond u (2 * k + 1) (2 * k)
  east_is u e = ap (λ (c : Bool). cond c (2 * k + 1) (2 * k)) e

  -- the first goes up: along h lies that of h's parity
  pub own-rising : goes_up m.graph (2 * k) ≡ true → x ≡ 2 * k + h % 2 → get_or m.labels x 0 ≡ own_label m h k
  own-rising u e =
      elim (dec_lt 0 (h % 2)) [
        | yes q ↦ own_down m h k x (λ z. omega (arith, q, z)) (let w : x ≡ 2 * k + 1 = omega (arith, e, q) in w ∙ sym (east_is true u))
        | no q ↦ own_up m h k x (omega (arith, q)) (let w : x ≡ 2 * k = omega (arith, e, q) in w ∙ sym (ap twin (east_is true u) ∙ twin-second k))
      ]

  -- it goes down: along h lies the other
  pub own-falling : goes_up m.graph (2 * k) ≡ false → x ≡ 2 * k + (1 - h % 2) → get_or m.labels x 0 ≡ own_label m h k
  own-falling u e =
      elim (dec_lt 0 (h % 2)) [
        | yes q ↦ own_down m h k x (λ z. omega (arith, q, z)) (let w : x ≡ 2 * k = omega (arith, e, q) in w ∙ sym (east_is false u))
        | no q ↦ own_up m h k x (omega (arith, q)) (let w : x ≡ 2 * k + 1 = omega (arith, e, q) in w ∙ sym (ap twin (east_is false u) ∙ twin_first k))
      ]

-- by the stored source: none, and one
module _ (m : Map) (h : ℕ) (p : Pt) (d : Vec) where
  pub by_none : (s r : ℕ) → s ≡ 0 → r ≡ seen_label m p d → r ≡ label_by m h p d s
  by_none s r q e = e ∙ ap (label_by m h p d) (sym q)

  pub by_own : (s r : ℕ) → (s ≡ 0 → ⊥) → r ≡ own_label m h (s - 1) → r ≡ label_by m h p d s
  by_own s r q e = let w : s ≡ suc (s - 1) = omega arith in e ∙ ap (label_by m h p d) (sym w)
