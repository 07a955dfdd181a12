-- `overlay_cut::collecting::is_at` meets its contract: three numbers, one after the other. Assumes nothing.
use mathlib.Core.Path.{◌≡◌, sym, ◌∙◌, ap}
use Rattle.std.proofs.Common.{ne_eqb}
use mathlib.Core.List.{List}
use Prim.Native.Nat.{ℕ, ◌*◌}
use native.Mathlib.Nat.{add-zero}
use lib.Dec.{eqb}
use lib.ListN.{get_or}
use lib.IntN.{ℤ, pos}
use mir.Syntax.{w64}
use mir.Val.{of_z}
use Rattle.exact.specs.Mach.{eq_z}
use Rattle.paper.specs.Limits.{denominators}
use Rattle.paper.specs.Plane.{Pt}
use Rattle.plane.specs.Bounds.{Near, numerators}
use Rattle.plane.specs.Values.{pt_of}
use Rattle.graph.specs.Flat.{number_at, the_point_at}
use Rattle.overlay_cut.specs.Points.{equal_first, equal-second, equal-third}
use Rattle.overlay_cut.proofs.Bits.{Small, bits_yes, bits_no, bits-test}
use Rattle.overlay_cut.proofs.collecting.is_at.Goals as goal
use Rattle.overlay_cut.proofs.collecting.is_at.Goals.{Start, Then-p-points, Then-p-points-2}

-- the first number of a row
abbrev first : List ℤ → ℕ → ℤ
first t k = get_or t (4 * k) (pos 0)

first_is : (t : List ℤ) (k : ℕ) → first t k ≡ number_at t k 0
first_is t k = ap (λ (i : ℕ). get_or t i (pos 0)) (sym (add-zero (4 * k)))

-- what the tests of a row say of the point p
module _ (p : Pt) (h : Near p) (t : List ℤ) (k : ℕ) where
  x-yes : Small (first t k) → of_z w64 p.X ≡ of_z w64 (first t k) → p.X ≡ number_at t k 0
  x-yes g e = bits_yes p.X (first t k) numerators h.X-is tt g e ∙ first_is t k

  x-no : Small (first t k) → (of_z w64 p.X ≡ of_z w64 (first t k) → ⊥) → p.X ≡ number_at t k 0 → ⊥
  x-no g e f = bits_no p.X (first t k) numerators h.X-is tt g e (f ∙ sym (first_is t k))

  y-yes : Small (number_at t k 1) → of_z w64 p.Y ≡ of_z w64 (number_at t k 1) → p.Y ≡ number_at t k 1
  y-yes g e = bits_yes p.Y (number_at t k 1) numerators h.Y-is tt g e

  y-no : Small (number_at t k 1) → (of_z w64 p.Y ≡ of_z w64 (number_at t k 1) → ⊥) → p.Y ≡ number_at t k 1 → ⊥
  y-no g e = bits_no p.Y (number_at t k 1) numerators h.Y-is tt g e

  d-test : Small (number_at t k 2) → eqb (of_z w64 p.D) (of_z w64 (number_at t k 2)) ≡ eq_z p.D (number_at t k 2)
  d-test g = bits-test p.D (number_at t k 2) denominators h.D-is tt g

pub returns-then-p-points-2 : goal.returns-then-p-points-2
returns-then-p-points-2 c =
    let p = pt_of c.args.p in
    let t = c.args.points.now in
    let k = c.args.k in
    d-test p c.requires.fact_2 t k c.result-1.given
    ∙ equal-third p (the_point_at t k) (x-yes p c.requires.fact_2 t k c.t8-1.given c.if-p-points.true) (y-yes p c.requires.fact_2 t k c.t13-1.given c.if-p-points-2.true)

pub returns-else-p-points-2 : goal.returns-else-p-points-2
returns-else-p-points-2 c =
    let p = pt_of c.args.p in
    let t = c.args.points.now in
    let k = c.args.k in
    ne_eqb _ _ c.if-p-points-2.false ∙ equal-second p (the_point_at t k) (x-yes p c.requires.fact_2 t k c.t8-1.given c.if-p-points.true) (y-no p c.requires.fact_2 t k c.t13-1.given c.if-p-points-2.false)

pub returns-else-p-points : goal.returns-else-p-points
returns-else-p-points c =
    let p = pt_of c.args.p in
    let t = c.args.points.now in
    let k = c.args.k in
    ne_eqb _ _ c.if-p-points.false ∙ equal_first p (the_point_at t k) (x-no p c.requires.fact_2 t k c.t8-1.given c.if-p-points.false)
