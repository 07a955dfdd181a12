-- `bonnetewe::met::point_cell` meets its contract. Assumes nothing.
use mathlib.Core.Path.{◌≡◌, refl, sym, ◌∙◌, ap}
use mir.Syntax.{w64}
use mir.ValLaws.{to_z-of_z}
use borrow.Author.Rules.{rules}
use Rattle.seq.specs.Seq.{ℕ, zero, suc, pos}
use Rattle.paper.specs.Plane.{Pt}
use Rattle.plane.specs.Values.{pt_of}
use Rattle.bonnetewe.specs.Met.{point_cell}
use Rattle.bonnetewe.proofs.met.point_cell.Goals as goal

-- past the third cell
past : (p : Pt) (i : ℕ) → (i ≡ 0 → ⊥) → (i ≡ 1 → ⊥) → (i ≡ 2 → ⊥) → pos 0 ≡ point_cell p i
past p zero a b c = absurd (a refl)
past p (suc zero) a b c = absurd (b refl)
past p (suc (suc zero)) a b c = absurd (c refl)
past p (suc (suc (suc n))) a b c = refl

pub returns-then-i-eq0 : goal.returns-then-i-eq0
returns-then-i-eq0 c = to_z-of_z w64 c.args.p.x (search rules) ∙ sym (ap (λ (j : ℕ). point_cell (pt_of c.args.p) j) c.if-i-eq0.true)

pub returns-then-i-eq1 : goal.returns-then-i-eq1
returns-then-i-eq1 c = to_z-of_z w64 c.args.p.y (search rules) ∙ sym (ap (λ (j : ℕ). point_cell (pt_of c.args.p) j) c.if-i-eq1.true)

pub returns-then-i-eq2 : goal.returns-then-i-eq2
returns-then-i-eq2 c =
    to_z-of_z w64 c.args.p.d (search rules) ∙ sym (ap (λ (j : ℕ). point_cell (pt_of c.args.p) j) c.if-i-eq2.true)

pub returns : goal.returns
returns c = let a = c.args in past (pt_of a.p) a.i c.if-i-eq0.false c.if-i-eq1.false c.if-i-eq2.false
