-- `bonnetewe::sounded::read_cell` meets its contract. Assumes nothing.
use mathlib.Core.Path.{◌≡◌, refl, sym, ap}
use Rattle.seq.specs.Seq.{ℕ, zero, suc}
use Rattle.bonnetewe.specs.Sounded.{read_cell}
use Rattle.bonnetewe.proofs.sounded.read_cell.Goals as goal

-- past the first cell
past : (n i : ℕ) → (i ≡ 0 → ⊥) → 0 ≡ read_cell n i
past n zero a = absurd (a refl)
past n (suc i) a = refl

pub returns-then-i-eq0 : goal.returns-then-i-eq0
returns-then-i-eq0 c = sym (ap (λ (j : ℕ). read_cell c.args.n j) c.if-i-eq0.true)

pub returns : goal.returns
returns c = past c.args.n c.args.i c.if-i-eq0.false
