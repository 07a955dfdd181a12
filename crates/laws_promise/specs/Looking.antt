-- Looking west in 01's words, with no algorithm: which edges go past a height (`Passes`), which of them count (`Candidate`), which of them is seen (`Nearest`), what is answered (`Looks`). An edge is compared by its point at the height of the point that is
-- looked from. That there is one answer and no second, and that it is the definition's: Looks. Assumes nothing.
use Rattle.std.specs.Prelude.{◌≡◌, ◌⊎◌, ◌<◌, ◌<ℤ◌, ◌*ℤ◌}
use Rattle.seq.specs.Seq.{true, false, Option, none, some, ℕ, pos}
use Rattle.paper.specs.Plane.{Pt, Vec, before, same, below, less_angle}
use Rattle.paper.specs.Graph.{Graph, edge_count, low, high, upward, left_of, east_side}

-- edge k goes past the height of p, where it has the point q
pub record Passes (g : Graph) (p : Pt) (k : ℕ) (q : Pt) : Type 0 where
  pub is_edge : k < edge_count g
  -- "lower y ≤ y of p < upper y"
  pub low_end : below p (low g k) ≡ false
  pub high_end : below p (high g k) ≡ true
  -- q is a point, at the height of p, on the line of the edge: so between its ends
  pub real : pos 0 <ℤ q.D
  pub level : q.Y *ℤ p.D ≡ p.Y *ℤ q.D
  pub on_line : left_of g q k ≡ pos 0

-- a look from p along d counts edge k: at the height of p, in the point q, it is to "lie west of p, or go through or start at p with an upward direction of greater angle than" d
pub record Candidate (g : Graph) (p : Pt) (d : Vec) (k : ℕ) (q : Pt) : Type 0 where
  pub passes : Passes g p k q
  pub west : (before q p ≡ true) ⊎ ((same q p ≡ true) × (less_angle d (upward g k) ≡ true))

-- "the greatest x at that height; among equals, the smallest upward angle"
pub record Nearest (g : Graph) (p : Pt) (d : Vec) (k : ℕ) : Type 0 where
  pub point : Pt
  pub counts : Candidate g p d k point
  pub beats : (r : ℕ) (q : Pt) → Candidate g p d r q → (r ≡ k → ⊥) → (before q point ≡ true) ⊎ ((same q point ≡ true) × (less_angle (upward g k) (upward g r) ≡ true))

-- "the half-edge on its east side"; the outside, where no edge counts
abbrev pub Looks : Graph → Pt → Vec → Option ℕ → Type 0
Looks g p d none = (k : ℕ) (q : Pt) → Candidate g p d k q → ⊥
Looks g p d (some h) = (k : ℕ) × Nearest g p d k × (east_side g k ≡ h)
