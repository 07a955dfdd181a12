-- How large the numbers of corners, directions, points and edges are: document 01's limits, by their names. First the numbers, then a record for each kind of
-- value. Assumes nothing.
use Rattle.std.specs.Prelude.{ℕ, ◌*◌, ◌≤◌, ℤ, pos, negsuc, nat_abs, ◌+ℤ◌, ◌-ℤ◌, ◌<ℤ◌, ◌&&◌, ◌||◌}
use Rattle.std.specs.Int.Signed.{lt_z}
use Rattle.paper.specs.Limits.{reach, denominators}
use Rattle.paper.specs.Plane.{Vec, Pt, Seg, head, Sign, lex_s}
use Rattle.seq.specs.Seq.{Bool, Option, none, some}

-- X and Y lie within the reach times D either way
abbrev pub numerators : ℕ
numerators = reach * denominators

-- from one corner to another, in x or in y
abbrev pub span : ℕ
span = 2 * reach

-- how far to the left or right of an edge a point lies, as `the_left_by` counts
abbrev pub lefts : ℕ
lefts = 2 * (span * (2 * numerators))

-- coordinates from "−16,000 to 16,000"
pub record Corner (a : Vec) : Type 0 where
  pub x_is : nat_abs a.x ≤ reach
  pub y_is : nat_abs a.y ≤ reach

-- the direction from one corner to another
pub record Direction (u : Vec) : Type 0 where
  pub x_is : nat_abs u.x ≤ span
  pub y_is : nat_abs u.y ≤ span

-- a point of an edge between corners: "(X, Y, D) with D > 0"
pub record Near (p : Pt) : Type 0 where
  pub positive : pos 0 <ℤ p.D
  pub X-is : nat_abs p.X ≤ numerators
  pub Y-is : nat_abs p.Y ≤ numerators
  pub D-is : nat_abs p.D ≤ denominators

-- one of its coordinates: a number over the denominator
pub record Coordinate (n d : ℤ) : Type 0 where
  pub positive : pos 0 <ℤ d
  pub n_is : nat_abs n ≤ numerators
  pub d_is : nat_abs d ≤ denominators

-- so small, as those of every corner are, that a coordinate's products with any other fit 64 bits: D < 2^18, and the number within 2^32 either way
abbrev pub small : ℤ → ℤ → Bool
small n d = lt_z d (pos 262144) && (lt_z (negsuc 4294967295) n && lt_z n (pos 4294967296))

-- so small, as those of every sheet within 2,000 are, that its products with another such fit: D < 2^26, and the number within 2^36 either way
abbrev pub middling : ℤ → ℤ → Bool
middling n d = lt_z d (pos 67108864) && (lt_z (negsuc 68719476735) n && lt_z n (pos 68719476736))

-- the cross products of n/d and m/e fit
abbrev pub short_way : ℤ → ℤ → ℤ → ℤ → Bool
short_way n d m e = small m e || (middling n d && middling m e)

-- the order of two points by their numbers alone, which is theirs where they have one denominator
abbrev pub level : Pt → Pt → Sign
level p q = lex_s (p.Y -ℤ q.Y) (p.X -ℤ q.X)

-- an edge between corners
pub record Edge (s : Seg) : Type 0 where
  pub foot_is : Corner s.foot
  pub head_is : Corner (head s)
  pub up_is : Direction s.up

-- the edge in x alone, or in y: from a to a + u
pub record Span (a u : ℤ) : Type 0 where
  pub from_is : nat_abs a ≤ reach
  pub to_is : nat_abs (a +ℤ u) ≤ reach
  pub by_is : nat_abs u ≤ span

-- a parameter of a crossing: n over the denominator, which is positive
pub record Over (n d : ℤ) : Type 0 where
  pub positive : pos 0 <ℤ d
  pub n_is : nat_abs n ≤ denominators
  pub d_is : nat_abs d ≤ denominators

-- the point, where there is one, is near
abbrev pub NearIf : Option Pt → Type 0
NearIf none = Unit
NearIf (some p) = Near p
