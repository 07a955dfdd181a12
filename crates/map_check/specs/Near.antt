-- The pass of rule 8 by boxes: from which x to which the edge in a cell reaches (`Boxes`), and a list of those cells after an edge's own whose edges may clash with it (`Picked`). Assumes nothing.
use Rattle.std.specs.Prelude.{◌≡◌, ◌⊎◌, ◌≤◌, ◌<◌, ◌||◌, ◌+ℤ◌}
use Rattle.std.specs.Int.Signed.{lt_z}
use Rattle.seq.specs.Seq.{Bool, false, cond, List, ℕ, ltb, length, get_or, ℤ, pos, nat_abs}
use Rattle.paper.specs.Limits.{reach}
use Rattle.paper.specs.Plane.{Seg, head, clash}
use Rattle.graph.specs.Flat.{carrier_at}
use Rattle.keys.specs.Cells.{the_edge_in}

-- the least and the greatest x of an edge's ends
abbrev pub west_of : Seg → ℤ
west_of s = cond (lt_z s.up.x (pos 0)) (head s).x s.foot.x

abbrev pub east_of : Seg → ℤ
east_of s = cond (lt_z s.up.x (pos 0)) s.foot.x (head s).x

-- how far x is from the west of the reach
abbrev pub from_west : ℤ → ℕ
from_west x = nat_abs (x +ℤ pos reach)

-- the box from w to e lies beside that from v to f
abbrev pub beside_of : ℕ → ℕ → ℕ → ℕ → Bool
beside_of w e v f = ltb e v || ltb f w

-- the edge in cell i
abbrev pub carrier_in : List ℤ → List ℕ → ℕ → Seg
carrier_in cs ds i = carrier_at cs (the_edge_in ds i)

-- the boxes of the edges in e cells
pub record Boxes (cs : List ℤ) (ds : List ℕ) (ws es : List ℕ) (e : ℕ) : Type 0 where
  pub long_wests : e ≤ length ws
  pub long_easts : e ≤ length es
  pub west_is : (i : ℕ) → i < e → get_or ws i 0 ≡ from_west (west_of (carrier_in cs ds i))
  pub east_is : (i : ℕ) → i < e → get_or es i 0 ≡ from_west (east_of (carrier_in cs ds i))

-- k is one of the first c numbers in a list
abbrev pub Listed : List ℕ → ℕ → ℕ → Type 0
Listed ns c k = (q : ℕ) × (q < c) × (get_or ns q 0 ≡ k)

-- the first c numbers of ns are cells, and each cell from i to j is one of them, or its edge does not clash with that in cell i
pub record Picked (cs : List ℤ) (ds : List ℕ) (e i j : ℕ) (ns : List ℕ) (c : ℕ) : Type 0 where
  pub few : c < j
  pub named : (q : ℕ) → q < c → get_or ns q 0 < e
  pub rest : (k : ℕ) → i < k → k < j → (clash (carrier_in cs ds i) (carrier_in cs ds k) ≡ false) ⊎ Listed ns c k
