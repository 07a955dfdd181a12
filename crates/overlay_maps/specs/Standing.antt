-- A map that stands in a part of each of the tables: its vertices in the rows v to w of the corners, its edges in the rows a to b of the carriers. Assumes nothing.
use Rattle.std.specs.Prelude.{◌≡◌, ◌≤◌, ◌*◌, ◌-◌}
use Rattle.std.proofs.Common.{arith, length-drop, length-take-le}
use Rattle.seq.specs.Seq.{List, ℕ, length, take, drop, ℤ}
use Rattle.paper.specs.Limits.{absent}
use Rattle.paper.specs.Map.{Map}
use Rattle.graph.specs.Flat.{Flat, flat_graph}
use Rattle.map_check.specs.Held.{flat_map}
use Rattle.overlay_maps.specs.Ended.{Ended}

-- the cells from i to j
abbrev pub cells : {A : Type 0} → List A → ℕ → ℕ → List A
cells t i j = take (j - i) (drop i t)

pub length-cells : {A : Type 0} (t : List A) (i j : ℕ) → j ≤ length t → length (cells t i j) ≡ j - i
length-cells t i j h = length-take-le (j - i) (drop i t) (omega (arith, length-drop i t))

abbrev pub standing : List ℤ → List ℕ → List ℤ → List ℕ → ℕ → ℕ → ℕ → ℕ → Map
standing ps os cs ls v w a b = flat_map (cells ps (4 * v) (4 * w)) (cells os (2 * a) (2 * b)) (cells cs (4 * a) (4 * b)) (cells ls (2 * a) (2 * b)) (w - v) (b - a)

-- the parts are there, and are the tables of a graph whose edges run from the lower end to the upper
pub record Stands (ps : List ℤ) (os : List ℕ) (cs : List ℤ) (ls : List ℕ) (v w a b : ℕ) : Type 0 where
  pub rising : v ≤ w
  pub climbing : a ≤ b
  pub points_in : 4 * w ≤ length ps
  pub origins_in : 2 * b ≤ length os
  pub carriers_in : 4 * b ≤ length cs
  pub labels_in : 2 * b ≤ length ls
  pub few : 2 * b ≤ absent
  pub flat : Flat (cells ps (4 * v) (4 * w)) (cells os (2 * a) (2 * b)) (cells cs (4 * a) (4 * b)) (w - v) (b - a)
  pub ended : Ended (flat_graph (cells ps (4 * v) (4 * w)) (cells os (2 * a) (2 * b)) (cells cs (4 * a) (4 * b)) (w - v) (b - a))
