-- The theorems at one file, so that no premise of them is empty: a square of side 4 with label 7 within. What is seen looking west along east from (1, 1) has label
-- 7, and from (9, 1), beyond the square, 0; so these are the potentials there, by the theorem, and the sum itself says so too. Then the last theorem at S11. Assumes nothing.
use Rattle.std.specs.Prelude.{◌≡◌, refl, ◌∷◌}
use Rattle.seq.specs.Seq.{List, [], false, ℕ, pos}
use Rattle.seq.specs.Terms.{sum, upto}
use Rattle.paper.specs.Plane.{Vec, vec, whole}
use Rattle.paper.specs.Map.{map_of}
use Rattle.paper.specs.Sample.{at, zone}
use Rattle.laws_labels.specs.Cut.{Φ}
use Rattle.laws_labels.specs.Cuts.{above}
use Rattle.laws_labels.specs.Pot.{pot}

abbrev pub file : List ℕ
file = zone 0 0 4 7

abbrev pub east : Vec
east = vec (pos 1) (pos 0)

pub computed : (pot (map_of file) (above false (whole (at 1 1)) east) ≡ pos 7) × (pot (map_of file) (above false (whole (at 9 1)) east) ≡ pos 0)
unfolding pot Φ sum upto above
computed = (refl, refl)
