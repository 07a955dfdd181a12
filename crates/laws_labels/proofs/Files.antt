-- Of Files of specs/, what rests on its definitions.
use Rattle.std.specs.Prelude.{◌≡◌, ◌<◌, ◌≤ℤ◌, ◌<ℤ◌, ◌/◌}
use Rattle.std.specs.Int.Signed.{≤ℤ_refl}
use Rattle.seq.specs.Seq.{List, true, false, none, ℕ, pos, or_zero}
use Rattle.paper.specs.Plane.{Pt, Vec, nowhere, rises}
use Rattle.paper.specs.Graph.{Graph, the_half_count, start, goes_up, upward, west}
use Rattle.paper.specs.Map.{Map, label, fault, map_of}
use Rattle.laws_map.proofs.Files.{passes-keeps}
use Rattle.laws_labels.specs.Lawful.{keeps-lawful}
use Rattle.laws_labels.specs.Cuts.{above, at_left}
use Rattle.laws_labels.specs.Pot.{pot}
use Rattle.laws_labels.proofs.Labels.{theorem_A, theorem_B}
use Rattle.laws_labels.specs.Files.{rises-level}

module _ (s : List ℕ) (ok : fault s ≡ none) where
  abbrev m : Map
  m = map_of s

  abbrev g : Graph
  g = m.graph

  pub file-label : (h : ℕ) → h < the_half_count g → pos (label m h) ≡ pot m (at_left (start g h) (goes_up g h) (upward g (h / 2)))
  file-label = theorem_A m (keeps-lawful m (passes-keeps s ok))

  pub file-seen : (p : Pt) → pos 0 <ℤ p.D → (d : Vec) → rises d ≡ true → pos (or_zero (label m) (west g p d)) ≡ pot m (above false p d)
  file-seen p hp d e = theorem_B m (keeps-lawful m (passes-keeps s ok)) p hp d (rises-level d e)

  pub file-seen-west : (p : Pt) → pos 0 <ℤ p.D → pos (or_zero (label m) (west g p nowhere)) ≡ pot m (above false p nowhere)
  file-seen-west p hp = theorem_B m (keeps-lawful m (passes-keeps s ok)) p hp nowhere (≤ℤ_refl (pos 0))
