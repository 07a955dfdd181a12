-- The labels of a sounding by value, and the two maps that it is looked up in. Assumes nothing.
use Rattle.std.specs.Prelude.{◌∷◌}
use Rattle.seq.specs.Seq.{List, [], ℕ}
use Rattle.paper.specs.Map.{Map, map_of}
use Rattle.soundings.specs.declared.sounding.Labels.{Labels}

abbrev pub labels_of : Labels → List ℕ
labels_of c = c.first ∷ c.second ∷ []

abbrev pub both_maps : List ℕ → List ℕ → List Map
both_maps a b = map_of a ∷ map_of b ∷ []
