-- Of Maps of specs/, what rests on its definitions.
use Rattle.std.specs.Prelude.{◌≡◌, ◌⊎◌, ◌<◌, ◌≤◌, ◌<ℤ◌}
use Rattle.std.proofs.Common.{◌∙◌, take_all}
use Rattle.seq.specs.Seq.{List, ℕ, length, take}
use Rattle.paper.specs.Map.{Map}
use Rattle.paper.specs.Pieces.{vertices_of}
use Rattle.laws_overlay.specs.Maps.{AllKeep}
use Rattle.laws_sweep.specs.Sweep.{strands_of, corners_of, swept}
use Rattle.laws_sweep.proofs.Stops.{stops-swept}
use Rattle.laws_sweep.specs.Maps.{maps-scene}

module _ (ms : List Map) (K : AllKeep ms) where
  -- ── where edges meet ──

  -- the first n vertices
  pub swept_first : (n : ℕ) → swept n ms ≡ take n (vertices_of ms)
  swept_first n = stops-swept (strands_of ms) (corners_of ms) (vertices_of ms) (maps-scene ms K) n

  -- with steps enough, all of them
  pub swept-vertices : (n : ℕ) → length (vertices_of ms) ≤ n → swept n ms ≡ vertices_of ms
  swept-vertices n l = swept_first n ∙ take_all n (vertices_of ms) l
