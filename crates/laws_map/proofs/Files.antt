-- Of Files of specs/, what rests on its definitions.
use Rattle.std.specs.Prelude.{◌≡◌}
use Rattle.std.proofs.Common.{◌∙◌}
use Rattle.seq.specs.Seq.{List, none, ℕ}
use Rattle.paper.specs.Map.{fault, map_of}
use Rattle.laws_map.specs.Keeps.{Keeps}
use Rattle.laws_map.specs.Passes.{passes-rules}
use Rattle.laws_map.specs.Files.{rules-keep, file-corners}

pub passes-keeps : (s : List ℕ) → fault s ≡ none → Keeps (map_of s)
passes-keeps s e = rules-keep (map_of s) (file-corners s (passes-rules s e)) (passes-rules s e)
