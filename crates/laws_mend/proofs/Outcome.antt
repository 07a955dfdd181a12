-- Of Outcome of specs/, what rests on its definitions.
use Rattle.std.specs.Prelude.{◌≡◌, ◌⊎◌, ◌≤◌, ◌∷◌, ◌+◌, ◌-◌, ◌++◌}
use Rattle.std.proofs.Common.{◌∙◌}
use Rattle.seq.specs.Seq.{List, [], none, some, ℕ, take}
use Rattle.paper.specs.Refusal.{Refusal, done, answer}
use Rattle.paper.specs.Map.{map_of, fault}
use Rattle.laws_file.specs.Bytes.{Bytes}
use Rattle.paper.specs.Mend.{entries, mend}
use Rattle.laws_mend.specs.Clean.{clean-refusal}
use Rattle.laws_mend.specs.Mends.{Mends, mends}
use Rattle.laws_mend.specs.Outcome.{done-mended, done-mendable, done-clean}

-- ── what is done ──

-- done, with a bytes and b entries
module _ (n l : ℕ) (s : List ℕ) (B : Bytes s) (a b : ℕ) (d : (mend n l s).answer ≡ done (a, b)) where
  -- what is kept and what is listed
  pub done-mends : Mends s (take a (mend n l s).file) (entries (map_of s).graph)
  done-mends = rw (done-mended n l s B a b d) (mends s (done-mendable n l s B a b d) B)

  -- "a mended file is never refused with 6, 7 or 9", nor with 1 to 5
  pub done-refusal : (fault (take a (mend n l s).file) ≡ none) ⊎ ((x : Refusal) × (fault (take a (mend n l s).file) ≡ some x) × ((x.number ≡ 8) ⊎ (x.number ≡ 10)))
  done-refusal = clean-refusal (take a (mend n l s).file) (done-clean n l s B a b d)
