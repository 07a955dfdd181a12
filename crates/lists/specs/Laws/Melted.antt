-- What is melted has no more faces than an overlay may have: room is judged on the overlay, and the melted tables fit wherever the overlay's do. Assumes nothing.
use Rattle.std.specs.Prelude.{◌≡◌, refl, ◌∷◌, ◌++◌}
use Rattle.std.proofs.Common.{ap, arith}
use Rattle.seq.specs.Seq.{List, [], Option, none, some, ℕ, length}
use Rattle.paper.specs.Refusal.{Refusal, first_of, answer}
use Rattle.paper.specs.Map.{Map}
use Rattle.paper.specs.Faces.{overlay_of}
use Rattle.paper.specs.Tables.{Counts, counts_of}
use Rattle.paper.specs.Lent.{Lengths, room_in, room_faults}
use Rattle.paper.specs.Overlay.{map_faults}
use Rattle.paper.specs.Melt.{melted_of, melt}
use Rattle.laws_overlay.specs.Files.{maps_of}
use Rattle.laws_melt.specs.Whole.{melt-done}
use Rattle.lists.specs.Listed.{Roomy}

module _ (l : Lengths) (files : List (List ℕ)) where
  abbrev ms : List Map
  ms = maps_of files

  abbrev laid : Counts
  laid = counts_of (overlay_of ms)

  abbrev chain : List (Option Refusal)
  chain = map_faults files ++ room_faults (room_in (length files) l) laid

  roomy_by : (f : Option Refusal) → first_of chain ≡ f → Roomy (answer (counts_of (melted_of ms)) f)
  roomy_by none e = let F = (melt-done l files laid (ap (answer laid) e)).1 in omega (arith, F.faces)
  roomy_by (some r) e = tt

pub melt-roomy : (l : Lengths) (a b c : List ℕ) → Roomy (melt l a b c).answer
melt-roomy l a b c = let files = a ∷ b ∷ c ∷ [] in roomy_by l files (first_of (chain l files)) refl
