-- Every answer that melting can give is sound, for its refusals are the overlay's and the melted tables fit wherever the overlay's do; so one number that bonnetewe_melt answers is one answer
-- (`melt-means`). Assumes nothing.
use Rattle.std.specs.Prelude.{◌≡◌, ◌∷◌, ◌++◌}
use Rattle.std.proofs.Common.{sym, ◌∙◌, ap, arith}
use Rattle.seq.specs.Seq.{List, [], none, ℕ, length}
use Rattle.paper.specs.Refusal.{first_of, answer}
use Rattle.paper.specs.Faces.{overlay_of}
use Rattle.paper.specs.Tables.{Counts, Tables, counts_of}
use Rattle.paper.specs.Lent.{Lengths, room_in, room_faults}
use Rattle.paper.specs.Overlay.{map_faults}
use Rattle.paper.specs.Melt.{melted_of, melt}
use Rattle.laws_overlay.specs.Files.{maps_of}
use Rattle.laws_melt.specs.Whole.{melt-done}
use Rattle.bonnetewe.specs.Told.{Told}
use Rattle.bonnetewe.specs.Laws.Means.{Sound, CountsFit, told-means}
use Rattle.bonnetewe.specs.Laws.Sound.{sound_by, laid_fits}

module _ (l : Lengths) (files : List (List ℕ)) where
  abbrev laid : Counts
  laid = counts_of (overlay_of (maps_of files))

  -- "11 included, which is judged on the overlay before melting": what is left has room where the overlay has
  left_fits : first_of (map_faults files ++ room_faults (room_in (length files) l) laid) ≡ none → CountsFit (counts_of (melted_of (maps_of files)))
  left_fits e = let F = (melt-done l files laid (ap (answer laid) e)).1 in (omega (arith, F.vertices), omega (arith, F.edges), omega (arith, F.faces))

pub melt-sound : (l : Lengths) (a b c : List ℕ) → Sound CountsFit (melt l a b c).answer
melt-sound l a b c =
    let files = a ∷ b ∷ c ∷ [] in
    sound_by CountsFit (counts_of (melted_of (maps_of files))) (first_of (map_faults files ++ room_faults (room_in (length files) l) (laid l files))) (laid_fits l a b c) (left_fits l files)

-- of bonnetewe_melt: whatever the files, the lent tables' lengths and what is in them
pub melt-means : (l k : Lengths) (a b c x y z : List ℕ) {t u : Tables} {r : ℕ} → Told (melt l a b c) t r → Told (melt k x y z) u r → (melt l a b c).answer ≡ (melt k x y z).answer
melt-means l k a b c x y z p q = told-means _ _ (melt-sound l a b c) (melt-sound k x y z) (sym p.answer ∙ q.answer)
