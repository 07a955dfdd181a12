-- Of Example of specs/, what rests on its definitions.
use Rattle.std.specs.Prelude.{◌≡◌, refl, ◌∷◌}
use Rattle.exact.specs.Exact.{gcd_of}
use Rattle.seq.specs.Seq.{List, [], false, none, ℕ, pos}
use Rattle.paper.specs.Limits.{maps}
use Rattle.paper.specs.Plane.{whole}
use Rattle.paper.specs.Map.{fault, map_of}
use Rattle.paper.specs.Sample.{at, empty_file, zone}
use Rattle.paper.specs.Tables.{Counts}
use Rattle.paper.specs.Faces.{overlay_of}
use Rattle.paper.specs.Refusal.{done}
use Rattle.paper.specs.Sheets.{ample, run}
use Rattle.laws_plane.specs.Ends.{0<1}
use Rattle.laws_labels.specs.Cuts.{above}
use Rattle.laws_labels.specs.Pot.{pot}
use Rattle.laws_labels.proofs.Files.{file-seen}
use Rattle.laws_labels.specs.Demand3.{Agrees, triple_of}
use Rattle.laws_labels.proofs.Demand3.{labels-agree}
use Rattle.laws_labels.specs.Example.{file, east}

passes : fault file ≡ none
unfolding fault
passes = refl

pub within : pos 7 ≡ pot (map_of file) (above false (whole (at 1 1)) east)
within = file-seen file passes (whole (at 1 1)) 0<1 east refl

pub beyond : pos 0 ≡ pot (map_of file) (above false (whole (at 9 1)) east)
beyond = file-seen file passes (whole (at 9 1)) 0<1 east refl

-- ── S11, the inner square inside the outer ──

abbrev outer : List ℕ
outer = zone 0 0 10 1

abbrev inner : List ℕ
inner = zone 4 4 2 7

abbrev counts : Counts
counts = record { vertices = 8; edges = 8; faces = 3 }

is_done : (run outer inner).answer ≡ done counts
unfolding gcd_of fault overlay_of
is_done = refl

pub s11-agrees : Agrees maps counts (run outer inner).tables (triple_of outer inner empty_file)
s11-agrees = labels-agree (ample maps) (outer ∷ inner ∷ empty_file ∷ []) counts is_done
