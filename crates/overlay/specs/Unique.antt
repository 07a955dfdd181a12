-- All that comes out of the overlay is determined by its promise, of any number of maps: two answers with two sets of tables that keep it are one. So both ways to
-- collect the vertices give the same. Assumes nothing.
use Rattle.std.specs.Prelude.{◌≡◌, ◌∷◌}
use Rattle.std.proofs.Common.{ap}
use Rattle.seq.specs.Seq.{List, [], ℕ}
use Rattle.seq.specs.Unique.{determined}
use Rattle.paper.specs.Tables.{Tables}
use Rattle.paper.specs.Lent.{Lengths, Outcome}
use Rattle.paper.specs.Overlay.{lent}
use Rattle.tables.specs.Answers.{Answer}
use Rattle.tables.specs.Values.{outcome_of}
use Rattle.tables.specs.Promise.{Promised}
use Rattle.tables.specs.Unique.{answer-once}

pub overlay-unique : (l : Lengths) (files : List (List ℕ)) (r s : Answer) (t u : Tables) → Promised l files r t → Promised l files s u → (r ≡ s) × (t ≡ u)
overlay-unique l files r s t u e g =
    let d = determined (lent l) files (outcome_of r t) (outcome_of s u) e g in
    (answer-once r s (ap (λ (o : Outcome). o.answer) d), ap (λ (o : Outcome). o.tables) d)

-- "For all files both give the same answer and the same tables, refusals included" (02, Ask 10): what `overlay_by` gives the plain way, and what it gives by the sweep.
-- Its promise does not speak of the way
pub both_ways-agree : (l : Lengths) (zones blocks bed : List ℕ) (plain swept : Answer) (t u : Tables)
    → Promised l (zones ∷ blocks ∷ bed ∷ []) plain t → Promised l (zones ∷ blocks ∷ bed ∷ []) swept u → (plain ≡ swept) × (t ≡ u)
both_ways-agree l zones blocks bed = overlay-unique l (zones ∷ blocks ∷ bed ∷ [])
