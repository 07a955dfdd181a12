-- All that comes out of melting is determined by its promise, of any number of maps: two answers with two sets of tables that keep it are one. Assumes nothing.
use Rattle.std.specs.Prelude.{◌≡◌}
use Rattle.std.proofs.Common.{ap}
use Rattle.seq.specs.Seq.{List, ℕ}
use Rattle.seq.specs.Unique.{determined}
use Rattle.paper.specs.Tables.{Tables}
use Rattle.paper.specs.Lent.{Lengths, Outcome}
use Rattle.paper.specs.Melt.{lent_melted}
use Rattle.tables.specs.Answers.{Answer}
use Rattle.tables.specs.Values.{outcome_of}
use Rattle.tables.specs.Promise.{PromisedMelted}
use Rattle.tables.specs.Unique.{answer-once}

pub melt-unique : (l : Lengths) (files : List (List ℕ)) (r s : Answer) (t u : Tables) → PromisedMelted l files r t → PromisedMelted l files s u → (r ≡ s) × (t ≡ u)
melt-unique l files r s t u e g =
    let d = determined (lent_melted l) files (outcome_of r t) (outcome_of s u) e g in
    (answer-once r s (ap (λ (o : Outcome). o.answer) d), ap (λ (o : Outcome). o.tables) d)
