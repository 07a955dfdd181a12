-- All that comes out of the reader is determined by its promise: two answers with two sets of tables that keep it are one. Assumes nothing.
use Rattle.std.specs.Prelude.{◌≡◌}
use Rattle.std.proofs.Common.{ap}
use Rattle.seq.specs.Seq.{List, ℕ}
use Rattle.seq.specs.Unique.{determined}
use Rattle.paper.specs.Tables.{Tables}
use Rattle.paper.specs.Lent.{Lengths, Outcome}
use Rattle.paper.specs.Reader.{read}
use Rattle.tables.specs.Answers.{Answer}
use Rattle.tables.specs.Values.{outcome_of}
use Rattle.tables.specs.Unique.{answer-once}

pub read-unique : (ls : Lengths) (s : List ℕ) (a b : Answer) (t u : Tables) → outcome_of a t ≡ read ls s → outcome_of b u ≡ read ls s → (a ≡ b) × (t ≡ u)
read-unique ls s a b t u e g =
    let d = determined (read ls) s (outcome_of a t) (outcome_of b u) e g in
    (answer-once a b (ap (λ (o : Outcome). o.answer) d), ap (λ (o : Outcome). o.tables) d)
