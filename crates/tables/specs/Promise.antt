-- The promises of the overlay and of melting, once: the contracts of the operations (crates/overlay/src/lib.rt, crates/melt/src/lib.rt) and the theorems about them (laws_promise, laws_melted) cite these
-- definitions. Assumes nothing.
use Rattle.std.specs.Prelude.{◌≡◌}
use Rattle.seq.specs.Seq.{List, ℕ}
use Rattle.paper.specs.Tables.{Tables}
use Rattle.paper.specs.Lent.{Lengths}
use Rattle.paper.specs.Overlay.{lent}
use Rattle.paper.specs.Melt.{lent_melted}
use Rattle.tables.specs.Answers.{Answer}
use Rattle.tables.specs.Values.{outcome_of}

-- of a list of map files, in lent tables of the lengths l: the answer r and the tables t that come out are those of the definition, every cell
abbrev pub Promised : Lengths → List (List ℕ) → Answer → Tables → Type 0
Promised l files r t = outcome_of r t ≡ lent l files

-- the same of cells melted together (02, Ask 12)
abbrev pub PromisedMelted : Lengths → List (List ℕ) → Answer → Tables → Type 0
PromisedMelted l files r t = outcome_of r t ≡ lent_melted l files
