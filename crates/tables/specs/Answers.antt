-- What an operation on lent tables answers: the three counts, or a refusal. Assumes nothing.
use Rattle.std.specs.Prelude.{Result}
use Rattle.map_file.specs.declared.refusal.Refusal.{Refusal}
use Rattle.tables.specs.declared.room.Counts.{Counts}

abbrev pub Answer : Type 0
Answer = Result Counts Refusal
