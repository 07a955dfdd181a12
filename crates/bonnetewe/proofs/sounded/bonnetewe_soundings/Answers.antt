-- `bonnetewe::sounded::bonnetewe_soundings` meets its contract. Assumes nothing.
use borrow.Author.Rules.{rules}
use mathlib.Core.List.{[], ◌∷◌}
use lib.ListN.{length}
use Rattle.paper.specs.Soundings.{soundings}
use Rattle.soundings.specs.Answer.{room_by}
use Rattle.bonnetewe.specs.Sounded.{told-cells}
use Rattle.bonnetewe.proofs.sounded.bonnetewe_soundings.Goals as goal

pub returns : goal.returns
returns c =
    let a = c.args in
    told-cells
    (soundings (room_by (length a.labels.now) (length a.counts.now)) (a.zones.now ∷ a.blocks.now ∷ []) a.list.now)
    c.soundings-answer.result
    c.soundings-answer.ensures
    c.read_of.ensures
    c.lay_read.ensures
    c.of_counted.ensures
