-- `bonnetewe::sounded::bonnetewe_soundings_close` meets its contract. Assumes nothing.
use borrow.Author.Rules.{rules}
use lib.ListN.{length}
use Rattle.laws_soundings.specs.Run.{closed}
use Rattle.soundings_count.specs.Entries.{pair_width}
use Rattle.soundings.specs.Answer.{room_by}
use Rattle.soundings.specs.State.{run_of}
use Rattle.bonnetewe.specs.Sounded.{told-cells}
use Rattle.bonnetewe.proofs.sounded.bonnetewe_soundings_close.Goals as goal

pub returns : goal.returns
returns c =
    let a = c.args in
    told-cells
    (closed pair_width (room_by (length a.labels.now) (length a.counts.now)) (run_of a.count))
    c.close-answer.result
    c.close-answer.ensures
    c.read_of.ensures
    c.lay_read.ensures
    c.of_counted.ensures
