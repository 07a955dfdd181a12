-- `soundings::closing::close` meets its contract. Assumes nothing.
use mathlib.Core.Path.{◌≡◌, ◌∙◌}
use native.Mathlib.Omega.{arith}
use lib.ListN.{length}
use Rattle.map_file.specs.Verdict.{verdict}
use Rattle.soundings.specs.Answer.{room_by}
use Rattle.soundings.specs.Closing.{closed_is}
use borrow.Author.Rules.{rules}
use Rattle.soundings.proofs.closing.close.Goals as goal
use Rattle.soundings.proofs.closing.close.Goals.{Start}

four : (s : Start) → length s.args.count.bytes ≡ 4
four s = search rules

pub returns : goal.returns
returns c =
    let a = c.args in
    let x = a.count in
    let r = c.entry_room-room in
    let s = c.sound-fit in
    let f = c.fault-c in
    c.answer.ensures
    ∙ closed_is (room_by (length a.labels.now) (length a.counts.now)) x.rails x.easts x.edges x.rails2 x.easts2 x.edges2 x.bytes x.labels x.counts x.progress (omega (arith, four (goal.at.returns c).Start)) r.result s.result (verdict f.result) r.ensures s.ensures f.ensures
