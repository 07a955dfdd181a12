-- `soundings::soundings` meets its contract: the whole list is one batch. Assumes nothing.
use mathlib.Core.Path.{◌∙◌, ap}
use mathlib.Core.List.{[], ◌∷◌, append-nil}
use lib.ListN.{length}
use Rattle.paper.specs.Soundings.{soundings}
use Rattle.laws_soundings.specs.Run.{Run, next}
use Rattle.soundings.specs.Answer.{room_by}
use Rattle.soundings.specs.Unique.{run-answer}
use Rattle.soundings.proofs.soundings.Goals as goal

pub returns : goal.returns
returns c =
    let a = c.args in
    let l = room_by (length a.labels.now) (length a.counts.now) in
    let s = a.list.now in
    let x = c.add-count in
    let y = c.close in
    run-answer l a.zones.now a.blocks.now (s ∷ []) x.result y.result y.new.labels y.new.counts (x.ensures ∙ ap (λ (r : Run). next r s) c.begin-start.ensures) y.ensures
    ∙ ap (soundings l (a.zones.now ∷ a.blocks.now ∷ [])) (append-nil s)

pub shape_of-labels : goal.shape_of-labels
shape_of-labels c = c.close.auto.labels

pub shape_of-counts : goal.shape_of-counts
shape_of-counts c = c.close.auto.counts
