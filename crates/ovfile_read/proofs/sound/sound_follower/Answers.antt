-- `ovfile_read::sound::sound_follower` meets its contract. Assumes nothing.
use Rattle.std.specs.Prelude.{◌&&◌, ◌*◌}
use mathlib.Core.Path.{ap, ◌∙◌}
use lib.ListN.{set}
use Rattle.seq.specs.Seq.{ℕ, ltb, eqb, get_or}
use Rattle.paper.specs.Reader.{stored_origin}
use Rattle.ovfile.specs.Values.{layout_from}
use Rattle.ovfile_read.proofs.SoundLaws.{taken_turns, follower_by}
use Rattle.ovfile_read.proofs.sound.sound_follower.Goals as goal

pub returns : goal.returns
returns c =
    let a = c.args in
    let l = layout_from a.stored.now.layout in
    let s = a.stored.now.file.now in
    let taken = a.taken.now in
    let follower = c.follower-f.ensures in
    let fresh = c.at_or-fresh.ensures ∙ ap (λ (f : ℕ). get_or taken f 0) follower in
    let starts = c.origin-starts.ensures ∙ ap (stored_origin l s) follower in (
      (λ i. ltb (follower i) (2 * (c.args.stored.now.edges_counted i)) && (eqb (starts i) (c.requires.1 i) && eqb (fresh i) 0)) ∙ follower_by l s a.h taken c.requires.0 c.requires.2,
      taken_turns c.requires.2 (c.store.ensures ∙ ap (λ (f : ℕ). set taken f 1) follower),
    )
