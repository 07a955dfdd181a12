-- `ovfile_read::sound::unsound_of` meets its contract. Assumes nothing.
use Rattle.std.specs.Prelude.{◌*◌}
use Rattle.paper.specs.Reader.{counts_in, stored_follower}
use Rattle.ovfile.specs.Values.{layout_from}
use Rattle.ovfile_read.proofs.SoundLaws.{taken_starts}
use Rattle.ovfile_read.proofs.sound.unsound_of.Goals as goal

pub unsound_by-requires : goal.unsound_by-requires
unsound_by-requires g c =
    let s = c.args.stored.now in
    taken_starts (stored_follower (layout_from s.layout) s.file.now) (2 * (counts_in s.file.now).edges) g.row.N c.requires.0
