-- `ovfile_read::sound::unsound_by` meets its contract. Assumes nothing.
use Rattle.std.specs.Prelude.{◌*◌}
use mathlib.Core.Path.{◌≡◌}
use Rattle.seq.specs.Seq.{length}
use Rattle.paper.specs.Reader.{counts_in, stored_follower}
use Rattle.seq.specs.Loops.Searching.{Searching}
use Rattle.ovfile.specs.Values.{layout_from}
use Rattle.ovfile_read.specs.Starts.{Taken}
use Rattle.ovfile_read.proofs.ReadLaws.{unsound_in}
use Rattle.ovfile_read.proofs.sound.unsound_by.Given as goal

abbrev pub invariant-loop-k : goal.invariant-loop-k
invariant-loop-k l =
    Searching (unsound_in (layout_from l.stored.layout) l.stored.file.now) (counts_in l.stored.file.now).edges l.k × Taken (stored_follower (layout_from l.stored.layout) l.stored.file.now) (2 * (counts_in l.stored.file.now).edges) (2 * l.k) l.taken × (length l.taken ≡ length l.initial.taken)
