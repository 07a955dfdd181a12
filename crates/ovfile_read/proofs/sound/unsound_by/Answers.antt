-- `ovfile_read::sound::unsound_by` meets its contract. Assumes nothing.
use Rattle.std.specs.Prelude.{◌+◌, ◌*◌}
use mathlib.Core.Path.{◌≡◌, refl, sym, ap, ◌∙◌}
use native.Mathlib.Omega.{arith}
use Rattle.seq.specs.Seq.{not}
use Rattle.seq.specs.Loops.Searching.{search_starts}
use Rattle.seq.proofs.Loops.Searching.{search_turns, search_finds, search_ends}
use Rattle.ovfile_read.proofs.SoundLaws.{taken_same}
use Rattle.ovfile_read.proofs.sound.unsound_by.Goals as goal

pub loop-k-init : goal.loop-k-init
loop-k-init c =
    (search_starts, c.requires, refl)

pub sound_edge-requires : goal.sound_edge-requires
sound_edge-requires c =
    (omega (arith, c.args.stored.now.edges_counted), c.loop-k.invariant.1)

pub shape_of-taken-then-not-sound_edge : goal.shape_of-taken-then-not-sound_edge
shape_of-taken-then-not-sound_edge c =
    c.sound_edge.auto.taken ∙ c.loop-k.invariant.2

pub returns-then-not-sound_edge : goal.returns-then-not-sound_edge
returns-then-not-sound_edge c =
    search_finds c.loop-k.invariant.0 (omega (arith, c.args.stored.now.edges_counted)) (ap not (sym c.sound_edge.ensures.0) ∙ c.if-not-sound_edge.true-raw)

pub loop-k-preserved : goal.loop-k-preserved
loop-k-preserved c =
    let k = c.loop-k.k in
    let e : 2 * k + 1 + 1 ≡ 2 * (k + 1) = omega arith in
    let more = search_turns c.loop-k.invariant.0 (omega (arith, c.args.stored.now.edges_counted)) (ap not (sym c.sound_edge.ensures.0) ∙ c.if-not-sound_edge.false-raw) in
    (more, taken_same c.sound_edge.ensures.1 e, c.sound_edge.auto.taken ∙ c.loop-k.invariant.2)

pub returns : goal.returns
returns c =
    c.args.stored.now.edges_counted ∙ search_ends c.loop-k.invariant.0 (omega (arith, c.args.stored.now.edges_counted))

pub shape_of-taken : goal.shape_of-taken
shape_of-taken c = c.loop-k.invariant.2
