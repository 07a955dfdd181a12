-- `ovfile_read::fill::lay_halves` meets its contract. Assumes nothing.
use Rattle.std.specs.Prelude.{◌∷◌, ◌*◌}
use mathlib.Core.Path.{refl, sym, ◌∙◌}
use Prim.Native.Nat.{◌<◌}
use native.Mathlib.Omega.{arith}
use Rattle.seq.specs.Seq.{[]}
use Rattle.seq.specs.Table.{table_at}
use Rattle.paper.specs.Reader.{counts_in, stored_follower}
use Rattle.ovfile.specs.Values.{layout_from}
use Rattle.seq.specs.Loops.Storing.{lay_starts, lay_turns, store_ends}
use Rattle.ovfile.proofs.SoundLaws.{twin-le}
use borrow.Author.Rules.{rules}
use Rattle.ovfile_read.proofs.fill.lay_halves.Goals as goal

pub overflow_cast-twin : goal.overflow_cast-twin
overflow_cast-twin c =
    omega (arith, c.twin.ensures, twin-le c.loop-h.h, c.args.stored.now.edges_counted, c.args.stored.now.few_edges)

pub store-requires : goal.store-requires
store-requires c =
    omega (arith, c.loop-h.invariant.room, c.loop-h.invariant.kept, c.args.stored.now.edges_counted)

pub loop-h-preserved : goal.loop-h-preserved
loop-h-preserved c =
    let file = c.args.stored.now.file.now in
    let below : c.loop-h.h < 2 * (counts_in file).edges = omega (arith, c.args.stored.now.edges_counted) in
    lay_turns c.loop-h.invariant (λ k. refl) below c.store.ensures
    (λ i. c.origin.ensures i
    ∷ c.twin.ensures i
    ∷ (c.follower.ensures ∙ sym (table_at (stored_follower (layout_from c.args.stored.now.layout) file) (2 * (counts_in file).edges) c.loop-h.h 0 below)) i
    ∷ (c.at_or.ensures ∙ c.requires.0.at c.loop-h.h below) i
    ∷ c.face.ensures i
    ∷ [])

pub returns : goal.returns
returns c =
    store_ends c.loop-h.invariant (omega (arith, c.args.stored.now.edges_counted))

pub loop-h-init : goal.loop-h-init
loop-h-init c = lay_starts (search rules)

pub shape_of-halves : goal.shape_of-halves
shape_of-halves c = c.loop-h.invariant.kept
