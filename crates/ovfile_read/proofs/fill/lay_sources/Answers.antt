-- `ovfile_read::fill::lay_sources` meets its contract. Assumes nothing.
use Rattle.std.specs.Prelude.{◌∷◌}
use mathlib.Core.Path.{refl}
use native.Mathlib.Omega.{arith}
use Rattle.seq.specs.Seq.{[]}
use Rattle.seq.specs.Loops.Storing.{lay_starts, lay_turns, store_ends}
use borrow.Author.Rules.{rules}
use Rattle.ovfile_read.proofs.fill.lay_sources.Goals as goal

pub store-requires : goal.store-requires
store-requires c =
    omega (arith, c.loop-k.invariant.room, c.loop-k.invariant.kept, c.args.stored.now.edges_counted)

pub loop-k-preserved : goal.loop-k-preserved
loop-k-preserved c =
    lay_turns c.loop-k.invariant (λ k. refl) (omega (arith, c.args.stored.now.edges_counted)) c.store.ensures
    (λ i. c.source.ensures i ∷ c.source-in-loop-k.ensures i ∷ c.source-in-loop-k-2.ensures i ∷ [])

pub returns : goal.returns
returns c =
    store_ends c.loop-k.invariant (omega (arith, c.args.stored.now.edges_counted))

pub loop-k-init : goal.loop-k-init
loop-k-init c = lay_starts (search rules)

pub shape_of-sources : goal.shape_of-sources
shape_of-sources c = c.loop-k.invariant.kept
