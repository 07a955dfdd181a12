-- `graph::heading::headings_by` meets its contract. Assumes nothing.
use Rattle.std.specs.Prelude.{◌*◌}
use mathlib.Core.Path.{◌≡◌, refl, sym, ◌∙◌, ap}
use Prim.Native.Nat.{◌<◌}
use borrow.Author.Rules.{rules}
use Rattle.seq.specs.Seq.{List, ℕ, ℤ}
use Rattle.paper.specs.Graph.{heading}
use Rattle.paper.specs.Plane.{Vec}
use Rattle.seq.specs.Loops.Storing.{lay_turns, lay_ends}
use Rattle.graph.specs.Flat.{flat_graph, Flat}
use Rattle.graph.specs.Heading.{row, heading_at, flat-heading}
use Rattle.graph.proofs.heading.headings_by.Goals as goal

-- what is known of half-edge h
module _ (ps : List ℤ) (os : List ℕ) (cs : List ℤ) (n e h : ℕ) (F : Flat ps os cs n e) (l : h < 2 * e) where
  stored : {u : Vec} → u ≡ heading_at ps os cs h → row u ≡ row (heading (flat_graph ps os cs n e) h)
  stored q = ap row (q ∙ sym (flat-heading ps os cs n e F h l))

pub loop-h-preserved : goal.loop-h-preserved
loop-h-preserved c =
    let l = c.loop-h in
    let e = stored c.args.g.points.now c.args.g.origins.now c.args.g.carriers.now c.args.g.vertices c.args.g.edges l.h c.requires.fact_1 c.loop-h-test.true c.heading.ensures.is in
    lay_turns l.invariant (λ k. refl) c.loop-h-test.true c.store.ensures e

pub returns : goal.returns
returns c = lay_ends c.loop-h.invariant (λ k. refl) (search rules)
