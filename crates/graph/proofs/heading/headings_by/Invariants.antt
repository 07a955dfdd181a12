-- `graph::heading::headings_by` meets its contract. Assumes nothing.
use Rattle.std.specs.Prelude.{◌*◌}
use Rattle.paper.specs.Graph.{heading}
use Rattle.seq.specs.Loops.Storing.{Laying}
use Rattle.graph.specs.Given.{graph_of}
use Rattle.graph.specs.Heading.{row}
use Rattle.graph.proofs.heading.headings_by.Given as goal

abbrev pub invariant-loop-h : goal.invariant-loop-h
invariant-loop-h l = Laying 2 (λ j. row (heading (graph_of l.g) j)) (2 * l.g.edges) l.initial.out l.out l.h
