-- The tables that are handed over as one value: what is known of them, and the graph that they are. Assumes nothing.
use Rattle.paper.specs.Graph.{Graph}
use Rattle.graph.specs.Flat.{Flat, flat_graph}
use Rattle.graph.specs.declared.flat.FlatGraph.{FlatGraph}

abbrev pub Drawn : FlatGraph → Type 0
Drawn g = Flat g.points.now g.origins.now g.carriers.now g.vertices g.edges

abbrev pub graph_of : FlatGraph → Graph
graph_of g = flat_graph g.points.now g.origins.now g.carriers.now g.vertices g.edges
