-- `graph::rising::starts_first` meets its contract. Assumes nothing.
use Rattle.graph.specs.Flat.{origin_at}
use Rattle.graph.specs.Rising.{number_before}
use Rattle.graph.proofs.rising.starts_first.Goals as goal

pub returns-then-rising : goal.returns-then-rising
returns-then-rising c =
    let a = c.args in
    number_before a.points.now a.n (c.requires.fact_1 c.if-rising.true) (origin_at a.origins.now a.h) (origin_at a.origins.now a.k) c.requires.fact_3.0 c.requires.fact_3.1
