-- `overlay_sweep::stops::sweep` meets its contract. Assumes nothing.
use native.Mathlib.Omega.{arith}
use Rattle.paper.specs.Limits.{maps}
use Rattle.overlay_cut.specs.Cuts.{start_of}
use Rattle.overlay_sweep.specs.Loop.{begun}
use Rattle.overlay_sweep.proofs.stops.sweep.Goals as goal
use Rattle.overlay_sweep.proofs.stops.sweep.Goals.{After-all_turns, After-by_lower_end, After-corners_in-n, Start}

pub bounds-starts-3 : goal.bounds-starts-3
bounds-starts-3 c =
    omega (arith, c.requires.fact_1.starts_long)

pub by_lower_end-requires : goal.by_lower_end-requires
by_lower_end-requires c =
    let g = c.requires.fact_1 in
    record { fact_1 = omega (arith, g.few); fact_2 = omega (arith, g.few) }

pub corners_in-n-requires : goal.corners_in-n-requires
corners_in-n-requires c =
    record { fact_1 = c.requires.fact_1.corners; fact_2 = omega arith }

pub all_turns-requires : goal.all_turns-requires
all_turns-requires c =
    let a = c.args in
    let b = c.by_lower_end in record {
      fact_1 = begun a.carriers.now (start_of a.starts.now maps) a.starts.now a.rows.now a.k a.out.now c.requires.fact_1 _ _ _ b.ensures.0 b.ensures.1
          (omega arith) (omega arith) _ _ _ c.corners_in-n.ensures;
      fact_2 = c.requires.fact_2;
    }

pub returns : goal.returns
returns c = c.all_turns.ensures
