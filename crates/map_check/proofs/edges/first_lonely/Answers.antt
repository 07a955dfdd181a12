-- `map_check::edges::first_lonely` meets its contract: either table has a cell for each vertex. Assumes nothing.
use native.Mathlib.Omega.{arith}
use Rattle.map_check.proofs.edges.first_lonely.Goals as goal

pub first_lonely_in-requires : goal.first_lonely_in-requires
first_lonely_in-requires c =
    record { fact_1 = c.requires.0; fact_2 = c.requires.1; fact_3 = omega (arith, c.if-n-le-SMALL_VERTICES.true) }

pub first_lonely_in-requires-else-n-le-SMALL_VERTICES : goal.first_lonely_in-requires-else-n-le-SMALL_VERTICES
first_lonely_in-requires-else-n-le-SMALL_VERTICES c =
    record { fact_1 = c.requires.0; fact_2 = c.requires.1; fact_3 = omega (arith, c.requires.2) }

pub returns-then-n-le-SMALL_VERTICES : goal.returns-then-n-le-SMALL_VERTICES
returns-then-n-le-SMALL_VERTICES c =
    c.first_lonely_in.ensures

pub returns-else-n-le-SMALL_VERTICES : goal.returns-else-n-le-SMALL_VERTICES
returns-else-n-le-SMALL_VERTICES c =
    c.first_lonely_in-else-n-le-SMALL_VERTICES.ensures
