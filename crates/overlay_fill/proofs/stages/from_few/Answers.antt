-- `overlay_fill::stages::from_few` meets its contract: small tables have the rows of so few vertices and edges. Assumes nothing.
use native.Mathlib.Omega.{arith}
use Prim.Native.Nat.{◌≤◌}
use Rattle.graph.specs.Small.{small_vertices, small_edges}
use Rattle.overlay_fill.proofs.stages.from_few.Goals as goal

pub cut_few-counts-requires : goal.cut_few-counts-requires
cut_few-counts-requires g c = record { fact_1 = c.requires; fact_2 = (omega arith, omega arith) }

pub lay_cut-requires : goal.lay_cut-requires
lay_cut-requires g c =
    let k = c.cut_few-counts in
    let few : k.result.vertices ≤ small_vertices = omega arith in
    let short : k.result.edges ≤ small_edges = omega arith in
    record {
      fact_1 = c.requires;
      fact_2 = k.ensures few short;
      fact_3 = record { points = λ h. omega (arith, few, k.auto.points); pieces = λ h. omega (arith, short, k.auto.rows) };
    }
