-- `overlay_fill::stages::from_many` meets its contract: full tables have the rows of any overlay. Assumes nothing.
use native.Mathlib.Omega.{arith}
use Rattle.overlay_fill.proofs.stages.from_many.Goals as goal

pub cut_maps-counts-requires : goal.cut_maps-counts-requires
cut_maps-counts-requires g c = record { fact_1 = c.requires; fact_2 = (omega arith, omega arith) }

pub lay_cut-requires : goal.lay_cut-requires
lay_cut-requires g c =
    let k = c.cut_maps-counts in
    record {
      fact_1 = c.requires;
      fact_2 = k.ensures;
      fact_3 = record { points = λ h. omega (arith, k.auto.points); pieces = λ h. omega (arith, k.auto.rows) };
    }
