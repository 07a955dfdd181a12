-- Carriers that go up, from the lower end to the upper. Assumes nothing.
use Rattle.std.specs.Prelude.{◌≤◌, ◌<◌}
use Rattle.std.proofs.Common.{arith}
use Rattle.seq.specs.Seq.{List, ℕ, ℤ}
use Rattle.laws_plane.specs.Cone.{UpV}
use Rattle.graph.specs.Flat.{carrier_at}

-- each of e edges goes up
pub record Upright (cs : List ℤ) (e : ℕ) : Type 0 where
  pub up : (k : ℕ) → k < e → UpV (carrier_at cs k).up

pub upright-fewer : (cs : List ℤ) (e d : ℕ) → d ≤ e → Upright cs e → Upright cs d
upright-fewer cs e d h r = record { up = λ k l. r.up k (omega arith) }
