-- Where the edges of the tables meet, by the point of each meeting: an edge and those before it, of a map and of all maps. Assumes nothing.
use Rattle.std.specs.Prelude.{◌≤◌, ℤ, ◌+◌, ◌*◌}
use Rattle.std.proofs.Common.{arith}
use Rattle.seq.specs.Seq.{List, ℕ, length, rows, optional}
use Rattle.exact.specs.Lowest.{Pt}
use Rattle.paper.specs.Limits.{maps}
use Rattle.paper.specs.Plane.{Seg}
use Rattle.paper.specs.Meeting.{meeting, point_of}
use Rattle.graph.specs.Flat.{point_width, carrier_at, Carriers}
use Rattle.overlay_cut.specs.Cuts.{start_of, edges_from}

-- where t meets the first e edges
abbrev pub cross_row : List ℤ → ℕ → Seg → List Pt
cross_row cs e t = rows (λ j. optional (point_of (meeting (carrier_at cs j) t))) e

-- where the e edges from row a on meet those before them
abbrev pub cross_map : List ℤ → ℕ → ℕ → List Pt
cross_map cs a e = rows (λ k. cross_row cs a (carrier_at cs (a + k))) e

-- where edges of different maps meet
abbrev pub cross_part : List ℤ → List ℕ → ℕ → List Pt
cross_part cs st m = cross_map cs (start_of st m) (edges_from st m)

abbrev pub cross_all : List ℤ → List ℕ → List Pt
cross_all cs st = rows (cross_part cs st) maps

-- a table of points with room for so many rows, and n of them
pub record PointTable (t : List ℤ) (room n : ℕ) : Type 0 where
  pub long : point_width * room ≤ length t
  pub within : n ≤ room

pub carriers-fewer : (cs : List ℤ) (e d : ℕ) → d ≤ e → Carriers cs e → Carriers cs d
carriers-fewer cs e d h r = record { long = omega (arith, r.long); near = λ k l. r.near k (omega arith) }
