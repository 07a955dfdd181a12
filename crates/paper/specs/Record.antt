-- The overlay edge record, of three maps (01, "Overlay tables"): "it is handed out by edge number, and a number with no edge is answered as absent". Assumes nothing.
use Rattle.std.specs.Prelude.{◌&&◌, ◌+◌, ◌*◌, ◌^◌}
use Rattle.seq.specs.Seq.{Bool, cond, Option, none, some, Option·map, ℕ, zero, suc, leb, ltb, all_below}
use Rattle.paper.specs.Limits.{maps}
use Rattle.paper.specs.Tables.{origin_of, source_cell, Tables}
use Rattle.paper.specs.Lent.{lengths_of, edge_room}

-- "whether it came from the first map, the second or both, with the edge number in each"; "a piece may come from any of the three" (02, Ask 13): the last four are of the third map too
pub data Source : Type 0 where
  first : ℕ → Source
  second : ℕ → Source
  both : ℕ → ℕ → Source
  third : ℕ → Source
  first_third : ℕ → ℕ → Source
  second_third : ℕ → ℕ → Source
  all : ℕ → ℕ → ℕ → Source

-- from three numbers, each an edge number + 1 or 0; none where all are 0
abbrev pub source_by : ℕ → ℕ → ℕ → Option Source
source_by zero zero zero = none
source_by (suc j) zero zero = some (first j)
source_by zero (suc k) zero = some (second k)
source_by (suc j) (suc k) zero = some (both j k)
source_by zero zero (suc l) = some (third l)
source_by (suc j) zero (suc l) = some (first_third j l)
source_by zero (suc k) (suc l) = some (second_third k l)
source_by (suc j) (suc k) (suc l) = some (all j k l)

pub record OverlayEdge : Type 0 where
  pub lower : ℕ
  pub upper : ℕ
  pub source : Source

-- the tables have edge k: whole rows, with edge numbers of 16 bits
abbrev pub has_edge : Tables → ℕ → Bool
has_edge t k =
    ltb k (edge_room maps (lengths_of t)) && all_below (λ i. leb (source_cell maps t k i) (256 ^ 2)) maps

-- "it is handed out by edge number, and a number with no edge is answered as absent"
abbrev pub edge_record : Tables → ℕ → Option OverlayEdge
edge_record t k =
    cond (has_edge t k)
    (Option·map (λ s. record { lower = origin_of t (2 * k); upper = origin_of t (2 * k + 1); source = s })
    (source_by (source_cell maps t k 0) (source_cell maps t k 1) (source_cell maps t k 2)))
    none
