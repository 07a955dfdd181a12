-- What the tables say the pieces are: the vertices on an edge, and the pieces between each two neighbours, of an edge, of a map, of all maps. `starts` has where
-- each map's edges start among the carriers, and after the last where they end. Assumes nothing.
use Rattle.std.specs.Prelude.{◌≡◌, ◌≤◌, ◌<◌, ℤ, ◌+◌, ◌-◌}
use Rattle.std.proofs.Common.{ap, arith}
use Rattle.seq.specs.Seq.{List, ℕ, zero, suc, length, get_or, select, rows}
use Rattle.paper.specs.Limits.{maps, absent}
use Rattle.paper.specs.Plane.{Seg, on_seg}
use Rattle.paper.specs.Pieces.{Piece, only, links}
use Rattle.graph.specs.Flat.{the_point_at, carrier_at, Carriers}

-- the vertices on an edge, of the first n
abbrev pub the_on_edge : List ℤ → ℕ → Seg → List ℕ
the_on_edge ps n s = select (λ v. on_seg s (the_point_at ps v)) n

-- its pieces, as edge k of map m
abbrev pub cut_edge : List ℤ → ℕ → Seg → ℕ → ℕ → List Piece
cut_edge ps n s m k = links (only maps m k) (the_on_edge ps n s)

-- of the edges of map m, whose carriers stand from row a on
abbrev pub cut_row : List ℤ → ℕ → List ℤ → ℕ → ℕ → ℕ → List Piece
cut_row ps n cs a m k = cut_edge ps n (carrier_at cs (a + k)) m k

abbrev pub cut_map : List ℤ → ℕ → List ℤ → ℕ → ℕ → ℕ → List Piece
cut_map ps n cs a m e = rows (cut_row ps n cs a m) e

-- where the edges of map m start, and how many there are
abbrev pub start_of : List ℕ → ℕ → ℕ
start_of st m = get_or st m 0

abbrev pub edges_from : List ℕ → ℕ → ℕ
edges_from st m = start_of st (m + 1) - start_of st m

-- of all maps
abbrev pub cut_part : List ℤ → ℕ → List ℤ → List ℕ → ℕ → List Piece
cut_part ps n cs st m = cut_map ps n cs (start_of st m) m (edges_from st m)

abbrev pub cut_all : List ℤ → ℕ → List ℤ → List ℕ → List Piece
cut_all ps n cs st = rows (cut_part ps n cs st) maps

-- ── how large ──

-- where each map's edges start: no more edges in a map than numbers of 16 bits, and a carrier for each
pub record Starts (st : List ℕ) (cs : List ℤ) : Type 0 where
  pub long : maps < length st
  pub rises : (m : ℕ) → m < maps → start_of st m ≤ start_of st (m + 1)
  pub few : (m : ℕ) → m < maps → edges_from st m < absent
  pub carried : Carriers cs (start_of st maps)

starts_le : {st : List ℕ} {cs : List ℤ} → Starts st cs → (d m : ℕ) → m + d ≡ maps → start_of st m ≤ start_of st maps
starts_le {st} r zero m e = let q : m ≡ maps = omega arith in omega (arith, ap (start_of st) q)
starts_le {st} r (suc d) m e = omega (arith, starts_le r d (m + 1) (omega arith), r.rises m (omega arith))

-- the edges of a map end before those of all maps do
pub part_within : {st : List ℕ} {cs : List ℤ} → Starts st cs → (m : ℕ) → m < maps → start_of st m + edges_from st m ≤ start_of st maps
part_within {st} r m h = omega (arith, r.rises m h, starts_le r (maps - (m + 1)) (m + 1) (omega arith))

-- the carriers of a map
pub part-carried : {st : List ℕ} {cs : List ℤ} → Starts st cs → (m : ℕ) → m < maps → Carriers cs (start_of st m + edges_from st m)
part-carried {st} r m h =
    let l = part_within r m h in
    record { long = omega (arith, r.carried.long); near = λ k q. r.carried.near k (omega arith) }
