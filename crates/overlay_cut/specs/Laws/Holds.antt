-- The tables hold a list of maps: all corners, map after map; and the carriers of all edges, with where each map's edges start. Then an edge by its number in
-- the table is an edge of one of the maps, and back. Assumes nothing.
use Rattle.std.specs.Prelude.{◌≡◌, ◌≤◌, ◌<◌, ℤ, ◌+◌, ◌-◌}
use Rattle.std.proofs.Common.{sym, ◌∙◌, ap, not-suc-le-zero, add-one, arith}
use Rattle.std.proofs.Math.Decide.{dec_lt}
use Rattle.seq.specs.Seq.{List, ℕ, zero, suc, length, rows}
use Rattle.paper.specs.Limits.{maps}
use Rattle.paper.specs.Graph.{edge, edge_count}
use Rattle.paper.specs.Map.{Map}
use Rattle.paper.specs.Pieces.{layer}
use Rattle.graph.specs.Flat.{carrier_at}
use Rattle.overlay_cut.specs.Points.{points_of}
use Rattle.overlay_cut.specs.Cuts.{start_of, edges_from}

-- how many edges map i has
abbrev pub edges_in : List Map → ℕ → ℕ
edges_in ms i = edge_count (layer ms i).graph

pub record Holds (ms : List Map) (corners : List ℤ) (c : ℕ) (cs : List ℤ) (st : List ℕ) : Type 0 where
  pub count : length ms ≡ maps
  pub corners-are : points_of corners c ≡ rows (λ i. (layer ms i).graph.points) (length ms)
  pub first : start_of st 0 ≡ 0
  pub next : (i : ℕ) → i < maps → start_of st (i + 1) ≡ start_of st i + edges_in ms i
  pub carriers-are : (i k : ℕ) → i < maps → k < edges_in ms i → carrier_at cs (start_of st i + k) ≡ (edge (layer ms i).graph k).carrier

module _ {ms : List Map} {corners : List ℤ} {c : ℕ} {cs : List ℤ} {st : List ℕ} (H : Holds ms corners c cs st) where
  pub edges_from_lem : (i : ℕ) → i < maps → edges_from st i ≡ edges_in ms i
  edges_from_lem i h = omega (arith, H.next i h)

  -- edge k of map i stands before the edges of a later map
  pub starts_before : (m i k : ℕ) → m ≤ maps → i < m → k < edges_in ms i → start_of st i + k < start_of st m
  starts_before zero i k h l q = absurd (not-suc-le-zero l)
  starts_before (suc m) i k h l q =
      let e : start_of st (suc m) ≡ start_of st m + edges_in ms m = ap (start_of st) (sym (add-one m)) ∙ H.next m (omega arith) in
      elim (dec_lt i m) [
        | yes s ↦ omega (arith, e, starts_before m i k (omega arith) s q)
        | no s ↦ let f : i ≡ m = omega arith in omega (arith, e, q, ap (start_of st) f, ap (edges_in ms) f)
      ]

  -- the map that edge j of the table belongs to
  pub record Of (m j : ℕ) : Type 0 where
    pub map : ℕ
    pub number : ℕ
    pub earlier : map < m
    pub below : number < edges_in ms map
    pub is : j ≡ start_of st map + number

  pub owner : (m j : ℕ) → m ≤ maps → j < start_of st m → Of m j
  owner zero j h l = absurd (omega (arith, H.first))
  owner (suc m) j h l =
      let e : start_of st (suc m) ≡ start_of st m + edges_in ms m = ap (start_of st) (sym (add-one m)) ∙ H.next m (omega arith) in
      elim (dec_lt j (start_of st m)) [
        | yes s ↦ let r = owner m j (omega arith) s in record { map = r.map; number = r.number; earlier = omega (arith, r.earlier); below = r.below; is = r.is }
        | no s ↦ record { map = m; number = j - start_of st m; earlier = omega arith; below = omega (arith, e); is = omega arith }
      ]
