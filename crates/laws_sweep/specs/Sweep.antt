-- The second way to collect the vertices: "a line that passes over the plane from the smallest point upward, stops at ends and crossings, keeps the edges it cuts in their order and tests
-- only new neighbours". The line stops at the first point of the queue. The edges that it cuts stand from west to east (the status): those that have the point on their right, those through it,
-- those that have it on their left. The edges through the point that go on, and those that start there, take the place of those through it, the greatest angle first. The edges that have not
-- started wait in the order of their lower ends. Where two edges are neighbours for the first time, their crossing, if it is still ahead, goes into the queue. Each list is what a table of the
-- code holds, step by step. Assumes nothing.
use Rattle.std.specs.Prelude.{◌∷◌, ◌++◌}
use Rattle.seq.specs.Seq.{Bool, cond, List, [], Option, none, some, ℕ, zero, suc, eqb, length, table, rows, optional, insert_by}
use Rattle.seq.specs.Search.{lead, trail}
use Rattle.seq.specs.Slotted.{slots}
use Rattle.seq.specs.Pairs.{first, last}
use Rattle.seq.specs.Kept.{kept}
use Rattle.exact.specs.Sign.{sgn, is_neg, is_zer, is_plus}
use Rattle.paper.specs.Plane.{Pt, Seg, cross, head, whole, before, same, the_left_by, crossing}
use Rattle.paper.specs.Graph.{edge_count, edge}
use Rattle.paper.specs.Map.{Map}
use Rattle.paper.specs.Pieces.{layer, the_in_order}

-- an edge of one of the maps
pub record Strand : Type 0 where
  pub of : ℕ
  pub seg : Seg

abbrev pub lo : Strand → Pt
lo e = whole e.seg.foot

abbrev pub hi : Strand → Pt
hi e = whole (head e.seg)

-- ── the edges at a point ──

-- p is to the right of e: e is west of p
abbrev pub right : Pt → Strand → Bool
right p e = is_neg (sgn (the_left_by e.seg p))

abbrev pub on : Pt → Strand → Bool
on p e = is_zer (sgn (the_left_by e.seg p))

-- e does not end at p
abbrev pub the_goes_on : Pt → Strand → Bool
the_goes_on p e = before p (hi e)

abbrev pub starts_at : Pt → Strand → Bool
starts_at p e = same (lo e) p

-- the upward angle of e is greater than that of f
abbrev pub steeper : Strand → Strand → Bool
steeper e f = is_plus (sgn (cross f.seg.up e.seg.up))

abbrev pub sooner : Strand → Strand → Bool
sooner e f = before (lo e) (lo f)

-- ── the status ──

abbrev pub west_of : Pt → List Strand → List Strand
west_of p s = lead (right p) s

abbrev pub through : Pt → List Strand → List Strand
through p s = lead (on p) (trail (right p) s)

abbrev pub east_of : Pt → List Strand → List Strand
east_of p s = trail (on p) (trail (right p) s)

-- the edges that leave p upward, of the status s and of those that wait, w
abbrev pub leaving : List Strand → Pt → List Strand → List Strand
leaving w p s = slots steeper [] (kept (the_goes_on p) (through p s) ++ lead (starts_at p) w)

abbrev pub status : List Strand → Pt → List Strand → List Strand
status w p s = west_of p s ++ (leaving w p s ++ east_of p s)

-- ── the queue ──

-- where two edges of different maps cross ahead of p
abbrev pub ahead : Pt → Strand → Strand → List Pt
ahead p e f = cond (eqb e.of f.of) [] (kept (before p) (optional (crossing e.seg f.seg)))

-- the last of the one list and the first of the other are neighbours
abbrev pub ahead_of : Pt → Option Strand → Option Strand → List Pt
ahead_of p none o = []
ahead_of p (some e) none = []
ahead_of p (some e) (some f) = ahead p e f

abbrev pub joint : Pt → List Strand → List Strand → List Pt
joint p l r = ahead_of p (last l) (first r)

-- points into a queue in order, each once
abbrev pub put : List Pt → List Pt → List Pt
put [] q = q
put (x ∷ xs) q = insert_by before (λ p r. r) x (put xs q)

abbrev pub found : List Strand → Pt → List Strand → List Pt
found w p s =
    let l = west_of p s in let m = leaving w p s in let r = east_of p s in
    joint p l (m ++ r) ++ joint p m r

-- ── the sweep ──

-- the points at which the line stops, n at most, with what waits, the queue and the status
unfoldable pub sweep : ℕ → List Strand → List Pt → List Strand → List Pt
sweep zero w q s = []
sweep (suc n) w [] s = []
sweep (suc n) w (p ∷ q) s = p ∷ sweep n (trail (starts_at p) w) (put (found w p s) q) (status w p s)

-- the edges of all maps, and their corners in order
abbrev pub strands_of : List Map → List Strand
strands_of ms = rows (λ i. table (λ k. record { of = i; seg = (edge (layer ms i).graph k).carrier }) (edge_count (layer ms i).graph)) (length ms)

abbrev pub corners_of : List Map → List Pt
corners_of ms = the_in_order (rows (λ i. (layer ms i).graph.points) (length ms))

-- the vertices as the line meets them, n at most
abbrev pub swept : ℕ → List Map → List Pt
swept n ms = sweep n (slots sooner [] (strands_of ms)) (corners_of ms) []
