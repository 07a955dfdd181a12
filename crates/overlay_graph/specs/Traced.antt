-- The overlay's half-edges, walks and faces in tables, zeros past the counts: a record of lists, which contracts name and no function holds. In order: tables of
-- zeros, of any length; the net, the faces, and all of it with predecessors and least outgoing half-edges. Assumes nothing.
use Rattle.std.specs.Prelude.{◌≡◌, ◌≤◌, ◌<◌, ◌*◌}
use Rattle.seq.specs.Seq.{List, ℕ, suc, length, get_or, replicate, ℤ, table, position, over, padded}
use Rattle.paper.specs.Map.{Map}
use Rattle.paper.specs.Graph.{the_half_count, leaves}
use Rattle.paper.specs.Faces.{Overlay, net, holes_of}
use Rattle.paper.specs.Tables.{least_half}
use Rattle.graph.specs.Flat.{Flat, flat_graph}
use Rattle.overlay_graph.specs.Cut.{Cut, overlay_in}

-- a table of zeros, with n cells or more
pub record Blank (n : ℕ) (t : List ℕ) : Type 0 where
  pub cells : ℕ
  pub room : n ≤ cells
  pub is : t ≡ replicate cells 0

-- a table that holds xs, and zeros after it
pub record Zeroed (xs t : List ℕ) : Type 0 where
  pub cells : ℕ
  pub is : t ≡ padded 0 cells xs

-- of each half-edge where it starts, its follower, its predecessor and its face; of each edge the input edge that it lies along; of each vertex the least outgoing
-- half-edge; the least half-edges of the outer walks and how many there are; of each face its hole walks
pub record Traced : Type 0 where
  pub origins : List ℕ
  pub carriers : List ℤ
  pub next : List ℕ
  pub prev : List ℕ
  pub least : List ℕ
  pub face : List ℕ
  pub outers : List ℕ
  pub holes : List ℕ
  pub count : ℕ

-- of the tables that a function has
abbrev pub traced_by : List ℕ → List ℤ → List ℕ → List ℕ → List ℕ → List ℕ → List ℕ → List ℕ → ℕ → Traced
traced_by os cs next prev least face outers holes n = record {
  origins = os;
  carriers = cs;
  next = next;
  prev = prev;
  least = least;
  face = face;
  outers = outers;
  holes = holes;
  count = n;
}

-- ── of the overlay o with the vertices and edges in c ──

-- the half-edges, by where they start and what they lie along
pub record NetBy (o : Overlay) (c : Cut) (origins : List ℕ) (carriers : List ℤ) : Type 0 where
  pub flat : Flat c.points origins carriers c.vertices c.edges
  pub net_is : flat_graph c.points origins carriers c.vertices c.edges ≡ net o

-- followers and faces, over the tables as they were
pub record FacesOver (o : Overlay) (next₀ face₀ outers₀ holes₀ next face outers holes : List ℕ) (count : ℕ) : Type 0 where
  pub next_is : next ≡ over o.walks.next next₀
  pub face_is : face ≡ over o.face face₀
  pub outers_is : outers ≡ over o.outers outers₀
  pub count_is : count ≡ length o.outers
  pub holes_is : holes ≡ over (table (holes_of o) (suc count)) holes₀

-- and over zeros
pub record FacesBy (o : Overlay) (next face outers holes : List ℕ) (count : ℕ) : Type 0 where
  pub next_is : Zeroed o.walks.next next
  pub face_is : Zeroed o.face face
  pub outers_is : Zeroed o.outers outers
  pub count_is : count ≡ length o.outers
  pub holes_is : Zeroed (table (holes_of o) (suc count)) holes

-- predecessors, and the least outgoing half-edges
abbrev pub PrevBy : Overlay → Cut → List ℕ → Type 0
PrevBy o c prev = (h : ℕ) → h < 2 * c.edges → get_or prev h 0 ≡ position h o.walks.next

abbrev pub LeastBy : Overlay → Cut → List ℕ → Type 0
LeastBy o c least = (v : ℕ) → v < c.vertices → get_or least v 0 ≡ least_half (leaves (net o) v) (the_half_count (net o))

pub record TracedBy (o : Overlay) (c : Cut) (t : Traced) : Type 0 where
  pub net_by : NetBy o c t.origins t.carriers
  pub faces_by : FacesBy o t.next t.face t.outers t.holes t.count
  pub prev_is : PrevBy o c t.prev
  pub least_is : LeastBy o c t.least

-- of the points and pieces in c
abbrev pub TracedOf : List Map → Cut → Traced → Type 0
TracedOf ms c t = TracedBy (overlay_in ms c) c t
