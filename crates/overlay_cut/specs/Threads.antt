-- The vertices on each edge as a thread: a table of nodes, rows of a vertex and a link, and for each edge a link to the node of its last vertex; a link is the row + 1, or 0. Along the links the vertices
-- on the edge stand from the last down. A thread is kept while there are fewer nodes than `room`; after that nothing is said of it. Assumes nothing.
use Rattle.std.specs.Prelude.{◌≡◌, ◌≤◌, ◌<◌, ◌||◌, ◌∷◌, ◌++◌, ◌+◌, ◌*◌}
use Rattle.seq.specs.Seq.{Bool, false, cond, List, [], ℕ, zero, suc, ℤ, eqb, length, get_or, rows}
use Rattle.paper.specs.Limits.{maps, absent}
use Rattle.paper.specs.Plane.{on_seg}
use Rattle.paper.specs.Pieces.{Piece, only, links}
use Rattle.graph.specs.Flat.{the_point_at, carrier_at}
use Rattle.overlay_cut.specs.Cuts.{start_of, edges_from, Starts}

-- the numbers below i that pass, falling
abbrev pub down : (ℕ → Bool) → ℕ → List ℕ
down on zero = []
down on (suc i) = cond (on i) (i ∷ down on i) (down on i)

-- the vertices from the link x on, f of them at most
abbrev pub along : List ℕ → ℕ → ℕ → List ℕ
along ns zero x = []
along ns (suc f) zero = []
along ns (suc f) (suc r) = get_or ns (2 * r) 0 ∷ along ns f (get_or ns (2 * r + 1) 0)

-- the thread from the link x on: links go to earlier nodes, so that there are x at most
abbrev pub thread : List ℕ → ℕ → List ℕ
thread ns x = along ns x x

-- the thread of edge k
abbrev pub thread_of : List ℕ → List ℕ → ℕ → List ℕ
thread_of last ns k = thread ns (get_or last k 0)

-- e threads in t nodes: links go to earlier nodes
pub record Chains (e : ℕ) (last ns : List ℕ) (t : ℕ) : Type 0 where
  pub falls : (r : ℕ) → r < t → get_or ns (2 * r + 1) 0 ≤ r
  pub lasts : (k : ℕ) → k < e → get_or last k 0 ≤ t

-- they are the threads of the vertices below i
pub record Threaded (ps cs : List ℤ) (e : ℕ) (last ns : List ℕ) (t i : ℕ) : Type 0 where
  pub chains : Chains e last ns t
  pub is : (k : ℕ) → k < e → thread_of last ns k ≡ down (λ v. on_seg (carrier_at cs k) (the_point_at ps v)) i

-- where they are kept
abbrev pub ThreadedIf : List ℤ → List ℤ → ℕ → List ℕ → List ℕ → ℕ → ℕ → ℕ → Type 0
ThreadedIf ps cs e last ns room t i = t < room → Threaded ps cs e last ns t i

-- ── one more vertex ──

-- tables for e edges and so many nodes
pub record Spools (e room : ℕ) (last ns : List ℕ) : Type 0 where
  pub edges : e ≤ length last
  pub nodes : 2 * room ≤ length ns
  pub few : room ≤ absent

-- a list starts with v; v before it where it does not
abbrev pub heads : ℕ → List ℕ → Bool
heads v [] = false
heads v (x ∷ l) = eqb x v

abbrev pub topped : ℕ → List ℕ → List ℕ
topped v l = cond (heads v l) l (v ∷ l)

-- k is in one of the n cells from a on
abbrev pub named_in : List ℕ → ℕ → ℕ → ℕ → Bool
named_in cells a zero k = false
named_in cells a (suc n) k = named_in cells a n k || eqb (get_or cells (a + n) 0) k

-- v is remembered of the edges that are named, and the other threads are as they were
pub record Remembered (e v : ℕ) (named : ℕ → Bool) (last ns : List ℕ) (last' ns' : List ℕ) (t' : ℕ) : Type 0 where
  pub chains : Chains e last' ns' t'
  pub is : (k : ℕ) → k < e → thread_of last' ns' k ≡ cond (named k) (topped v (thread_of last ns k)) (thread_of last ns k)

-- where it is
pub record RememberedIf (e room v : ℕ) (named : ℕ → Bool) (last ns : List ℕ) (t : ℕ) (last' ns' : List ℕ) (t' : ℕ) : Type 0 where
  pub was : t' < room → t < room
  pub now : t' < room → Remembered e v named last ns last' ns' t'

-- ── the pieces along threads ──

-- the last first
abbrev pub rising : List ℕ → List ℕ
rising [] = []
rising (x ∷ l) = rising l ++ (x ∷ [])

-- every number of a list is below n
abbrev pub Under : ℕ → List ℕ → Type 0
Under n [] = Unit {0}
Under n (x ∷ l) = (x < n) × Under n l

-- of edge k of map m, with this thread
abbrev pub strung : ℕ → ℕ → List ℕ → List Piece
strung m k l = links (only maps m k) (rising l)

-- of edge k of map m, whose edges start at row a; of a map's e edges; of all maps
abbrev pub thread_row : List ℕ → List ℕ → ℕ → ℕ → ℕ → List Piece
thread_row last ns a m k = strung m k (thread_of last ns (a + k))

abbrev pub thread_map : List ℕ → List ℕ → ℕ → ℕ → ℕ → List Piece
thread_map last ns a m e = rows (thread_row last ns a m) e

abbrev pub thread_part : List ℕ → List ℕ → List ℕ → ℕ → List Piece
thread_part last ns st m = thread_map last ns (start_of st m) m (edges_from st m)

abbrev pub thread_all : List ℕ → List ℕ → List ℕ → List Piece
thread_all last ns st = rows (thread_part last ns st) maps

-- the thread from the link x on, of some of n vertices: links go to earlier nodes
pub record Thread (ns : List ℕ) (x n : ℕ) : Type 0 where
  pub falls : (r : ℕ) → r < x → get_or ns (2 * r + 1) 0 ≤ r
  pub long : 2 * x ≤ length ns
  pub under : Under n (thread ns x)

-- the threads of e edges
pub record Strung (e n : ℕ) (last ns : List ℕ) : Type 0 where
  pub edges : e ≤ length last
  pub threads : (k : ℕ) → k < e → Thread ns (get_or last k 0) n

-- where each map's edges start, with carriers for all of them
abbrev pub Started : List ℕ → Type 0
Started st = (cs : List ℤ) × Starts st cs
