-- What the stages of tracing make of the points and pieces in tables: the tables of their graph, of its walks and of its faces. Each stage takes the equation that
-- its function promises. Assumes nothing.
use Rattle.std.specs.Prelude.{◌≡◌, refl, ◌≤◌, ◌<◌, ◌*◌}
use Rattle.std.proofs.Common.{sym, ◌∙◌, subst, arith}
use Rattle.std.proofs.Math.Path.{ap}
use Rattle.seq.specs.Seq.{List, ℕ, suc, length, get_or, table, position, filled, laid, over, ℤ}
use Rattle.seq.specs.Filled.{filled_at, Holds}
use Rattle.seq.specs.Laid.{length-laid}
use Rattle.seq.specs.Table.{length-table}
use Rattle.seq.specs.Wiped.{padded_at}
use Rattle.paper.specs.Limits.{absent}
use Rattle.paper.specs.Graph.{Graph, the_half_count, follower, followers, leaves}
use Rattle.paper.specs.Map.{Map}
use Rattle.paper.specs.Faces.{net, walks_of, face_in, holes_of}
use Rattle.paper.specs.Tables.{least_half}
use Rattle.laws_graph.specs.Plane.{Plane}
use Rattle.laws_graph.specs.Follow.{followers-length, followers_at, follower_below}
use Rattle.graph.specs.Flat.{Points, Numbers, Flat, flat_graph}
use Rattle.graph.specs.Laws.Decode.{flat-points, flat-halves, flat_origin}
use Rattle.graph.specs.Places.{first_place}
use Rattle.graph.specs.Laws.Firsts.{place-least, place-predecessor}
use Rattle.graph_faces.specs.Linked.{faces_of}
use Rattle.overlay_cut.specs.Points.{points_by}
use Rattle.overlay_cut.specs.Net.{ends_of, carrier_in, seg_row}
use Rattle.overlay_cut.specs.Laws.NetAre as NetAre
use Rattle.overlay_cut.specs.Laws.NetBounds.{carriers-near}
use Rattle.overlay_maps.specs.Held.{held_maps, Held}
use Rattle.overlay_maps.specs.Layers.{Layers}
use Rattle.overlay_graph.specs.Laws.Standing.{holds, starts}
use Rattle.overlay_graph.specs.Cut.{Cut, overlay_in, DrawableCut}
use Rattle.overlay_graph.specs.Traced.{Blank, Zeroed, NetBy, FacesOver, FacesBy, PrevBy, LeastBy}
use Rattle.overlay_graph.specs.Laws.Zeros.{zeroed_long, over_blank}

-- ── the graph ──

module _ (l : Layers) (H : Held l) (c : Cut) (D : DrawableCut (held_maps l) c)
    (os₀ : List ℕ) (bs₀ : List ℤ) (room-os : 2 * c.edges ≤ length os₀) (room-bs : 4 * c.edges ≤ length bs₀)
    (os : List ℕ) (bs : List ℤ) (o : os ≡ laid c.edges (ends_of c.pieces) os₀) (b : bs ≡ laid c.edges (λ k. seg_row (carrier_in c.pieces l.carriers l.edges k)) bs₀) where
  abbrev n : ℕ
  n = c.vertices

  abbrev e : ℕ
  e = c.edges

  net_is : flat_graph c.points os bs c.vertices c.edges ≡ net (overlay_in (held_maps l) c)
  unfolding overlay_in
  net_is = NetAre.net_is (holds l H) c.pieces e os os₀ bs bs₀ o b c.points n

  planar : Plane (flat_graph c.points os bs n e)
  planar = subst Plane (sym net_is) D.drawable.plane

  named : (h : ℕ) → h < 2 * e → get_or os h 0 < n
  named h q =
      omega (arith, flat_origin c.points os bs n e h q, flat-points c.points os bs n e, planar.starts h (omega (arith, flat-halves c.points os bs n e)))

  -- its points are within 01's bounds
  points_near : Points c.points c.vertices
  unfolding overlay_in
  points_near = points_by c.points n D.points_long D.drawable.near

  net-flat : Flat c.points os bs c.vertices c.edges
  net-flat = record {
    points = points_near;
    origins = record { long = omega (arith, ap length o ∙ length-laid 2 (ends_of c.pieces) (λ i. refl) e os₀ room-os, room-os); named = named };
    carriers = carriers-near (starts l H) c.pieces e bs bs₀ room-bs b;
  }

  pub net_by : NetBy (overlay_in (held_maps l) c) c os bs
  net_by = record { flat = net-flat; net_is = net_is }

-- ── walks ──

module _ (ps : List ℤ) (os : List ℕ) (cs : List ℤ) (n e : ℕ) (P : Plane (flat_graph ps os cs n e)) where
  abbrev g : Graph
  g = flat_graph ps os cs n e

  halves : the_half_count g ≡ 2 * e
  halves = flat-halves ps os cs n e

  module _ (next : List ℕ) (Z : Zeroed (followers g) next) where
    next_long : 2 * e ≤ length next
    next_long = omega (arith, zeroed_long (followers g) next Z, followers-length g P, halves)

    next_holds : Holds (follower g) next (the_half_count g)
    next_holds = record {
      long = omega (arith, next_long, halves);
      at = λ i l. ap (λ (x : List ℕ). get_or x i 0) Z.is ∙ padded_at 0 Z.cells i (followers g) 0 (omega (arith, followers-length g P)) ∙ followers_at g P i l;
    }

    pub next_numbers : Numbers next (2 * e) (2 * e)
    next_numbers = record {
      long = next_long;
      named = λ i l. omega (arith, next_holds.at i (omega (arith, halves)), follower_below g P i (omega (arith, halves)), halves);
    }

    -- "The predecessor is the inverse"
    pub prev_is : (prev d : List ℕ) → prev ≡ filled (2 * e) (first_place next (2 * e) absent) d → (h : ℕ) → h < 2 * e → get_or prev h 0 ≡ position h (followers g)
    prev_is prev d q h l =
        ap (λ (x : List ℕ). get_or x h 0) q ∙ filled_at (first_place next (2 * e) absent) (2 * e) h d 0 l ∙ ap (λ (j : ℕ). first_place next j absent h) (sym halves)
        ∙ place-predecessor g P next absent h next_holds (omega (arith, halves))

  -- "its least outgoing half-edge"
  pub least_is : (least d : List ℕ) → least ≡ filled n (first_place os (2 * e) absent) d → (v : ℕ) → v < n → get_or least v 0 ≡ least_half (leaves g v) (the_half_count g)
  least_is least d q v l = ap (λ (x : List ℕ). get_or x v 0) q ∙ filled_at (first_place os (2 * e) absent) n v d 0 l ∙ place-least ps os cs n e v

-- ── those of the points and pieces in c ──

module _ (ms : List Map) (c : Cut) (g : Graph) (q : g ≡ net (overlay_in ms c)) where
  pub walked : followers g ≡ (overlay_in ms c).walks.next
  unfolding overlay_in
  walked = ap followers q

  faced : (faces_of g).face ≡ (overlay_in ms c).face
  unfolding overlay_in
  faced = ap (λ (x : Graph). (faces_of x).face) q

  pub face-length : length (overlay_in ms c).face ≡ the_half_count g
  face-length = sym (ap length faced) ∙ length-table (face_in (walks_of g) (length g.points)) (the_half_count g)

  outer : (faces_of g).outers ≡ (overlay_in ms c).outers
  unfolding overlay_in
  outer = ap (λ (x : Graph). (faces_of x).outers) q

  holed : (k : ℕ) → table (holes_of (faces_of g)) k ≡ table (holes_of (overlay_in ms c)) k
  unfolding overlay_in
  holed k = ap (λ (x : Graph). table (holes_of (faces_of x)) k) q

module _ (ms : List Map) (c : Cut) (D : DrawableCut ms c) (os : List ℕ) (bs : List ℤ) (N : NetBy (overlay_in ms c) c os bs) where
  abbrev f : Graph
  f = flat_graph c.points os bs c.vertices c.edges

  abbrev q : f ≡ net (overlay_in ms c)
  q = N.net_is

  pub net-planar : Plane (flat_graph c.points os bs c.vertices c.edges)
  net-planar = subst Plane (sym q) D.drawable.plane

  -- in tables that were zero
  module _ (next₀ face₀ outers₀ holes₀ : List ℕ) (x y z w : ℕ) (no-next : Blank x next₀) (no-face : Blank y face₀) (no-outers : Blank z outers₀) (no_holes : Blank w holes₀) where
    pub faces_by : (next face outers holes : List ℕ) (n : ℕ) → FacesOver (faces_of (flat_graph c.points os bs c.vertices c.edges)) next₀ face₀ outers₀ holes₀ next face outers holes n
        → FacesBy (overlay_in ms c) next face outers holes n
    faces_by next face outers holes n A = record {
      next_is = over_blank x (overlay_in ms c).walks.next next₀ next no-next (A.next_is ∙ ap (λ (t : List ℕ). over t next₀) (walked ms c f q));
      face_is = over_blank y (overlay_in ms c).face face₀ face no-face (A.face_is ∙ ap (λ (t : List ℕ). over t face₀) (faced ms c f q));
      outers_is = over_blank z (overlay_in ms c).outers outers₀ outers no-outers (A.outers_is ∙ ap (λ (t : List ℕ). over t outers₀) (outer ms c f q));
      count_is = A.count_is ∙ ap length (outer ms c f q);
      holes_is = over_blank w (table (holes_of (overlay_in ms c)) (suc n)) holes₀ holes no_holes (A.holes_is ∙ ap (λ (t : List ℕ). over t holes₀) (holed ms c f q (suc n)));
    }

  pub prev_of : (next : List ℕ) → Zeroed (followers (flat_graph c.points os bs c.vertices c.edges)) next → (prev d : List ℕ) → prev ≡ filled (2 * c.edges) (first_place next (2 * c.edges) absent) d → PrevBy (overlay_in ms c) c prev
  prev_of next is prev d p h b = prev_is c.points os bs c.vertices c.edges net-planar next is prev d p h b ∙ ap (position h) (walked ms c f q)

  pub least_of_lem : (least d : List ℕ) → least ≡ filled c.vertices (first_place os (2 * c.edges) absent) d → LeastBy (overlay_in ms c) c least
  least_of_lem least d l v b = least_is c.points os bs c.vertices c.edges net-planar least d l v b ∙ ap (λ (x : Graph). least_half (leaves x v) (the_half_count x)) q
