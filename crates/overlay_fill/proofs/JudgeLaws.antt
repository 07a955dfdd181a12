-- Refusals in the order in which the code finds them: the maps, then vertices and edges over the room, then faces. Assumes nothing.
use Rattle.std.specs.Prelude.{◌∷◌, ◌+◌}
use mathlib.Core.Path.{◌≡◌, refl, sym, ◌∙◌, ap}
use Prim.Native.Nat.{◌≤◌, ◌<◌}
use native.Mathlib.Decide.{dec_lt}
use native.Mathlib.Numerals.{add-one}
use native.Mathlib.Omega.{arith}
use borrow.Author.Tests.{ltb-false, lt-ltb, le-ltb}
use Rattle.seq.specs.Seq.{Bool, true, false, List, [], map, Option, none, some, ℕ, suc, ltb, length}
use lib.ListN.{length-map}
use Rattle.seq.specs.Table.{length-table}
use Rattle.paper.specs.Limits.{maps, overlay_vertices, overlay_edges}
use Rattle.paper.specs.Refusal.{Refusal, given, first_of}
use Rattle.paper.specs.Graph.{edge_count}
use Rattle.paper.specs.Map.{Map, map_of}
use Rattle.paper.specs.Pieces.{vertices_of, edges_of, edge_of}
use Rattle.paper.specs.Faces.{Overlay, net, overlay_of}
use Rattle.paper.specs.Tables.{Counts, counts_of, tables_of}
use Rattle.paper.specs.Lent.{Lengths, room_in, room_faults, outcome}
use Rattle.paper.specs.Overlay.{map_faults, lent}
use Rattle.laws_refusals.specs.Refusals.{nothing, given_none, none_given, first_none, first_some, first_one}
use Rattle.graph.specs.Flat.{the_point_at}
use Rattle.overlay_cut.specs.PieceRows.{piece_at, pieces_in}
use Rattle.overlay_graph.specs.Cut.{Cut, CutOf, overlay_in}
use Rattle.overlay_fill.specs.Judged.{laid_out, overlaid, done_with, refused_with, Within}

-- ── the maps ──

module _ (files : List (List ℕ)) (l : Lengths) where
  abbrev found : Option Refusal
  found = first_of (map_faults files)

  abbrev maps_in : List Map
  maps_in = map map_of files

  abbrev counts : Counts
  counts = counts_of (overlay_of maps_in)

  pub maps-refused : (r : Refusal) → found ≡ some r → refused_with l r ≡ lent l files
  maps-refused r e =
      sym (ap (outcome l counts (tables_of maps_in (overlay_of maps_in))) (first_some (map_faults files) (room_faults (room_in (length files) l) counts) e))

  pub maps-pass : length files ≡ maps → found ≡ none → overlaid maps_in l ≡ lent l files
  maps-pass every e =
      ap (λ (n : ℕ). outcome l counts (tables_of maps_in (overlay_of maps_in)) (first_of (room_faults (room_in n l) counts))) (sym every)
      ∙ sym (ap (outcome l counts (tables_of maps_in (overlay_of maps_in))) (first_none (map_faults files) (room_faults (room_in (length files) l) counts) e))

-- ── counts ──

-- a number that is exact up to the limit is over a room within the limit exactly if what it counts is
over_same : (room n m limit : ℕ) → room ≤ limit → (n ≤ limit → n ≡ m) → (limit < n → limit < m) → ltb room n ≡ ltb room m
over_same room n m limit h exact more =
    elim (dec_lt limit n) [
      | yes q ↦ let k = more q in lt-ltb room n (omega arith) ∙ sym (lt-ltb room m (omega arith))
      | no q ↦ ap (ltb room) (exact (omega arith))
    ]

-- vertices, then edges: the second is asked for only where the first is not over
two_places : (v e w d : Bool) (rest : List (Option Refusal)) → v ≡ w → (v ≡ false → e ≡ d) →
    first_of (given 11 1 w ∷ given 11 2 d ∷ rest) ≡ first_of (first_of (given 11 1 v ∷ given 11 2 e ∷ []) ∷ rest)
two_places true e w d rest p q = sym (ap (λ (b : Bool). first_of (given 11 1 b ∷ given 11 2 d ∷ rest)) p)
two_places false e w d rest p q = sym (λ i. first_of (given 11 1 (p i) ∷ given 11 2 (q refl i) ∷ rest)) ∙ one e
  where
    one : (e : Bool) → first_of (given 11 1 false ∷ given 11 2 e ∷ rest) ≡ first_of (first_of (given 11 1 false ∷ given 11 2 e ∷ []) ∷ rest)
    one true = refl
    one false = refl

module _ (ms : List Map) (c : Cut) (C : CutOf ms c) where
  abbrev o : Overlay
  o = overlay_of ms

  vertices_in : length (net (overlay_of ms)).points ≡ length (vertices_of ms)
  unfolding overlay_of
  vertices_in = refl

  edges_in_lem : edge_count (net (overlay_of ms)) ≡ length (edges_of ms (vertices_of ms))
  unfolding overlay_of
  edges_in_lem = length-map (edges_of ms (vertices_of ms)) (edge_of ms)

  vertices_over : (room : ℕ) → room ≤ overlay_vertices → ltb room c.vertices ≡ ltb room (counts_of o).vertices
  vertices_over room h =
      over_same room c.vertices (counts_of o).vertices overlay_vertices h
      (λ q. sym (length-table (the_point_at c.points) c.vertices) ∙ ap length (C.vertices-are q) ∙ sym vertices_in)
      (λ q. omega (arith, C.vertices_over q, vertices_in))

  edges_over : c.vertices ≤ overlay_vertices → (room : ℕ) → room ≤ overlay_edges → ltb room c.edges ≡ ltb room (counts_of o).edges
  edges_over few room h =
      over_same room c.edges (counts_of o).edges overlay_edges h
      (λ q. sym (length-table (piece_at c.pieces) c.edges) ∙ ap length (C.edges_are few q) ∙ sym edges_in_lem)
      (λ q. omega (arith, C.edges_over few q, edges_in_lem))

  module _ (l : Lengths) where
    abbrev room : Counts
    room = room_in maps l

    abbrev judged : Option Refusal
    judged = first_of (given 11 1 (ltb room.vertices c.vertices) ∷ given 11 2 (ltb room.edges c.edges) ∷ [])

    -- vertices and edges, then faces
    judged_first : first_of (room_faults room (counts_of o)) ≡ first_of (judged ∷ given 11 3 (ltb room.faces (counts_of o).faces) ∷ [])
    judged_first =
        two_places (ltb room.vertices c.vertices) (ltb room.edges c.edges) (ltb room.vertices (counts_of o).vertices) (ltb room.edges (counts_of o).edges)
        (given 11 3 (ltb room.faces (counts_of o).faces) ∷ [])
        (vertices_over room.vertices (omega arith))
        (λ e. edges_over (omega (arith, ltb-false room.vertices c.vertices e)) room.edges (omega arith))

    pub cut_over : (r : Refusal) → judged ≡ some r → first_of (room_faults (room_in maps l) (counts_of (overlay_of ms))) ≡ some r
    cut_over r e = judged_first ∙ ap (λ (x : Option Refusal). first_of (x ∷ given 11 3 (ltb room.faces (counts_of o).faces) ∷ [])) e

    pub cut_within : judged ≡ none → Within c l
    cut_within e =
        let n = nothing (given 11 1 (ltb room.vertices c.vertices) ∷ given 11 2 (ltb room.edges c.edges) ∷ []) e in
        record {
          vertices = ltb-false room.vertices c.vertices (given_none 11 1 (ltb room.vertices c.vertices) n.0);
          edges = ltb-false room.edges c.edges (given_none 11 2 (ltb room.edges c.edges) n.1.0);
        }

-- ── faces, of points and pieces in tables ──

module _ (ms : List Map) (c : Cut) (l : Lengths) (w : Within c l) (n : ℕ) (counted : n ≡ length (overlay_in ms c).outers) where
  abbrev drawn : Overlay
  drawn = overlay_in ms c

  abbrev lent_room : Counts
  lent_room = room_in maps l

  vertices_in-cut : (counts_of drawn).vertices ≡ c.vertices
  unfolding overlay_in
  vertices_in-cut = length-table (the_point_at c.points) c.vertices

  edges_in-cut : (counts_of drawn).edges ≡ c.edges
  unfolding overlay_in
  edges_in-cut = length-map (pieces_in c.pieces c.edges) (edge_of ms) ∙ length-table (piece_at c.pieces) c.edges

  faces_in_cut : (counts_of drawn).faces ≡ n + 1
  faces_in_cut = ap suc (sym counted) ∙ sym (add-one n)

  -- vertices and edges have room
  pub faces_last : first_of (room_faults (room_in maps l) (counts_of (overlay_in ms c))) ≡ given 11 3 (ltb (room_in maps l).faces (n + 1))
  faces_last =
      let p = none_given 11 1 (ltb lent_room.vertices (counts_of drawn).vertices) (le-ltb lent_room.vertices (counts_of drawn).vertices (omega (arith, vertices_in-cut, w.vertices))) in
      let q = none_given 11 2 (ltb lent_room.edges (counts_of drawn).edges) (le-ltb lent_room.edges (counts_of drawn).edges (omega (arith, edges_in-cut, w.edges))) in
      (λ i. first_of (p i ∷ q i ∷ given 11 3 (ltb lent_room.faces (faces_in_cut i)) ∷ [])) ∙ first_one (given 11 3 (ltb lent_room.faces (n + 1)))

  pub faces-refused : (room_in maps l).faces < n + 1 → refused_with l (record { number = 11; map = 0; place = 3; other = 0 }) ≡ laid_out ms (overlay_in ms c) l
  faces-refused h =
      sym (ap (outcome l (counts_of drawn) (tables_of ms drawn)) (faces_last ∙ ap (given 11 3) (lt-ltb lent_room.faces (n + 1) h)))

  pub all_within : n + 1 ≤ (room_in maps l).faces → done_with l (counts_of (overlay_in ms c)) (tables_of ms (overlay_in ms c)) ≡ laid_out ms (overlay_in ms c) l
  all_within h =
      sym (ap (outcome l (counts_of drawn) (tables_of ms drawn)) (faces_last ∙ ap (given 11 3) (le-ltb lent_room.faces (n + 1) h)))
