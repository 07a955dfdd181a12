-- Ask 11 in the lent tables: map files in another order, all of which pass, with the same room. Whenever the overlay is done, so is that of the other order, with the same counts; vertices and half-edges are the same,
-- cell by cell; a face has the same least half-edge and hole count; and the sources of an edge and the labels of a face go with the maps (`exchanged-tables`). For two files: `exchanged` of Orders. Assumes nothing.
use Rattle.std.specs.Prelude.{◌≡◌, ◌<◌, ◌+◌}
use Rattle.std.proofs.Common.{sym, ◌∙◌, ap, subst, arith}
use Rattle.std.proofs.lemmas.List.{length-map}
use Rattle.seq.specs.Seq.{List, ℕ, length}
use Rattle.paper.specs.Refusal.{done}
use Rattle.paper.specs.Map.{Map, map_of}
use Rattle.paper.specs.Faces.{overlay_of}
use Rattle.paper.specs.Tables.{Counts, Tables, face_width, counts_of, tables_of, source_cell, face_cell}
use Rattle.paper.specs.Lent.{Lengths}
use Rattle.paper.specs.Overlay.{lent}
use Rattle.laws_overlay.specs.Maps.{AllKeep}
use Rattle.laws_overlay.specs.Renumber.{Renumbers, renumber_keeps}
use Rattle.laws_overlay.specs.Exchange.{FaceUnchanged}
use Rattle.laws_overlay.proofs.Exchange.{renumber_face}
use Rattle.laws_labels.specs.Done.{done-passes, done-counts, done-tables}
use Rattle.laws_orders.specs.Orders.{FilesRenumbered, maps-renumbered, orders-done, orders-source}
use Rattle.laws_overlay.specs.Files.{AllPass, maps_of, files-keep}
use Rattle.laws_overlay.specs.Padded.{padded-face}
use Rattle.laws_overlay.proofs.Padded.{padded-source}

-- ── in another order ──

pub record SameTables (n : ℕ) (to : ℕ → ℕ) (c : Counts) (t u : Tables) : Type 0 where
  pub vertices : u.vertices ≡ t.vertices
  pub halves : u.halves ≡ t.halves
  pub sources : (k i : ℕ) → k < c.edges → i < n → source_cell n u k (to i) ≡ source_cell n t k i
  pub labels : (f i : ℕ) → f < c.faces → i < n → face_cell n u f (to i) ≡ face_cell n t f i
  pub least : (f : ℕ) → f < c.faces → face_cell n u f n ≡ face_cell n t f n
  pub holes : (f : ℕ) → f < c.faces → face_cell n u f (n + 1) ≡ face_cell n t f (n + 1)

module _ (l : Lengths) (fs gs : List (List ℕ)) (to back : ℕ → ℕ) (R : FilesRenumbered fs gs to back) (c : Counts) (d : (lent l fs).answer ≡ done c) where
  P : AllPass fs
  P = done-passes l fs c d

  abbrev ms : List Map
  ms = maps_of fs

  abbrev ns : List Map
  ns = maps_of gs

  N : Renumbers ms ns to back
  N = maps-renumbered l fs gs to back R

  K : AllKeep ms
  K = files-keep fs P

  L : AllKeep ns
  L = renumber_keeps ms ns to back N K

  pub done_too : (lent l gs).answer ≡ done c
  done_too = (orders-done l fs gs to back R P).same_answer ∙ d

  count_is : length ms ≡ length fs
  count_is = length-map fs map_of

  counts-fs : c ≡ counts_of (overlay_of ms)
  counts-fs = done-counts l fs c d

  counts-gs : c ≡ counts_of (overlay_of ns)
  counts-gs = done-counts l gs c done_too

  by_source : (k i : ℕ) → k < c.edges → i < length ms → source_cell (length ms) (lent l gs).tables k (to i) ≡ source_cell (length ms) (lent l fs).tables k i
  by_source k i lk li =
      (λ x. source_cell (sym N.count x) (done-tables l gs c done_too x) k (to i))
      ∙ padded-source ns l L k (to i) (subst (λ (z : Counts). k < z.edges) counts-gs lk) (subst (λ (n : ℕ). to i < n) (sym N.count) (N.to_in i li))
      ∙ orders-source fs gs to back R P l k i (subst (λ (z : Counts). k < z.edges) counts-fs lk) li
      ∙ sym (padded-source ms l K k i (subst (λ (z : Counts). k < z.edges) counts-fs lk) li)
      ∙ sym (λ x. source_cell (length ms) (done-tables l fs c d x) k i)

  module _ (f : ℕ) (lf : f < c.faces) where
    in_ms : f < (counts_of (overlay_of ms)).faces
    in_ms = subst (λ (z : Counts). f < z.faces) counts-fs lf

    in_ns : f < (counts_of (overlay_of ns)).faces
    in_ns = subst (λ (z : Counts). f < z.faces) counts-gs lf

    F : FaceUnchanged ms ns to back N K f
    F = renumber_face ms ns to back N K f in_ms

    -- cell j' of the one is cell j of the other
    by_face : (j j' : ℕ) → j < face_width (length ms) → j' < face_width (length ns) →
        face_cell (length ns) (tables_of ns (overlay_of ns)) f j' ≡ face_cell (length ms) (tables_of ms (overlay_of ms)) f j → face_cell (length ms) (lent l gs).tables f j' ≡ face_cell (length ms) (lent l fs).tables f j
    by_face j j' a b e =
        (λ x. face_cell (sym N.count x) (done-tables l gs c done_too x) f j') ∙ padded-face ns l f j' in_ns b ∙ e ∙ sym (padded-face ms l f j in_ms a) ∙ sym (λ x. face_cell (length ms) (done-tables l fs c d x) f j)

    by_least : face_cell (length ms) (lent l gs).tables f (length ms) ≡ face_cell (length ms) (lent l fs).tables f (length ms)
    by_least = ap (face_cell (length ms) (lent l gs).tables f) (sym N.count) ∙ by_face (length ms) (length ns) (omega arith) (omega arith) F.least

    by_holes : face_cell (length ms) (lent l gs).tables f (length ms + 1) ≡ face_cell (length ms) (lent l fs).tables f (length ms + 1)
    by_holes = ap (λ (n : ℕ). face_cell (length ms) (lent l gs).tables f (n + 1)) (sym N.count) ∙ by_face (length ms + 1) (length ns + 1) (omega arith) (omega arith) F.holes

  pub exchanged-tables : SameTables (length (maps_of fs)) to c (lent l fs).tables (lent l gs).tables
  exchanged-tables =
      let S = orders-done l fs gs to back R P in
      record {
        vertices = S.same_vertices;
        halves = S.same_halves;
        sources = by_source;
        labels = λ f i lf li. by_face f lf i (to i) (omega arith) (omega (arith, N.to_in i li, N.count)) ((F f lf).labels i li);
        least = by_least;
        holes = by_holes;
      }
