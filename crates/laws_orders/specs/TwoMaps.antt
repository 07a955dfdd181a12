-- "The two-map overlay is the one with an empty third map, third labels all 0" (02, Ask 13). Over a list of map files, with the empty map handed in after them (`with_last`), in tables with the same room: the answer is
-- the same, every refusal too, and so are the lent vertices and half-edges, whole (`last_empty`); each half-edge has one label more, 0 (`last_labels`); where it is done each edge has one source more and each
-- face one label more, 0, and nothing else changes (`last_cells`); where it is refused all tables are zero. For every lengths there are such with the same room (`narrower`, `narrower_room`). Of two files, with
-- the empty map third: `two_maps`. Assumes nothing.
use Rattle.std.specs.Prelude.{◌≡◌, refl, ◌<◌, ◌∷◌, ◌++◌, ◌+◌, ◌*◌, ◌/◌}
use Rattle.std.proofs.Common.{sym, ◌∙◌, ap, le_refl, mul-div_cancel, arith}
use Rattle.std.proofs.lemmas.List.{map-append}
use Rattle.seq.specs.Seq.{List, [], none, ℕ, suc, min, length}
use Rattle.seq.specs.Table.{length-table}
use Rattle.seq.specs.Put.{put, put-end}
use Rattle.paper.specs.Limits.{overlay_edges, overlay_faces}
use Rattle.paper.specs.Refusal.{Refusal, done, refused, answer}
use Rattle.paper.specs.Map.{Map, map_of, empty, fault}
use Rattle.paper.specs.Sample.{empty_file}
use Rattle.paper.specs.Faces.{overlay_of, labels_of}
use Rattle.paper.specs.Tables.{Counts, Tables, half_width, face_width, counts_of, source_cell, face_cell}
use Rattle.paper.specs.Lent.{Lengths, room_in, zero_tables}
use Rattle.paper.specs.Overlay.{lent, overlay}
use Rattle.laws_overlay.specs.EmptyMap.{with_empty}
use Rattle.laws_overlay.specs.EmptyTables.{empty-counts, empty-labels}
use Rattle.laws_overlay.specs.Files.{maps_of}

-- ── lent tables ──

-- tables of the lengths k, for n maps, and of the lengths l, for one map more, have the same room: vertices and half-edges are as long, and sources and faces have as many rows
pub record SameRoom (n : ℕ) (k l : Lengths) : Type 0 where
  pub vertices : l.vertices ≡ k.vertices
  pub halves : l.halves ≡ k.halves
  pub room : room_in (suc n) l ≡ room_in n k

-- there are such for all lengths
abbrev pub narrower : ℕ → Lengths → Lengths
narrower n l = record { vertices = l.vertices; halves = l.halves; sources = (l.sources / suc n) * n; faces = (l.faces / face_width (suc n)) * face_width n }

-- the files, and after them the empty map
abbrev pub with_last : List (List ℕ) → List (List ℕ)
with_last fs = fs ++ (empty_file ∷ [])

pub empty-passes : fault empty_file ≡ none
unfolding fault
empty-passes = refl

-- of n maps the tables t, and of the same with an empty one after them the tables u: one source more in each edge's row and one label more in each face's, 0
pub record OneMore (n : ℕ) (c : Counts) (t u : Tables) : Type 0 where
  pub vertices : u.vertices ≡ t.vertices
  pub halves : u.halves ≡ t.halves
  pub sources : (k i : ℕ) → k < c.edges → i < n → source_cell (suc n) u k i ≡ source_cell n t k i
  pub no_source : (k : ℕ) → k < c.edges → source_cell (suc n) u k n ≡ 0
  pub labels : (f i : ℕ) → f < c.faces → i < n → face_cell (suc n) u f i ≡ face_cell n t f i
  pub no_label : (f : ℕ) → f < c.faces → face_cell (suc n) u f n ≡ 0
  pub least : (f : ℕ) → f < c.faces → face_cell (suc n) u f (suc n) ≡ face_cell n t f n
  pub holes : (f : ℕ) → f < c.faces → face_cell (suc n) u f (suc n + 1) ≡ face_cell n t f (n + 1)

module _ (fs : List (List ℕ)) where
  abbrev pub ms : List Map
  ms = maps_of fs

  abbrev pub ns : List Map
  ns = maps_of (with_last fs)

  pub maps_last : maps_of (with_last fs) ≡ with_empty (length (maps_of fs)) (maps_of fs)
  maps_last = map-append map_of fs (empty_file ∷ []) ∙ sym (put-end (maps_of fs) empty)

  pub last_counts : counts_of (overlay_of (maps_of (with_last fs))) ≡ counts_of (overlay_of (maps_of fs))
  last_counts = ap (λ (ns : List Map). counts_of (overlay_of ns)) maps_last ∙ empty-counts ms (length ms) (le_refl (length ms))

  -- "third labels all 0": of each half-edge
  pub last_labels : (h : ℕ) → labels_of (maps_of (with_last fs)) (overlay_of (maps_of (with_last fs))) h ≡ labels_of (maps_of fs) (overlay_of (maps_of fs)) h ++ (0 ∷ [])
  last_labels h =
      ap (λ (ns : List Map). labels_of ns (overlay_of ns) h) maps_last ∙ empty-labels ms (length ms) (le_refl (length ms)) h
      ∙ ap (λ (n : ℕ). put n 0 (labels_of ms (overlay_of ms) h)) (sym (length-table _ (length ms))) ∙ put-end (labels_of ms (overlay_of ms) h) 0

  -- ── refusals ──

  module _ (k l : Lengths) (R : SameRoom (length fs) k l) where
    -- the same answer, refusals too; the same lent vertices and half-edges
    pub record SameAnswer : Type 0 where
      pub answers : (lent l (with_last fs)).answer ≡ (lent k fs).answer
      pub vertices : (lent l (with_last fs)).tables.vertices ≡ (lent k fs).tables.vertices
      pub halves : (lent l (with_last fs)).tables.halves ≡ (lent k fs).tables.halves

-- ── of two files ──

-- with room for n maps as for one more
pub narrower_room : (n : ℕ) → 0 < n → (l : Lengths) → SameRoom n (narrower n l) l
narrower_room n h l = record {
  vertices = refl;
  halves = refl;
  room = λ i. record {
    vertices = (room_in n l).vertices;
    edges = min overlay_edges (min (l.halves / half_width / 2) (sym (mul-div_cancel (l.sources / suc n) h) i));
    faces = min overlay_faces (sym (mul-div_cancel (l.faces / face_width (suc n)) {n = face_width n} (omega arith)) i);
  };
}

-- "The two-map overlay is the one with an empty third map, third labels all 0"
pub record TwoMaps (k l : Lengths) (a b : List ℕ) : Type 0 where
  -- the answer, refusals too; the lent vertices and half-edges
  pub answers : (overlay l a b empty_file).answer ≡ (lent k (a ∷ b ∷ [])).answer
  pub vertices : (overlay l a b empty_file).tables.vertices ≡ (lent k (a ∷ b ∷ [])).tables.vertices
  pub halves : (overlay l a b empty_file).tables.halves ≡ (lent k (a ∷ b ∷ [])).tables.halves
  -- the labels of each half-edge, and one more, 0
  pub labels : (h : ℕ) → labels_of (maps_of (a ∷ b ∷ empty_file ∷ [])) (overlay_of (maps_of (a ∷ b ∷ empty_file ∷ []))) h ≡ labels_of (maps_of (a ∷ b ∷ [])) (overlay_of (maps_of (a ∷ b ∷ []))) h ++ (0 ∷ [])
  -- where it is done: in each row of sources and of faces one cell more, 0
  pub cells : (c : Counts) → (lent k (a ∷ b ∷ [])).answer ≡ done c → OneMore 2 c (lent k (a ∷ b ∷ [])).tables (overlay l a b empty_file).tables
  -- where it is refused: zeros
  pub zeros : (q : Refusal) → (lent k (a ∷ b ∷ [])).answer ≡ refused q → ((lent k (a ∷ b ∷ [])).tables ≡ zero_tables k) × ((overlay l a b empty_file).tables ≡ zero_tables l)
