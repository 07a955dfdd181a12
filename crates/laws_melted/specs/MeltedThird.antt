-- "The two-map overlay is the one with an empty third map, third labels all 0" (02, Ask 13), of melting: over a list of map files, with the empty map handed in after them (`with_last`), in tables with the same room
-- (`SameRoom` of laws_orders; for every lengths there are such, `narrower_room`), the answer is the same, every refusal too, and so are the melted vertices and half-edges, whole tables; where it is done each edge has one
-- source more and each face one label more, 0, and nothing else changes; where it is refused all tables are zero (`melted_last`). So melting two maps is melting three with an empty third (`melted-third`). From the promise
-- alone. Assumes nothing.
use Rattle.std.proofs.lemmas.List.{map-append, get_or-replicate}
use Rattle.std.specs.Prelude.{◌≡◌, refl, ◌<◌, ◌∷◌, ◌+◌, ◌/◌}
use Rattle.std.proofs.Common.{sym, ◌∙◌, subst, le_refl, arith, length-append}
use Rattle.std.proofs.Math.Path.{ap}
use Rattle.seq.specs.Seq.{List, [], map, Option, none, some, ℕ, zero, suc, length, get_or, pos, padded}
use Rattle.seq.specs.Table.{table_at}
use Rattle.seq.specs.Put.{put_before, put-default, put-end}
use Rattle.paper.specs.Refusal.{Refusal, done, refused, answer, unless_refused}
use Rattle.paper.specs.Map.{Map, map_of, empty}
use Rattle.paper.specs.Sample.{empty_file}
use Rattle.paper.specs.Pieces.{Piece, layer}
use Rattle.paper.specs.Faces.{Overlay, overlay_of, net, label_in, labels_of, holes_of}
use Rattle.paper.specs.Tables.{Counts, Tables, face_cell, source_cell, the_plus_one, counts_of, tables_of}
use Rattle.paper.specs.Lent.{Lengths, Outcome, padded_tables, zero_tables}
use Rattle.paper.specs.Melt.{melted_of, melted_pieces, melted_graph}
use Rattle.laws_overlay.specs.Sources.{source_at}
use Rattle.laws_overlay.specs.Pieces.{piece_at}
use Rattle.laws_overlay.specs.Cells.{face_labels, face_half}
use Rattle.laws_overlay.specs.EmptyMap.{with_empty, with_none, one_more, layer_before, layer-own}
use Rattle.laws_overlay.specs.EmptyTables.{with_nones}
use Rattle.laws_overlay.specs.Files.{maps_of, maps-count}
use Rattle.laws_orders.specs.TwoMaps.{SameRoom, OneMore, with_last}
use Rattle.laws_orders.proofs.TwoMaps.{last_empty}
use Rattle.laws_melt.specs.MeltEmpty.{melted-empty}
use Rattle.tables.specs.Answers as code
use Rattle.tables.specs.Values.{answer_of}
use Rattle.tables.specs.Promise.{PromisedMelted}
use Rattle.laws_promise.specs.Rows.{Rows}
use Rattle.laws_melted.specs.Answers.{melted_counts, melted_tables, found, melted-refused}
use Rattle.laws_melted.specs.Keeps.{melted-hold}

-- ── the overlay with one source more, none, after the others: labels and rows ──

module _ (a : ℕ) where
  source_before : (l : List Piece) (k i : ℕ) → i < a → source_at (piece_at (map (with_none a) l) k).sources i ≡ source_at (piece_at l k).sources i
  source_before [] k i h = refl
  source_before (p ∷ ps) zero i h = put_before a none p.sources none i h
  source_before (p ∷ ps) (suc k) i h = source_before ps k i h

  source-own : (l : List Piece) (k : ℕ) → source_at (piece_at (map (with_none a) l) k).sources a ≡ none
  source-own [] k = refl
  source-own (p ∷ ps) zero = put-default a p.sources none
  source-own (p ∷ ps) (suc k) = source-own ps k

module _ (ms : List Map) (o : Overlay) where
  abbrev n : ℕ
  n = length ms

  abbrev more : List Map
  more = with_empty (length ms) ms

  abbrev o' : Overlay
  o' = with_nones (length ms) o

  within : {i : ℕ} → i < suc n → i < length more
  within {i} = subst (λ (z : ℕ). i < z) (sym (one_more ms n (le_refl n)))

  abbrev label_by : List Map → Overlay → ℕ → ℕ → ℕ
  label_by l q x i = label_in (layer l i) (net q) x (source_at (piece_at q.pieces (x / 2)).sources i)

  label_before : (x i : ℕ) → i < n → get_or (labels_of more o' x) i 0 ≡ get_or (labels_of ms o x) i 0
  label_before x i l =
      table_at (label_by more o' x) (length more) i 0 (within (omega arith))
      ∙ (λ j. label_in (layer_before ms n (le_refl n) i l j) (net o) x (source_before n o.pieces (x / 2) i l j))
      ∙ sym (table_at (label_by ms o x) n i 0 l)

  label_last : (x : ℕ) → get_or (labels_of more o' x) n 0 ≡ 0
  label_last x =
      table_at (label_by more o' x) (length more) n 0 (within (omega arith))
      ∙ (λ j. label_in (layer-own ms n (le_refl n) j) (net o) x (source-own n o.pieces (x / 2) j))

  face_before : (f i : ℕ) → i < n → get_or (face_labels more o' f) i 0 ≡ get_or (face_labels ms o f) i 0
  face_before zero i l = get_or-replicate (length more) i 0 0 (within (omega arith)) ∙ sym (get_or-replicate n i 0 0 l)
  face_before (suc f) i l = label_before (get_or o.outers f 0) i l

  face_last : (f : ℕ) → get_or (face_labels more o' f) n 0 ≡ 0
  face_last zero = get_or-replicate (length more) n 0 0 (within (omega arith))
  face_last (suc f) = label_last (get_or o.outers f 0)

  same_half : (f : ℕ) → face_half more o' f ≡ face_half ms o f
  same_half zero = refl
  same_half (suc f) = refl

-- an answer tells what was found
found_by : (x y : Counts) (a b : Option Refusal) → answer x a ≡ answer y b → a ≡ b
found_by x y none none e = refl
found_by x y none (some r) e = absurd (let z : ◌≡◌ {A = ℕ} 0 1 = cc in omega arith)
found_by x y (some r) none e = absurd (let z : ◌≡◌ {A = ℕ} 0 1 = cc in omega arith)
found_by x y (some r) (some s) e = cc

-- ── a list of files, and the empty map after them ──

module _ (fs : List (List ℕ)) where
  abbrev ms : List Map
  ms = maps_of fs

  abbrev ns : List Map
  ns = maps_of (with_last fs)

  maps_last : maps_of (with_last fs) ≡ with_empty (length (maps_of fs)) (maps_of fs)
  maps_last = map-append map_of fs (empty_file ∷ []) ∙ sym (put-end (maps_of fs) empty)

  left_last : melted_of (with_empty (length (maps_of fs)) (maps_of fs)) ≡ with_nones (length (maps_of fs)) (melted_of (maps_of fs))
  left_last = melted-empty ms (length ms) (le_refl (length ms))

  counts_last : melted_counts (with_last fs) ≡ melted_counts fs
  counts_last = ap (λ (x : List Map). counts_of (melted_of x)) maps_last ∙ ap counts_of left_last

  vertices_last : (melted_tables (with_last fs)).vertices ≡ (melted_tables fs).vertices
  unfolding tables_of
  vertices_last = ap (λ (x : List Map). (tables_of x (melted_of x)).vertices) maps_last ∙ ap (λ (o : Overlay). (tables_of ms o).vertices) left_last

  halves_last : (melted_tables (with_last fs)).halves ≡ (melted_tables fs).halves
  unfolding tables_of
  halves_last = ap (λ (x : List Map). (tables_of x (melted_of x)).halves) maps_last ∙ ap (λ (o : Overlay). (tables_of ms o).halves) left_last

  pieces_last : melted_pieces (maps_of (with_last fs)) (overlay_of (maps_of (with_last fs))) ≡ map (with_none (length (maps_of fs))) (melted_pieces (maps_of fs) (overlay_of (maps_of fs)))
  unfolding melted_of
  pieces_last = ap (λ (x : List Map). (melted_of x).pieces) maps_last ∙ ap (λ (o : Overlay). o.pieces) left_last

  -- in tables that hold the rows of both, one source and one label more, 0; nothing else
  module _ (c : Counts) (t u : Tables) (T : Rows (maps_of fs) (melted_pieces (maps_of fs) (overlay_of (maps_of fs))) (melted_graph (maps_of fs) (overlay_of (maps_of fs))) c t)
      (U : Rows (maps_of (with_last fs)) (melted_pieces (maps_of (with_last fs)) (overlay_of (maps_of (with_last fs)))) (melted_graph (maps_of (with_last fs)) (overlay_of (maps_of (with_last fs)))) c u) where
    abbrev n' : ℕ
    n' = length (maps_of fs)

    count_last : length ns ≡ suc n'
    count_last = omega (arith, maps-count (with_last fs), length-append fs (empty_file ∷ []), maps-count fs)

    in_last : {i : ℕ} → i < suc n' → i < length ns
    in_last {i} = subst (λ (z : ℕ). i < z) (sym count_last)

    source_is : (k i : ℕ) → k < c.edges → i < suc n' → source_cell (suc n') u k i ≡ the_plus_one (source_at (piece_at (map (with_none n') (melted_pieces ms (overlay_of ms))) k).sources i)
    source_is k i a b = ap (λ (z : ℕ). source_cell z u k i) (sym count_last) ∙ U.source_at_lem k i a (in_last b) ∙ ap (λ (l : List Piece). the_plus_one (source_at (piece_at l k).sources i)) pieces_last

    -- of the cells of a face
    label_of_lem : (f i : ℕ) → f < c.faces → i < length ns → face_cell (length ns) u f i ≡ get_or (face_labels ns (melted_of ns) f) i 0
    unfolding melted_of
    label_of_lem = U.label_at_lem

    label_by_lem : (f i : ℕ) → f < c.faces → i < n' → face_cell n' t f i ≡ get_or (face_labels ms (melted_of ms) f) i 0
    unfolding melted_of
    label_by_lem = T.label_at_lem

    half_of : (f : ℕ) → f < c.faces → face_cell (length ns) u f (length ns) ≡ face_half ns (melted_of ns) f
    unfolding melted_of
    half_of = U.least_at

    half_by : (f : ℕ) → f < c.faces → face_cell n' t f n' ≡ face_half ms (melted_of ms) f
    unfolding melted_of
    half_by = T.least_at

    holes_of_lem : (f : ℕ) → f < c.faces → face_cell (length ns) u f (length ns + 1) ≡ holes_of (melted_of ns) f
    unfolding melted_of
    holes_of_lem = U.holes_at

    holes_by : (f : ℕ) → f < c.faces → face_cell n' t f (n' + 1) ≡ holes_of (melted_of ms) f
    unfolding melted_of
    holes_by = T.holes_at

    label_is : (f i : ℕ) → f < c.faces → i < suc n' → face_cell (suc n') u f i ≡ get_or (face_labels (with_empty n' ms) (with_nones n' (melted_of ms)) f) i 0
    label_is f i a b =
        ap (λ (z : ℕ). face_cell z u f i) (sym count_last) ∙ label_of_lem f i a (in_last b)
        ∙ ap (λ (x : List Map). get_or (face_labels x (melted_of x) f) i 0) maps_last ∙ ap (λ (o : Overlay). get_or (face_labels (with_empty n' ms) o f) i 0) left_last

    rows_last : u.vertices ≡ t.vertices → u.halves ≡ t.halves → OneMore n' c t u
    rows_last v h = record {
      vertices = v;
      halves = h;
      sources = λ k i a b. source_is k i a (omega arith) ∙ ap the_plus_one (source_before n' (melted_pieces ms (overlay_of ms)) k i b) ∙ sym (T.source_at_lem k i a b);
      no_source = λ k a. source_is k n' a (omega arith) ∙ ap the_plus_one (source-own n' (melted_pieces ms (overlay_of ms)) k);
      labels = λ f i a b. label_is f i a (omega arith) ∙ face_before ms (melted_of ms) f i b ∙ sym (label_by_lem f i a b);
      no_label = λ f a. label_is f n' a (omega arith) ∙ face_last ms (melted_of ms) f;
      least = λ f a.
          ap (λ (z : ℕ). face_cell z u f z) (sym count_last) ∙ half_of f a ∙ ap (λ (x : List Map). face_half x (melted_of x) f) maps_last
          ∙ ap (λ (o : Overlay). face_half (with_empty n' ms) o f) left_last ∙ same_half ms (melted_of ms) f ∙ sym (half_by f a);
      holes = λ f a.
          ap (λ (z : ℕ). face_cell z u f (z + 1)) (sym count_last) ∙ holes_of_lem f a ∙ ap (λ (x : List Map). holes_of (melted_of x) f) maps_last
          ∙ ap (λ (o : Overlay). holes_of o f) left_last ∙ sym (holes_by f a);
    }

-- ── from the promises ──

-- r and t come out of melting the files fs, in tables of the lengths k; q and u of melting them with the empty map after them, in tables of the lengths l
pub record MeltedLast (k l : Lengths) (fs : List (List ℕ)) (r q : code.Answer) (t u : Tables) : Type 0 where
  -- the same answer, counts or refusal
  pub answers : answer_of q ≡ answer_of r
  -- the same vertices and half-edges, whole tables
  pub vertices : u.vertices ≡ t.vertices
  pub halves : u.halves ≡ t.halves
  -- where it is done, in each row of sources and of faces one cell more, 0
  pub cells : (c : Counts) → answer_of r ≡ done c → OneMore (length fs) c t u
  -- where it is refused, zeros
  pub zeros : (x : Refusal) → answer_of r ≡ refused x → (t ≡ zero_tables k) × (u ≡ zero_tables l)

module _ (k l : Lengths) (fs : List (List ℕ)) (S : SameRoom (length fs) k l) (r q : code.Answer) (t u : Tables) (promise : PromisedMelted k fs r t) (last : PromisedMelted l (with_last fs) q u) where
  found_last : found l (with_last fs) ≡ found k fs
  found_last = found_by _ _ (found l (with_last fs)) (found k fs) (last_empty fs k l S).answers

  same_answers : answer_of q ≡ answer_of r
  same_answers = ap (λ (o : Outcome). o.answer) last ∙ (λ i. answer (counts_last fs i) (found_last i)) ∙ sym (ap (λ (o : Outcome). o.answer) promise)

  vertices_by_lem : (x : Option Refusal) → (unless_refused (padded_tables l (melted_tables (with_last fs))) (zero_tables l) x).vertices ≡ (unless_refused (padded_tables k (melted_tables fs)) (zero_tables k) x).vertices
  vertices_by_lem none = λ i. padded (pos 0) (S.vertices i) (vertices_last fs i)
  vertices_by_lem (some x) = λ i. padded (pos 0) (S.vertices i) []

  halves_by : (x : Option Refusal) → (unless_refused (padded_tables l (melted_tables (with_last fs))) (zero_tables l) x).halves ≡ (unless_refused (padded_tables k (melted_tables fs)) (zero_tables k) x).halves
  halves_by none = λ i. padded 0 (S.halves i) (halves_last fs i)
  halves_by (some x) = λ i. padded {A = ℕ} 0 (S.halves i) []

  same_vertices : u.vertices ≡ t.vertices
  same_vertices =
      ap (λ (o : Outcome). o.tables.vertices) last
      ∙ ap (λ (x : Option Refusal). (unless_refused (padded_tables l (melted_tables (with_last fs))) (zero_tables l) x).vertices) found_last
      ∙ vertices_by_lem (found k fs) ∙ sym (ap (λ (o : Outcome). o.tables.vertices) promise)

  same_halves : u.halves ≡ t.halves
  same_halves =
      ap (λ (o : Outcome). o.tables.halves) last
      ∙ ap (λ (x : Option Refusal). (unless_refused (padded_tables l (melted_tables (with_last fs))) (zero_tables l) x).halves) found_last
      ∙ halves_by (found k fs) ∙ sym (ap (λ (o : Outcome). o.tables.halves) promise)

  pub melted_last : MeltedLast k l fs r q t u
  melted_last = record {
    answers = same_answers;
    vertices = same_vertices;
    halves = same_halves;
    cells = λ c e.
        subst (λ (n : ℕ). OneMore n c t u) (maps-count fs)
        (rows_last fs c t u (melted-hold k fs r t promise c e) (melted-hold l (with_last fs) q u last c (same_answers ∙ e)) same_vertices same_halves);
    zeros = λ x e. ((melted-refused k fs r t promise x e).1, (melted-refused l (with_last fs) q u last x (same_answers ∙ e)).1);
  }

-- of two files, with the empty map third
pub melted-third : (k l : Lengths) → SameRoom 2 k l → (a b : List ℕ) (r q : code.Answer) (t u : Tables) → PromisedMelted k (a ∷ b ∷ []) r t → PromisedMelted l (a ∷ b ∷ empty_file ∷ []) q u → MeltedLast k l (a ∷ b ∷ []) r q t u
melted-third k l S a b = melted_last k l (a ∷ b ∷ []) S
