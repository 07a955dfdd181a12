-- "every sounding looked up west in the melted tables has the pair that Ask 3 gives it" (02, Ask 12). The look is in the melted tables, over their own points and edges, in 01's words and with no algorithm (`LiesIn` of
-- laws_cells); the labels that Ask 3 gives a sounding are found by a look in each map (`cell_of`). From the promise alone (`PromisedMelted`), of any list of map files, whenever it is done: the labels of a sounding are those stored for
-- the face of the melted tables that it lies in (`melted-cell-stored`), for a list `melted-cells-stored`; it lies in a face (`melted-lies_somewhere`) and in no second (`melted-lies-once`). In some of the maps:
-- `melted_first_stored`; in the first two of three, the pair (`melted-pair-stored`), and the counts by pair that come out (`melted-times-stored`). And it is what the overlay's tables store for it
-- (`melted_as_overlay`). Assumes nothing.
use Rattle.std.specs.Prelude.{◌≡◌, refl, ◌<◌, ◌∷◌, ◌++◌, ◌*◌}
use Rattle.std.proofs.Common.{sym, ◌∙◌, ap, subst, inl, arith, length-append}
use Rattle.std.specs.Int.Signed.{≤ℤ_refl}
use Rattle.std.proofs.Math.ListN.{get_or-append}
use Rattle.seq.specs.Seq.{List, [], Option, none, some, ℕ, length, get_or, pos, replicate, table, or_zero}
use Rattle.seq.specs.Table.{table_at, table-ext}
use Rattle.paper.specs.Plane.{Vec, whole}
use Rattle.paper.specs.Graph.{Graph, west}
use Rattle.paper.specs.Refusal.{done}
use Rattle.paper.specs.Map.{Map, map_of, label}
use Rattle.paper.specs.Pieces.{Piece, layer}
use Rattle.paper.specs.Faces.{overlay_of}
use Rattle.paper.specs.Tables.{Counts, Tables, face_cell}
use Rattle.paper.specs.Lent.{Lengths}
use Rattle.paper.specs.Melt.{melted_pieces, melted_graph, melted_of}
use Rattle.paper.specs.Soundings.{soundings_in, sounding_at, east, cell_of, cells, CountRoom, Cells, soundings}
use Rattle.laws_plane.specs.Ends.{0<1}
use Rattle.laws_graph.specs.West.{look_below}
use Rattle.laws_overlay.specs.Maps.{AllKeep}
use Rattle.laws_overlay.specs.Files.{maps_of, maps-count, layer_is}
use Rattle.laws_labels.specs.Drawn.{seen_labels}
use Rattle.laws_labels.specs.Demand3.{stored}
use Rattle.laws_melt.specs.Melts.{melted-seen}
use Rattle.laws_soundings.specs.Tally.{times_of, occurs}
use Rattle.laws_soundings.specs.Told.{told-times}
use Rattle.laws_promise.specs.Looking.{Looks}
use Rattle.laws_promise.proofs.Looks.{looks-once, west-looks}
use Rattle.laws_promise.specs.Defined.{graph_in}
use Rattle.laws_promise.specs.Rows.{Pieced, Rows}
use Rattle.laws_promise.specs.Ways.{of_net}
use Rattle.laws_promise.proofs.Graphs.{graph_is}
use Rattle.laws_cells.specs.Lies.{face_seen, LiesIn, stored_pair, pair_rows}
use Rattle.laws_cells.proofs.Lies.{cell-stored}
use Rattle.tables.specs.Answers as code
use Rattle.tables.specs.Values.{answer_of}
use Rattle.tables.specs.Promise.{Promised, PromisedMelted}
use Rattle.laws_melted.specs.Rows.{melted-pieced}
use Rattle.laws_melted.specs.Answers.{Melted, melted-passes}
use Rattle.laws_melted.specs.Keeps.{melted-keep, melted-hold, melted-half-rows}

-- ── of any number of maps ──

module _ (l : Lengths) (files : List (List ℕ)) (r : code.Answer) (t : Tables) (promise : PromisedMelted l files r t) (c : Counts) (e : answer_of r ≡ done c) where
  abbrev ms : List Map
  ms = maps_of files

  abbrev s : Graph
  s = melted_graph (maps_of files) (overlay_of (maps_of files))

  abbrev mps : List Piece
  mps = melted_pieces (maps_of files) (overlay_of (maps_of files))

  M : Melted l files c t
  M = melted-passes l files r t promise c e

  keep : AllKeep (maps_of files)
  keep = melted-keep l files r t promise c e

  hold : Rows (maps_of files) (melted_pieces (maps_of files) (overlay_of (maps_of files))) (melted_graph (maps_of files) (overlay_of (maps_of files))) c t
  hold = melted-hold l files r t promise c e

  N : Pieced (maps_of files) (melted_pieces (maps_of files) (overlay_of (maps_of files))) (melted_graph (maps_of files) (overlay_of (maps_of files)))
  N = melted-pieced ms keep

  -- what the definition sees is what is seen in the tables
  abbrev seen_from : Vec → Option ℕ
  seen_from v = west s (whole v) east

  looks-there : (v : Vec) → Looks (graph_in (maps_of files) c t) (whole v) east (seen_from v)
  looks-there v =
      subst (λ (x : Graph). Looks x (whole v) east (seen_from v)) (sym (graph_is ms mps s N c t hold))
      (west-looks s N.plane (whole v) 0<1 N.clear east (inl refl))

  seen-counted : (v : Vec) (h : ℕ) → seen_from v ≡ some h → h < 2 * c.edges
  seen-counted v h q = of_net ms mps s N c t hold (look_below s (whole v) east h q)

  -- and its labels are stored
  stored-seen : (v : Vec) (o : Option ℕ) → seen_from v ≡ o → seen_labels ms (melted_of ms) o ≡ stored (length files) t (face_seen t o)
  stored-seen v none q = ap (λ (n : ℕ). replicate n 0) (maps-count files) ∙ sym M.agrees.outside
  stored-seen v (some h) q = sym (M.agrees.stored-pair h (seen-counted v h q))

  -- the labels of a sounding are those stored for the face of the melted tables that it lies in
  pub melted-cell-stored : (v : Vec) (f : ℕ) → LiesIn (maps_of files) c t v f → cell_of (maps_of files) v ≡ stored (length files) t f
  melted-cell-stored v f A =
      sym (melted-seen ms keep (whole v) 0<1 east (≤ℤ_refl (pos 0)))
      ∙ stored-seen v (seen_from v) refl
      ∙ ap (λ (o : Option ℕ). stored (length files) t (face_seen t o)) (looks-once (graph_in ms c t) (whole v) east (seen_from v) A.seen (looks-there v) A.looks)
      ∙ ap (stored (length files) t) (sym A.face)

  -- of a list of soundings, each in its face
  pub melted-cells-stored : (s : List ℕ) (face : ℕ → ℕ) → ((j : ℕ) → j < soundings_in s → LiesIn (maps_of files) c t (sounding_at s j) (face j)) →
      cells (maps_of files) s ≡ table (λ j. stored (length files) t (face j)) (soundings_in s)
  melted-cells-stored s face A =
      table-ext (λ j. cell_of ms (sounding_at s j)) (λ j. stored (length files) t (face j)) (soundings_in s) (λ j b. melted-cell-stored (sounding_at s j) (face j) (A j b))

  -- it lies in a face of those in the tables
  pub melted-lies_somewhere : (v : Vec) → (f : ℕ) × LiesIn (maps_of files) c t v f × (f < c.faces)
  melted-lies_somewhere v = (face_seen t (seen_from v), record { seen = seen_from v; looks = looks-there v; face = refl }, below (seen_from v) refl)
    where
      below : (o : Option ℕ) → seen_from v ≡ o → face_seen t o < c.faces
      below none q = omega (arith, hold.faces-are)
      below (some h) q = (melted-half-rows l files r t promise c e).face_below h (seen-counted v h q)

  -- and in no second
  pub melted-lies-once : (v : Vec) (f k : ℕ) → LiesIn (maps_of files) c t v f → LiesIn (maps_of files) c t v k → f ≡ k
  melted-lies-once v f k A B = A.face ∙ ap (face_seen t) (looks-once (graph_in ms c t) (whole v) east A.seen B.seen A.looks B.looks) ∙ sym B.face

-- beside the overlay of the same files: a sounding has in the melted tables what it has in the overlay's
module _ (k l : Lengths) (files : List (List ℕ)) (q r : code.Answer) (u t : Tables) (overlay : Promised k files q u) (d : Counts) (e : answer_of q ≡ done d)
    (promise : PromisedMelted l files r t) (c : Counts) (f : answer_of r ≡ done c) where
  pub melted_as_overlay : (v : Vec) (x y : ℕ) → LiesIn (maps_of files) d u v x → LiesIn (maps_of files) c t v y → stored (length files) t y ≡ stored (length files) u x
  melted_as_overlay v x y A B = sym (melted-cell-stored l files r t promise c f v y B) ∙ cell-stored k files q u overlay d e v x A

-- ── in some of the maps ──

-- the label of a sounding in one map
abbrev label_at : Vec → Map → ℕ
label_at v m = or_zero (label m) (west m.graph (whole v) east)

module _ (l : Lengths) (fs gs : List (List ℕ)) (r : code.Answer) (t : Tables) (promise : PromisedMelted l (fs ++ gs) r t) (c : Counts) (e : answer_of r ≡ done c) where
  abbrev n : ℕ
  n = length (fs ++ gs)

  -- its labels in the maps fs, whatever maps gs come after them
  pub melted_first_stored : (v : Vec) (f : ℕ) → LiesIn (maps_of (fs ++ gs)) c t v f → cell_of (maps_of fs) v ≡ table (face_cell (length (fs ++ gs)) t f) (length fs)
  melted_first_stored v f A =
      ap (table (λ i. label_at v (layer (maps_of fs) i))) (maps-count fs)
      ∙ table-ext (λ i. label_at v (layer (maps_of fs) i)) (face_cell n t f) (length fs) one
    where
      one : (i : ℕ) → i < length fs → label_at v (layer (maps_of fs) i) ≡ face_cell n t f i
      one i b =
          let a : i < n = omega (arith, length-append fs gs) in
          ap (label_at v) (layer_is fs i ∙ ap map_of (sym (get_or-append fs gs [] i b)) ∙ sym (layer_is (fs ++ gs) i))
          ∙ sym (table_at (λ k. label_at v (layer (maps_of (fs ++ gs)) k)) (length (maps_of (fs ++ gs))) i 0 (subst (λ (k : ℕ). i < k) (sym (maps-count (fs ++ gs))) a))
          ∙ ap (λ (xs : List ℕ). get_or xs i 0) (melted-cell-stored l (fs ++ gs) r t promise c e v f A)
          ∙ table_at (face_cell n t f) n i 0 a

-- ── Ask 3's pair, where three maps are melted, whatever the third is ──

module _ (l : Lengths) (a b z : List ℕ) (r : code.Answer) (t : Tables) (promise : PromisedMelted l (a ∷ b ∷ z ∷ []) r t) (c : Counts) (e : answer_of r ≡ done c) where
  pub melted-pair-stored : (v : Vec) (f : ℕ) → LiesIn (maps_of (a ∷ b ∷ z ∷ [])) c t v f → cell_of (maps_of (a ∷ b ∷ [])) v ≡ stored_pair t f
  melted-pair-stored = melted_first_stored l (a ∷ b ∷ []) (z ∷ []) r t promise c e

  -- of a list s of soundings, each in its face
  module _ (s : List ℕ) (face : ℕ → ℕ) (A : (j : ℕ) → j < soundings_in s → LiesIn (maps_of (a ∷ b ∷ z ∷ [])) c t (sounding_at s j) (face j)) where
    pub melted-pairs-stored : cells (maps_of (a ∷ b ∷ [])) s ≡ table (λ j. stored_pair t (face j)) (soundings_in s)
    melted-pairs-stored =
        table-ext (λ j. cell_of (maps_of (a ∷ b ∷ [])) (sounding_at s j)) (λ j. stored_pair t (face j)) (soundings_in s) (λ j q. melted-pair-stored (sounding_at s j) (face j) (A j q))

    -- "each pair that occurs with its count": how many of the soundings lie in faces of the melted tables that the pair x is stored for
    pub melted-times-stored : (k : CountRoom) (n : Cells) → (soundings k (a ∷ b ∷ []) s).answer ≡ done n → (x : List ℕ) → times_of x (pair_rows k a b s n) ≡ occurs x (table (λ j. stored_pair t (face j)) (soundings_in s))
    melted-times-stored k n d x = told-times (a ∷ b ∷ []) s k n d x ∙ ap (occurs x) melted-pairs-stored
