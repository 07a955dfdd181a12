-- Of Lies of specs/, what rests on its definitions.
use Rattle.std.specs.Prelude.{◌≡◌, refl, ◌<◌, ◌∷◌, ◌++◌, ◌*◌}
use Rattle.std.proofs.Common.{sym, ◌∙◌, ap, subst, arith, length-append}
use Rattle.std.specs.Int.Signed.{≤ℤ_refl}
use Rattle.std.proofs.Math.ListN.{get_or-append}
use Rattle.seq.specs.Seq.{List, [], Option, none, some, ℕ, length, get_or, pos, replicate, table, or_zero}
use Rattle.seq.specs.Table.{table_at, table-ext}
use Rattle.paper.specs.Plane.{Vec, whole}
use Rattle.paper.specs.Graph.{west}
use Rattle.paper.specs.Refusal.{done}
use Rattle.paper.specs.Map.{Map, map_of, label}
use Rattle.paper.specs.Pieces.{layer}
use Rattle.paper.specs.Faces.{overlay_of}
use Rattle.paper.specs.Tables.{Counts, Tables, face_cell}
use Rattle.paper.specs.Lent.{Lengths}
use Rattle.paper.specs.Soundings.{soundings_in, sounding_at, east, cell_of, cells, CountRoom, Cells, soundings}
use Rattle.laws_plane.specs.Ends.{0<1}
use Rattle.laws_overlay.specs.Files.{maps_of, maps-count, layer_is}
use Rattle.laws_labels.specs.Drawn.{seen_labels}
use Rattle.laws_labels.proofs.Agree.{overlay-seen}
use Rattle.laws_labels.specs.Demand3.{stored}
use Rattle.laws_soundings.specs.Tally.{times_of, occurs}
use Rattle.laws_soundings.specs.Told.{told-times}
use Rattle.laws_promise.proofs.Looks.{looks-once}
use Rattle.laws_promise.specs.Defined.{graph_in}
use Rattle.tables.specs.Answers as code
use Rattle.tables.specs.Values.{answer_of}
use Rattle.tables.specs.Promise.{Promised}
use Rattle.laws_cells.specs.Lies.{seen_from, ms, face_seen, overlay, seen-counted, LiesIn, keep, looks-there, n, stored_pair, pair_rows}

-- ── of any number of maps ──

module _ (l : Lengths) (files : List (List ℕ)) (r : code.Answer) (t : Tables) (promise : Promised l files r t) (c : Counts) (e : answer_of r ≡ done c) where
  -- and its labels are stored
  stored-seen : (v : Vec) (s : Option ℕ) → seen_from l files r t promise c e v ≡ s → seen_labels (ms l files r t promise c e) (overlay_of (ms l files r t promise c e)) s ≡ stored (length files) t (face_seen t s)
  stored-seen v none q = ap (λ (n : ℕ). replicate n 0) (maps-count files) ∙ sym (overlay l files r t promise c e).agrees.outside
  stored-seen v (some h) q = sym ((overlay l files r t promise c e).agrees.stored-pair h (seen-counted l files r t promise c e v h q))

  -- the labels of a sounding are those stored for the face that it lies in
  pub cell-stored : (v : Vec) (f : ℕ) → LiesIn (maps_of files) c t v f → cell_of (maps_of files) v ≡ stored (length files) t f
  cell-stored v f A =
      overlay-seen (ms l files r t promise c e) (keep l files r t promise c e) (whole v) 0<1 east (≤ℤ_refl (pos 0))
      ∙ stored-seen v (seen_from l files r t promise c e v) refl
      ∙ ap (λ (s : Option ℕ). stored (length files) t (face_seen t s)) (looks-once (graph_in (ms l files r t promise c e) c t) (whole v) east (seen_from l files r t promise c e v) A.seen (looks-there l files r t promise c e v) A.looks)
      ∙ ap (stored (length files) t) (sym A.face)

  -- of a list of soundings, each in its face
  pub cells-stored : (s : List ℕ) (face : ℕ → ℕ) → ((j : ℕ) → j < soundings_in s → LiesIn (maps_of files) c t (sounding_at s j) (face j)) → cells (maps_of files) s ≡ table (λ j. stored (length files) t (face j)) (soundings_in s)
  cells-stored s face A = table-ext (λ j. cell_of (ms l files r t promise c e) (sounding_at s j)) (λ j. stored (length files) t (face j)) (soundings_in s) (λ j b. cell-stored (sounding_at s j) (face j) (A j b))

-- ── in some of the overlay's maps ──

-- the label of a sounding in one map
abbrev label_at : Vec → Map → ℕ
label_at v m = or_zero (label m) (west m.graph (whole v) east)

module _ (l : Lengths) (fs gs : List (List ℕ)) (r : code.Answer) (t : Tables) (promise : Promised l (fs ++ gs) r t) (c : Counts) (e : answer_of r ≡ done c) where
  -- its labels in the maps fs, whatever maps gs come after them
  pub first_stored : (v : Vec) (f : ℕ) → LiesIn (maps_of (fs ++ gs)) c t v f → cell_of (maps_of fs) v ≡ table (face_cell (length (fs ++ gs)) t f) (length fs)
  first_stored v f A =
      ap (table (λ i. label_at v (layer (maps_of fs) i))) (maps-count fs)
      ∙ table-ext (λ i. label_at v (layer (maps_of fs) i)) (face_cell (n l fs gs r t promise c e) t f) (length fs) one
    where
      one : (i : ℕ) → i < length fs → label_at v (layer (maps_of fs) i) ≡ face_cell (n l fs gs r t promise c e) t f i
      one i b =
          let a : i < n l fs gs r t promise c e = omega (arith, length-append fs gs) in
          ap (label_at v) (layer_is fs i ∙ ap map_of (sym (get_or-append fs gs [] i b)) ∙ sym (layer_is (fs ++ gs) i))
          ∙ sym (table_at (λ k. label_at v (layer (maps_of (fs ++ gs)) k)) (length (maps_of (fs ++ gs))) i 0 (subst (λ (k : ℕ). i < k) (sym (maps-count (fs ++ gs))) a))
          ∙ ap (λ (xs : List ℕ). get_or xs i 0) (cell-stored l (fs ++ gs) r t promise c e v f A)
          ∙ table_at (face_cell (n l fs gs r t promise c e) t f) (n l fs gs r t promise c e) i 0 a

-- ── Ask 3's pair ──

-- in the overlay of three maps, whatever the third is
module _ (l : Lengths) (a b z : List ℕ) (r : code.Answer) (t : Tables) (promise : Promised l (a ∷ b ∷ z ∷ []) r t) (c : Counts) (e : answer_of r ≡ done c) where
  pub pair-stored : (v : Vec) (f : ℕ) → LiesIn (maps_of (a ∷ b ∷ z ∷ [])) c t v f → cell_of (maps_of (a ∷ b ∷ [])) v ≡ stored_pair t f
  pair-stored = first_stored l (a ∷ b ∷ []) (z ∷ []) r t promise c e

  -- of a list s of soundings, each in its face
  module _ (s : List ℕ) (face : ℕ → ℕ) (A : (j : ℕ) → j < soundings_in s → LiesIn (maps_of (a ∷ b ∷ z ∷ [])) c t (sounding_at s j) (face j)) where
    pub pairs-stored : cells (maps_of (a ∷ b ∷ [])) s ≡ table (λ j. stored_pair t (face j)) (soundings_in s)
    pairs-stored = table-ext (λ j. cell_of (maps_of (a ∷ b ∷ [])) (sounding_at s j)) (λ j. stored_pair t (face j)) (soundings_in s) (λ j q. pair-stored (sounding_at s j) (face j) (A j q))

    -- "each pair that occurs with its count": how many of the soundings lie in faces that the pair x is stored for
    pub times-stored : (k : CountRoom) (n : Cells) → (soundings k (a ∷ b ∷ []) s).answer ≡ done n → (x : List ℕ) → times_of x (pair_rows k a b s n) ≡ occurs x (table (λ j. stored_pair t (face j)) (soundings_in s))
    times-stored k n d x = told-times (a ∷ b ∷ []) s k n d x ∙ ap (occurs x) pairs-stored
