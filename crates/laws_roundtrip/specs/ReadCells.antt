-- The cells of the tables that the reader makes of a list of bytes, by name, and how many there are. Into tables of n maps, of any version's layout. Assumes nothing.
use Rattle.std.specs.Prelude.{◌≡◌, refl, ◌<◌, ◌∷◌, ◌++◌, ◌+◌, ◌*◌}
use Rattle.std.proofs.Common.{sym, ◌∙◌, ap, add-zero, arith, lt-ltb, length-append, get_or-append-add}
use Rattle.std.proofs.Math.Decide.{dec_lt}
use Rattle.std.proofs.Math.ListN.{get_or-append}
use Rattle.seq.specs.Seq.{Bool, cond, List, [], ℕ, length, get_or, pos, table}
use Rattle.seq.specs.Table.{length-table, table_at}
use Rattle.seq.specs.Rows.{length-rows, cell-rows}
use Rattle.paper.specs.Tables.{vertex_width, half_width, face_width, vertex_cell, half_cell, source_cell, face_cell, Counts, Tables}
use Rattle.paper.specs.Lent.{Lengths, lengths_of}
use Rattle.paper.specs.Ovfile.{Layout}
use Rattle.paper.specs.Reader.{counts_in, face_field, stored_origin, stored_follower, stored_source, stored_label, vertex_read, half_read, face_read, tables_in}

-- the origins and the followers in a file
abbrev pub starts_in : Layout → List ℕ → List ℕ
starts_in l s = table (stored_origin l s) (2 * (counts_in s).edges)

abbrev pub followers_in : Layout → List ℕ → List ℕ
followers_in l s = table (stored_follower l s) (2 * (counts_in s).edges)

-- the cells of tables of n maps that have no more than the counted rows
abbrev pub exact_lengths : ℕ → Counts → Lengths
exact_lengths n c = record { vertices = vertex_width * c.vertices; halves = half_width * (2 * c.edges); sources = n * c.edges; faces = face_width n * c.faces }

module _ (n : ℕ) (l : Layout) (s : List ℕ) where
  abbrev t : Tables
  t = tables_in n l s

  abbrev c : Counts
  c = counts_in s

  -- ── vertices, half-edges and sources ──

  pub vertex-cell : (v j : ℕ) → v < (counts_in s).vertices → j < vertex_width → vertex_cell (tables_in n l s) v j ≡ get_or (vertex_read l s (starts_in l s) v) j (pos 0)
  unfolding tables_in
  vertex-cell v j b m = cell-rows vertex_width (vertex_read l s (starts_in l s)) c.vertices v j (pos 0) (λ k q. refl) b m

  pub half-cell : (h j : ℕ) → h < 2 * (counts_in s).edges → j < half_width → half_cell (tables_in n l s) h j ≡ get_or (half_read l s (followers_in l s) h) j 0
  unfolding tables_in
  half-cell h j b m = cell-rows half_width (half_read l s (followers_in l s)) (2 * c.edges) h j 0 (λ k q. refl) b m

  pub source-cell : (k i : ℕ) → k < (counts_in s).edges → i < n → source_cell n (tables_in n l s) k i ≡ stored_source l s k i
  unfolding tables_in
  source-cell k i b m =
      cell-rows n (λ k. table (stored_source l s k) n) c.edges k i 0 (λ j q. length-table (stored_source l s j) n) b m ∙ table_at (stored_source l s k) n i 0 m

  -- ── faces ──

  face_long : (f : ℕ) → length (face_read n l s f) ≡ face_width n
  face_long f = length-append (table (stored_label l s f) n) (face_field l s f l.maps ∷ face_field l s f (1 + l.maps) ∷ []) ∙ ap (λ (k : ℕ). k + 2) (length-table (stored_label l s f) n)

  module _ (f : ℕ) (b : f < (counts_in s).faces) where
    abbrev labels : List ℕ
    labels = table (stored_label l s f) n

    abbrev ends : List ℕ
    ends = face_field l s f l.maps ∷ face_field l s f (1 + l.maps) ∷ []

    face-cell : (j : ℕ) → j < face_width n → face_cell n t f j ≡ get_or (labels ++ ends) j 0
    unfolding tables_in
    face-cell j m = cell-rows (face_width n) (face_read n l s) c.faces f j 0 (λ k q. face_long k) b m

    past_labels : (j : ℕ) → get_or (labels ++ ends) (n + j) 0 ≡ get_or ends j 0
    past_labels j = ap (λ (k : ℕ). get_or (labels ++ ends) (k + j) 0) (sym (length-table (stored_label l s f) n)) ∙ get_or-append-add labels ends j 0

    pub label-cell : (i : ℕ) → i < n → face_cell n (tables_in n l s) f i ≡ stored_label l s f i
    label-cell i m = face-cell i (omega arith) ∙ get_or-append labels ends 0 i (omega (arith, length-table (stored_label l s f) n)) ∙ table_at (stored_label l s f) n i 0 m

    pub least-cell : face_cell n (tables_in n l s) f n ≡ face_field l s f l.maps
    least-cell = face-cell n (omega arith) ∙ ap (λ (k : ℕ). get_or (labels ++ ends) k 0) (sym (add-zero n)) ∙ past_labels 0

    pub holes-cell : face_cell n (tables_in n l s) f (n + 1) ≡ face_field l s f (1 + l.maps)
    holes-cell = face-cell (n + 1) (omega arith) ∙ past_labels 1

  -- ── how many cells ──

  pub read-lengths : lengths_of (tables_in n l s) ≡ exact_lengths n (counts_in s)
  unfolding tables_in
  read-lengths i = record {
    vertices = length-rows vertex_width (vertex_read l s (starts_in l s)) c.vertices (λ k q. refl) i;
    halves = length-rows half_width (half_read l s (followers_in l s)) (2 * c.edges) (λ k q. refl) i;
    sources = length-rows n (λ k. table (stored_source l s k) n) c.edges (λ j q. length-table (stored_source l s j) n) i;
    faces = length-rows (face_width n) (face_read n l s) c.faces (λ k q. face_long k) i;
  }

-- of as many maps as the layout stores, the cells of a face are its fields
pub face-fields : (l : Layout) (s : List ℕ) (f j : ℕ) → f < (counts_in s).faces → j < face_width l.maps → face_cell l.maps (tables_in l.maps l s) f j ≡ face_field l s f j
face-fields l s f j b m =
    elim (dec_lt j l.maps) [
      | yes q ↦ label-cell l.maps l s f b j q ∙ ap (λ (x : Bool). cond x (face_field l s f j) 0) (lt-ltb j l.maps q)
      | no q ↦ elim (dec_lt j (l.maps + 1)) [
        | yes r ↦ let e : l.maps ≡ j = omega arith in at l.maps e (least-cell l.maps l s f b)
        | no r ↦
            let e : l.maps + 1 ≡ j = omega arith in
            let g : 1 + l.maps ≡ l.maps + 1 = omega arith in
            at (l.maps + 1) e (holes-cell l.maps l s f b ∙ ap (face_field l s f) g)
      ]
    ]
  where
    at : (i : ℕ) → i ≡ j → face_cell l.maps (tables_in l.maps l s) f i ≡ face_field l s f i → face_cell l.maps (tables_in l.maps l s) f j ≡ face_field l s f j
    at i e h = ap (face_cell l.maps (tables_in l.maps l s) f) (sym e) ∙ h ∙ ap (face_field l s f) e
