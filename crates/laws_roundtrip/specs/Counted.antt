-- The counted rows of tables, without what stands past them: tables that agree on them are one there (`agree-counted`), and tables with room
-- for the counts have them (`room_rows`). Assumes nothing.
use Rattle.std.specs.Prelude.{◌≡◌, ◌<◌, ◌≤◌, ◌++◌, ◌+◌, ◌*◌}
use Rattle.std.proofs.Common.{sym, ◌∙◌, ap, mul-zero, mul-suc, arith, length-drop, length-take-le, take_all, take-add, get_or-take, get_or-drop}
use Rattle.exact.specs.Digits.{rows_fit}
use Rattle.seq.specs.Seq.{List, ℕ, zero, suc, length, take, drop, pos, table, cell}
use Rattle.seq.specs.Table.{table_is, table-ext}
use Rattle.paper.specs.Tables.{vertex_width, half_width, face_width, Counts, Tables}
use Rattle.paper.specs.Lent.{Lengths, room_in, lengths_of}
use Rattle.laws_refusals.specs.Room.{Fits}
use Rattle.laws_file.specs.Agree.{Agree}
use Rattle.laws_roundtrip.specs.ReadCells.{exact_lengths}

-- the first cells of each table, as many as are said
abbrev pub taken_tables : Lengths → Tables → Tables
taken_tables ls t = record {
  vertices = take ls.vertices t.vertices;
  halves = take ls.halves t.halves;
  sources = take ls.sources t.sources;
  faces = take ls.faces t.faces;
}

-- of n maps, the counted rows
abbrev pub counted : ℕ → Counts → Tables → Tables
counted n c t = taken_tables (exact_lengths n c) t

-- tables of lengths ms are at least as long as ls says
pub record AtLeast (ls ms : Lengths) : Type 0 where
  pub vertices : ls.vertices ≤ ms.vertices
  pub halves : ls.halves ≤ ms.halves
  pub sources : ls.sources ≤ ms.sources
  pub faces : ls.faces ≤ ms.faces

-- tables with room for the counts have the counted rows
pub room_rows : (n : ℕ) (c : Counts) (ls : Lengths) → Fits (room_in n ls) c → AtLeast (exact_lengths n c) ls
room_rows n c ls R = record {
  vertices = omega (arith, R.vertices);
  halves = omega (arith, R.edges);
  sources = rows_fit n c.edges ls.sources (omega (arith, R.edges));
  faces = rows_fit (face_width n) c.faces ls.faces (omega (arith, R.faces));
}

module _ {A : Type 0} (d : A) (w : ℕ) where
  -- row n of a list
  row_of : (xs : List A) (n : ℕ) → w * n + w ≤ length xs → take w (drop (w * n) xs) ≡ table (λ j. cell d w xs n j) w
  row_of xs n h =
      table_is (λ j. cell d w xs n j) w (take w (drop (w * n) xs)) d (length-take-le w (drop (w * n) xs) (rw (length-drop (w * n) xs) (omega arith)))
      (λ j b. get_or-take w (drop (w * n) xs) j d b ∙ get_or-drop (w * n) xs j d)

  -- lists that have the same cells in n rows
  pub rows_same : (xs ys : List A) (n : ℕ) → w * n ≤ length xs → w * n ≤ length ys → ((i j : ℕ) → i < n → j < w → cell d w xs i j ≡ cell d w ys i j) → take (w * n) xs ≡ take (w * n) ys
  rows_same xs ys zero hx hy h = rw (mul-zero w)
  rows_same xs ys (suc n) hx hy h =
      let e : w * suc n ≡ w * n + w = mul-suc w n in
      ap (λ (k : ℕ). take k xs) e ∙ take-add (w * n) w xs
      ∙ (λ i. rows_same xs ys n (omega arith) (omega arith) (λ i j b. h i j (omega arith)) i
      ++ (row_of xs n (omega arith) ∙ table-ext (λ j. cell d w xs n j) (λ j. cell d w ys n j) w (λ j m. h n j (omega arith) m) ∙ sym (row_of ys n (omega arith))) i)
      ∙ sym (take-add (w * n) w ys) ∙ ap (λ (k : ℕ). take k ys) (sym e)

module _ (n : ℕ) (c : Counts) (t u : Tables) where
  -- tables with no more than the counted rows are the counted rows of those they agree with
  pub agree-counted : Agree n c t u → lengths_of t ≡ exact_lengths n c → AtLeast (exact_lengths n c) (lengths_of u) → t ≡ counted n c u
  agree-counted A e U =
      let el : Lengths = exact_lengths n c in
      let v : length t.vertices ≡ el.vertices = ap (λ (ls : Lengths). ls.vertices) e in
      let h : length t.halves ≡ el.halves = ap (λ (ls : Lengths). ls.halves) e in
      let s : length t.sources ≡ el.sources = ap (λ (ls : Lengths). ls.sources) e in
      let f : length t.faces ≡ el.faces = ap (λ (ls : Lengths). ls.faces) e in
      λ i. record {
        vertices = (sym (take_all el.vertices t.vertices (omega arith)) ∙ rows_same (pos 0) vertex_width t.vertices u.vertices c.vertices (omega arith) U.vertices (λ x j b m. A.vertices x j b m)) i;
        halves = (sym (take_all el.halves t.halves (omega arith)) ∙ rows_same 0 half_width t.halves u.halves (2 * c.edges) (omega arith) U.halves (λ x j b m. A.halves x j b m)) i;
        sources = (sym (take_all el.sources t.sources (omega arith)) ∙ rows_same 0 n t.sources u.sources c.edges (omega arith) U.sources (λ x j b m. A.sources x j b m)) i;
        faces = (sym (take_all el.faces t.faces (omega arith)) ∙ rows_same 0 (face_width n) t.faces u.faces c.faces (omega arith) U.faces (λ x j b m. A.faces x j b m)) i;
      }
