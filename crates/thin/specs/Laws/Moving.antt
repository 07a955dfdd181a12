-- Rows that stay moved down:    for i in 0..m { if p(i) { out[c] = f(i); c += 1 } }
-- Before turn i the first c rows are those f j below i that have p, in their order. Rows are read by any function. Then the rows of points and of pieces. Assumes nothing.
use Rattle.std.specs.Prelude.{◌≡◌, refl, ◌≤◌, ◌<◌, ◌∷◌, ◌++◌, ◌+◌, ◌*◌}
use Rattle.std.proofs.Common.{sym, ◌∙◌, ap, add-zero, arith}
use Rattle.std.proofs.lemmas.List.{map-append}
use Rattle.std.proofs.Math.Seq.{length-sets}
use Rattle.seq.specs.Seq.{Bool, true, false, List, [], map, ℕ, length, get_or, count, select, table, row_stored, ℤ, pos}
use Rattle.seq.specs.Table.{table_more, table-ext}
use Rattle.seq.specs.Select.{select_more, select-skip}
use Rattle.seq.specs.Parts.{Stored, row-stored}
use Rattle.seq.specs.Loops.Selecting.{Counting, count_starts, count-takes, count-skips, count_ends}
use Rattle.graph.specs.Flat.{the_point_at}
use Rattle.overlay_cut.specs.Points.{read_point, point_row}
use Rattle.overlay_cut.specs.Points as Points
use Rattle.overlay_cut.specs.PieceRows.{piece_width, read_piece, piece_at}
use Rattle.overlay_cut.specs.PieceRows as PieceRows
use Rattle.thin.specs.Thinned.{moved_row, moved_piece}

-- h reads what the loop has made before turn i, with c rows
pub record Moving {A : Type 0} (p : ℕ → Bool) (f : ℕ → A) (m : ℕ) (h : ℕ → A) (c i : ℕ) : Type 0 where
  pub counted : Counting p m c i
  pub is : table h c ≡ map f (select p i)

module _ {A : Type 0} {p : ℕ → Bool} {f : ℕ → A} {m : ℕ} where
  pub move_starts : {h : ℕ → A} → Moving p f m h 0 0
  move_starts = record { counted = count_starts; is = refl }

  module _ {h : ℕ → A} {c i : ℕ} (r : Moving p f m h c i) where
    pub move-takes : {h' : ℕ → A} → i < m → p i ≡ true → Stored h h' c (f i) → Moving p f m h' (c + 1) (i + 1)
    move-takes {h'} l e s = record {
      counted = count-takes r.counted l e refl;
      is = table_more h' c ∙ (λ j. (table-ext h' h c (λ k b. s.others k (λ q. omega arith)) ∙ r.is) j ++ (s.new j ∷ []))
          ∙ sym (ap (map f) (select_more p i e) ∙ map-append f (select p i) (i ∷ []));
    }

    pub move-skips : i < m → p i ≡ false → Moving p f m h c (i + 1)
    move-skips l e = record { counted = count-skips r.counted l e refl; is = r.is ∙ sym (ap (map f) (select-skip p i e)) }

    pub move_ends : m ≤ i → (c ≡ count p m) × (table h c ≡ map f (select p m))
    move_ends l = let q : i ≡ m = omega (arith, r.counted.within) in (count_ends r.counted l, r.is ∙ ap (λ (j : ℕ). map f (select p j)) q)

-- ── a row of points, and one of pieces ──

-- the row alone is stored, in a table of the same length
module _ (points t u : List ℤ) (v c : ℕ) (e : u ≡ row_stored 4 t c (point_row (the_point_at points v))) where
  pub point-kept : length u ≡ length t
  point-kept = ap length e ∙ length-sets t (4 * c) (point_row (the_point_at points v))

  pub point-stored : 4 * c + 4 ≤ length t → Stored (the_point_at t) (the_point_at u) c (the_point_at points v)
  point-stored h = rw e (row-stored 4 read_point Points.read-ext (pos 0) t c (point_row (the_point_at points v)) refl h)

module _ (pieces numbers t u : List ℕ) (k c : ℕ) (e : u ≡ row_stored piece_width t c (moved_row pieces numbers k)) where
  pub piece-kept : length u ≡ length t
  piece-kept = ap length e ∙ length-sets t (piece_width * c) (moved_row pieces numbers k)

  pub piece-stored : piece_width * c + piece_width ≤ length t → Stored (piece_at t) (piece_at u) c (moved_piece pieces numbers k)
  piece-stored h = rw e (row-stored piece_width read_piece PieceRows.read-ext 0 t c (moved_row pieces numbers k) refl h)

-- the first cell of a row is the lower end
pub low_cell : (pieces : List ℕ) (k : ℕ) → get_or pieces (piece_width * k) 0 ≡ (piece_at pieces k).lo
low_cell pieces k = ap (λ (i : ℕ). get_or pieces i 0) (sym (add-zero (piece_width * k)))
