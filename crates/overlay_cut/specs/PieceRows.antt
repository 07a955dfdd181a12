-- A table of pieces: rows of lower, upper, and for each map a source + 1 or 0. What is read of a row is a piece; a source stored in a row joins the piece to
-- it. Assumes nothing.
use Rattle.std.specs.Prelude.{◌≡◌, refl, ◌≤◌, ◌<◌, set, ◌∷◌, ◌++◌, ◌+◌, ◌*◌}
use Rattle.std.proofs.Common.{sym, ◌∙◌, ap, arith, eq-eqb, ne_eqb, get_or-set_same, get_or-set_other}
use Rattle.std.proofs.Math.Decide.{ℕ_discrete}
use Rattle.seq.specs.Seq.{Bool, true, false, cond, List, [], Option, none, some, ℕ, zero, suc, eqb, length, get_or, cell, table}
use Rattle.seq.specs.Table.{length-table, table-ext}
use Rattle.paper.specs.Limits.{maps}
use Rattle.paper.specs.Pieces.{Piece, only, merged, joined}

abbrev pub piece_width : ℕ
piece_width = 2 + maps

-- a source that is stored as a number + 1 or 0
abbrev pub minus_one : ℕ → Option ℕ
minus_one zero = none
minus_one (suc k) = some k

abbrev pub piece : ℕ → ℕ → List (Option ℕ) → Piece
piece lo hi ss = record { lo = lo; hi = hi; sources = ss }

-- what is read of a row's cells
abbrev pub read_piece : (ℕ → ℕ) → Piece
read_piece f = piece (f 0) (f 1) (table (λ i. minus_one (f (2 + i))) maps)

pub read-ext : (f g : ℕ → ℕ) → ((j : ℕ) → j < piece_width → f j ≡ g j) → read_piece f ≡ read_piece g
read-ext f g h = λ i. piece (h 0 (omega arith) i) (h 1 (omega arith) i) (table-ext (λ k. minus_one (f (2 + k))) (λ k. minus_one (g (2 + k))) maps (λ k l. ap minus_one (h (2 + k) (omega arith))) i)

-- the piece in row r
abbrev pub piece_at : List ℕ → ℕ → Piece
piece_at t r = read_piece (λ j. cell 0 piece_width t r j)

-- those in the first n rows
abbrev pub pieces_in : List ℕ → ℕ → List Piece
pieces_in t n = table (piece_at t) n

abbrev pub no_piece : Piece
no_piece = piece 0 0 []

-- a piece with no source, and one of edge k of map m alone
abbrev pub blank : ℕ → ℕ → Piece
blank lo hi = piece lo hi (table (λ i. none) maps)

abbrev pub single : ℕ → ℕ → ℕ → ℕ → Piece
single lo hi m k = piece lo hi (only maps m k)

-- ── sources merged ──

merged-snoc : (ss ts : List (Option ℕ)) (s t : Option ℕ) → length ss ≡ length ts → merged (ss ++ (s ∷ [])) (ts ++ (t ∷ [])) ≡ merged ss ts ++ merged (s ∷ []) (t ∷ [])
merged-snoc [] [] s t e = refl
merged-snoc [] (y ∷ ts) s t e = absurd (omega arith)
merged-snoc (x ∷ ss) [] s t e = absurd (omega arith)
merged-snoc (none ∷ ss) (y ∷ ts) s t e = ap (λ (l : List (Option ℕ)). y ∷ l) (merged-snoc ss ts s t (omega arith))
merged-snoc (some x ∷ ss) (y ∷ ts) s t e = ap (λ (l : List (Option ℕ)). some x ∷ l) (merged-snoc ss ts s t (omega arith))

merged_one : (c : Bool) (k : ℕ) (t : Option ℕ) → merged (cond c (some k) none ∷ []) (t ∷ []) ≡ cond c (some k) t ∷ []
merged_one true k t = refl
merged_one false k t = refl

-- the source of map m alone, merged with others
pub merged-only : (n m k : ℕ) (f : ℕ → Option ℕ) → merged (only n m k) (table f n) ≡ table (λ j. cond (eqb j m) (some k) (f j)) n
merged-only zero m k f = refl
merged-only (suc n) m k f =
    merged-snoc (only n m k) (table f n) (cond (eqb n m) (some k) none) (f n) (length-table (λ j. cond (eqb j m) (some k) none) n ∙ sym (length-table f n))
    ∙ (λ i. merged-only n m k f i ++ merged_one (eqb n m) k (f n) i)

-- ── a source stored ──

module _ (t : List ℕ) (r m k : ℕ) (h : m < maps) (room : piece_width * r + piece_width ≤ length t) where
  abbrev pub sourced : List ℕ
  sourced = set t (piece_width * r + 2 + m) (suc k)

  cell_other : (i j : ℕ) → j < piece_width → (piece_width * i + j ≡ piece_width * r + 2 + m → ⊥) → cell 0 piece_width sourced i j ≡ cell 0 piece_width t i j
  cell_other i j l q = get_or-set_other t (piece_width * r + 2 + m) (piece_width * i + j) (suc k) 0 q

  cell-source : (j : ℕ) → j < maps → minus_one (cell 0 piece_width sourced r (2 + j)) ≡ cond (eqb j m) (some k) (minus_one (cell 0 piece_width t r (2 + j)))
  cell-source j l =
      elim (ℕ_discrete j m) [
        | yes q ↦ let at : piece_width * r + (2 + j) ≡ piece_width * r + 2 + m = omega arith in
            ap minus_one (ap (λ (i : ℕ). get_or sourced i 0) at ∙ get_or-set_same t (piece_width * r + 2 + m) (suc k) 0 (omega arith)) ∙ sym (rw (eq-eqb j m q))
        | no q ↦ ap minus_one (cell_other r (2 + j) (omega arith) (λ e. q (omega arith))) ∙ sym (rw (ne_eqb j m q))
      ]

  -- the piece in the row, joined
  abbrev new : Piece
  new = joined (single (piece_at t r).lo (piece_at t r).hi m k) (piece_at t r)

  pub source_same : piece_at sourced r ≡ new
  source_same =
      λ i. piece (cell_other r 0 (omega arith) (λ e. omega arith) i) (cell_other r 1 (omega arith) (λ e. omega arith) i)
      ((table-ext (λ j. minus_one (cell 0 piece_width sourced r (2 + j))) (λ j. cond (eqb j m) (some k) (minus_one (cell 0 piece_width t r (2 + j)))) maps cell-source
      ∙ sym (merged-only maps m k (λ j. minus_one (cell 0 piece_width t r (2 + j))))) i)

  pub source_other : (i : ℕ) → (i ≡ r → ⊥) → piece_at sourced i ≡ piece_at t i
  source_other i q = read-ext (λ j. cell 0 piece_width sourced i j) (λ j. cell 0 piece_width t i j) (λ j l. cell_other i j l (λ e. q (omega arith)))
