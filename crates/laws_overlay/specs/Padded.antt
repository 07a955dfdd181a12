-- The lent tables hold the overlay's rows, with zeros past them: up to the counts each cell is that of the defined tables (`padded-vertex`, `padded-half`, `padded-source`, `padded-face`). The
-- maps keep the rules, so that every row of sources is as wide as the maps are many. Assumes nothing.
use Rattle.std.specs.Prelude.{◌≡◌, ◌<◌, ◌+◌, ◌*◌}
use Rattle.std.proofs.Common.{sym, subst, mul-suc, mul-le-mul_left, arith}
use Rattle.seq.specs.Seq.{List, ℕ, length, pos}
use Rattle.seq.specs.Wiped.{padded_at}
use Rattle.paper.specs.Map.{Map}
use Rattle.paper.specs.Faces.{overlay_of}
use Rattle.paper.specs.Tables.{Tables, vertex_width, half_width, face_width, vertex_cell, half_cell, face_cell, counts_of, tables_of}
use Rattle.paper.specs.Lent.{Lengths, padded_tables}
use Rattle.laws_overlay.specs.Cells.{vertices_long, halves_long, faces_long}
use Rattle.laws_overlay.specs.Parts.{made}

-- cell j of row i is among those of m rows
pub in_rows : (w m i j : ℕ) → i < m → j < w → w * i + j < w * m
in_rows w m i j a b = omega (arith, mul-suc w i, mul-le-mul_left w a)

module _ (ms : List Map) (l : Lengths) where
  abbrev pub t : Tables
  t = padded_tables l (tables_of ms (overlay_of ms))

  pub padded-vertex : (v j : ℕ) → v < (counts_of (overlay_of ms)).vertices → j < vertex_width → vertex_cell t v j ≡ vertex_cell (made ms) v j
  padded-vertex v j a b =
      padded_at (pos 0) l.vertices (vertex_width * v + j) (made ms).vertices (pos 0)
      (subst (λ (z : ℕ). vertex_width * v + j < z) (sym (vertices_long ms (overlay_of ms))) (in_rows vertex_width (counts_of (overlay_of ms)).vertices v j a b))

  pub padded-half : (h j : ℕ) → h < 2 * (counts_of (overlay_of ms)).edges → j < half_width → half_cell t h j ≡ half_cell (made ms) h j
  padded-half h j a b =
      padded_at 0 l.halves (half_width * h + j) (made ms).halves 0
      (subst (λ (z : ℕ). half_width * h + j < z) (sym (halves_long ms (overlay_of ms))) (in_rows half_width (2 * (counts_of (overlay_of ms)).edges) h j a b))

  pub padded-face : (f j : ℕ) → f < (counts_of (overlay_of ms)).faces → j < face_width (length ms) → face_cell (length ms) t f j ≡ face_cell (length ms) (made ms) f j
  padded-face f j a b =
      padded_at 0 l.faces (face_width (length ms) * f + j) (made ms).faces 0
      (subst (λ (z : ℕ). face_width (length ms) * f + j < z) (sym (faces_long ms (overlay_of ms))) (in_rows (face_width (length ms)) (counts_of (overlay_of ms)).faces f j a b))
