-- The bytes of a corner, and the parts of the mended file one behind the other. Assumes nothing.
use Rattle.std.specs.Prelude.{◌∷◌, ◌++◌, ◌+◌, ◌*◌}
use mathlib.Core.Path.{◌≡◌, refl, sym, ◌∙◌, ap}
use Prim.Native.Nat.{◌≤◌}
use native.Mathlib.Nat.{zero-add}
use native.Mathlib.Omega.{arith}
use lib.ListN.{length-append}
use Rattle.seq.specs.Seq.{List, [], ℕ, length, ℤ, count, rows, gather, sets, padded, wiped}
use Rattle.seq.specs.Wiped.{stored-wiped}
use Rattle.paper.specs.Bytes.{ascii, le, le_signed}
use Rattle.paper.specs.Limits.{map_head}
use Rattle.paper.specs.Map.{vertex_place}
use Rattle.paper.specs.Mend.{corner_bytes}
use Rattle.paper.specs.Plane.{Vec}
use Rattle.laws_file.specs.Bytes.{wrapped, length-le_signed, le_signed-wrapped}
use Rattle.map_check.specs.Parts.{corner_in}
use Rattle.mend.specs.Steps.{step_is}
use Rattle.mend.specs.Stored.{point_in, row_in, the_edge_in, file_in, Counted}
use Rattle.mend.proofs.AppendLaws.{then-behind, append_long}

-- ── a corner ──

pub corner_long : (a : Vec) → length (corner_bytes a) ≡ 4
corner_long a = length-append (le_signed 2 a.x) (le_signed 2 a.y) ∙ (λ i. length-le_signed 2 a.x i + length-le_signed 2 a.y i)

-- the bytes of a number, by the unsigned number that has them
pub signed-bytes : (n : ℕ) (y z : ℤ) → n ≡ wrapped 2 y → y ≡ z → le 2 n ≡ le_signed 2 z
signed-bytes n y z e g = ap (le 2) (e ∙ ap (wrapped 2) g) ∙ sym (le_signed-wrapped 2 z)

pub corner-put : (a : Vec) (s p u : List ℕ) (at : ℕ) → p ≡ sets s at (le_signed 2 a.x) → u ≡ sets p (at + 2) (le_signed 2 a.y) → u ≡ sets s at (corner_bytes a)
corner-put a s p u at e f = then-behind s at (le_signed 2 a.x) (le_signed 2 a.y) p u (at + 2) e f (ap (λ (k : ℕ). at + k) (sym (length-le_signed 2 a.x)))

-- ── the file ──

module _ (ps : List ℤ) (ls t ns vs es : List ℕ) (n e v k : ℕ) (r : Counted vs es n e v k) where
  abbrev head : List ℕ
  head = ascii "ZMP" ++ gather (le 2) (1 ∷ count (step_is vs 0) n ∷ count (step_is es 0) e ∷ [])

  abbrev corners : List ℕ
  corners = rows (point_in ps vs) n

  abbrev edges : List ℕ
  edges = rows (the_edge_in ls t ns es) e

  corners_long : length corners ≡ 4 * v
  corners_long = append_long 4 (step_is vs 0) (λ u. corner_bytes (corner_in ps u)) (λ u. corner_long (corner_in ps u)) n ∙ ap (λ (j : ℕ). 4 * j) (sym r.vertices)

  edges_long : length edges ≡ 8 * k
  edges_long = append_long 8 (step_is es 0) (λ j. gather (le 2) (row_in ls t ns j)) (λ j. refl) e ∙ ap (λ (j : ℕ). 8 * j) (sym r.edges)

  front_long : length (head ++ corners) ≡ vertex_place v
  front_long = length-append head corners ∙ ap (λ (j : ℕ). 9 + j) corners_long

  pub file_long : length (file_in ps ls t ns vs es n e) ≡ vertex_place v + 8 * k
  file_long = length-append (head ++ corners) edges ∙ (λ i. front_long i + edges_long i)

  head_is : ascii "ZMP" ++ gather (le 2) (1 ∷ v ∷ k ∷ []) ≡ head
  head_is i = ascii "ZMP" ++ gather (le 2) (1 ∷ r.vertices i ∷ r.edges i ∷ [])

  -- room for the corners, and for the edges
  pub corners_room : (long : ℕ) → vertex_place v + 8 * k ≤ long → map_head + 4 * count (step_is vs 0) n ≤ long
  corners_room long h = omega (arith, r.vertices, h)

  pub edges_room : (at long : ℕ) → at ≡ vertex_place v → vertex_place v + 8 * k ≤ long → at + 8 * count (step_is es 0) e ≤ long
  edges_room at long ae h = omega (arith, r.edges, h, ae)

  -- part after part from the start of d on, and zeros past the last
  pub file-put : (d : List ℕ) → vertex_place v + 8 * k ≤ length d → (a b c u : List ℕ) (at long : ℕ) → a ≡ sets d 0 (ascii "ZMP" ++ gather (le 2) (1 ∷ v ∷ k ∷ []))
      → b ≡ sets a map_head (rows (point_in ps vs) n) → c ≡ sets b at (rows (the_edge_in ls t ns es) e) → u ≡ wiped 0 long c
      → at ≡ vertex_place v → long ≡ vertex_place v + 8 * k → u ≡ padded 0 (length d) (file_in ps ls t ns vs es n e)
  file-put d room a b c u at long p q w z ae le =
      let f = then-behind d 0 head corners a b map_head (p ∙ ap (sets d 0) head_is) q refl in
      let g = then-behind d 0 (head ++ corners) edges b c at f w (ae ∙ sym front_long ∙ sym (zero-add (length (head ++ corners)))) in
      stored-wiped 0 d (file_in ps ls t ns vs es n e) c u long (rw file_long room) g z (le ∙ sym file_long)
