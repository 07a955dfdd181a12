-- Where each number of a map file stands: the file stands at the start of a list of bytes exactly where its mark, its counts and the fields of every vertex and edge
-- stand at their places (`map-placed`, `placed-map`). How long it is, and that its cells are bytes. Assumes nothing.
use Rattle.std.specs.Prelude.{◌≡◌, ◌<◌, ◌∷◌, ◌++◌, ◌+◌, ◌*◌, ◌/◌}
use Rattle.std.proofs.Common.{◌∙◌, inl, inr, ⊎_elim, arith}
use Rattle.std.proofs.Math.Decide.{dec_lt}
use Rattle.std.proofs.Math.ListN.{length-append, get_or-eq_default}
use Rattle.seq.specs.Seq.{List, [], ℕ, zero, suc, length, get_or, rows, gather, ℤ}
use Rattle.seq.specs.Terms.{Among}
use Rattle.seq.specs.Members.{among-++, at_among, gather-among}
use Rattle.seq.specs.Rows.{length-rows, rows-among}
use Rattle.paper.specs.Limits.{map_head}
use Rattle.paper.specs.Plane.{Vec}
use Rattle.paper.specs.Bytes.{ascii, le, le_signed}
use Rattle.paper.specs.Map.{vertex_place}
use Rattle.laws_file.specs.Bytes.{Bytes, Stands, length-le_signed, wrapped, le_signed-wrapped}
use Rattle.laws_file.specs.Stands.{front-stands, back_stands, both_stand, row-stands, rows-stand, field-stands, fields-stand, length_fields}
use Rattle.paper.specs.Mend.{corner_bytes, map_file}

-- where edge k starts, after v vertices
abbrev pub edge_place : ℕ → ℕ → ℕ
edge_place v k = vertex_place v + 8 * k

-- every number of the file stands at its place in s
pub record Placed (v e : ℕ) (c : ℕ → Vec) (f : ℕ → List ℕ) (s : List ℕ) : Type 0 where
  pub mark : Stands s 0 (ascii "ZMP")
  pub version_at : Stands s 3 (le 2 1)
  pub vertices_at : Stands s 5 (le 2 v)
  pub edges_at_lem : Stands s 7 (le 2 e)
  pub x_at : (i : ℕ) → i < v → Stands s (vertex_place i) (le_signed 2 (c i).x)
  pub y_at : (i : ℕ) → i < v → Stands s (vertex_place i + 2) (le_signed 2 (c i).y)
  pub edge_at : (k j : ℕ) → k < e → j < 4 → Stands s (edge_place v k + 2 * j) (le 2 (get_or (f k) j 0))

module _ (v e : ℕ) (c : ℕ → Vec) (f : ℕ → List ℕ) (four : (k : ℕ) → length (f k) ≡ 4) where
  abbrev head_fields : List ℕ
  head_fields = 1 ∷ v ∷ e ∷ []

  abbrev vertex_row : ℕ → List ℕ
  vertex_row i = corner_bytes (c i)

  abbrev edge_row : ℕ → List ℕ
  edge_row k = gather (le 2) (f k)

  abbrev x_bytes : ℕ → List ℕ
  x_bytes i = le_signed 2 (c i).x

  abbrev y_bytes : ℕ → List ℕ
  y_bytes i = le_signed 2 (c i).y

  length-vertex : (i : ℕ) → length (vertex_row i) ≡ 4
  length-vertex i = length-append (x_bytes i) (y_bytes i) ∙ omega (arith, length-le_signed 2 (c i).x, length-le_signed 2 (c i).y)

  length-edge : (k : ℕ) → length (edge_row k) ≡ 8
  length-edge k = omega (arith, length_fields [] 2 (f k), four k)

  -- the file as far as the vertices and the edges
  abbrev to_vertices : List ℕ
  to_vertices = ascii "ZMP" ++ gather (le 2) head_fields

  abbrev to_edges : List ℕ
  to_edges = to_vertices ++ rows vertex_row v

  to_edges_lem : 0 + length to_edges ≡ vertex_place v
  to_edges_lem = omega (arith, length-append to_vertices (rows vertex_row v), length-rows 4 vertex_row v (λ i b. length-vertex i))

  -- "Length is 9 + 4V + 8E"
  pub length-map-file : length (map_file v e c f) ≡ edge_place v e
  unfolding map_file
  length-map-file = length-append to_edges (rows edge_row e) ∙ omega (arith, to_edges_lem, length-rows 8 edge_row e (λ k b. length-edge k))

  module _ (s : List ℕ) where
    pub map-placed : Stands s 0 (map_file v e c f) → Placed v e c f s
    unfolding map_file
    map-placed h =
        let q = front-stands s 0 to_edges (rows edge_row e) h in
        let r = front-stands s 0 to_vertices (rows vertex_row v) q in
        let head : (j : ℕ) → j < 3 → Stands s (3 + 2 * j) (le 2 (get_or head_fields j 0)) =
        λ j m. field-stands s 2 head_fields 3 j m (back_stands s 0 (ascii "ZMP") (gather (le 2) head_fields) r) in
        let vertex : (i : ℕ) → i < v → Stands s (vertex_place i) (vertex_row i) =
        λ i b. row-stands s 4 vertex_row map_head v i (λ j l. length-vertex j) b (back_stands s 0 to_vertices (rows vertex_row v) q) in
        let edge : (k : ℕ) → k < e → Stands s (edge_place v k) (edge_row k) =
        λ k b. row-stands s 8 edge_row (vertex_place v) e k (λ j l. length-edge j) b (rw to_edges_lem at (back_stands s 0 to_edges (rows edge_row e) h)) in
        record {
          mark = front-stands s 0 (ascii "ZMP") (gather (le 2) head_fields) r;
          version_at = head 0 (omega arith);
          vertices_at = head 1 (omega arith);
          edges_at_lem = head 2 (omega arith);
          x_at = λ i b. front-stands s (vertex_place i) (x_bytes i) (y_bytes i) (vertex i b);
          y_at = λ i b. rw (length-le_signed 2 (c i).x) at (back_stands s (vertex_place i) (x_bytes i) (y_bytes i) (vertex i b));
          edge_at = λ k j b m. field-stands s 2 (f k) (edge_place v k) j (rw (four k) m) (edge k b);
        }

    module _ (P : Placed v e c f s) where
      head-stands : (j : ℕ) → j < 3 → Stands s (3 + 2 * j) (le 2 (get_or head_fields j 0))
      head-stands zero m = P.version_at
      head-stands (suc zero) m = P.vertices_at
      head-stands (suc (suc zero)) m = P.edges_at_lem
      head-stands (suc (suc (suc j))) m = absurd (omega arith)

      vertex-stands : (i : ℕ) → i < v → Stands s (vertex_place i) (vertex_row i)
      vertex-stands i b = both_stand s (vertex_place i) (x_bytes i) (y_bytes i) (P.x_at i b) (rw (length-le_signed 2 (c i).x) (P.y_at i b))

      edge-stands : (k : ℕ) → k < e → Stands s (edge_place v k) (edge_row k)
      edge-stands k b = fields-stand s 2 (f k) (edge_place v k) (λ j m. P.edge_at k j b (rw (four k) at m))

      pub placed-map : Stands s 0 (map_file v e c f)
      unfolding map_file
      placed-map =
          both_stand s 0 to_edges (rows edge_row e)
          (both_stand s 0 to_vertices (rows vertex_row v)
          (both_stand s 0 (ascii "ZMP") (gather (le 2) head_fields) P.mark (fields-stand s 2 head_fields 3 head-stands))
          (rows-stand s 4 vertex_row map_head v (λ i l. length-vertex i) vertex-stands))
          (rw to_edges_lem (rows-stand s 8 edge_row (vertex_place v) e (λ k l. length-edge k) edge-stands))

-- ── every cell of a map file is a byte ──

abbrev Small : List ℕ → Type 0
Small l = (z : ℕ) → Among z l → z < 256

small-++ : (a b : List ℕ) → Small a → Small b → Small (a ++ b)
small-++ a b p q z i = ⊎_elim (λ j. p z j) (λ j. q z j) (among-++ z a b i)

small-le : (w n : ℕ) → Small (le w n)
small-le zero n z i = absurd i
small-le (suc w) n z (inl e) = omega arith
small-le (suc w) n z (inr i) = small-le w (n / 256) z i

small_signed : (a : ℤ) → Small (le_signed 2 a)
small_signed a = rw (le_signed-wrapped 2 a) (small-le 2 (wrapped 2 a))

small-fields : (fs : List ℕ) → Small (gather (le 2) fs)
small-fields fs z i = let r = gather-among (le 2) z fs i in small-le 2 r.0 z r.2

small-rows : (f : ℕ → List ℕ) (n : ℕ) → ((k : ℕ) → Small (f k)) → Small (rows f n)
small-rows f n h z i = let r = rows-among f n z i in h r.0 z r.2

small-mark : Small (ascii "ZMP")
small-mark z (inl e) = omega arith
small-mark z (inr (inl e)) = omega arith
small-mark z (inr (inr (inl e))) = omega arith
small-mark z (inr (inr (inr i))) = absurd i

small_bytes : (l : List ℕ) → Small l → Bytes l
small_bytes l h i = elim (dec_lt i (length l)) [ yes q ↦ h (get_or l i 0) (at_among l i 0 q) | no q ↦ rw (get_or-eq_default l 0 {n = i} (omega arith)) (omega arith) ]

pub file-bytes : (v e : ℕ) (c : ℕ → Vec) (f : ℕ → List ℕ) → Bytes (map_file v e c f)
unfolding map_file
file-bytes v e c f =
    small_bytes (ascii "ZMP" ++ gather (le 2) (1 ∷ v ∷ e ∷ []) ++ rows (λ i. corner_bytes (c i)) v ++ rows (λ i. gather (le 2) (f i)) e)
    (small-++ (ascii "ZMP" ++ gather (le 2) (1 ∷ v ∷ e ∷ []) ++ rows (λ i. corner_bytes (c i)) v) (rows (λ i. gather (le 2) (f i)) e)
    (small-++ (ascii "ZMP" ++ gather (le 2) (1 ∷ v ∷ e ∷ [])) (rows (λ i. corner_bytes (c i)) v)
    (small-++ (ascii "ZMP") (gather (le 2) (1 ∷ v ∷ e ∷ [])) small-mark (small-fields (1 ∷ v ∷ e ∷ [])))
    (small-rows (λ i. corner_bytes (c i)) v (λ i. small-++ (le_signed 2 (c i).x) (le_signed 2 (c i).y) (small_signed (c i).x) (small_signed (c i).y))))
    (small-rows (λ i. gather (le 2) (f i)) e (λ i. small-fields (f i))))
