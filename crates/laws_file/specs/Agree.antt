-- Tables that agree on the counted rows: they have the same sound edge records, the same refusals, and the same file. Then what agrees: a table and the same
-- table with zeros past it. Assumes nothing.
use Rattle.std.specs.Prelude.{◌≡◌, refl, ◌≤◌, ◌<◌, ◌&&◌, ◌||◌, ◌∷◌, ◌++◌, ◌+◌, ◌*◌, ◌-◌, ◌%◌, ◌^◌, ◌-ℤ◌}
use Rattle.std.proofs.Common.{sym, ◌∙◌, ap, arith, ltb-true, eqb-true, length-append, get_or-append-add}
use Rattle.std.proofs.Math.Decide.{dec_lt}
use Rattle.std.proofs.lemmas.Bool.{eqb-false}
use Rattle.std.proofs.Math.ListN.{get_or-append, get_or-eq_default}
use Rattle.std.proofs.lemmas.List.{get_or-replicate, length-replicate}
use Rattle.seq.specs.Seq.{Bool, true, false, cond, not, List, [], ℕ, leb, ltb, eqb, length, get_or, replicate, pos, the_some_below, gather, padded}
use Rattle.seq.specs.Least.{least-ext}
use Rattle.seq.proofs.Least.{some_ext}
use Rattle.seq.specs.Table.{table-ext}
use Rattle.seq.specs.Rows.{rows_ext}
use Rattle.paper.specs.Limits.{denominator_bytes}
use Rattle.paper.specs.Plane.{is_zer, sgn}
use Rattle.paper.specs.Graph.{even, twin}
use Rattle.paper.specs.Bytes.{ascii, le, le_signed, the_fits_signed, fits_unsigned}
use Rattle.paper.specs.Tables.{face_width, vertex_cell, half_cell, origin_of, twin_of, follower_of, predecessor_of, source_cell, face_cell, Counts, Tables}
use Rattle.paper.specs.Lent.{padded_tables, Lengths}
use Rattle.paper.specs.Ovfile.{Layout, sound_follower, has_source, sound_edge, least_start, vertex_bytes, edge_fields, face_fields, overlay_file}
use Rattle.paper.specs.Writer.{bad_vertex, bad_half, wide_source, bad_edge}

-- of n maps, the cells of the counted rows are the same
pub record Agree (n : ℕ) (c : Counts) (t u : Tables) : Type 0 where
  pub vertices : (v j : ℕ) → v < c.vertices → j < 4 → vertex_cell t v j ≡ vertex_cell u v j
  pub halves : (h j : ℕ) → h < 2 * c.edges → j < 5 → half_cell t h j ≡ half_cell u h j
  pub sources : (k i : ℕ) → k < c.edges → i < n → source_cell n t k i ≡ source_cell n u k i
  pub faces : (f j : ℕ) → f < c.faces → j < face_width n → face_cell n t f j ≡ face_cell n u f j

-- ── tests ──

pub twin_below : (h n : ℕ) → h < 2 * n → twin h < 2 * n
twin_below h n l = by (even h) refl
  where
    by : (c : Bool) → even h ≡ c → cond c (h + 1) (h - 1) < 2 * n
    by true e = omega (arith, eqb-true (h % 2) 0 e)
    by false e = omega (arith, eqb-false (h % 2) 0 e)

-- what a test guards has to be the same only where the test holds
guarded : (a x y : Bool) → (a ≡ true → x ≡ y) → (a && x) ≡ (a && y)
guarded true x y h = h refl
guarded false x y h = refl

module _ (n : ℕ) (c : Counts) (t u : Tables) (A : Agree n c t u) where
  origin_same : (h : ℕ) → h < 2 * c.edges → origin_of t h ≡ origin_of u h
  origin_same h l = A.halves h 0 l (omega arith)

  follower_same : (h : ℕ) → h < 2 * c.edges → follower_of t h ≡ follower_of u h
  follower_same h l = A.halves h 2 l (omega arith)

  sound-follower_same : (h : ℕ) → h < 2 * c.edges → sound_follower c t h ≡ sound_follower c u h
  sound-follower_same h l =
      ap (λ (f : ℕ). ltb f (2 * c.edges) && (eqb (origin_of t f) (origin_of t (twin h)) && not (the_some_below (λ j. eqb (follower_of t j) f) h))) (follower_same h l)
      ∙ guarded (ltb (follower_of u h) (2 * c.edges)) _ _
      (λ b i.
      eqb (origin_same (follower_of u h) (ltb-true (follower_of u h) (2 * c.edges) b) i) (origin_same (twin h) (twin_below h c.edges l) i)
      && not (some_ext (λ j. eqb (follower_of t j) (follower_of u h)) (λ j. eqb (follower_of u j) (follower_of u h)) h
      (λ j m. ap (λ (x : ℕ). eqb x (follower_of u h)) (follower_same j (omega arith))) i))

  source_same : (k : ℕ) → k < c.edges → has_source n t k ≡ has_source n u k
  source_same k l =
      some_ext (λ i. not (eqb (source_cell n t k i) 0)) (λ i. not (eqb (source_cell n u k i) 0)) n (λ i m. ap (λ (x : ℕ). not (eqb x 0)) (A.sources k i l m))

  pub sound_same : (k : ℕ) → k < c.edges → sound_edge n c t k ≡ sound_edge n c u k
  sound_same k l i =
      let a = origin_same (2 * k) (omega arith) i in
      let b = origin_same (2 * k + 1) (omega arith) i in
      (ltb a b && ltb b c.vertices)
      && (source_same k l i
      && ((ltb (A.halves (2 * k) 4 (omega arith) (omega arith) i) c.faces && ltb (A.halves (2 * k + 1) 4 (omega arith) (omega arith) i) c.faces)
      && (sound-follower_same (2 * k) (omega arith) i && sound-follower_same (2 * k + 1) (omega arith) i)))

  -- ── refusals ──

  bad-half_same : (h : ℕ) → h < 2 * c.edges → bad_half c t h ≡ bad_half c u h
  bad-half_same h l =
      (λ i. let p = A.halves h 3 l (omega arith) i in
      not (eqb (A.halves h 1 l (omega arith) i) (twin h) && (ltb p (2 * c.edges) && eqb (follower_of t p) h)))
      ∙ ap (λ (b : Bool). not (eqb (twin_of u h) (twin h) && b))
      (guarded (ltb (predecessor_of u h) (2 * c.edges)) _ _
      (λ b. ap (λ (x : ℕ). eqb x h) (follower_same (predecessor_of u h) (ltb-true (predecessor_of u h) (2 * c.edges) b))))

  wide_same : (k : ℕ) → k < c.edges → wide_source n t k ≡ wide_source n u k
  wide_same k l =
      some_ext (λ i. leb (256 ^ 2) (source_cell n t k i)) (λ i. leb (256 ^ 2) (source_cell n u k i)) n (λ i m. ap (leb (256 ^ 2)) (A.sources k i l m))

  pub bad-edge_same : (k : ℕ) → k < c.edges → bad_edge n c t k ≡ bad_edge n c u k
  bad-edge_same k l i =
      (not (sound_same k l i) || wide_same k l i) || (bad-half_same (2 * k) (omega arith) i || bad-half_same (2 * k + 1) (omega arith) i)

  start_same : (v : ℕ) → least_start c t v ≡ least_start c u v
  start_same v =
      ap (λ (h : ℕ). cond (ltb h (2 * c.edges)) h 65535)
      (least-ext (λ h. eqb (origin_of t h) v) (λ h. eqb (origin_of u h) v) (2 * c.edges) (λ h l. ap (λ (x : ℕ). eqb x v) (origin_same h l)))

  pub bad-vertex_same : (l : Layout) (v : ℕ) → v < c.vertices → bad_vertex l c t v ≡ bad_vertex l c u v
  bad-vertex_same l v b i =
      not (the_fits_signed l.coordinate (A.vertices v 0 b (omega arith) i) && (the_fits_signed l.coordinate (A.vertices v 1 b (omega arith) i)
      && (fits_unsigned denominator_bytes (A.vertices v 2 b (omega arith) i) && is_zer (sgn (A.vertices v 3 b (omega arith) i -ℤ pos (start_same v i))))))

  -- ── the file ──

  vertex_same : (l : Layout) (v : ℕ) → v < c.vertices → vertex_bytes l t v ≡ vertex_bytes l u v
  vertex_same l v b i =
      le_signed l.coordinate (A.vertices v 0 b (omega arith) i) ++ le_signed l.coordinate (A.vertices v 1 b (omega arith) i)
      ++ le_signed denominator_bytes (A.vertices v 2 b (omega arith) i)

  pub edge_same : (k : ℕ) → k < c.edges → edge_fields n t k ≡ edge_fields n u k
  edge_same k l i =
      A.halves (2 * k) 0 (omega arith) (omega arith) i ∷ A.halves (2 * k + 1) 0 (omega arith) (omega arith) i
      ∷ (table-ext (source_cell n t k) (source_cell n u k) n (λ j m. A.sources k j l m) i
      ++ (A.halves (2 * k) 2 (omega arith) (omega arith) i ∷ A.halves (2 * k + 1) 2 (omega arith) (omega arith) i
      ∷ A.halves (2 * k) 4 (omega arith) (omega arith) i ∷ A.halves (2 * k + 1) 4 (omega arith) (omega arith) i ∷ []))

  pub face_same : (f : ℕ) → f < c.faces → face_fields n t f ≡ face_fields n u f
  face_same f l = table-ext (face_cell n t f) (face_cell n u f) (face_width n) (λ j m. A.faces f j l m)

-- the same file, of any version and width of its coordinates
pub file_same : (version : ℕ) (l : Layout) (c : Counts) (t u : Tables) → Agree l.maps c t u → overlay_file version l c t ≡ overlay_file version l c u
unfolding overlay_file
file_same version l c t u A i =
    ascii "ZOV" ++ gather (le 2) (version ∷ c.vertices ∷ c.edges ∷ c.faces ∷ [])
    ++ rows_ext (vertex_bytes l t) (vertex_bytes l u) c.vertices (vertex_same l.maps c t u A l) i
    ++ rows_ext (λ k. gather (le 2) (edge_fields l.maps t k)) (λ k. gather (le 2) (edge_fields l.maps u k)) c.edges (λ k m. ap (gather (le 2)) (edge_same l.maps c t u A k m)) i
    ++ rows_ext (λ f. gather (le 2) (face_fields l.maps t f)) (λ f. gather (le 2) (face_fields l.maps u f)) c.faces (λ f m. ap (gather (le 2)) (face_same l.maps c t u A f m)) i

-- ── zeros past a table ──

pub padded-cell : {B : Type 0} (z : B) (n : ℕ) (xs : List B) (i : ℕ) → get_or (padded z n xs) i z ≡ get_or xs i z
padded-cell z n xs i =
    elim (dec_lt i (length xs)) [
      | yes q ↦ get_or-append xs (replicate (n - length xs) z) z i q
      | no q ↦ past (dec_lt i n) (omega arith) ∙ sym (get_or-eq_default xs z (omega arith))
    ]
  where
    past : Dec (i < n) → length xs ≤ i → get_or (padded z n xs) i z ≡ z
    past (yes q) l =
        let e : length xs + (i - length xs) ≡ i = omega arith in
        ap (λ (k : ℕ). get_or (padded z n xs) k z) (sym e) ∙ get_or-append-add xs (replicate (n - length xs) z) (i - length xs) z
        ∙ get_or-replicate (n - length xs) (i - length xs) z z (omega arith)
    past (no q) l = get_or-eq_default (padded z n xs) z (rw (length-append, length-replicate) (omega arith))

pub padded-agree : (n : ℕ) (c : Counts) (ls : Lengths) (t : Tables) → Agree n c (padded_tables ls t) t
padded-agree n c ls t = record {
  vertices = λ v j b m. padded-cell (pos 0) ls.vertices t.vertices (4 * v + j);
  halves = λ h j b m. padded-cell 0 ls.halves t.halves (5 * h + j);
  sources = λ k i b m. padded-cell 0 ls.sources t.sources (n * k + i);
  faces = λ f j b m. padded-cell 0 ls.faces t.faces (face_width n * f + j);
}
