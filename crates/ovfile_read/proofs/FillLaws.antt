-- What the reader works out, as the code finds it: predecessors and least outgoing half-edges are the first places of a number among the stored followers and
-- origins. Assumes nothing.
use Rattle.std.specs.Prelude.{◌∷◌, ◌+◌, ◌*◌, ◌/◌, ◌%◌}
use mathlib.Core.Path.{◌≡◌, refl, sym, ◌∙◌, ap}
use Prim.Native.Nat.{◌≤◌, ◌<◌}
use native.Mathlib.Nat.{zero-add}
use native.Mathlib.Omega.{arith}
use borrow.Author.Tests.{ltb-false}
use Rattle.seq.specs.Seq.{Bool, true, false, cond, List, [], ℕ, ltb, eqb, length, get_or, pos, least, rows, position, firsts}
use Rattle.seq.specs.Terms.{the_stands_at}
use Rattle.seq.specs.Tests.{eqb_swap}
use Rattle.seq.specs.Least.{least-ext}
use Rattle.seq.proofs.Least.{least-le}
use Rattle.seq.specs.Table.{length-table, table_at}
use Rattle.seq.specs.Rows.{rows_ext}
use Rattle.seq.proofs.Position.{position-least}
use Rattle.paper.specs.Limits.{absent, overlay_head, denominator_bytes}
use Rattle.paper.specs.Bytes.{signed_at, number}
use Rattle.paper.specs.Tables.{least_half}
use Rattle.paper.specs.Ovfile.{Layout, vertex_size}
use Rattle.paper.specs.Reader.{counts_in, edge_field, stored_origin, stored_follower, vertex_read}
use Rattle.ovfile.specs.Firsts.{FirstPlaces}
use Rattle.ovfile.proofs.SoundLaws.{first_at_lem}
use Rattle.ovfile_read.specs.Filled.{stored_field, starts_in, followers_in, vertex_by, Predecessors, LeastStarts}

same_count : (key : ℕ → ℕ) {m n : ℕ} {d t : List ℕ} → m ≡ n → FirstPlaces key m d t → FirstPlaces key n d t
same_count key {d = d} e r = record { is = r.is ∙ ap (λ (k : ℕ). firsts key 0 k d) e }

-- the bound itself stands for none
or_bound : (h n : ℕ) (c : Bool) → ltb h n ≡ c → h ≤ n → cond c h n ≡ h
or_bound h n true e l = refl
or_bound h n false e l = omega (arith, ltb-false h n e)

module _ (l : Layout) (s : List ℕ) where
  abbrev count : ℕ
  count = 2 * (counts_in s).edges

  -- ── predecessors ──

  place-position : (h : ℕ) → least (λ k. eqb (stored_field l s (2 + l.maps) k) h) count ≡ position h (followers_in l s)
  place-position h =
      let e : length (followers_in l s) ≡ count = length-table (stored_follower l s) count in
      least-ext (λ k. eqb (stored_field l s (2 + l.maps) k) h) (the_stands_at h (followers_in l s)) count
      (λ k b. eqb_swap (stored_field l s (2 + l.maps) k) h ∙ ap (eqb h) (sym (table_at (stored_follower l s) count k 0 b)))
      ∙ ap (least (the_stands_at h (followers_in l s))) (sym e) ∙ position-least h (followers_in l s)

  pub predecessors_by : {n : ℕ} {d t : List ℕ} → FirstPlaces (stored_field l s (2 + l.maps)) n d t → n ≡ count → count ≤ length t → ((h : ℕ) → h < n → get_or d h 0 ≡ n) → Predecessors l s t
  predecessors_by {n} {d} {t} r e b none = record {
    at = λ h m. first_at_lem (stored_field l s (2 + l.maps)) (same_count (stored_field l s (2 + l.maps)) e r) h count (omega arith) (none h (omega arith) ∙ e)
        ∙ or_bound (least (λ k. eqb (stored_field l s (2 + l.maps) k) h) count) count (ltb (least (λ k. eqb (stored_field l s (2 + l.maps) k) h) count) count) refl
        (least-le (λ k. eqb (stored_field l s (2 + l.maps) k) h) count)
        ∙ place-position h;
  }

  -- ── least outgoing half-edges ──

  place-start : (v : ℕ) → (let h = least (λ k. eqb (stored_field l s 0 k) v) count in cond (ltb h count) h absent) ≡ least_half (λ h. eqb (get_or (starts_in l s) h 0) v) (length (starts_in l s))
  place-start v =
      let e : length (starts_in l s) ≡ count = length-table (stored_origin l s) count in
      let g : least (λ k. eqb (stored_field l s 0 k) v) count ≡ least (λ h. eqb (get_or (starts_in l s) h 0) v) count =
      least-ext (λ k. eqb (stored_field l s 0 k) v) (λ h. eqb (get_or (starts_in l s) h 0) v) count
      (λ k b. ap (λ (x : ℕ). eqb x v) (ap (edge_field l s (k / 2)) (zero-add (k % 2)) ∙ sym (table_at (stored_origin l s) count k 0 b))) in
      ap (λ (h : ℕ). cond (ltb h count) h absent) g ∙ ap (least_half (λ h. eqb (get_or (starts_in l s) h 0) v)) (sym e)

  pub starts_by : {n : ℕ} {d t : List ℕ} → FirstPlaces (stored_field l s 0) n d t → n ≡ count → (counts_in s).vertices ≤ length t → ((v : ℕ) → v < (counts_in s).vertices → get_or d v 0 ≡ absent) → LeastStarts l s t
  starts_by {n} {d} {t} r e b none = record { at = λ v m. first_at_lem (stored_field l s 0) (same_count (stored_field l s 0) e r) v absent (omega arith) (none v m) ∙ place-start v }

  -- ── the rows ──

  pub vertices-are : {t : List ℕ} → LeastStarts l s t → rows (vertex_by l s t) (counts_in s).vertices ≡ rows (vertex_read l s (starts_in l s)) (counts_in s).vertices
  vertices-are {t} r =
      rows_ext (vertex_by l s t) (vertex_read l s (starts_in l s)) (counts_in s).vertices
      (λ v b. let w = l.coordinate in
      ap (λ (x : ℕ). signed_at w s (overlay_head + vertex_size l * v) ∷ signed_at w s (overlay_head + vertex_size l * v + w) ∷ pos (number denominator_bytes s (overlay_head + vertex_size l * v + 2 * w)) ∷ pos x ∷ [])
      (r.at v b))
