-- Of TwoMaps of specs/, what rests on its definitions.
use Rattle.std.specs.Prelude.{◌≡◌, refl, ◌<◌, ◌∷◌, ◌++◌, ◌+◌, ◌*◌, ◌/◌}
use Rattle.std.proofs.Common.{sym, ◌∙◌, ap, subst, le_refl, add-zero, arith, length-append, get_or-append-add}
use Rattle.std.proofs.Math.Decide.{dec_lt}
use Rattle.std.proofs.Math.ListN.{get_or-append}
use Rattle.seq.specs.Seq.{List, [], Option, none, some, ℕ, suc, length, get_or, table, pos, padded}
use Rattle.seq.specs.Table.{table-ext}
use Rattle.paper.specs.Refusal.{Refusal, done, refused, the_of_map, first_of, answer, unless_refused}
use Rattle.paper.specs.Map.{fault}
use Rattle.paper.specs.Sample.{empty_file}
use Rattle.paper.specs.Faces.{overlay_of}
use Rattle.paper.specs.Tables.{Counts, Tables, face_width, counts_of, source_cell, face_cell}
use Rattle.paper.specs.Lent.{Lengths, room_in, room_faults, padded_tables, zero_tables}
use Rattle.paper.specs.Overlay.{map_faults, lent}
use Rattle.laws_refusals.specs.Refusals.{refused_some}
use Rattle.laws_overlay.specs.Maps.{AllKeep}
use Rattle.laws_overlay.specs.Parts.{made}
use Rattle.laws_overlay.specs.EmptyMap.{with_empty}
use Rattle.laws_overlay.specs.EmptyTables.{empty-tables}
use Rattle.laws_overlay.specs.Files.{AllPass, maps-count, files-keep}
use Rattle.laws_overlay.specs.Padded.{padded-face}
use Rattle.laws_overlay.proofs.Padded.{padded-source}
use Rattle.laws_labels.specs.Done.{done-passes, done-counts, done-tables}
use Rattle.laws_orders.specs.LastRows.{source_before, source_last, face_before, face_last, face_past}
use Rattle.laws_orders.specs.TwoMaps.{with_last, empty-passes, ns, ms, last_counts, maps_last, SameAnswer, OneMore, SameRoom, TwoMaps, last_labels}

-- ── lent tables ──

module _ (fs : List (List ℕ)) where
  files_last : length (with_last fs) ≡ suc (length fs)
  files_last = omega (arith, length-append fs (empty_file ∷ []))

  file_last : get_or (with_last fs) (length fs) [] ≡ empty_file
  file_last = ap (λ (n : ℕ). get_or (with_last fs) n []) (sym (add-zero (length fs))) ∙ get_or-append-add fs (empty_file ∷ []) 0 []

  -- ── refusals ──

  abbrev of : ℕ → Option Refusal
  of i = the_of_map (suc i) (fault (get_or fs i []))

  abbrev of_last : ℕ → Option Refusal
  of_last i = the_of_map (suc i) (fault (get_or (with_last fs) i []))

  faults_last : map_faults (with_last fs) ≡ map_faults fs ++ (none ∷ [])
  faults_last =
      ap (table of_last) files_last
      ∙ (λ x. table-ext of_last of (length fs) (λ i b. ap (λ (s : List ℕ). the_of_map (suc i) (fault s)) (get_or-append fs (empty_file ∷ []) [] i b)) x ++ (own x ∷ []))
    where
      own : of_last (length fs) ≡ none
      own = ap (λ (s : List ℕ). the_of_map (suc (length fs)) (fault s)) file_last ∙ ap (the_of_map (suc (length fs))) empty-passes

  -- a rule that is not broken changes nothing
  skip : (xs ys : List (Option Refusal)) → first_of ((xs ++ (none ∷ [])) ++ ys) ≡ first_of (xs ++ ys)
  skip [] ys = refl
  skip (none ∷ xs) ys = skip xs ys
  skip (some r ∷ xs) ys = refl

  pass_last : AllPass fs → AllPass (with_last fs)
  pass_last P i b =
      elim (dec_lt i (length fs)) [
        | yes q ↦ ap fault (get_or-append fs (empty_file ∷ []) [] i q) ∙ P i q
        | no q ↦ let e : i ≡ length fs = omega (arith, files_last) in ap (λ (j : ℕ). fault (get_or (with_last fs) j [])) e ∙ ap fault file_last ∙ empty-passes
      ]

  module _ (k l : Lengths) (R : SameRoom (length fs) k l) where
    found_last : first_of (map_faults (with_last fs) ++ room_faults (room_in (length (with_last fs)) l) (counts_of (overlay_of (ns fs)))) ≡ first_of (map_faults fs ++ room_faults (room_in (length fs) k) (counts_of (overlay_of (ms fs))))
    found_last =
        (λ x. first_of (faults_last x ++ room_faults (room_in (files_last x) l) (last_counts fs x)))
        ∙ ap (λ (room : Counts). first_of ((map_faults fs ++ (none ∷ [])) ++ room_faults room (counts_of (overlay_of (ms fs))))) R.room
        ∙ skip (map_faults fs) (room_faults (room_in (length fs) k) (counts_of (overlay_of (ms fs))))

    made_last : made (ns fs) ≡ made (with_empty (length (ms fs)) (ms fs))
    made_last = ap made (maps_last fs)

    pub last_empty : SameAnswer fs k l R
    last_empty = record {
      answers = λ x. answer (last_counts fs x) (found_last x);
      vertices = vertices_by_lem (made (ns fs)) (made (ms fs)) (ap (λ (t : Tables). t.vertices) (made_last ∙ empty-tables (ms fs) (length (ms fs)) (le_refl (length (ms fs))))) found_last;
      halves = halves_by (made (ns fs)) (made (ms fs)) (ap (λ (t : Tables). t.halves) (made_last ∙ empty-tables (ms fs) (length (ms fs)) (le_refl (length (ms fs))))) found_last;
    }
      where
        vertices_by_lem : (t u : Tables) → t.vertices ≡ u.vertices → {x y : Option Refusal} → x ≡ y →
            (unless_refused (padded_tables l t) (zero_tables l) x).vertices ≡ (unless_refused (padded_tables k u) (zero_tables k) y).vertices
        vertices_by_lem t u e {x} {y} q = ap (λ (z : Option Refusal). (unless_refused (padded_tables l t) (zero_tables l) z).vertices) q ∙ go y
          where
            go : (y : Option Refusal) → (unless_refused (padded_tables l t) (zero_tables l) y).vertices ≡ (unless_refused (padded_tables k u) (zero_tables k) y).vertices
            go none = λ i. padded (pos 0) (R.vertices i) (e i)
            go (some r) = λ i. padded (pos 0) (R.vertices i) []

        halves_by : (t u : Tables) → t.halves ≡ u.halves → {x y : Option Refusal} → x ≡ y →
            (unless_refused (padded_tables l t) (zero_tables l) x).halves ≡ (unless_refused (padded_tables k u) (zero_tables k) y).halves
        halves_by t u e {x} {y} q = ap (λ (z : Option Refusal). (unless_refused (padded_tables l t) (zero_tables l) z).halves) q ∙ go y
          where
            go : (y : Option Refusal) → (unless_refused (padded_tables l t) (zero_tables l) y).halves ≡ (unless_refused (padded_tables k u) (zero_tables k) y).halves
            go none = λ i. padded 0 (R.halves i) (e i)
            go (some r) = λ i. padded {A = ℕ} 0 (R.halves i) []

    -- ── where it is done ──

    module _ (c : Counts) (d : (lent k fs).answer ≡ done c) where
      done_last : (lent l (with_last fs)).answer ≡ done c
      done_last = last_empty.answers ∙ d

      P : AllPass fs
      P = done-passes k fs c d

      K : AllKeep (ms fs)
      K = files-keep fs P

      counts-are : c ≡ counts_of (overlay_of (ms fs))
      counts-are = done-counts k fs c d

      counts_too : c ≡ counts_of (overlay_of (ns fs))
      counts_too = done-counts l (with_last fs) c done_last

      count_is : length (ms fs) ≡ length fs
      count_is = maps-count fs

      -- as many maps
      count_last : length (ns fs) ≡ suc (length (ms fs))
      count_last = omega (arith, maps-count (with_last fs), files_last, count_is)

      by_source : (j i : ℕ) → j < c.edges → i < suc (length (ms fs)) → source_cell (suc (length (ms fs))) (lent l (with_last fs)).tables j i ≡ source_cell (suc (length (ms fs))) (made (with_empty (length (ms fs)) (ms fs))) j i
      by_source j i a b =
          (λ y. source_cell (sym count_last y) (done-tables l (with_last fs) c done_last y) j i)
          ∙ padded-source (ns fs) l (files-keep (with_last fs) (pass_last P)) j i (subst (λ (z : Counts). j < z.edges) counts_too a) (subst (λ (n : ℕ). i < n) (sym count_last) b)
          ∙ (λ y. source_cell (count_last y) (made_last y) j i)

      by_face : (f j : ℕ) → f < c.faces → j < face_width (suc (length (ms fs))) → face_cell (suc (length (ms fs))) (lent l (with_last fs)).tables f j ≡ face_cell (suc (length (ms fs))) (made (with_empty (length (ms fs)) (ms fs))) f j
      by_face f j a b =
          (λ y. face_cell (sym count_last y) (done-tables l (with_last fs) c done_last y) f j)
          ∙ padded-face (ns fs) l f j (subst (λ (z : Counts). f < z.faces) counts_too a) (subst (λ (n : ℕ). j < face_width n) (sym count_last) b)
          ∙ (λ y. face_cell (count_last y) (made_last y) f j)

      own-face : (f j : ℕ) → f < c.faces → j < face_width (length (ms fs)) → face_cell (length (ms fs)) (made (ms fs)) f j ≡ face_cell (length (ms fs)) (lent k fs).tables f j
      own-face f j a b = sym (padded-face (ms fs) k f j (subst (λ (z : Counts). f < z.faces) counts-are a) b) ∙ sym (λ y. face_cell (length (ms fs)) (done-tables k fs c d y) f j)

      in_faces : {f : ℕ} → f < c.faces → f < (counts_of (overlay_of (ms fs))).faces
      in_faces {f} a = subst (λ (z : Counts). f < z.faces) counts-are a

      in_edges : {j : ℕ} → j < c.edges → j < (counts_of (overlay_of (ms fs))).edges
      in_edges {j} a = subst (λ (z : Counts). j < z.edges) counts-are a

      by_cells : OneMore (length (ms fs)) c (lent k fs).tables (lent l (with_last fs)).tables
      by_cells = record {
        vertices = last_empty.vertices;
        halves = last_empty.halves;
        sources = λ j i a b.
            by_source j i a (omega arith) ∙ source_before (ms fs) K j (in_edges a) i b ∙ sym (padded-source (ms fs) k K j i (in_edges a) b) ∙ sym (λ y. source_cell (length (ms fs)) (done-tables k fs c d y) j i);
        no_source = λ j a. by_source j (length (ms fs)) a (omega arith) ∙ source_last (ms fs) K j (in_edges a);
        labels = λ f i a b. by_face f i a (omega arith) ∙ face_before (ms fs) K f (in_faces a) i b ∙ own-face f i a (omega arith);
        no_label = λ f a. by_face f (length (ms fs)) a (omega arith) ∙ face_last (ms fs) K f (in_faces a);
        least = λ f a. by_face f (suc (length (ms fs))) a (omega arith) ∙ face_past (ms fs) K f (in_faces a) (length (ms fs)) (omega arith) (omega arith) ∙ own-face f (length (ms fs)) a (omega arith);
        holes = λ f a.
            let e : suc (length (ms fs)) + 1 ≡ suc (length (ms fs) + 1) = omega arith in
            ap (face_cell (suc (length (ms fs))) (lent l (with_last fs)).tables f) e ∙ by_face f (suc (length (ms fs) + 1)) a (omega arith) ∙ face_past (ms fs) K f (in_faces a) (length (ms fs) + 1) (omega arith) (omega arith)
            ∙ own-face f (length (ms fs) + 1) a (omega arith);
      }

      -- one source and one label more, 0; nothing else
      pub last_cells : OneMore (length fs) c (lent k fs).tables (lent l (with_last fs)).tables
      last_cells = subst (λ (n : ℕ). OneMore n c (lent k fs).tables (lent l (with_last fs)).tables) count_is by_cells

    -- ── where it is refused ──

    pub last_zeros : (q : Refusal) → (lent k fs).answer ≡ refused q → ((lent k fs).tables ≡ zero_tables k) × ((lent l (with_last fs)).tables ≡ zero_tables l)
    last_zeros q e =
        let a = refused_some (counts_of (overlay_of (ms fs))) q (first_of (map_faults fs ++ room_faults (room_in (length fs) k) (counts_of (overlay_of (ms fs))))) e in
        (ap (unless_refused (padded_tables k (made (ms fs))) (zero_tables k)) a, ap (unless_refused (padded_tables l (made (ns fs))) (zero_tables l)) (found_last ∙ a))

-- ── of two files ──

pub two_maps : (k l : Lengths) → SameRoom 2 k l → (a b : List ℕ) → TwoMaps k l a b
two_maps k l R a b =
    let S = last_empty (a ∷ b ∷ []) k l R in
    record {
      answers = S.answers;
      vertices = S.vertices;
      halves = S.halves;
      labels = last_labels (a ∷ b ∷ []);
      cells = last_cells (a ∷ b ∷ []) k l R;
      zeros = last_zeros (a ∷ b ∷ []) k l R;
    }
