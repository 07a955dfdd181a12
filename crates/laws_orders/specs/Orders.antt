-- Ask 11, over a list of map files in another order: file i of the one list is file `to i` of the other (`FilesRenumbered`). Where all pass the answer is the same, a refusal for room too, and so
-- are the lent vertices and half-edges, whole (`orders-done`); sources and labels go with the maps (`orders-source`, and laws_overlay' `renumber_face`). Where one file alone is bad both
-- refuse for it, each under its own map number, and all tables are zero (`orders-bad`). Where several are bad the first handed in is named (`first_named`). Two files exchanged are `exchanged`.
-- Assumes nothing.
use Rattle.std.specs.Prelude.{◌≡◌, refl, ◌<◌, ◌∷◌, ◌++◌, ◌-◌}
use Rattle.std.proofs.Common.{sym, ◌∙◌, ap, subst, arith}
use Rattle.seq.specs.Seq.{List, map, Option, none, some, ℕ, zero, suc, length, get_or, pos, padded, []}
use Rattle.paper.specs.Refusal.{Refusal, refused, the_of_map, first_of, answer, unless_refused}
use Rattle.paper.specs.Map.{Map, map_of, fault}
use Rattle.paper.specs.Faces.{overlay_of}
use Rattle.paper.specs.Tables.{Counts, Tables, counts_of, tables_of, source_cell, the_plus_one}
use Rattle.paper.specs.Lent.{Lengths, room_in, room_faults, padded_tables, zero_tables}
use Rattle.paper.specs.Overlay.{map_faults, lent}
use Rattle.laws_overlay.specs.Maps.{AllKeep}
use Rattle.laws_overlay.specs.Parts.{edge-count}
use Rattle.laws_overlay.proofs.Parts.{sources-wide}
use Rattle.laws_overlay.specs.Cells.{source-cell}
use Rattle.laws_overlay.specs.Renumber.{Renumbers, renumber_keeps}
use Rattle.laws_overlay.specs.Exchange.{other}
use Rattle.laws_overlay.proofs.Exchange.{renumber_tables, renumber_sources}
use Rattle.laws_refusals.specs.Refusals.{first_none, first_some, first_table_none}
use Rattle.laws_refusals.proofs.Refusals.{first_table}
use Rattle.laws_overlay.specs.Files.{AllPass, maps_of, layer_is, maps-count, files-keep}

pub record FilesRenumbered (fs gs : List (List ℕ)) (to back : ℕ → ℕ) : Type 0 where
  pub count : length gs ≡ length fs
  pub to_in : (i : ℕ) → i < length fs → to i < length fs
  pub back_in : (j : ℕ) → j < length fs → back j < length fs
  pub back_to : (i : ℕ) → i < length fs → back (to i) ≡ i
  pub to_back : (j : ℕ) → j < length fs → to (back j) ≡ j
  pub same : (i : ℕ) → i < length fs → get_or gs (to i) [] ≡ get_or fs i []

-- ── the first bad file is named ──

-- the same refusal, of map m
abbrev pub named : ℕ → Refusal → Refusal
named m r = record { number = r.number; map = m; place = r.place; other = r.other }

module _ (l : Lengths) (fs : List (List ℕ)) where
  abbrev of : ℕ → Option Refusal
  of i = the_of_map (suc i) (fault (get_or fs i []))

  abbrev rooms : List (Option Refusal)
  rooms = room_faults (room_in (length fs) l) (counts_of (overlay_of (maps_of fs)))

  -- "if both are bad the first one handed in is named"
  pub first_named : (i : ℕ) (r : Refusal) → i < length fs → ((j : ℕ) → j < i → fault (get_or fs j []) ≡ none) → fault (get_or fs i []) ≡ some r →
      ((lent l fs).answer ≡ refused (named (suc i) r)) × ((lent l fs).tables ≡ zero_tables l)
  first_named i r li h e =
      let q : first_of (map_faults fs ++ rooms) ≡ some (named (suc i) r) =
      first_some (map_faults fs) rooms (first_table of (length fs) i (named (suc i) r) li (λ j k. ap (the_of_map (suc j)) (h j k)) (ap (the_of_map (suc i)) e)) in
      (ap (answer (counts_of (overlay_of (maps_of fs)))) q, ap (unless_refused (padded_tables l (tables_of (maps_of fs) (overlay_of (maps_of fs)))) (zero_tables l)) q)

  -- where all pass only room is left
  pub all_pass_room : AllPass fs → first_of (map_faults fs ++ room_faults (room_in (length fs) l) (counts_of (overlay_of (maps_of fs)))) ≡ first_of (room_faults (room_in (length fs) l) (counts_of (overlay_of (maps_of fs))))
  all_pass_room P = first_none (map_faults fs) rooms (first_table_none of (length fs) (λ i li. ap (the_of_map (suc i)) (P i li)))

-- ── in another order ──

module _ (l : Lengths) (fs gs : List (List ℕ)) (to back : ℕ → ℕ) (R : FilesRenumbered fs gs to back) where
  in_fs : {i : ℕ} → i < length gs → i < length fs
  in_fs {i} b = subst (λ (n : ℕ). i < n) R.count b

  in_maps : {i : ℕ} → i < length (maps_of fs) → i < length fs
  in_maps {i} b = subst (λ (n : ℕ). i < n) (maps-count fs) b

  to_maps : {i : ℕ} → i < length fs → i < length (maps_of fs)
  to_maps {i} b = subst (λ (n : ℕ). i < n) (sym (maps-count fs)) b

  pub maps-renumbered : Renumbers (maps_of fs) (maps_of gs) to back
  maps-renumbered = record {
    count = maps-count gs ∙ R.count ∙ sym (maps-count fs);
    to_in = λ i b. to_maps (R.to_in i (in_maps b));
    back_in = λ j b. to_maps (R.back_in j (in_maps b));
    back_to = λ i b. R.back_to i (in_maps b);
    to_back = λ j b. R.to_back j (in_maps b);
    same = λ i b. layer_is gs (to i) ∙ ap map_of (R.same i (in_maps b)) ∙ sym (layer_is fs i);
  }

  pub pass_too : AllPass fs → AllPass gs
  pass_too P j b = ap fault (ap (λ (x : ℕ). get_or gs x []) (sym (R.to_back j (in_fs b))) ∙ R.same (back j) (R.back_in j (in_fs b))) ∙ P (back j) (R.back_in j (in_fs b))

  -- "the same vertices, followers and faces .. a refusal for room is the same too"
  pub record SameOutcome : Type 0 where
    pub same_answer : (lent l gs).answer ≡ (lent l fs).answer
    pub same_vertices : (lent l gs).tables.vertices ≡ (lent l fs).tables.vertices
    pub same_halves : (lent l gs).tables.halves ≡ (lent l fs).tables.halves

  pub orders-done : AllPass fs → SameOutcome
  orders-done P =
      let U = renumber_tables (maps_of fs) (maps_of gs) to back maps-renumbered (files-keep fs P) in
      let q : first_of (map_faults gs ++ room_faults (room_in (length gs) l) (counts_of (overlay_of (maps_of gs)))) ≡ first_of (map_faults fs ++ room_faults (room_in (length fs) l) (counts_of (overlay_of (maps_of fs)))) =
      all_pass_room l gs (pass_too P) ∙ (λ i. first_of (room_faults (room_in (R.count i) l) (U.counts i))) ∙ sym (all_pass_room l fs P) in
      record {
        same_answer = λ i. answer (U.counts i) (q i);
        same_vertices = vertices_by_lem (tables_of (maps_of gs) (overlay_of (maps_of gs))) (tables_of (maps_of fs) (overlay_of (maps_of fs))) U.vertices q;
        same_halves = halves_by (tables_of (maps_of gs) (overlay_of (maps_of gs))) (tables_of (maps_of fs) (overlay_of (maps_of fs))) U.halves q;
      }
    where
      vertices_by_lem : (t u : Tables) → t.vertices ≡ u.vertices → {x y : Option Refusal} → x ≡ y →
          (unless_refused (padded_tables l t) (zero_tables l) x).vertices ≡ (unless_refused (padded_tables l u) (zero_tables l) y).vertices
      vertices_by_lem t u e {x} {y} q = ap (λ (z : Option Refusal). (unless_refused (padded_tables l t) (zero_tables l) z).vertices) q ∙ go y
        where
          go : (y : Option Refusal) → (unless_refused (padded_tables l t) (zero_tables l) y).vertices ≡ (unless_refused (padded_tables l u) (zero_tables l) y).vertices
          go none = ap (padded (pos 0) l.vertices) e
          go (some r) = refl

      halves_by : (t u : Tables) → t.halves ≡ u.halves → {x y : Option Refusal} → x ≡ y →
          (unless_refused (padded_tables l t) (zero_tables l) x).halves ≡ (unless_refused (padded_tables l u) (zero_tables l) y).halves
      halves_by t u e {x} {y} q = ap (λ (z : Option Refusal). (unless_refused (padded_tables l t) (zero_tables l) z).halves) q ∙ go y
        where
          go : (y : Option Refusal) → (unless_refused (padded_tables l t) (zero_tables l) y).halves ≡ (unless_refused (padded_tables l u) (zero_tables l) y).halves
          go none = ap (padded 0 l.halves) e
          go (some r) = refl

-- ── two files exchanged ──

pub exchanged : (a b : List ℕ) → FilesRenumbered (a ∷ b ∷ []) (b ∷ a ∷ []) other other
exchanged a b = record {
  count = refl;
  to_in = λ i l. omega arith;
  back_in = λ i l. omega arith;
  back_to = λ i l. omega arith;
  to_back = λ i l. omega arith;
  same = same;
}
  where
    same : (i : ℕ) → i < 2 → get_or (b ∷ a ∷ []) (1 - i) [] ≡ get_or (a ∷ b ∷ []) i []
    same zero l = refl
    same (suc zero) l = refl
    same (suc (suc i)) l = absurd (omega arith)

-- ── sources go with the maps ──

module _ (fs gs : List (List ℕ)) (to back : ℕ → ℕ) (R : FilesRenumbered fs gs to back) (P : AllPass fs) (l : Lengths) where
  abbrev ms : List Map
  ms = maps_of fs

  abbrev ns : List Map
  ns = maps_of gs

  abbrev K : AllKeep ms
  K = files-keep fs P

  abbrev L : AllKeep ns
  L = renumber_keeps ms ns to back (maps-renumbered l fs gs to back R) K

  -- source i of edge k, + 1 or 0
  pub orders-source : (k i : ℕ) → k < (counts_of (overlay_of (maps_of fs))).edges → i < length (maps_of fs) →
      source_cell (length (maps_of gs)) (tables_of (maps_of gs) (overlay_of (maps_of gs))) k (to i) ≡ source_cell (length (maps_of fs)) (tables_of (maps_of fs) (overlay_of (maps_of fs))) k i
  orders-source k i lk li =
      let N = maps-renumbered l fs gs to back R in
      let U = renumber_tables ms ns to back N K in
      source-cell ns (overlay_of ns) (sources-wide ns L) k (to i) (subst (λ (c : Counts). k < c.edges) (sym U.counts) lk) (subst (λ (n : ℕ). to i < n) (sym N.count) (N.to_in i li))
      ∙ ap the_plus_one (renumber_sources ms ns to back N K k (subst (λ (n : ℕ). k < n) (edge-count ms) lk) i li)
      ∙ sym (source-cell ms (overlay_of ms) (sources-wide ms K) k i lk li)
