-- Maps that stand one after the other: none, and one more behind them (`stack_more`); the rows of one file's map are as many as it counts. Then which refusal is
-- given of a file behind others. Assumes nothing.
use Rattle.std.specs.Prelude.{◌∷◌, ◌++◌, ◌+◌, ◌*◌}
use mathlib.Core.Path.{◌≡◌, refl, sym, ◌∙◌, ap}
use mathlib.Core.List.{append-nil}
use Prim.Native.Nat.{◌≤◌, ◌<◌}
use native.Mathlib.Nat.{zero-add, mul-zero, mul-add}
use native.Mathlib.Omega.{arith}
use lib.ListN.{length-append, get_or-append}
use lib.Seq.{get_or_at}
use Rattle.seq.specs.Seq.{Option, none, some, List, [], ℕ, suc, length, get_or, sets, ℤ, table, gather, over}
use Rattle.seq.specs.Table.{length-table, table_more, table-ext, among-table}
use Rattle.seq.specs.Rows.{length-rows}
use Rattle.seq.specs.Over.{over_none, stored_first, stored-behind}
use Rattle.seq.specs.Members.{every_in, gather-++}
use Rattle.seq.specs.Total.{total}
use Rattle.paper.specs.Refusal.{Refusal, first_of, the_of_map}
use Rattle.paper.specs.Graph.{origin}
use Rattle.paper.specs.Map.{map_of, vertex_count, edges_in, label, fault}
use Rattle.paper.specs.Overlay.{map_faults}
use Rattle.laws_refusals.specs.Refusals.{nothing, first_one, first_none, first_some, of_none}
use Rattle.map_file.specs.Rows.{point_row, carrier_row}
use Rattle.overlay_maps.specs.Layers.{corners_of, origins_of, carriers_of, labels_of, LaidFrom, Stacked}

-- ── one file's map ──

module _ (s : List ℕ) where
  pub corners_long : length (corners_of s) ≡ 4 * vertex_count s
  corners_long = length-rows 4 (point_row (map_of s).graph) (vertex_count s) (λ k l. refl)

  pub origins_long : length (origins_of s) ≡ 2 * edges_in s
  origins_long = length-table (origin (map_of s).graph) (2 * edges_in s)

  pub carriers_long : length (carriers_of s) ≡ 4 * edges_in s
  carriers_long = length-rows 4 (carrier_row (map_of s).graph) (edges_in s) (λ k l. refl)

  pub labels_long : length (labels_of s) ≡ 2 * edges_in s
  labels_long = length-table (label (map_of s)) (2 * edges_in s)

-- ── one table ──

-- rows of w cells, as many for each file as are counted
module _ {A : Type 0} (f : List ℕ → List A) (w : ℕ) (count : List ℕ → ℕ) (each : (s : List ℕ) → length (f s) ≡ w * count s) where
  pub gather_long : (files : List (List ℕ)) → length (gather f files) ≡ w * total count files
  gather_long [] = sym (mul-zero w)
  gather_long (s ∷ files) = omega (arith, length-append (f s) (gather f files), each s, gather_long files, mul-add w (count s) (total count files))

  -- one more file's rows behind those that stand
  pub more : (files : List (List ℕ)) (s : List ℕ) (d t u : List A) (n : ℕ) → n ≡ total count files → w * n + w * count s ≤ length d →
      t ≡ over (gather f files) d → u ≡ sets t (w * n) (f s) → u ≡ over (gather f (files ++ (s ∷ []))) d
  more files s d t u n is room e q =
      let xs = gather f files in
      let long = gather_long files in
      let here : w * n ≡ 0 + length xs = ap (λ (k : ℕ). w * k) is ∙ sym long ∙ sym (zero-add (length xs)) in
      let short : length xs ≤ length d = omega arith in
      q ∙ (λ i. sets ((e ∙ sym (stored_first d xs short)) i) (here i) (f s)) ∙ stored-behind d 0 xs (f s)
      ∙ stored_first d (xs ++ f s) (omega (arith, length-append xs (f s), each s))
      ∙ ap (λ (l : List A). over l d) (ap (λ (l : List A). xs ++ l) (sym (append-nil (f s))) ∙ sym (gather-++ f files (s ∷ [])))

-- ── all tables ──

pub stack_none : (ps : List ℤ) (os : List ℕ) (cs : List ℤ) (ls : List ℕ) → Stacked [] ps os cs ls ps os cs ls
stack_none ps os cs ls = record { corners-are = over_none ps; origins-are = over_none os; carriers-are = over_none cs; labels-are = over_none ls }

pub stack_more : (files : List (List ℕ)) (s : List ℕ) (v e : ℕ) {dps ps qs : List ℤ} {dos os us : List ℕ} {dcs cs ws : List ℤ} {dls ls ms : List ℕ} →
    v ≡ total vertex_count files → e ≡ total edges_in files →
    4 * v + 4 * vertex_count s ≤ length dps → 2 * e + 2 * edges_in s ≤ length dos → 4 * e + 4 * edges_in s ≤ length dcs → 2 * e + 2 * edges_in s ≤ length dls →
    Stacked files dps dos dcs dls ps os cs ls → LaidFrom s v e ps os cs ls qs us ws ms → Stacked (files ++ (s ∷ [])) dps dos dcs dls qs us ws ms
stack_more files s v e vs es rp ro rc rl S L = record {
  corners-are = more corners_of 4 vertex_count corners_long files s _ _ _ v vs rp S.corners-are L.corners-are;
  origins-are = more origins_of 2 edges_in origins_long files s _ _ _ e es ro S.origins-are L.origins-are;
  carriers-are = more carriers_of 4 edges_in carriers_long files s _ _ _ e es rc S.carriers-are L.carriers-are;
  labels-are = more labels_of 2 edges_in labels_long files s _ _ _ e es rl S.labels-are L.labels-are;
}

-- ── refusals ──

-- of a list of files that is not refused none is
pub all_pass : (files : List (List ℕ)) → first_of (map_faults files) ≡ none → (i : ℕ) → i < length files → fault (get_or files i []) ≡ none
all_pass files e i l =
    let f : ℕ → Option Refusal = λ i. the_of_map (suc i) (fault (get_or files i [])) in
    of_none (suc i) (fault (get_or files i [])) (every_in (λ r. r ≡ none) (table f (length files)) (nothing (table f (length files)) e) (f i) (among-table f (length files) i l))

-- one more file behind others: refused where they are, and where nothing is found in them as the map after theirs
module _ (files : List (List ℕ)) (s : List ℕ) where
  abbrev last : Option Refusal
  last = the_of_map (suc (length files)) (fault s)

  faults_more : map_faults (files ++ (s ∷ [])) ≡ map_faults files ++ (last ∷ [])
  faults_more =
      let n = length files in
      let f : ℕ → Option Refusal = λ i. the_of_map (suc i) (fault (get_or files i [])) in
      let g : ℕ → Option Refusal = λ i. the_of_map (suc i) (fault (get_or (files ++ (s ∷ [])) i [])) in
      ap (table g) (length-append files (s ∷ [])) ∙ table_more g n
      ∙ (λ j. table-ext g f n (λ i l. ap (λ (t : List ℕ). the_of_map (suc i) (fault t)) (get_or-append files (s ∷ []) [] i l)) j ++ (the_of_map (suc n) (fault (get_or_at files s [] [] n refl j)) ∷ []))

  pub before_refused : {r : Refusal} → first_of (map_faults files) ≡ some r → first_of (map_faults (files ++ (s ∷ []))) ≡ some r
  before_refused e = ap first_of faults_more ∙ first_some (map_faults files) (last ∷ []) e

  pub before_passes : first_of (map_faults files) ≡ none → first_of (map_faults (files ++ (s ∷ []))) ≡ last
  before_passes e = ap first_of faults_more ∙ first_none (map_faults files) (last ∷ []) e ∙ first_one last
