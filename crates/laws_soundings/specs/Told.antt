-- What is told of soundings that are counted, read back from the lent tables, of any number of map files: the rows are the counts (`told_entries`); they add up to the number of soundings (`told-total`); a row's count is how
-- often its labels occur, and labels that stand in no row occur never (`told-times`); rows stand in strict order (`told-ordered`); the edges read are summed over soundings and maps (`told-read`), with a ceiling (`told-ceiling`); and past them there are zeros. Assumes nothing.
use Rattle.std.specs.Prelude.{◌≡◌, refl, ◌<◌, ◌≤◌, ◌∷◌, ◌++◌, ◌+◌, ◌*◌, ◌-◌}
use Rattle.std.proofs.Common.{sym, ◌∙◌, subst, append_assoc, mul-suc, mul-zero, zero-add, arith, get_or-append-add}
use Rattle.std.proofs.Math.Path.{ap}
use Rattle.std.proofs.lemmas.List.{length-map}
use Rattle.std.proofs.Math.ListN.{get_or-append}
use Rattle.seq.specs.Seq.{List, [], map, Option, none, ℕ, zero, suc, length, get_or, replicate, cell, table, ltb}
use Rattle.seq.specs.Terms.{Every, Ordered}
use Rattle.seq.specs.Table.{length-table, table_is, table-ext}
use Rattle.paper.specs.Refusal.{Refusal, given, first_of, done}
use Rattle.paper.specs.Map.{Map, map_of}
use Rattle.paper.specs.Overlay.{map_faults}
use Rattle.paper.specs.Soundings.{Entry, lesser, tally, cell_of, cells, soundings_in, sounding_at, list_faults, entry_room, label_rows, times, counted, soundings, read_in, Cells, CountRoom, Counted}
use Rattle.laws_refusals.specs.Refusals.{done_none}
use Rattle.laws_soundings.specs.Tally.{Long, from_long, total, times_of, occurs, tally-times, tally-ordered}
use Rattle.laws_soundings.specs.Soundings.{counts-add_up}
use Rattle.laws_soundings.specs.Reads.{edges_of, reads-most}

-- the entry in row r: n labels, and how often they occur; those in the first k rows
abbrev pub row_entry : ℕ → List ℕ → List ℕ → ℕ → Entry
row_entry n ls cs r = record { labels = table (cell 0 n ls r) n; times = get_or cs r 0 }

abbrev pub row_entries : ℕ → List ℕ → List ℕ → ℕ → List Entry
row_entries n ls cs k = table (row_entry n ls cs) k

-- ── rows read back ──

abbrev nothing : Entry
nothing = record { labels = []; times = 0 }

module _ (n : ℕ) (zs ws : List ℕ) where
  row_first : (xs r : List ℕ) → length xs ≡ n → table (cell 0 n (xs ++ r) 0) n ≡ xs
  row_first xs r e =
      sym (table_is (cell 0 n (xs ++ r) 0) n xs 0 e
      (λ j q. sym (ap (λ (k : ℕ). get_or (xs ++ r) k 0) (ap (λ (k : ℕ). k + j) (mul-zero n) ∙ zero-add j) ∙ get_or-append xs r 0 j (omega arith))))

  row_next : (xs r : List ℕ) (i : ℕ) → length xs ≡ n → table (cell 0 n (xs ++ r) (suc i)) n ≡ table (cell 0 n r i) n
  row_next xs r i e =
      table-ext (cell 0 n (xs ++ r) (suc i)) (cell 0 n r i) n
      (λ j q. let k : n * suc i + j ≡ length xs + (n * i + j) = omega (arith, mul-suc n i) in ap (λ (m : ℕ). get_or (xs ++ r) m 0) k ∙ get_or-append-add xs r (n * i + j) 0)

  row_back : (t : List Entry) → Every (Long n) t → (i : ℕ) → i < length t → row_entry n (label_rows t ++ zs) (times t ++ ws) i ≡ get_or t i nothing
  row_back [] h i l = absurd (omega arith)
  row_back (e ∷ es) h zero l =
      let a = append_assoc e.labels (label_rows es) zs in
      λ p. record { labels = (ap (λ (x : List ℕ). table (cell 0 n x 0) n) a ∙ row_first e.labels (label_rows es ++ zs) h.0) p; times = e.times }
  row_back (e ∷ es) h (suc i) l =
      let a = append_assoc e.labels (label_rows es) zs in
      (λ p. record { labels = (ap (λ (x : List ℕ). table (cell 0 n x (suc i)) n) a ∙ row_next e.labels (label_rows es ++ zs) i h.0) p; times = get_or (times es ++ ws) i 0 })
      ∙ row_back es h.1 i (omega arith)

  rows_back : (t : List Entry) → Every (Long n) t → row_entries n (label_rows t ++ zs) (times t ++ ws) (length t) ≡ t
  rows_back t h = sym (table_is (row_entry n (label_rows t ++ zs) (times t ++ ws)) (length t) t nothing refl (λ i l. sym (row_back t h i l)))

-- ── the labels of soundings ──

every-++ : {A : Type 0} (P : A → Type 0) (xs ys : List A) → Every P xs → Every P ys → Every P (xs ++ ys)
every-++ P [] ys h k = k
every-++ P (x ∷ xs) ys h k = (h.0, every-++ P xs ys h.1 k)

every-table : {A : Type 0} (P : A → Type 0) (f : ℕ → A) (n : ℕ) → ((i : ℕ) → P (f i)) → Every P (table f n)
every-table P f zero h = tt
every-table P f (suc n) h = every-++ P (table f n) (f n ∷ []) (every-table P f n h) (h n, tt)

module _ (files : List (List ℕ)) (s : List ℕ) where
  abbrev ms : List Map
  ms = map map_of files

  cell_long : (i : ℕ) → length (cell_of ms (sounding_at s i)) ≡ length files
  cell_long i = length-table _ (length ms) ∙ length-map files map_of

  cells_long : Every (λ x. length x ≡ length files) (cells ms s)
  cells_long = every-table (λ x. length x ≡ length files) (λ i. cell_of ms (sounding_at s i)) (soundings_in s) cell_long

  tally_long : Every (Long (length files)) (tally (cells ms s))
  tally_long = from_long (length files) [] (cells ms s) tt cells_long

  -- ── what is told where it is done ──

  module _ (l : CountRoom) (c : Cells) (e : (soundings l files s).answer ≡ done c) where
    abbrev o : Counted
    o = soundings l files s

    abbrev t : List Entry
    t = tally (cells ms s)

    abbrev faults : Option Refusal
    faults = first_of (map_faults files ++ (list_faults s ++ (given 11 6 (ltb (entry_room (length files) l) (length t)) ∷ [])))

    is_done : (faults ≡ none) × (record { entries = length t; soundings = soundings_in s; read = read_in ms s } ≡ c)
    unfolding soundings
    is_done = done_none (record { entries = length t; soundings = soundings_in s; read = read_in ms s }) c faults e

    tables-are : (o.labels ≡ label_rows t ++ replicate (l.labels - length (label_rows t)) 0) × (o.counts ≡ times t ++ replicate (l.counts - length (times t)) 0)
    unfolding soundings
    tables-are = let r = ap (counted l (record { entries = length t; soundings = soundings_in s; read = read_in ms s }) t) is_done.0 in (ap (λ (x : Counted). x.labels) r, ap (λ (x : Counted). x.counts) r)

    pub told-soundings : c.soundings ≡ soundings_in s
    told-soundings = sym (ap (λ (x : Cells). x.soundings) is_done.1)

    -- "The program prints the sum over all soundings and both maps" (02, Ask 8), and it has a ceiling: all edges for each sounding
    pub told-read : c.read ≡ read_in ms s
    told-read = sym (ap (λ (x : Cells). x.read) is_done.1)

    pub told-ceiling : c.read ≤ edges_of ms * c.soundings
    told-ceiling = subst (λ (n : ℕ). c.read ≤ edges_of ms * n) (sym told-soundings) (subst (λ (r : ℕ). r ≤ edges_of ms * soundings_in s) (sym told-read) (reads-most ms s))

    pub told_entries : row_entries (length files) o.labels o.counts c.entries ≡ t
    told_entries =
        (λ i. row_entries (length files) (tables-are.0 i) (tables-are.1 i) (ap (λ (x : Cells). x.entries) (sym is_done.1) i))
        ∙ rows_back (length files) (replicate (l.labels - length (label_rows t)) 0) (replicate (l.counts - length (times t)) 0) t tally_long

    -- "The counts add up to the number of soundings"
    pub told-total : total (row_entries (length files) o.labels o.counts c.entries) ≡ c.soundings
    told-total = ap total told_entries ∙ counts-add_up ms s ∙ sym told-soundings

    -- "each pair that occurs with its count"
    pub told-times : (x : List ℕ) → times_of x (row_entries (length files) o.labels o.counts c.entries) ≡ occurs x (cells ms s)
    told-times x = ap (times_of x) told_entries ∙ tally-times (length files) x (cells ms s) cells_long

    -- "sorted by pair"
    pub told-ordered : Ordered lesser (row_entries (length files) o.labels o.counts c.entries)
    told-ordered = subst (Ordered lesser) (sym told_entries) (tally-ordered (cells ms s))
