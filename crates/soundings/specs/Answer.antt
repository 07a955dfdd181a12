-- What is answered, in the definition's terms, and the lent tables where it is done: the rows of the pairs, zeros past them. Assumes nothing.
use Rattle.std.proofs.Common.{append_assoc, sym, ◌∙◌, ap, add-zero, arith, take-suc}
use Rattle.std.specs.Prelude.{◌≡◌, refl, ◌≤◌, ◌∷◌, ◌++◌, ◌+◌, ◌*◌, Result, Ok, Err}
use Rattle.seq.specs.Seq.{List, [], none, ℕ, zero, suc, length, get_or, take, padded, wiped}
use Rattle.paper.specs.Refusal.{Refusal, done, refused}
use Rattle.paper.specs.Soundings as paper
use Rattle.paper.specs.Soundings.{Entry, CountRoom, label_rows, times, counted}
use Rattle.map_file.specs.Verdict.{refusal_of}
use Rattle.laws_soundings.specs.Run.{cells_by}
use Rattle.soundings_count.specs.Entries.{pair_width, entry_at, entries_in}
use Rattle.soundings.specs.declared.answer.Cells.{Cells}
use Rattle.map_file.specs.declared.refusal.Refusal as code

abbrev pub room_by : ℕ → ℕ → CountRoom
room_by l c = record { labels = l; counts = c }

abbrev pub counted_of : Result Cells code.Refusal → List ℕ → List ℕ → paper.Counted
counted_of (Ok c) ls cs = record { answer = done (cells_by c.entries c.soundings c.read); labels = ls; counts = cs }
counted_of (Err r) ls cs = record { answer = refused (refusal_of r); labels = ls; counts = cs }

-- "Refused: all lent tables are zero"
abbrev pub refused_with : CountRoom → Refusal → paper.Counted
refused_with l r = record { answer = refused r; labels = padded 0 l.labels []; counts = padded 0 l.counts [] }

-- ── the rows of the tables ──

labels-++ : (xs : List Entry) (e : Entry) → label_rows (xs ++ (e ∷ [])) ≡ label_rows xs ++ (e.labels ++ [])
labels-++ [] e = refl
labels-++ (x ∷ xs) e = ap (λ (l : List ℕ). x.labels ++ l) (labels-++ xs e) ∙ sym (append_assoc x.labels (label_rows xs) (e.labels ++ []))

times-++ : (xs : List Entry) (e : Entry) → times (xs ++ (e ∷ [])) ≡ times xs ++ (e.times ∷ [])
times-++ [] e = refl
times-++ (x ∷ xs) e = ap (λ (l : List ℕ). x.times ∷ l) (times-++ xs e)

module _ (ls cs : List ℕ) where
  pub front-labels : (n : ℕ) → pair_width * n ≤ length ls → take (pair_width * n) ls ≡ label_rows (entries_in ls cs n)
  front-labels zero h = refl
  front-labels (suc n) h =
      let a : pair_width * suc n ≡ suc (suc (pair_width * n)) = omega arith in
      let b : suc (pair_width * n) ≡ pair_width * n + 1 = omega arith in
      ap (λ (k : ℕ). take k ls) a ∙ take-suc ls (suc (pair_width * n)) 0 (omega arith)
      ∙ (λ i. take-suc ls (pair_width * n) 0 (omega arith) i ++ (get_or ls (b i) 0 ∷ []))
      ∙ append_assoc (take (pair_width * n) ls) (get_or ls (pair_width * n) 0 ∷ []) (get_or ls (pair_width * n + 1) 0 ∷ [])
      ∙ (λ i. front-labels n (omega arith) i ++ (get_or ls (sym (add-zero (pair_width * n)) i) 0 ∷ get_or ls (pair_width * n + 1) 0 ∷ []))
      ∙ sym (labels-++ (entries_in ls cs n) (entry_at ls cs n))

  pub front-counts : (n : ℕ) → n ≤ length cs → take n cs ≡ times (entries_in ls cs n)
  front-counts zero h = refl
  front-counts (suc n) h =
      take-suc cs n 0 (omega arith) ∙ (λ i. front-counts n (omega arith) i ++ (get_or cs n 0 ∷ [])) ∙ sym (times-++ (entries_in ls cs n) (entry_at ls cs n))

  pub tables-done : (n k q : ℕ) (us vs : List ℕ) → pair_width * n ≤ length ls → n ≤ length cs → us ≡ wiped 0 (pair_width * n) ls → vs ≡ wiped 0 n cs →
      record { answer = done (cells_by n k q); labels = us; counts = vs } ≡ counted (room_by (length ls) (length cs)) (cells_by n k q) (entries_in ls cs n) none
  tables-done n k q us vs a b e f = λ i. record {
    answer = done (cells_by n k q);
    labels = (e ∙ ap (padded 0 (length ls)) (front-labels n a)) i;
    counts = (f ∙ ap (padded 0 (length cs)) (front-counts n b)) i;
  }
