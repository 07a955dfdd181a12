-- The table of pairs with how often they occur: rows of two labels in one table, the counts in the other. What is read of the first n rows is a list of entries. Assumes nothing.
use Rattle.std.specs.Prelude.{◌≡◌, ◌≤◌, ◌<◌, ◌∷◌}
use Rattle.seq.specs.Seq.{true, List, [], ℕ, length, get_or, cell, table}
use Rattle.paper.specs.Soundings.{Entry, less_list}

-- "pair": a row has two labels
abbrev pub pair_width : ℕ
pair_width = 2

-- the labels in row r
abbrev pub the_labels_at : List ℕ → ℕ → List ℕ
the_labels_at ls r = cell 0 pair_width ls r 0 ∷ cell 0 pair_width ls r 1 ∷ []

abbrev pub entry : List ℕ → ℕ → Entry
entry l n = record { labels = l; times = n }

abbrev pub entry_at : List ℕ → List ℕ → ℕ → Entry
entry_at ls cs r = entry (the_labels_at ls r) (get_or cs r 0)

-- those in the first n rows
abbrev pub entries_in : List ℕ → List ℕ → ℕ → List Entry
entries_in ls cs n = table (entry_at ls cs) n

-- a count has 32 bits
abbrev pub most_times : ℕ
most_times = 4294967295

-- m is the number of the entries of t, and where there is room for them the tables hold them
pub record Grown (room : ℕ) (t : List Entry) (ls cs : List ℕ) (m : ℕ) : Type 0 where
  pub entries : m ≡ length t
  pub held : m ≤ room → entries_in ls cs m ≡ t

-- the labels of the first n rows stand in strict order
abbrev pub Rows : List ℕ → ℕ → Type 0
Rows ls n = (i j : ℕ) → i < j → j < n → less_list (the_labels_at ls i) (the_labels_at ls j) ≡ true
