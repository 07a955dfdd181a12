-- Soundings by cell (02, Ask 3): the labels of a sounding, how often each list of labels occurs, which refusal is given, and everything that comes out. THE DEFINITION of the operation,
-- over any list of map files; it is run with two. Assumes nothing.
use Rattle.std.specs.Prelude.{◌&&◌, ◌||◌, ◌∷◌, ◌++◌, ◌+◌, ◌*◌, ◌/◌, ◌%◌}
use Rattle.seq.specs.Seq.{Bool, true, false, not, List, [], map, Option, ℕ, min, ltb, eqb, length, nat_abs, pos, table, or_zero, insert_by, gather, padded}
use Rattle.seq.specs.Total.{total}
use Rattle.paper.specs.Limits.{reach, overlay_faces, list_soundings}
use Rattle.paper.specs.Plane.{Vec, vec, whole}
use Rattle.paper.specs.Graph.{west}
use Rattle.paper.specs.Bytes.{signed_at}
use Rattle.paper.specs.Refusal.{given, first_at, first_of, answer, unless_refused, Refusal, Answer}
use Rattle.paper.specs.Map.{map_of, label, Map}
use Rattle.paper.specs.Pieces.{layer}
use Rattle.paper.specs.Overlay.{map_faults}
use Rattle.paper.specs.Reads.{read_for}

-- ── the list: "x and y as signed 16-bit, low byte first" ──

abbrev pub soundings_in : List ℕ → ℕ
soundings_in s = length s / 4

abbrev pub sounding_at : List ℕ → ℕ → Vec
sounding_at s i = vec (signed_at 2 s (4 * i)) (signed_at 2 s (4 * i + 2))

-- ── the labels of a sounding ──

-- "just east of p and just north of its height: look west with edges through p counted as west": 01's look along this direction. An edge through p has a greater upward angle, a level edge is never seen
abbrev pub east : Vec
east = vec (pos 1) (pos 0)

-- "Each sounding gets one label pair": of a sounding at the corner c, one label for each map
abbrev pub cell_of : List Map → Vec → List ℕ
cell_of ms c = table (λ i. or_zero (label (layer ms i)) (west (layer ms i).graph (whole c) east)) (length ms)

abbrev pub cells : List Map → List ℕ → List (List ℕ)
cells ms s = table (λ i. cell_of ms (sounding_at s i)) (soundings_in s)

-- "the sum over all soundings and both maps" (02, Ask 8)
abbrev pub read_in : List Map → List ℕ → ℕ
read_in ms s = total (read_for ms) (table (sounding_at s) (soundings_in s))

-- ── "each pair that occurs with its count, sorted by pair" ──

pub record Entry : Type 0 where
  pub labels : List ℕ
  pub times : ℕ

-- by the first label, then the second, and so on
abbrev pub less_list : List ℕ → List ℕ → Bool
less_list [] ys = false
less_list (x ∷ xs) [] = false
less_list (x ∷ xs) (y ∷ ys) = ltb x y || (eqb x y && less_list xs ys)

abbrev pub lesser : Entry → Entry → Bool
lesser a b = less_list a.labels b.labels

-- of two with the same labels the counts are added
abbrev pub added : Entry → Entry → Entry
added a b = record { labels = b.labels; times = a.times + b.times }

abbrev pub once : List ℕ → Entry
once c = record { labels = c; times = 1 }

-- the counts t with those of the soundings cs, each given by its labels
abbrev pub tally_from : List Entry → List (List ℕ) → List Entry
tally_from t [] = t
tally_from t (c ∷ cs) = tally_from (insert_by lesser added (once c) t) cs

abbrev pub tally : List (List ℕ) → List Entry
tally cs = tally_from [] cs

-- ── refusals ──

-- 12 "a list whose length is not a multiple of 4 or that holds more than 65,535 soundings"
abbrev pub bad_list : List ℕ → Bool
bad_list s = not (eqb (length s % 4) 0) || ltb list_soundings (soundings_in s)

-- 13 "a coordinate beyond the maps' limit"
abbrev pub far : List ℕ → ℕ → Bool
far s i = let c = sounding_at s i in ltb reach (nat_abs c.x) || ltb reach (nat_abs c.y)

-- 12 "(place 0)", 13 "(place: least such sounding)"
abbrev pub list_faults : List ℕ → List (Option Refusal)
list_faults s = given 12 0 (bad_list s) ∷ first_at 13 (far s) (soundings_in s) ∷ []

-- the lengths of the lent tables: labels, in rows of one for each map; counts
pub record CountRoom : Type 0 where
  pub labels : ℕ
  pub counts : ℕ

-- 11 "place 6, for more than 1,334 different pairs", or more than the lent tables have rows for n labels and a count each (01's rule for room)
abbrev pub entry_room : ℕ → CountRoom → ℕ
entry_room n l = min overlay_faces (min (l.labels / n) l.counts)

-- ── the operation ──

-- how many different lists of labels occur, how many soundings there are, and how many edges their looks read
pub record Cells : Type 0 where
  pub entries : ℕ
  pub soundings : ℕ
  pub read : ℕ

-- what comes out: the answer, and the lent tables
pub record Counted : Type 0 where
  pub answer : Answer Cells
  pub labels : List ℕ
  pub counts : List ℕ

abbrev pub label_rows : List Entry → List ℕ
label_rows = gather (λ e. e.labels)

abbrev pub times : List Entry → List ℕ
times = map (λ e. e.times)

-- "Done: places past the counts are zero", "Refused: all lent tables are zero" (01)
abbrev pub counted : CountRoom → Cells → List Entry → Option Refusal → Counted
counted l c t r = record {
  answer = answer c r;
  labels = unless_refused (padded 0 l.labels (label_rows t)) (padded 0 l.labels []) r;
  counts = unless_refused (padded 0 l.counts (times t)) (padded 0 l.counts []) r;
}

-- "Refusals, after the map rules, with map 0: 12 .., 13 .., then 11"
unfoldable pub soundings : CountRoom → List (List ℕ) → List ℕ → Counted
soundings l files s =
    let t = tally (cells (map map_of files) s) in
    counted l (record { entries = length t; soundings = soundings_in s; read = read_in (map map_of files) s }) t
    (first_of (map_faults files ++ (list_faults s ++ (given 11 6 (ltb (entry_room (length files) l) (length t)) ∷ []))))
