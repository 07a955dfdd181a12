-- The count of soundings byte by byte (02, Ask 3): where it stands (`Run`), what a byte and a batch of bytes more make of it (`with_byte`, `next`), and what is answered in the end (`closed`). It is over any look, so that
-- it can be said of maps and of tables that were laid for looks alike. A batch is any bytes: up to three bytes of a sounding wait for the others. Assumes nothing.
use Rattle.std.specs.Prelude.{◌≡◌, refl, ◌||◌, ◌∷◌, ◌++◌, ◌+◌}
use Rattle.seq.specs.Seq.{Bool, true, cond, not, List, [], Option, none, some, ℕ, suc, eqb, ltb, length, insert_by}
use Rattle.paper.specs.Limits.{overlay_faces, list_soundings}
use Rattle.paper.specs.Plane.{Vec}
use Rattle.paper.specs.Refusal.{Refusal, given, first_of}
use Rattle.paper.specs.Map.{Map}
use Rattle.paper.specs.Reads.{read_for}
use Rattle.paper.specs.Soundings.{Entry, lesser, added, once, cell_of, sounding_at, far, Cells, Counted, CountRoom, entry_room, counted}

-- what looking from a corner gives: the labels of a sounding there, and how many edges are read for them
pub record Look : Type 0 where
  pub cell : Vec → List ℕ
  pub read : Vec → ℕ

abbrev pub look_in : List Map → Look
look_in ms = record { cell = cell_of ms; read = read_for ms }

-- ── where the count stands ──

-- the pairs that occur with their counts, and how many edges were read
pub record Tallied : Type 0 where
  pub entries : List Entry
  pub read : ℕ

-- with look, how many soundings there are, the number of the first that is too far, or as many as there are; what is counted before it, none where there are more than 1,334 pairs; and the bytes of a sounding that is not whole yet
pub record Going : Type 0 where
  pub look : Look
  pub soundings : ℕ
  pub far : ℕ
  pub tallied : Option Tallied
  pub rest : List ℕ

-- or it is refused already, whatever comes
pub data Run : Type 0 where
  halted : Refusal → Run
  going : Going → Run

abbrev pub going_by : Look → ℕ → ℕ → Option Tallied → List ℕ → Run
going_by m n k t s = going (record { look = m; soundings = n; far = k; tallied = t; rest = s })

-- 12 "more than 65,535 soundings"
abbrev pub twelve : Refusal
twelve = record { number = 12; map = 0; place = 0; other = 0 }

-- no byte yet
abbrev pub starts : Look → Run
starts m = going_by m 0 0 (some (record { entries = []; read = 0 })) []

-- ── a byte more ──

-- 11 "for more than 1,334 different pairs": they are not counted any more
abbrev pub capped : List Entry → ℕ → Option Tallied
capped t q = cond (ltb overlay_faces (length t)) none (some (record { entries = t; read = q }))

-- a sounding at c counted
abbrev pub count_in : Look → Vec → Option Tallied → Option Tallied
count_in m c none = none
count_in m c (some t) = capped (insert_by lesser added (once (m.cell c)) t.entries) (t.read + m.read c)

-- one sounding more, of the four bytes s: it is counted unless it or one before it is too far
abbrev pub with_sounding : Look → ℕ → ℕ → Option Tallied → List ℕ → Run
with_sounding m n k t s =
    let past = ltb k n || far s 0 in
    cond (ltb n list_soundings) (going_by m (suc n) (cond past k (suc k)) (cond past t (count_in m (sounding_at s 0) t)) []) (halted twelve)

abbrev pub with_byte : Run → ℕ → Run
with_byte (halted r) b = halted r
with_byte (going g) b =
    let s = g.rest ++ (b ∷ []) in
    cond (ltb (length s) 4) (going_by g.look g.soundings g.far g.tallied s) (with_sounding g.look g.soundings g.far g.tallied s)

-- one batch more
abbrev pub next : Run → List ℕ → Run
next r [] = r
next r (b ∷ bs) = next (with_byte r b) bs

-- ── the answer ──

abbrev pub entries_of : Option Tallied → List Entry
entries_of none = []
entries_of (some t) = t.entries

abbrev pub read_of : Option Tallied → ℕ
read_of none = 0
read_of (some t) = t.read

-- there are more pairs than room
abbrev pub over_room : ℕ → Option Tallied → Bool
over_room room none = true
over_room room (some t) = ltb room (length t.entries)

-- 12, 13 and 11, place 6
abbrev pub run_faults : ℕ → ℕ → ℕ → Option Tallied → List ℕ → List (Option Refusal)
run_faults room n k t s = given 12 0 (not (eqb (length s) 0)) ∷ given 13 k (ltb k n) ∷ given 11 6 (over_room room t) ∷ []

abbrev pub cells_by : ℕ → ℕ → ℕ → Cells
cells_by n k q = record { entries = n; soundings = k; read = q }

-- what is answered, with the lent tables: rows of w labels
abbrev pub closed : ℕ → CountRoom → Run → Counted
closed w l (halted r) = counted l (cells_by 0 0 0) [] (some r)
closed w l (going g) =
    counted l (cells_by (length (entries_of g.tallied)) g.soundings (read_of g.tallied)) (entries_of g.tallied)
    (first_of (run_faults (entry_room w l) g.soundings g.far g.tallied g.rest))
