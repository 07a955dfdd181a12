-- What C is told of soundings is what is answered: where two questions have one number and one first cell of the edges read, they have one answer, whatever the files, the lists and the lent tables are
-- (`cells-means`). Assumes nothing.
use Rattle.std.specs.Prelude.{◌≡◌, ◌<◌, ◌≤◌, ◌∷◌, ◌++◌, ◌%◌}
use Rattle.std.proofs.Common.{sym, ◌∙◌, ap, arith}
use borrow.Author.Tests.{ltb-false}
use Rattle.seq.specs.Seq.{Bool, not, List, [], map, Option, none, ℕ, ltb, eqb, length, get_or}
use Rattle.seq.specs.Tests.{or_false}
use Rattle.seq.specs.Terms.{Every}
use Rattle.seq.specs.Table.{table_at}
use Rattle.paper.specs.Limits.{list_soundings}
use Rattle.paper.specs.Refusal.{Refusal, Answer, done, refused, given, first_at, first_of, the_of_map}
use Rattle.paper.specs.Map.{map_of, fault}
use Rattle.paper.specs.Soundings as paper
use Rattle.paper.specs.Soundings.{Cells, Entry, CountRoom, entry_room, soundings_in, cells, read_in, tally, bad_list, far, soundings}
use Rattle.laws_refusals.specs.Refusals.{nothing, given_none}
use Rattle.bonnetewe.specs.Sounded.{told_cells, told_read, read_cell, ToldCells}
use Rattle.bonnetewe.specs.Laws.Means.{Sound, four-apart}
use Rattle.bonnetewe.specs.Laws.Sound.{Fit, given_fits, at_fits, then_fits, of_fits, sound_by, fault_fits}

abbrev pub CellsFit : Cells → Type 0
CellsFit c = (c.entries < 65536) × (c.soundings < 65536)

-- ── one number and one cell tell one answer ──

pub told-cells-means : (a b : Answer Cells) → Sound CellsFit a → Sound CellsFit b → told_cells a ≡ told_cells b → told_read a ≡ told_read b → a ≡ b
told-cells-means (done c) (done k) (v, w) (x, y) e f =
    let t = four-apart 0 c.entries c.soundings 0 0 k.entries k.soundings 0 (omega arith) v w (omega arith) x y e in
    λ i. done (record { entries = t.1 i; soundings = t.2 i; read = f i })
told-cells-means (done c) (refused s) (v, w) (o, n, m, k, j) e f =
    absurd (let t = four-apart 0 c.entries c.soundings 0 s.number s.map s.place s.other (omega arith) v w n m k e in omega (arith, t.0, o))
told-cells-means (refused r) (done c) (o, n, m, k, j) (v, w) e f =
    absurd (let t = four-apart r.number r.map r.place r.other 0 c.entries c.soundings 0 n m k (omega arith) v w e in omega (arith, t.0, o))
told-cells-means (refused r) (refused s) (o, n, m, k, j) (p, x, y, z, q) e f =
    let t = four-apart r.number r.map r.place r.other s.number s.map s.place s.other n m k x y z e in
    λ i. refused (record { number = t.0 i; map = t.1 i; place = t.2 i; other = t.3 i })

-- ── every answer is sound ──

module _ (l : CountRoom) (a b s : List ℕ) where
  abbrev files : List (List ℕ)
  files = a ∷ b ∷ []

  abbrev pairs : List Entry
  pairs = tally (cells (map map_of files) s)

  abbrev full : Bool
  full = ltb (entry_room (length files) l) (length pairs)

  -- of the maps and the list; and of what is looked at only where these keep their rules
  abbrev heads : List (Option Refusal)
  heads = the_of_map 1 (fault a) ∷ the_of_map 2 (fault b) ∷ given 12 0 (bad_list s) ∷ []

  abbrev rest : List (Option Refusal)
  rest = first_at 13 (far s) (soundings_in s) ∷ given 11 6 full ∷ []

  few : given 12 0 (bad_list s) ≡ none → soundings_in s ≤ list_soundings
  few e = ltb-false list_soundings (soundings_in s) (or_false (not (eqb (length s % 4) 0)) (ltb list_soundings (soundings_in s)) (given_none 12 0 (bad_list s) e)).1

  heads-fit : Every Fit heads
  heads-fit = (
    of_fits 1 (fault a) (omega arith) (fault_fits a),
    (of_fits 2 (fault b) (omega arith) (fault_fits b), (given_fits 12 0 (bad_list s) (omega arith) (omega arith) (omega arith), tt)),
  )

  pub cells-sound : Sound CellsFit (soundings l (a ∷ b ∷ []) s).answer
  unfolding soundings
  cells-sound =
      sound_by CellsFit (record { entries = length pairs; soundings = soundings_in s; read = read_in (map map_of files) s }) (first_of (heads ++ rest))
      (then_fits heads rest heads-fit
      (λ n. (at_fits 13 (far s) (soundings_in s) (omega arith) (omega arith) (omega (arith, few n.1.1.0)), (given_fits 11 6 full (omega arith) (omega arith) (omega arith), tt))))
      (λ e. let n = nothing (heads ++ rest) e in
      let room : length pairs ≤ entry_room (length files) l = ltb-false (entry_room (length files) l) (length pairs) (given_none 11 6 full n.1.1.1.1.0) in
      (omega (arith, room), omega (arith, few n.1.1.0)))

-- the first cell of a table that has one
first_cell : {o : paper.Counted} {n : ℕ} {ls cs q : List ℕ} {r : ℕ} → 0 < n → ToldCells o n ls cs q r → get_or q 0 0 ≡ told_read o.answer
first_cell {o} {n} h t = ap (λ (x : List ℕ). get_or x 0 0) t.read ∙ table_at (read_cell (told_read o.answer)) n 0 0 h

-- of bonnetewe_soundings: whatever the maps, the lists and the lent tables are
pub cells-means : (l k : CountRoom) (a b s x y z : List ℕ) (n m : ℕ) → 0 < n → 0 < m → {ls cs q us vs w : List ℕ} {r : ℕ}
    → ToldCells (soundings l (a ∷ b ∷ []) s) n ls cs q r → ToldCells (soundings k (x ∷ y ∷ []) z) m us vs w r → get_or q 0 0 ≡ get_or w 0 0 → (soundings l (a ∷ b ∷ []) s).answer ≡ (soundings k (x ∷ y ∷ []) z).answer
cells-means l k a b s x y z n m h i p t e =
    told-cells-means _ _ (cells-sound l a b s) (cells-sound k x y z) (sym p.answer ∙ t.answer) (sym (first_cell h p) ∙ e ∙ first_cell i t)
