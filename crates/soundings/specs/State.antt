-- Where a count stands, as the code keeps it, is a run of the definitions (`run_of`). A count that was made up, and that no list of soundings leads to, is one that 12 refuses. Assumes nothing.
use Rattle.std.specs.Prelude.{◌≡◌, refl}
use Rattle.std.proofs.Common.{sym, ◌∙◌, ap}
use Rattle.seq.specs.Seq.{Bool, cond, List, Option, none, some, ℕ, ltb, eqb, take, ℤ}
use Rattle.paper.specs.Limits.{overlay_faces}
use Rattle.paper.specs.Refusal.{Refusal}
use Rattle.laws_soundings.specs.Run.{Look, Tallied, Run, halted, going_by, twelve}
use Rattle.soundings_count.specs.Entries.{entries_in}
use Rattle.soundings.specs.Rows.{look_by}
use Rattle.soundings.specs.Sound.{sound}
use Rattle.soundings.specs.declared.state.Progress.{Progress}
use Rattle.soundings.specs.declared.state.Count.{Count}

-- ── the numbers ──

abbrev pub going_at : ℕ → ℕ → ℕ → ℕ → ℕ → Progress
going_at n k e r q = record { soundings = n; far = k; entries = e; rest = r; read = q; bad = 0; number = 0; map = 0; place = 0; other = 0 }

abbrev pub halted_at : Refusal → Progress
halted_at r = record { soundings = 0; far = 0; entries = 0; rest = 0; read = 0; bad = 1; number = r.number; map = r.map; place = r.place; other = r.other }

abbrev pub start_at : Option Refusal → Progress
start_at none = going_at 0 0 0 0 0
start_at (some r) = halted_at r

-- ── the run ──

abbrev pub refusal_in : Progress → Refusal
refusal_in p = record { number = p.number; map = p.map; place = p.place; other = p.other }

-- the first n rows, unless there are more than 1,334
abbrev pub tallied_by : List ℕ → List ℕ → ℕ → ℕ → Option Tallied
tallied_by ls cs n q = cond (ltb overlay_faces n) none (some (record { entries = entries_in ls cs n; read = q }))

-- with a look m, the bytes bs of a sounding that is not whole yet, and the pairs ls with their counts cs
abbrev pub going_in : Look → List ℕ → List ℕ → List ℕ → Progress → Run
going_in m bs ls cs p = going_by m p.soundings p.far (tallied_by ls cs p.entries p.read) (take p.rest bs)

-- of a count that can go on, or is refused
abbrev pub run_by : Look → List ℕ → List ℕ → List ℕ → Progress → Run
run_by m bs ls cs p = cond (eqb p.bad 0) (going_in m bs ls cs p) (halted (refusal_in p))

-- of any
abbrev pub run_in : List ℤ → List ℕ → ℕ → List ℤ → List ℕ → ℕ → List ℕ → List ℕ → List ℕ → Progress → Run
run_in rs es e rs2 es2 f bs ls cs p = cond (eqb p.bad 0) (cond (sound rs e rs2 f ls cs p) (going_in (look_by rs es e rs2 es2 f) bs ls cs p) (halted twelve)) (halted (refusal_in p))

abbrev pub run_of : Count → Run
run_of c = run_in c.rails c.easts c.edges c.rails2 c.easts2 c.edges2 c.bytes c.labels c.counts c.progress
