-- A count that is sound keeps what its definitions keep, and the other way round (`sound-fit`, `fit-sound`); so a batch is added to it (`goes_on`), and one that is not sound, or that is refused, stays as it is (`stays-bad`,
-- `stays-unsound`). The start is sound where the maps pass (`begins`). Assumes nothing.
use Rattle.std.specs.Prelude.{◌≡◌, refl, ◌≤◌, ◌<◌, ◌&&◌, ◌||◌, ◌∷◌, ◌*◌}
use Rattle.std.proofs.Common.{sym, ◌∙◌, ap, subst, arith, leb-true, le-leb, ltb-true, ltb-false, lt-ltb, le-ltb, eqb-true, eq-eqb, ne_eqb, length-take}
use Rattle.seq.specs.Seq.{Bool, true, false, cond, not, List, [], Option, none, some, ℕ, length, ltb, leb, eqb, take, the_some_below, ℤ}
use Rattle.seq.specs.Tests.{and_parts, and_both, was-false, or_cases, clash}
use Rattle.paper.specs.Limits.{map_edges, overlay_faces, list_soundings}
use Rattle.paper.specs.Refusal.{Refusal}
use Rattle.paper.specs.Map.{edges_in}
use Rattle.laws_soundings.specs.Run.{Look, look_in, Tallied, Run, halted, going, going_by, twelve, next}
use Rattle.laws_soundings.specs.RunAfter.{halted-stays}
use Rattle.laws_soundings.specs.RunClosed.{starts_if}
use Rattle.laws_soundings.specs.RunFit.{Held, HeldIf, Fit, FitRun, fit_next}
use Rattle.looks.specs.Straying.{strays_at, kept-carriers, carriers-kept}
use Rattle.soundings_count.specs.Entries.{entries_in}
use Rattle.soundings_count.specs.Handed.{falls_at, sum_of, risen_ordered, ordered_risen, sum_is}
use Rattle.soundings.specs.Labels.{both_maps}
use Rattle.soundings.specs.Laid.{Ready, RailRoom}
use Rattle.soundings.specs.Rows.{Rows, look_by, most_read, look_few, ready-rows, ready-look}
use Rattle.soundings.specs.Sound.{numbers_sound, rows_sound, table_sound, sound}
use Rattle.soundings.specs.State.{going_at, start_at, refusal_in, tallied_by, going_in, run_by, run_in}
use Rattle.soundings.specs.declared.state.Progress.{Progress}

-- ── rows ──

rows-kept : (rs : List ℤ) (es : List ℕ) (e : ℕ) → RailRoom rs es → rows_sound rs e ≡ true → Rows rs es e
rows-kept rs es e R h =
    let a = and_parts (leb e map_edges) (not (the_some_below (strays_at rs) e)) h in
    let l = leb-true e map_edges a.0 in
    record { few = l; carriers = kept-carriers rs e (omega (arith, R.rows)) (was-false (the_some_below (strays_at rs) e) a.1); labelled = omega (arith, R.labels) }

kept-rows : (rs : List ℤ) (es : List ℕ) (e : ℕ) → Rows rs es e → rows_sound rs e ≡ true
kept-rows rs es e R = and_both {a = leb e map_edges} (le-leb e map_edges R.few) (ap not (carriers-kept rs e R.carriers))

pub numbers_few : (p : Progress) → numbers_sound p ≡ true → p.soundings ≤ list_soundings
numbers_few p h = leb-true p.soundings list_soundings (and_parts (leb p.soundings list_soundings) (leb p.far p.soundings && ltb p.rest 4) h).0

-- ── a sound count, and one that keeps what the definitions keep ──

module _ (rs : List ℤ) (es : List ℕ) (e : ℕ) (rs2 : List ℤ) (es2 : List ℕ) (f : ℕ) (ls cs : List ℕ) (p : Progress) where
  abbrev look : Look
  look = look_by rs es e rs2 es2 f

  abbrev table : Bool
  table = ltb overlay_faces p.entries || table_sound ls cs p

  module _ (h : sound rs e rs2 f ls cs p ≡ true) where
    parts : (numbers_sound p ≡ true) × (rows_sound rs e ≡ true) × (rows_sound rs2 f ≡ true) × (table ≡ true)
    parts =
        let a = and_parts (numbers_sound p) (rows_sound rs e && (rows_sound rs2 f && table)) h in
        let b = and_parts (rows_sound rs e) (rows_sound rs2 f && table) a.1 in
        let c = and_parts (rows_sound rs2 f) table b.1 in
        (a.0, b.0, c.0, c.1)

    pub sound-rows : RailRoom rs es → RailRoom rs2 es2 → Rows rs es e × Rows rs2 es2 f
    sound-rows R S = (rows-kept rs es e R parts.1, rows-kept rs2 es2 f S parts.2)

    pub sound_few : p.soundings ≤ list_soundings
    sound_few = numbers_few p parts.0

    pub sound-rest : p.rest < 4
    sound-rest =
        let a = and_parts (leb p.soundings list_soundings) (leb p.far p.soundings && ltb p.rest 4) parts.0 in
        ltb-true p.rest 4 (and_parts (leb p.far p.soundings) (ltb p.rest 4) a.1).1

    far_few : p.far ≤ p.soundings
    far_few =
        let a = and_parts (leb p.soundings list_soundings) (leb p.far p.soundings && ltb p.rest 4) parts.0 in
        leb-true p.far p.soundings (and_parts (leb p.far p.soundings) (ltb p.rest 4) a.1).0

    held_by : (c : Bool) → ltb overlay_faces p.entries ≡ c → (c || table_sound ls cs p) ≡ true → HeldIf most_read p.soundings (cond c none (some (record { entries = entries_in ls cs p.entries; read = p.read })))
    held_by true q t = tt
    held_by false q t =
        let a = and_parts (not (the_some_below (falls_at ls) p.entries)) (leb (sum_of cs p.entries) p.soundings && leb p.read (most_read * p.soundings)) t in
        let b = and_parts (leb (sum_of cs p.entries) p.soundings) (leb p.read (most_read * p.soundings)) a.1 in
        record {
          sorted = risen_ordered ls p.entries cs (was-false (the_some_below (falls_at ls) p.entries) a.0);
          few = omega (arith, sum_is ls cs p.entries, leb-true (sum_of cs p.entries) p.soundings b.0);
          read_few = leb-true p.read (most_read * p.soundings) b.1;
        }

    pub sound-fit : (bs : List ℕ) → Rows rs es e → Rows rs2 es2 f → FitRun most_read (going_in look bs ls cs p)
    sound-fit bs R S = record {
      looks_few = look_few R S;
      soundings_few = sound_few;
      far_within = far_few;
      held = held_by (ltb overlay_faces p.entries) refl parts.3;
      rest_short = omega (arith, length-take p.rest bs, sound-rest);
    }

  table_by : (c : Bool) → HeldIf most_read p.soundings (cond c none (some (record { entries = entries_in ls cs p.entries; read = p.read }))) → (c || table_sound ls cs p) ≡ true
  table_by true H = refl
  table_by false H =
      and_both {a = not (the_some_below (falls_at ls) p.entries)} (ap not (ordered_risen ls p.entries cs H.sorted))
      (and_both {a = leb (sum_of cs p.entries) p.soundings} (le-leb (sum_of cs p.entries) p.soundings (omega (arith, sum_is ls cs p.entries, H.few)))
      (le-leb p.read (most_read * p.soundings) H.read_few))

  pub fit-sound : (bs : List ℕ) → 4 ≤ length bs → Rows rs es e → Rows rs2 es2 f → FitRun most_read (going_in look bs ls cs p) → sound rs e rs2 f ls cs p ≡ true
  fit-sound bs l R S F =
      and_both {a = numbers_sound p}
      (and_both {a = leb p.soundings list_soundings} (le-leb p.soundings list_soundings F.soundings_few)
      (and_both {a = leb p.far p.soundings} (le-leb p.far p.soundings F.far_within) (lt-ltb p.rest 4 (omega (arith, length-take p.rest bs, F.rest_short)))))
      (and_both {a = rows_sound rs e} (kept-rows rs es e R) (and_both {a = rows_sound rs2 f} (kept-rows rs2 es2 f S) (table_by (ltb overlay_faces p.entries) F.held)))

  -- ── one batch more ──

  module _ (bs : List ℕ) where
    abbrev at : Run
    at = run_in rs es e rs2 es2 f bs ls cs p

    pub stays-bad : (b : List ℕ) → (p.bad ≡ 0 → ⊥) → run_in rs es e rs2 es2 f bs ls cs p ≡ next (run_in rs es e rs2 es2 f bs ls cs p) b
    stays-bad b q =
        let x : at ≡ halted (refusal_in p) = ap (λ (c : Bool). cond c (cond (sound rs e rs2 f ls cs p) (going_in look bs ls cs p) (halted twelve)) (halted (refusal_in p))) (ne_eqb p.bad 0 q) in
        x ∙ sym (halted-stays (refusal_in p) b) ∙ ap (λ (r : Run). next r b) (sym x)

    pub stays-unsound : (b : List ℕ) → p.bad ≡ 0 → sound rs e rs2 f ls cs p ≡ false → run_in rs es e rs2 es2 f bs ls cs p ≡ next (run_in rs es e rs2 es2 f bs ls cs p) b
    stays-unsound b q h =
        let x : at ≡ halted twelve = λ i. cond (eq-eqb p.bad 0 q i) (cond (h i) (going_in look bs ls cs p) (halted twelve)) (halted (refusal_in p)) in
        x ∙ sym (halted-stays twelve b) ∙ ap (λ (r : Run). next r b) (sym x)

    sound-run : (c : Bool) → sound rs e rs2 f ls cs p ≡ true → cond c (cond (sound rs e rs2 f ls cs p) (going_in look bs ls cs p) (halted twelve)) (halted (refusal_in p)) ≡ cond c (going_in look bs ls cs p) (halted (refusal_in p))
    sound-run c h = ap (λ (d : Bool). cond c (cond d (going_in look bs ls cs p) (halted twelve)) (halted (refusal_in p))) h

    pub run_is : sound rs e rs2 f ls cs p ≡ true → run_in rs es e rs2 es2 f bs ls cs p ≡ run_by look bs ls cs p
    run_is h = sound-run (eqb p.bad 0) h

    fits_by : (c : Bool) → sound rs e rs2 f ls cs p ≡ true → Rows rs es e → Rows rs2 es2 f → FitRun most_read (cond c (going_in look bs ls cs p) (halted (refusal_in p)))
    fits_by true h R S = sound-fit h bs R S
    fits_by false h R S = tt

    pub sound_fits : sound rs e rs2 f ls cs p ≡ true → Rows rs es e → Rows rs2 es2 f → FitRun most_read (run_by look bs ls cs p)
    sound_fits h R S = fits_by (eqb p.bad 0) h R S

    -- what keeps the definitions' is sound, or refused
    fit_by : (c : Bool) → 4 ≤ length bs → Rows rs es e → Rows rs2 es2 f → FitRun most_read (cond c (going_in look bs ls cs p) (halted (refusal_in p))) →
        cond c (cond (sound rs e rs2 f ls cs p) (going_in look bs ls cs p) (halted twelve)) (halted (refusal_in p)) ≡ cond c (going_in look bs ls cs p) (halted (refusal_in p))
    fit_by true l R S F = sound-run true (fit-sound bs l R S F)
    fit_by false l R S F = refl

    pub fit_is : 4 ≤ length bs → Rows rs es e → Rows rs2 es2 f → FitRun most_read (run_by look bs ls cs p) → run_in rs es e rs2 es2 f bs ls cs p ≡ run_by look bs ls cs p
    fit_is l R S F = fit_by (eqb p.bad 0) l R S F

-- from the run p, which is sound, to r
pub goes_on : (rs : List ℤ) (es : List ℕ) (e : ℕ) (rs2 : List ℤ) (es2 : List ℕ) (f : ℕ) (bs ls cs bs' ls' cs' : List ℕ) (p r : Progress) (b : List ℕ) → Rows rs es e → Rows rs2 es2 f → 4 ≤ length bs' → sound rs e rs2 f ls cs p ≡ true
    → FitRun most_read (run_by (look_by rs es e rs2 es2 f) bs ls cs p) → run_by (look_by rs es e rs2 es2 f) bs' ls' cs' r ≡ next (run_by (look_by rs es e rs2 es2 f) bs ls cs p) b
    → run_in rs es e rs2 es2 f bs' ls' cs' r ≡ next (run_in rs es e rs2 es2 f bs ls cs p) b
goes_on rs es e rs2 es2 f bs ls cs bs' ls' cs' p r b R S l h F q =
    fit_is rs es e rs2 es2 f ls' cs' r bs' l R S (subst (FitRun most_read) (sym q) (fit_next most_read (run_by (look_by rs es e rs2 es2 f) bs ls cs p) b F))
    ∙ q ∙ ap (λ (x : Run). next x b) (sym (run_is rs es e rs2 es2 f ls cs p bs h))

-- ── the start ──

module _ (a b : List ℕ) (rs : List ℤ) (es : List ℕ) (rs2 : List ℤ) (es2 : List ℕ) (bs ls cs : List ℕ) where
  begins_by : (o : Option Refusal) → (o ≡ none → Ready a rs es) → (o ≡ none → Ready b rs2 es2) → run_in rs es (edges_in a) rs2 es2 (edges_in b) bs ls cs (start_at o) ≡ starts_if (look_in (both_maps a b)) o
  begins_by none R S =
      ap (λ (c : Bool). cond c (going_in (look_by rs es (edges_in a) rs2 es2 (edges_in b)) bs ls cs (start_at none)) (halted twelve))
      (and_both {a = numbers_sound (start_at none)} refl (and_both {a = rows_sound rs (edges_in a)} (kept-rows rs es (edges_in a) (ready-rows (R refl))) (and_both {a = rows_sound rs2 (edges_in b)} (kept-rows rs2 es2 (edges_in b) (ready-rows (S refl))) refl)))
      ∙ ap (λ (m : Look). going_by m 0 0 (some (record { entries = []; read = 0 })) []) (ready-look (R refl) (S refl))
  begins_by (some r) R S = refl

  pub begins : (e f : ℕ) (p : Progress) (o w : Option Refusal) → e ≡ edges_in a → f ≡ edges_in b → p ≡ start_at o → o ≡ w → (o ≡ none → Ready a rs es) → (o ≡ none → Ready b rs2 es2) → run_in rs es e rs2 es2 f bs ls cs p ≡ starts_if (look_in (both_maps a b)) w
  begins e f p o w g h q v R S = (λ i. run_in rs es (g i) rs2 es2 (h i) bs ls cs (q i)) ∙ begins_by o R S ∙ ap (starts_if (look_in (both_maps a b))) v
