-- What a count keeps that began at a start, byte by byte (`fit_next`): its numbers within their bounds, the pairs in strict order, their counts adding up to no more than the soundings, and so many edges read at most for each
-- of them. Assumes nothing.
use Rattle.std.specs.Prelude.{◌≡◌, refl, ◌≤◌, ◌<◌, ◌||◌, ◌∷◌, ◌++◌, ◌+◌, ◌*◌}
use Rattle.std.proofs.Common.{mul-suc, arith, ltb-true}
use Rattle.seq.specs.Seq.{Bool, true, false, cond, List, [], Option, none, some, ℕ, suc, ltb, length, insert_by}
use Rattle.seq.specs.Terms.{Ordered}
use Rattle.paper.specs.Limits.{overlay_faces, list_soundings}
use Rattle.paper.specs.Plane.{Vec}
use Rattle.paper.specs.Soundings.{Entry, lesser, added, once, sounding_at, far}
use Rattle.laws_soundings.specs.Tally.{total, insert-total, from_ordered}
use Rattle.laws_soundings.specs.Run.{Look, Tallied, Going, Run, halted, going, going_by, twelve, capped, count_in, with_sounding, with_byte, next}

-- what is counted, where n soundings were: most is the most edges that are read for one
pub record Held (most n : ℕ) (t : Tallied) : Type 0 where
  pub sorted : Ordered lesser t.entries
  pub few : total t.entries ≤ n
  pub read_few : t.read ≤ most * n

abbrev pub HeldIf : ℕ → ℕ → Option Tallied → Type 0
HeldIf most n none = Unit
HeldIf most n (some t) = Held most n t

pub record Fit (most : ℕ) (g : Going) : Type 0 where
  pub looks_few : (c : Vec) → g.look.read c ≤ most
  pub soundings_few : g.soundings ≤ list_soundings
  pub far_within : g.far ≤ g.soundings
  pub held : HeldIf most g.soundings g.tallied
  pub rest_short : length g.rest < 4

abbrev pub FitRun : ℕ → Run → Type 0
FitRun most (halted r) = Unit
FitRun most (going g) = Fit most g

module _ (most : ℕ) where
  held_more : (n : ℕ) (t : Option Tallied) → HeldIf most n t → HeldIf most (suc n) t
  held_more n none h = tt
  held_more n (some t) h = record { sorted = h.sorted; few = omega (arith, h.few); read_few = omega (arith, h.read_few, mul-suc most n) }

  held-capped : (n : ℕ) (t : List Entry) (q : ℕ) → Held most n (record { entries = t; read = q }) → HeldIf most n (capped t q)
  held-capped n t q h = by (ltb overlay_faces (length t))
    where
      by : (b : Bool) → HeldIf most n (cond b none (some (record { entries = t; read = q })))
      by true = tt
      by false = h

  held-counted : (m : Look) (c : Vec) (n : ℕ) (t : Option Tallied) → m.read c ≤ most → HeldIf most n t → HeldIf most (suc n) (count_in m c t)
  held-counted m c n none r h = tt
  held-counted m c n (some t) r h =
      held-capped (suc n) (insert_by lesser added (once (m.cell c)) t.entries) (t.read + m.read c) (record {
        sorted = from_ordered t.entries (m.cell c ∷ []) h.sorted;
        few = omega (arith, insert-total (once (m.cell c)) t.entries, h.few);
        read_few = omega (arith, h.read_few, mul-suc most n);
      })

  module _ (g : Going) (F : Fit most g) where
    held_by : (s : List ℕ) (p : Bool) → HeldIf most (suc g.soundings) (cond p g.tallied (count_in g.look (sounding_at s 0) g.tallied))
    held_by s true = held_more g.soundings g.tallied F.held
    held_by s false = held-counted g.look (sounding_at s 0) g.soundings g.tallied (F.looks_few (sounding_at s 0)) F.held

    far_by : (p : Bool) → cond p g.far (suc g.far) ≤ suc g.soundings
    far_by true = omega (arith, F.far_within)
    far_by false = omega (arith, F.far_within)

    fit_sounding : (s : List ℕ) → FitRun most (with_sounding g.look g.soundings g.far g.tallied s)
    fit_sounding s = by (ltb g.soundings list_soundings) refl
      where
        past : Bool
        past = ltb g.far g.soundings || far s 0

        by : (b : Bool) → ltb g.soundings list_soundings ≡ b
            → FitRun most (cond b (going_by g.look (suc g.soundings) (cond past g.far (suc g.far)) (cond past g.tallied (count_in g.look (sounding_at s 0) g.tallied)) []) (halted twelve))
        by true e = record { looks_few = F.looks_few; soundings_few = omega (arith, ltb-true g.soundings list_soundings e); far_within = far_by past; held = held_by s past; rest_short = omega arith }
        by false e = tt

    fit-going : (s : List ℕ) (b : Bool) → ltb (length s) 4 ≡ b → FitRun most (cond b (going_by g.look g.soundings g.far g.tallied s) (with_sounding g.look g.soundings g.far g.tallied s))
    fit-going s true e = record { looks_few = F.looks_few; soundings_few = F.soundings_few; far_within = F.far_within; held = F.held; rest_short = ltb-true (length s) 4 e }
    fit-going s false e = fit_sounding s

  pub fit-byte : (r : Run) (b : ℕ) → FitRun most r → FitRun most (with_byte r b)
  fit-byte (halted r) b F = tt
  fit-byte (going g) b F = fit-going g F (g.rest ++ (b ∷ [])) (ltb (length (g.rest ++ (b ∷ []))) 4) refl

  pub fit_next : (r : Run) (b : List ℕ) → FitRun most r → FitRun most (next r b)
  fit_next r [] F = F
  fit_next r (x ∷ b) F = fit_next (with_byte r x) b (fit-byte r x F)
