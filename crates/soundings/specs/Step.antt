-- Bytes added to a count, as the code does it: a sounding counted into the table of pairs (`Stepped`), one sounding more with what comes of it, one byte more, and the loop over a batch (`Adding`). Assumes nothing.
use Rattle.std.specs.Prelude.{◌≡◌, refl, ◌≤◌, ◌<◌, set, ◌||◌, ◌∷◌, ◌++◌, ◌+◌, ◌*◌}
use Rattle.std.proofs.Common.{sym, ◌∙◌, ap, subst, add-one, arith, lt-ltb, le-ltb, ltb-true, ltb-false, eq-eqb, ne_eqb, length-set, length-append, length-take, take-suc, take-suc-set, take_all}
use Rattle.seq.specs.Seq.{Bool, true, false, cond, List, [], Option, none, some, ℕ, suc, length, get_or, ltb, nat_abs, take, insert_by}
use Rattle.seq.specs.Terms.{Ordered}
use Rattle.seq.specs.Tests.{or_false}
use Rattle.paper.specs.Limits.{reach, overlay_faces, list_soundings}
use Rattle.paper.specs.Plane.{Vec}
use Rattle.paper.specs.Soundings.{Entry, lesser, added, once, sounding_at, far}
use Rattle.laws_soundings.specs.Tally.{total}
use Rattle.laws_soundings.specs.Run.{Look, Tallied, Run, halted, going, going_by, twelve, capped, count_in, with_sounding, with_byte, next}
use Rattle.laws_soundings.specs.RunAfter.{next_more}
use Rattle.laws_soundings.specs.RunFit.{HeldIf, Fit, FitRun, fit_next}
use Rattle.plane.specs.Bounds.{Corner}
use Rattle.soundings_count.specs.Entries.{pair_width, entries_in, most_times, Grown}
use Rattle.soundings.specs.Rows.{most_read}
use Rattle.soundings.specs.Sound.{TableRoom}
use Rattle.soundings.specs.State.{going_at, halted_at, refusal_in, tallied_by, going_in, run_by}
use Rattle.soundings.specs.declared.state.Progress.{Progress}
use Rattle.soundings.specs.declared.bytes.Step.{Step}

-- ── a sounding counted ──

-- the pairs stand in order, and no count of the m pairs overflows
pub record Roomy (ls cs : List ℕ) (m : ℕ) : Type 0 where
  pub room : TableRoom ls cs
  pub few : m ≤ overlay_faces → total (entries_in ls cs m) < most_times
  pub sorted : m ≤ overlay_faces → Ordered lesser (entries_in ls cs m)

-- one at c, whatever number of edges was read before
pub record Stepped (k : Look) (c : Vec) (ls cs : List ℕ) (m : ℕ) (ls' cs' : List ℕ) (r : Step) : Type 0 where
  pub pairs : (q : ℕ) → tallied_by ls' cs' r.entries (q + r.read) ≡ count_in k c (tallied_by ls cs m q)
  pub over : overlay_faces < m → r.read ≡ 0
  pub read_few : r.read ≤ most_read

over_none : (ls cs : List ℕ) (m q : ℕ) → overlay_faces < m → tallied_by ls cs m q ≡ none
over_none ls cs m q h = ap (λ (b : Bool). cond b none (some (record { entries = entries_in ls cs m; read = q }))) (lt-ltb overlay_faces m h)

within_some : (ls cs : List ℕ) (m q : ℕ) → m ≤ overlay_faces → tallied_by ls cs m q ≡ some (record { entries = entries_in ls cs m; read = q })
within_some ls cs m q h = ap (λ (b : Bool). cond b none (some (record { entries = entries_in ls cs m; read = q }))) (le-ltb overlay_faces m h)

pub step_over : (k : Look) (c : Vec) (ls cs : List ℕ) (m : ℕ) (r : Step) → overlay_faces < m → r.entries ≡ m → r.read ≡ 0 → Stepped k c ls cs m ls cs r
step_over k c ls cs m r h e f = record {
  pairs = λ q. over_none ls cs r.entries (q + r.read) (omega arith) ∙ sym (ap (count_in k c) (over_none ls cs m q h));
  over = λ z. f;
  read_few = omega arith;
}

module _ (ls cs : List ℕ) (t : List Entry) (m q : ℕ) (g : Grown overlay_faces t ls cs m) where
  abbrev if_over : Bool → List Entry → Option Tallied
  if_over b x = cond b none (some (record { entries = x; read = q }))

  by : (b : Bool) → ltb overlay_faces m ≡ b → if_over b (entries_in ls cs m) ≡ if_over b t
  by true e = refl
  by false e = ap (λ (x : List Entry). some (record { entries = x; read = q })) (g.held (ltb-false overlay_faces m e))

  grown-capped : tallied_by ls cs m q ≡ capped t q
  grown-capped = by (ltb overlay_faces m) refl ∙ ap (λ (k : ℕ). if_over (ltb overlay_faces k) t) g.entries

pub step-counted : (k : Look) (c : Vec) (d ls cs : List ℕ) (m : ℕ) (ls' cs' : List ℕ) (r : Step) → m ≤ overlay_faces → d ≡ k.cell c → r.read ≡ k.read c → r.read ≤ most_read
    → Grown overlay_faces (insert_by lesser added (once d) (entries_in ls cs m)) ls' cs' r.entries → Stepped k c ls cs m ls' cs' r
step-counted k c d ls cs m ls' cs' r h e f w g = record {
  pairs = λ q. grown-capped ls' cs' (insert_by lesser added (once d) (entries_in ls cs m)) r.entries (q + r.read) g
      ∙ (λ i. capped (insert_by lesser added (once (e i)) (entries_in ls cs m)) (q + f i))
      ∙ sym (ap (count_in k c) (within_some ls cs m q h));
  over = λ z. absurd (omega arith);
  read_few = w;
}

-- a sounding that is not too far lies within the maps' limit
pub within_limit : (s : List ℕ) (c : Vec) → c ≡ sounding_at s 0 → far s 0 ≡ false → Corner c
within_limit s c e q =
    let p = or_false (ltb reach (nat_abs (sounding_at s 0).x)) (ltb reach (nat_abs (sounding_at s 0).y)) q in
    subst Corner (sym e) (record { x_is = ltb-false reach (nat_abs (sounding_at s 0).x) p.0; y_is = ltb-false reach (nat_abs (sounding_at s 0).y) p.1 })

-- ── one sounding more ──

-- what the code asks of a count that is not refused
pub record Countable (ls cs : List ℕ) (p : Progress) : Type 0 where
  pub room : TableRoom ls cs
  pub few : p.soundings ≤ list_soundings
  pub far_within : p.far ≤ p.soundings
  pub held : HeldIf most_read p.soundings (tallied_by ls cs p.entries p.read)

module _ {ls cs : List ℕ} {p : Progress} (C : Countable ls cs p) where
  held_within : p.entries ≤ overlay_faces → HeldIf most_read p.soundings (some (record { entries = entries_in ls cs p.entries; read = p.read }))
  held_within h = subst (HeldIf most_read p.soundings) (within_some ls cs p.entries p.read h) C.held

  pub countable_roomy : Roomy ls cs p.entries
  countable_roomy = record { room = C.room; few = λ h. omega (arith, (held_within h).few, C.few); sorted = λ h. (held_within h).sorted }

  -- the edges read fit 32 bits
  pub reads_fit : {k : Look} {c : Vec} {ls' cs' : List ℕ} {r : Step} → p.read ≤ 4294967295 → Stepped k c ls cs p.entries ls' cs' r → p.read + r.read ≤ 4294967295
  reads_fit {k} {c} {ls'} {cs'} {r} w s = go (ltb overlay_faces p.entries) refl
    where
      go : (b : Bool) → ltb overlay_faces p.entries ≡ b → p.read + r.read ≤ 4294967295
      go true e = omega (arith, w, s.over (ltb-true overlay_faces p.entries e))
      go false e = omega (arith, (held_within (ltb-false overlay_faces p.entries e)).read_few, C.few, s.read_few)

module _ (k : Look) (bs ls cs : List ℕ) (p : Progress) where
  abbrev t : Option Tallied
  t = tallied_by ls cs p.entries p.read

  abbrev after : Run
  after = with_sounding k p.soundings p.far t bs

  pub sounding_many : (ls' cs' : List ℕ) (r : Progress) → list_soundings ≤ p.soundings → r ≡ halted_at twelve → run_by k bs ls' cs' r ≡ with_sounding k p.soundings p.far t bs
  sounding_many ls' cs' r h e =
      ap (run_by k bs ls' cs') e
      ∙ sym (ap (λ (b : Bool). cond b (going_by k (suc p.soundings) (cond (ltb p.far p.soundings || far bs 0) p.far (suc p.far)) (cond (ltb p.far p.soundings || far bs 0) t (count_in k (sounding_at bs 0) t)) []) (halted twelve)) (le-ltb p.soundings list_soundings h))

  module _ (l : p.soundings < list_soundings) where
    by_past : (b : Bool) → (ltb p.far p.soundings || far bs 0) ≡ b → going_by k (suc p.soundings) (cond b p.far (suc p.far)) (cond b t (count_in k (sounding_at bs 0) t)) [] ≡ after
    by_past b e =
        (λ i. going_by k (suc p.soundings) (cond (sym e i) p.far (suc p.far)) (cond (sym e i) t (count_in k (sounding_at bs 0) t)) [])
        ∙ sym (ap (λ (c : Bool). cond c (going_by k (suc p.soundings) (cond (ltb p.far p.soundings || far bs 0) p.far (suc p.far)) (cond (ltb p.far p.soundings || far bs 0) t (count_in k (sounding_at bs 0) t)) []) (halted twelve)) (lt-ltb p.soundings list_soundings l))

    -- it, or one before it, is too far
    past_is : (r : Progress) → r ≡ going_at (p.soundings + 1) p.far p.entries 0 p.read → (ltb p.far p.soundings || far bs 0) ≡ true → run_by k bs ls cs r ≡ after
    past_is r e q = ap (run_by k bs ls cs) e ∙ (λ i. going_by k (add-one p.soundings i) p.far t []) ∙ by_past true q

    pub sounding_past : (r : Progress) → r ≡ going_at (p.soundings + 1) p.far p.entries 0 p.read → p.far < p.soundings → run_by k bs ls cs r ≡ with_sounding k p.soundings p.far t bs
    sounding_past r e h = past_is r e (ap (λ (b : Bool). b || far bs 0) (lt-ltb p.far p.soundings h))

    module _ (h : p.soundings ≤ p.far) where
      near : (ltb p.far p.soundings || far bs 0) ≡ far bs 0
      near = ap (λ (b : Bool). b || far bs 0) (le-ltb p.far p.soundings h)

      pub sounding_far : (r : Progress) → r ≡ going_at (p.soundings + 1) p.far p.entries 0 p.read → far bs 0 ≡ true → run_by k bs ls cs r ≡ with_sounding k p.soundings p.far t bs
      sounding_far r e q = past_is r e (near ∙ q)

      pub sounding_counted : (c : Vec) (ls' cs' : List ℕ) (x : Step) (r : Progress) → r ≡ going_at (p.soundings + 1) (p.far + 1) x.entries 0 (p.read + x.read) → far bs 0 ≡ false → c ≡ sounding_at bs 0
          → Stepped k c ls cs p.entries ls' cs' x → run_by k bs ls' cs' r ≡ with_sounding k p.soundings p.far t bs
      sounding_counted c ls' cs' x r e q w s =
          ap (run_by k bs ls' cs') e
          ∙ (λ i. going_by k (add-one p.soundings i) (add-one p.far i) ((s.pairs p.read ∙ ap (λ (z : Vec). count_in k z t) w) i) [])
          ∙ by_past false (near ∙ q)

-- ── one byte more ──

module _ (k : Look) (bs ls cs : List ℕ) (p : Progress) (b : ℕ) where
  pub byte-bad : (p.bad ≡ 0 → ⊥) → run_by k bs ls cs p ≡ with_byte (run_by k bs ls cs p) b
  byte-bad q =
      let x : run_by k bs ls cs p ≡ halted (refusal_in p) = ap (λ (c : Bool). cond c (going_in k bs ls cs p) (halted (refusal_in p))) (ne_eqb p.bad 0 q) in
      x ∙ ap (λ (r : Run). with_byte r b) (sym x)

  module _ (q : p.bad ≡ 0) where
    is_going : run_by k bs ls cs p ≡ going_in k bs ls cs p
    is_going = ap (λ (c : Bool). cond c (going_in k bs ls cs p) (halted (refusal_in p))) (eq-eqb p.bad 0 q)

    module _ (F : FitRun most_read (run_by k bs ls cs p)) (four : length bs ≡ 4) where
      fit : FitRun most_read (going_in k bs ls cs p)
      fit = subst (FitRun most_read) is_going F

      pub byte-rest : p.rest < 4
      byte-rest = omega (arith, length-take p.rest bs, fit.rest_short)

      pub byte_countable : TableRoom ls cs → Countable ls cs p
      byte_countable R = record { room = R; few = fit.soundings_few; far_within = fit.far_within; held = fit.held }

      abbrev t₂ : Option Tallied
      t₂ = tallied_by ls cs p.entries p.read

      abbrev more : List ℕ
      more = take p.rest bs ++ (b ∷ [])

      more_is : take (p.rest + 1) (set bs p.rest b) ≡ more
      more_is = ap (λ (j : ℕ). take j (set bs p.rest b)) (add-one p.rest) ∙ take-suc-set bs p.rest b (omega (arith, byte-rest))

      more_long : length more ≡ p.rest + 1
      more_long = omega (arith, length-append (take p.rest bs) (b ∷ []), length-take p.rest bs, byte-rest)

      pub byte-waits : (r : Progress) → r ≡ going_at p.soundings p.far p.entries (p.rest + 1) p.read → p.rest + 1 < 4 → run_by k (set bs p.rest b) ls cs r ≡ with_byte (run_by k bs ls cs p) b
      byte-waits r e l =
          ap (run_by k (set bs p.rest b) ls cs) e
          ∙ ap (going_by k p.soundings p.far t₂) more_is
          ∙ sym (ap (λ (c : Bool). cond c (going_by k p.soundings p.far t₂ more) (with_sounding k p.soundings p.far t₂ more)) (lt-ltb (length more) 4 (omega (arith, more_long))))
          ∙ ap (λ (x : Run). with_byte x b) (sym is_going)

      pub byte_sounding : (bs' ls' cs' : List ℕ) (r : Progress) → 4 ≤ p.rest + 1 → run_by k bs' ls' cs' r ≡ with_sounding k p.soundings p.far t₂ (set bs p.rest b) → run_by k bs' ls' cs' r ≡ with_byte (run_by k bs ls cs p) b
      byte_sounding bs' ls' cs' r l e =
          let w : set bs p.rest b ≡ more = sym (take_all (p.rest + 1) (set bs p.rest b) (omega (arith, length-set bs p.rest b))) ∙ more_is in
          e ∙ ap (with_sounding k p.soundings p.far t₂) w
          ∙ sym (ap (λ (c : Bool). cond c (going_by k p.soundings p.far t₂ more) (with_sounding k p.soundings p.far t₂ more)) (le-ltb (length more) 4 (omega (arith, more_long))))
          ∙ ap (λ (x : Run). with_byte x b) (sym is_going)

-- ── the loop ──

-- before turn i the first i bytes are added
pub record Adding (k : Look) (s bs₀ ls₀ cs₀ : List ℕ) (p₀ : Progress) (bs ls cs : List ℕ) (p : Progress) (i : ℕ) : Type 0 where
  pub within : i ≤ length s
  pub is : run_by k bs ls cs p ≡ next (run_by k bs₀ ls₀ cs₀ p₀) (take i s)

module _ {k : Look} {s bs₀ ls₀ cs₀ : List ℕ} {p₀ : Progress} where
  pub adding_starts : Adding k s bs₀ ls₀ cs₀ p₀ bs₀ ls₀ cs₀ p₀ 0
  adding_starts = record { within = omega arith; is = refl }

  module _ {bs ls cs : List ℕ} {p : Progress} {i : ℕ} (A : Adding k s bs₀ ls₀ cs₀ p₀ bs ls cs p i) where
    pub adding_fit : FitRun most_read (run_by k bs₀ ls₀ cs₀ p₀) → FitRun most_read (run_by k bs ls cs p)
    adding_fit F = subst (FitRun most_read) (sym A.is) (fit_next most_read (run_by k bs₀ ls₀ cs₀ p₀) (take i s) F)

    pub adding_turns : (bs' ls' cs' : List ℕ) (q : Progress) → i < length s → run_by k bs' ls' cs' q ≡ with_byte (run_by k bs ls cs p) (get_or s i 0)
        → Adding k s bs₀ ls₀ cs₀ p₀ bs' ls' cs' q (i + 1)
    adding_turns bs' ls' cs' q l e = record {
      within = omega arith;
      is = e ∙ ap (λ (r : Run). with_byte r (get_or s i 0)) A.is
          ∙ sym (ap (next (run_by k bs₀ ls₀ cs₀ p₀)) (ap (λ (j : ℕ). take j s) (add-one i) ∙ take-suc s i 0 l) ∙ next_more (run_by k bs₀ ls₀ cs₀ p₀) (take i s) (get_or s i 0));
    }

    pub adding_ends : length s ≤ i → run_by k bs ls cs p ≡ next (run_by k bs₀ ls₀ cs₀ p₀) s
    adding_ends h = A.is ∙ ap (next (run_by k bs₀ ls₀ cs₀ p₀)) (take_all i s h)
