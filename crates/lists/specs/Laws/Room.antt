-- What is done has no more faces than an overlay may have, and its listing looks at the face table alone. Assumes nothing.
use Rattle.std.specs.Prelude.{◌≡◌, refl, ◌≤◌, ◌∷◌, ◌++◌}
use Rattle.std.proofs.Common.{sym, ◌∙◌, ap, subst, arith, ltb-false}
use Rattle.seq.specs.Seq.{Bool, true, false, not, List, [], Option, none, some, ℕ, ltb, length}
use Rattle.paper.specs.Limits.{maps}
use Rattle.paper.specs.Bytes.{u16}
use Rattle.paper.specs.Refusal.{Refusal, Answer, done, refused, given, first_at, first_of, answer}
use Rattle.paper.specs.Map.{map_of}
use Rattle.paper.specs.Faces.{overlay_of}
use Rattle.paper.specs.Tables.{Counts, Tables, counts_of}
use Rattle.paper.specs.Lent.{Lengths, Outcome, room_in, room_faults}
use Rattle.paper.specs.Overlay.{map_faults, overlay}
use Rattle.paper.specs.Ovfile.{layouts, sound_edge, layout_of}
use Rattle.paper.specs.Reader.{counts_in, tables_in, head_faults, read}
use Rattle.paper.specs.Listing.{listing_by, listing}
use Rattle.text.specs.Lines.{Line, faces_only, line-once}
use Rattle.tables.specs.Answers as code
use Rattle.tables.specs.Values.{answer_of, outcome_of}
use Rattle.tables.specs.Unique.{answer-once}
use Rattle.lists.specs.declared.answer.Listed.{Listed}
use Rattle.lists.specs.Listed.{Roomy, ListedOf}

-- a chain that gives nothing has no part that gives something
none_behind : (xs ys : List (Option Refusal)) → first_of (xs ++ ys) ≡ none → first_of ys ≡ none
none_behind [] ys e = e
none_behind (none ∷ xs) ys e = none_behind xs ys e
none_behind (some r ∷ xs) ys e = absurd (let z : ◌≡◌ {A = ℕ} 0 1 = cc in omega arith)

third : (a b c : Bool) → first_of (given 11 1 a ∷ given 11 2 b ∷ given 11 3 c ∷ []) ≡ none → c ≡ false
third a b false e = refl
third true b true e = absurd (let z : ◌≡◌ {A = ℕ} 0 1 = cc in omega arith)
third false true true e = absurd (let z : ◌≡◌ {A = ℕ} 0 1 = cc in omega arith)
third false false true e = absurd (let z : ◌≡◌ {A = ℕ} 0 1 = cc in omega arith)

roomy_by : (xs : List (Option Refusal)) (l : Lengths) (c : Counts) (f : Option Refusal) → first_of (xs ++ room_faults (room_in maps l) c) ≡ f → Roomy (answer c f)
roomy_by xs l c none e =
    let room = room_in maps l in
    let h : c.faces ≤ room.faces = ltb-false room.faces c.faces (third (ltb room.vertices c.vertices) (ltb room.edges c.edges) (ltb room.faces c.faces) (none_behind xs (room_faults room c) e)) in
    omega arith
roomy_by xs l c (some r) e = tt

-- what an operation answers that judges room last has room
pub roomy : (xs : List (Option Refusal)) (l : Lengths) (c : Counts) → Roomy (answer c (first_of (xs ++ room_faults (room_in maps l) c)))
roomy xs l c = roomy_by xs l c (first_of (xs ++ room_faults (room_in maps l) c)) refl

-- the listing looks at the face table alone
faces-alone : (t : Tables) (a : Answer Counts) → listing_by maps (faces_only t.faces) a ≡ listing_by maps t a
faces-alone t (done c) = refl
faces-alone t (refused r) = refl

-- the text of an answer and its face table is the listing of the whole outcome
pub listed_of : (o : Outcome) (a : code.Answer) {t : Tables} {d s : List ℕ} {n : ℕ}
    → outcome_of a t ≡ o → Line 85504 (listing_by maps (faces_only t.faces) (answer_of a)) d s n → ListedOf o d s (record { length = n; answer = a })
listed_of o a {t} {d} {s} {n} e l = record {
  text = subst (λ (u : List ℕ). Line 85504 u d s n) (faces-alone t (answer_of a) ∙ ap (listing maps) e) l;
  answer = ap (λ (x : Outcome). x.answer) e;
}

pub line_as : (fs : List ℕ) {a b : Answer Counts} {d s : List ℕ} {r : ℕ}
    → b ≡ a → Line 85504 (listing_by maps (faces_only fs) a) d s r → Line 85504 (listing_by maps (faces_only fs) b) d s r
line_as fs {a} {b} {d} {s} {r} e l = subst (λ (x : Answer Counts). Line 85504 (listing_by maps (faces_only fs) x) d s r) (sym e) l

pub roomy_as : {a b : Answer Counts} → a ≡ b → Roomy b → Roomy a
roomy_as e h = subst Roomy (sym e) h

-- ── the two operations ──

pub read-roomy : (l : Lengths) (s : List ℕ) → Roomy (read l s).answer
read-roomy l s =
    let at = layout_of layouts (u16 s 3) in
    let c = counts_in s in
    roomy (head_faults (length layouts) at s ++ (first_at 21 (λ k. not (sound_edge maps c (tables_in maps at s) k)) c.edges ∷ [])) l c

pub overlay-roomy : (l : Lengths) (a b c : List ℕ) → Roomy (overlay l a b c).answer
overlay-roomy l a b c = roomy (map_faults (a ∷ b ∷ c ∷ [])) l (counts_of (overlay_of (map_of a ∷ map_of b ∷ map_of c ∷ [])))

-- what an outcome that is a read one answers
pub read-answered : (l : Lengths) (s : List ℕ) {a : Answer Counts} {t : Tables} → ◌≡◌ {A = Outcome} (record { answer = a; tables = t }) (read l s) → Roomy a
read-answered l s {a} {t} e = roomy_as (ap (λ (o : Outcome). o.answer) e) (read-roomy l s)

-- no second text and answer are an outcome listed
pub listed-once : {o : Outcome} {d t u : List ℕ} {r q : Listed} → ListedOf o d t r → ListedOf o d u q → (t ≡ u) × (r ≡ q)
listed-once {o} {d} {t} {u} {r} {q} l k =
    let same = line-once l.text k.text in
    let a : r.answer ≡ q.answer = answer-once r.answer q.answer (l.answer ∙ sym k.answer) in
    (same.0, λ i. record { length = same.1 i; answer = a i })
