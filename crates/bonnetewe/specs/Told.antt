-- Answers as one number, for C: four numbers of 16 bits, the lowest first. Assumes nothing.
use Rattle.std.specs.Prelude.{◌≡◌, ◌<◌, ◌+◌, ◌*◌, ◌^◌}
use Rattle.std.proofs.Common.{sym, ◌∙◌, ap, subst, arith}
use Rattle.seq.specs.Seq.{List, Option, none, some, ℕ, length}
use Rattle.paper.specs.Refusal.{Answer, done, refused, answer, Refusal}
use Rattle.paper.specs.Tables.{Counts, Tables}
use Rattle.paper.specs.Lent.{Outcome, lengths_of}
use Rattle.paper.specs.Mend.{Mending}
use Rattle.paper.specs.Record.{Source, first, second, both, third, first_third, second_third, all, OverlayEdge}
use Rattle.paper.specs.Ovfile.{layouts, file_length, layout_of}
use Rattle.paper.specs.Writer.{Written, write_fault, write}

abbrev pub four : ℕ → ℕ → ℕ → ℕ → ℕ
four a b c d = a + 65536 * (b + 65536 * (c + 65536 * d))

-- 0 and the three counts; or a refusal's number (never 0), map, place and other edge
abbrev pub told : Answer Counts → ℕ
told (done c) = four 0 c.vertices c.edges c.faces
told (refused r) = four r.number r.map r.place r.other

-- the same of one map, 0 and its two counts; or of a mended file, 0, its length and the number of entries
abbrev pub told_map : Answer (ℕ × ℕ) → ℕ
told_map (done c) = four 0 c.0 c.1 0
told_map (refused r) = four r.number r.map r.place r.other

-- the same of a file: 0, and the file's length above it
abbrev pub told_length : Answer ℕ → ℕ
told_length (done n) = 65536 * n
told_length (refused r) = four r.number r.map r.place r.other

-- "whether it came from the first map, the second or both": 1, 2 or 3; and 4 more where it came from the third (02, Ask 13)
abbrev pub kind : Source → ℕ
kind (first j) = 1
kind (second k) = 2
kind (both j k) = 3
kind (third l) = 4
kind (first_third j l) = 5
kind (second_third k l) = 6
kind (all j k l) = 7

-- the edge number in the first map, in the second and in the third, 0 where it has none there
abbrev pub in_first : Source → ℕ
in_first (first j) = j
in_first (second k) = 0
in_first (both j k) = j
in_first (third l) = 0
in_first (first_third j l) = j
in_first (second_third k l) = 0
in_first (all j k l) = j

abbrev pub in_second : Source → ℕ
in_second (first j) = 0
in_second (second k) = k
in_second (both j k) = k
in_second (third l) = 0
in_second (first_third j l) = 0
in_second (second_third k l) = k
in_second (all j k l) = k

abbrev pub in_third : Source → ℕ
in_third (first j) = 0
in_third (second k) = 0
in_third (both j k) = 0
in_third (third l) = l
in_third (first_third j l) = l
in_third (second_third k l) = l
in_third (all j k l) = l

-- of an edge record its kind, and its lower and upper vertex; or 0 where it is absent
abbrev pub told_ends : Option OverlayEdge → ℕ
told_ends (some e) = four (kind e.source) e.lower e.upper 0
told_ends none = 0

-- of the same its kind, and its edge numbers in the three maps
abbrev pub told_sources : Option OverlayEdge → ℕ
told_sources (some e) = four (kind e.source) (in_first e.source) (in_second e.source) (in_third e.source)
told_sources none = 0

-- a length of at most 32 bits
abbrev pub Short : Answer ℕ → Type 0
Short (done n) = n < 2 ^ 32
Short (refused r) = Unit {0}

abbrev pub counts : ℕ → ℕ → ℕ → Counts
counts v e f = record { vertices = v; edges = e; faces = f }

-- r tells an outcome's answer, and t are its tables
pub record Told (o : Outcome) (t : Tables) (r : ℕ) : Type 0 where
  pub answer : r ≡ told o.answer
  pub tables : t ≡ o.tables

-- r tells what is written, and b is the buffer
pub record ToldFile (w : Written) (b : List ℕ) (r : ℕ) : Type 0 where
  pub answer : r ≡ told_length w.answer
  pub buffer : b ≡ w.buffer

pub told-file : (w : Written) {a : Answer ℕ} {b : List ℕ} {r : ℕ} → ◌≡◌ {A = Written} (record { answer = a; buffer = b }) w → r ≡ told_length a → ToldFile w b r
told-file w {a} {b} {r} e h = record { answer = h ∙ ap (λ (x : Written). told_length x.answer) e; buffer = ap (λ (x : Written). x.buffer) e }

-- r tells what mending answers, and f and l are the lent file and list
pub record ToldMending (m : Mending) (f l : List ℕ) (r : ℕ) : Type 0 where
  pub answer : r ≡ told_map m.answer
  pub file : f ≡ m.file
  pub list : l ≡ m.list

pub told_mending : (m : Mending) {a : Answer (ℕ × ℕ)} {f l : List ℕ} {r : ℕ} → ◌≡◌ {A = Mending} (record { answer = a; file = f; list = l }) m → r ≡ told_map a → ToldMending m f l r
told_mending m {a} {f} {l} {r} e h = record { answer = h ∙ ap (λ (x : Mending). told_map x.answer) e; file = ap (λ (x : Mending). x.file) e; list = ap (λ (x : Mending). x.list) e }

short_by : (n : ℕ) (f : Option Refusal) → n < 2 ^ 32 → Short (answer n f)
short_by n none h = h
short_by n (some r) h = tt

-- counts of 16 bits have a file of less than 4 GB
pub write_short : (n v e f : ℕ) (t : Tables) {a : Answer ℕ} {b : List ℕ} → v < 65536 → e < 65536 → f < 65536
    → ◌≡◌ {A = Written} (record { answer = a; buffer = b }) (write n (counts v e f) t) → Short a
write_short n v e f t {a} {b} hv he hf g =
    let l = layout_of layouts (length layouts) in
    let c = counts v e f in
    let h : file_length l c < 2 ^ 32 = omega arith in
    subst Short (sym (ap (λ (x : Written). x.answer) g)) (short_by (file_length l c) (write_fault l n (lengths_of t) c t) h)

pub told_by : (o : Outcome) {a : Answer Counts} {t : Tables} {r : ℕ} → ◌≡◌ {A = Outcome} (record { answer = a; tables = t }) o → r ≡ told a → Told o t r
told_by o {a} {t} {r} e h = record { answer = h ∙ ap (λ (x : Outcome). told x.answer) e; tables = ap (λ (x : Outcome). x.tables) e }

-- no second number and tables tell an outcome; nor a second number and buffer what is written
pub told-once : {o : Outcome} {t u : Tables} {r q : ℕ} → Told o t r → Told o u q → (t ≡ u) × (r ≡ q)
told-once a b = (a.tables ∙ sym b.tables, a.answer ∙ sym b.answer)

pub told-file-once : {w : Written} {x y : List ℕ} {r q : ℕ} → ToldFile w x r → ToldFile w y q → (x ≡ y) × (r ≡ q)
told-file-once a b = (a.buffer ∙ sym b.buffer, a.answer ∙ sym b.answer)

-- nor a second number, file and list a mending
pub told_mending-once : {m : Mending} {f g x y : List ℕ} {r q : ℕ} → ToldMending m f x r → ToldMending m g y q → (f ≡ g) × (x ≡ y) × (r ≡ q)
told_mending-once a b = (a.file ∙ sym b.file, a.list ∙ sym b.list, a.answer ∙ sym b.answer)

-- nor a second number an edge record's ends, or its sources, or a map's check
pub told-number-once : {n r q : ℕ} → r ≡ n → q ≡ n → r ≡ q
told-number-once a b = a ∙ sym b
