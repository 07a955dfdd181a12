-- 01's four wrong overlays, each shut out by the promise: "an overlay that refuses everything, one that returns S12 for all files, one that returns zero counts and touches nothing, one that makes up the
-- vertex count". An operation `f` that keeps the promise (`Promised`, the contract's) keeps it for all lent tables and files; each of the four does not, at three small files. Assumes nothing.
use Rattle.std.specs.Prelude.{◌≡◌, refl, ◌∷◌, ◌+◌}
use Rattle.std.proofs.Common.{sym, ◌∙◌, ap, subst, arith}
use Rattle.exact.specs.Exact.{gcd_of}
use Rattle.seq.specs.Seq.{List, [], ℕ, pos}
use Rattle.seq.specs.Wiped.{length-padded}
use Rattle.paper.specs.Limits.{maps}
use Rattle.paper.specs.Refusal.{Refusal, done, refused}
use Rattle.paper.specs.Map.{fault}
use Rattle.paper.specs.Faces.{overlay_of}
use Rattle.paper.specs.Tables.{Counts, Tables, tables_of, face_cell}
use Rattle.paper.specs.Lent.{Lengths, Outcome, lengths_of, zero_tables}
use Rattle.paper.specs.Overlay.{overlay}
use Rattle.paper.specs.Sample.{at, empty_file, single, zone}
use Rattle.paper.specs.Sheets.{ample, counted, s12}
use Rattle.tables.specs.Answers as code
use Rattle.tables.specs.Values.{answer_of}
use Rattle.tables.specs.Promise.{Promised}

-- the lent tables' contents before and three files go in; the answer and the tables' contents after come out
abbrev pub Operation : Type 0
Operation = Tables → List ℕ → List ℕ → List ℕ → code.Answer × Tables

-- it keeps the promise
abbrev pub Kept : Operation → Type 0
Kept f = (t : Tables) (a b z : List ℕ) → Promised (lengths_of t) (a ∷ b ∷ z ∷ []) (f t a b z).0 (f t a b z).1

-- ── what is right: S5, S6 and S12 in tables with room for all, zero before ──

abbrev nothing : Tables
nothing = zero_tables (ample maps)

nothing_long : lengths_of nothing ≡ ample maps
nothing_long i = record {
  vertices = length-padded (pos 0) (ample maps).vertices [] (omega arith) i;
  halves = length-padded {A = ℕ} 0 (ample maps).halves [] (omega arith) i;
  sources = length-padded {A = ℕ} 0 (ample maps).sources [] (omega arith) i;
  faces = length-padded {A = ℕ} 0 (ample maps).faces [] (omega arith) i;
}

module _ (f : Operation) (k : Kept f) (a b z : List ℕ) where
  right : Promised (ample maps) (a ∷ b ∷ z ∷ []) (f nothing a b z).0 (f nothing a b z).1
  right = subst (λ (l : Lengths). Promised l (a ∷ b ∷ z ∷ []) (f nothing a b z).0 (f nothing a b z).1) nothing_long (k nothing a b z)

  right_answer : answer_of (f nothing a b z).0 ≡ (overlay (ample maps) a b z).answer
  right_answer = ap (λ (o : Outcome). o.answer) right

  right_tables : (f nothing a b z).1 ≡ (overlay (ample maps) a b z).tables
  right_tables = ap (λ (o : Outcome). o.tables) right

empty-answer : (overlay (ample maps) empty_file empty_file empty_file).answer ≡ counted 0 0 1
unfolding gcd_of fault overlay_of tables_of
empty-answer = refl

edge-answer : (overlay (ample maps) (single (at 0 0) (at 1 1)) empty_file empty_file).answer ≡ counted 2 1 1
unfolding gcd_of fault overlay_of tables_of
edge-answer = refl

s12-answer : s12.answer ≡ counted 10 12 4
unfolding gcd_of fault overlay_of tables_of
s12-answer = refl

-- the row of face 0: 65,535, and its holes
empty-row : face_cell maps (overlay (ample maps) empty_file empty_file empty_file).tables 0 maps ≡ 65535
unfolding gcd_of fault overlay_of tables_of
empty-row = refl

empty-holes : face_cell maps (overlay (ample maps) empty_file empty_file empty_file).tables 0 (maps + 1) ≡ 0
unfolding gcd_of fault overlay_of tables_of
empty-holes = refl

s12-holes : face_cell maps s12.tables 0 (maps + 1) ≡ 1
unfolding gcd_of fault overlay_of tables_of
s12-holes = refl

zero_row : face_cell maps nothing 0 maps ≡ 0
zero_row = refl

done_refused : {A : Type 0} {x : A} {r : Refusal} → done x ≡ refused r → ⊥
done_refused e = let z : ◌≡◌ {A = ℕ} 0 1 = cc in omega arith

done-vertices : (c d : Counts) → done c ≡ done d → c.vertices ≡ d.vertices
done-vertices c d q = let e : c ≡ d = cc in ap (λ (x : Counts). x.vertices) e

done-once : (v e f w g h : ℕ) → counted v e f ≡ counted w g h → v ≡ w
done-once v e f w g h q = done-vertices (record { vertices = v; edges = e; faces = f }) (record { vertices = w; edges = g; faces = h }) q

-- ── 1: it refuses everything ──

pub not_refusing : (f : Operation) → Kept f → ((t : Tables) (a b z : List ℕ) → (r : Refusal) × (answer_of (f t a b z).0 ≡ refused r)) → ⊥
not_refusing f k w =
    let (r, e) = w nothing empty_file empty_file empty_file in
    done_refused (sym empty-answer ∙ sym (right_answer f k empty_file empty_file empty_file) ∙ e)

-- ── 2: it returns S12 for all files ──

-- S12's counts (10, 12, 4), whatever the tables
pub not_s12-counts : (f : Operation) → Kept f → ((t : Tables) (a b z : List ℕ) → answer_of (f t a b z).0 ≡ s12.answer) → ⊥
not_s12-counts f k w =
    let e : ◌≡◌ {A = ℕ} 0 10 = done-once 0 0 1 10 12 4 (sym empty-answer ∙ sym (right_answer f k empty_file empty_file empty_file) ∙ w nothing empty_file empty_file empty_file ∙ s12-answer) in
    omega arith

-- S12's tables, whatever the counts
pub not_s12-tables : (f : Operation) → Kept f → ((t : Tables) (a b z : List ℕ) → (f t a b z).1 ≡ (overlay (lengths_of t) (zone 0 0 4 1) (zone 2 2 4 7) empty_file).tables) → ⊥
not_s12-tables f k w =
    let q : (f nothing empty_file empty_file empty_file).1 ≡ s12.tables = w nothing empty_file empty_file empty_file ∙ ap (λ (l : Lengths). (overlay l (zone 0 0 4 1) (zone 2 2 4 7) empty_file).tables) nothing_long in
    let e : ◌≡◌ {A = ℕ} 0 1 = sym empty-holes ∙ ap (λ (t : Tables). face_cell maps t 0 (maps + 1)) (sym (right_tables f k empty_file empty_file empty_file) ∙ q) ∙ s12-holes in
    omega arith

-- S12's counts and tables: all that comes out for S12's two files, with an empty third map, comes out for all
pub not_always-s12 : (f : Operation) → Kept f → ((t : Tables) (a b z : List ℕ) → Promised (lengths_of t) (zone 0 0 4 1 ∷ zone 2 2 4 7 ∷ empty_file ∷ []) (f t a b z).0 (f t a b z).1) → ⊥
not_always-s12 f k w = not_s12-tables f k (λ t a b z. ap (λ (o : Outcome). o.tables) (w t a b z))

-- ── 3: it returns zero counts and touches nothing ──

pub not_zero-counts : (f : Operation) → Kept f → ((t : Tables) (a b z : List ℕ) → answer_of (f t a b z).0 ≡ counted 0 0 0) → ⊥
not_zero-counts f k w =
    let e : ◌≡◌ {A = ℕ} 2 0 = done-once 2 1 1 0 0 0 (sym edge-answer ∙ sym (right_answer f k (single (at 0 0) (at 1 1)) empty_file empty_file) ∙ w nothing (single (at 0 0) (at 1 1)) empty_file empty_file) in
    omega arith

-- even where the counts of vertices and edges are zero
pub not_untouched : (f : Operation) → Kept f → ((t : Tables) (a b z : List ℕ) → (f t a b z).1 ≡ t) → ⊥
not_untouched f k w =
    let e : ◌≡◌ {A = ℕ} 65535 0 = sym empty-row ∙ ap (λ (t : Tables). face_cell maps t 0 maps) (sym (right_tables f k empty_file empty_file empty_file) ∙ w nothing empty_file empty_file empty_file) ∙ zero_row in
    omega arith

-- ── 4: it makes up the vertex count ──

-- whatever it answers for the one edge of S6, it is 2. For all files it is that of the defined vertices, `vertices` of Defined
pub not_made_up : (f : Operation) → Kept f → (c : Counts) → answer_of (f nothing (single (at 0 0) (at 1 1)) empty_file empty_file).0 ≡ done c → c.vertices ≡ 2
not_made_up f k c e =
    done-vertices c (record { vertices = 2; edges = 1; faces = 1 }) (sym e ∙ right_answer f k (single (at 0 0) (at 1 1)) empty_file empty_file ∙ edge-answer)
