-- Wrong meltings, each shut out by the promise: one that leaves the overlay as it is, one whose vertices keep their numbers, one that compares zones alone, one that drops vertices with two edges, one that judges
-- room on what is left, one that refuses everything. An operation `f` that keeps the promise (`PromisedMelted`, the contract's) keeps it for all lent tables and files; each of these does not, at the sheet `merged`
-- (crates/paper/specs/MeltSample.antt). Assumes nothing.
use Rattle.std.specs.Prelude.{◌≡◌, refl, ◌<◌, ◌∷◌, ◌+◌, ◌*◌}
use Rattle.std.proofs.Common.{sym, ◌∙◌, ap, subst, arith}
use Rattle.exact.specs.Exact.{gcd_of}
use Rattle.exact.specs.Order.{pos-once}
use Rattle.seq.specs.Seq.{List, [], ℕ, ℤ, pos}
use Rattle.seq.specs.Wiped.{length-padded}
use Rattle.paper.specs.Limits.{maps}
use Rattle.paper.specs.Refusal.{Refusal, Answer, done, refused}
use Rattle.paper.specs.Map.{fault}
use Rattle.paper.specs.Faces.{overlay_of}
use Rattle.paper.specs.Tables.{Counts, Tables, vertex_width, vertex_cell, face_cell, tables_of}
use Rattle.paper.specs.Tables as T
use Rattle.paper.specs.Lent.{Lengths, Outcome, lengths_of, room_in, zero_tables}
use Rattle.paper.specs.Overlay.{overlay}
use Rattle.paper.specs.Melt.{melted_of, melt}
use Rattle.paper.specs.MeltSample.{zones, block, merged, melted-refused}
use Rattle.paper.specs.Sample.{empty_file}
use Rattle.paper.specs.Sheets.{ample, counted}
use Rattle.laws_refusals.specs.Room.{Fits}
use Rattle.laws_promise.specs.Wrong.{Operation}
use Rattle.tables.specs.Answers as code
use Rattle.tables.specs.Values.{answer_of}
use Rattle.tables.specs.Promise.{Promised, PromisedMelted}
use Rattle.laws_melted.specs.Answers.{melted_counts}

-- it keeps the promise
abbrev pub Melts : Operation → Type 0
Melts f = (t : Tables) (a b z : List ℕ) → PromisedMelted (lengths_of t) (a ∷ b ∷ z ∷ []) (f t a b z).0 (f t a b z).1

-- ── what is right, in lent tables that are zero before ──

zeros_long : (l : Lengths) → lengths_of (zero_tables l) ≡ l
zeros_long l i = record {
  vertices = length-padded (pos 0) l.vertices [] (omega arith) i;
  halves = length-padded {A = ℕ} 0 l.halves [] (omega arith) i;
  sources = length-padded {A = ℕ} 0 l.sources [] (omega arith) i;
  faces = length-padded {A = ℕ} 0 l.faces [] (omega arith) i;
}

module _ (f : Operation) (m : Melts f) (l : Lengths) where
  abbrev given : code.Answer × Tables
  given = f (zero_tables l) zones block empty_file

  right : PromisedMelted l (zones ∷ block ∷ empty_file ∷ []) given.0 given.1
  right = subst (λ (k : Lengths). PromisedMelted k (zones ∷ block ∷ empty_file ∷ []) given.0 given.1) (zeros_long l) (m (zero_tables l) zones block empty_file)

  right_answer : answer_of (f (zero_tables l) zones block empty_file).0 ≡ (melt l zones block empty_file).answer
  right_answer = ap (λ (o : Outcome). o.answer) right

  right_tables : (f (zero_tables l) zones block empty_file).1 ≡ (melt l zones block empty_file).tables
  right_tables = ap (λ (o : Outcome). o.tables) right

-- the answers of both, and of both the first coordinate of vertex 6: (0, 4) melted, (5, 3) in the overlay; of edge 4 the zones on its two sides, and its first end's coordinates
computed : ◌≡◌ {A = (Answer Counts × Answer Counts) × (ℤ × ℤ) × (ℕ × ℕ × ℕ) × (ℤ × ℤ)} (
  (merged.answer, (overlay (ample maps) zones block empty_file).answer),
  (vertex_cell merged.tables 6 0, vertex_cell (overlay (ample maps) zones block empty_file).tables 6 0),
  (face_cell maps merged.tables (T.face_of merged.tables 8) 0, face_cell maps merged.tables (T.face_of merged.tables 9) 0, face_cell maps merged.tables (T.face_of merged.tables 8) 1),
  (vertex_cell merged.tables 4 0, vertex_cell merged.tables 4 1),
)
    ((counted 9 10 3, counted 11 13 5), (pos 0, pos 5), (1, 1, 0), (pos 4, pos 2))
unfolding gcd_of fault overlay_of melted_of tables_of
computed = refl

merged-answer : merged.answer ≡ counted 9 10 3
merged-answer = ap (λ x. x.0.0) computed

done_refused : {x : Counts} {r : Refusal} → done x ≡ refused r → ⊥
done_refused e = let z : ◌≡◌ {A = ℕ} 0 1 = cc in omega arith

done-vertices : (c d : Counts) → done c ≡ done d → c.vertices ≡ d.vertices
done-vertices c d q = let e : c ≡ d = cc in ap (λ (x : Counts). x.vertices) e

-- room for the 9 vertices that are left, and not for the 11 of the overlay
abbrev nine : Lengths
nine = let l = ample maps in record { vertices = 9 * vertex_width; halves = l.halves; sources = l.sources; faces = l.faces }

left_counts : melted_counts (zones ∷ block ∷ empty_file ∷ []) ≡ record { vertices = 9; edges = 10; faces = 3 }
unfolding gcd_of fault overlay_of melted_of tables_of
left_counts = refl

nine_fits : Fits (room_in maps nine) (melted_counts (zones ∷ block ∷ empty_file ∷ []))
nine_fits = subst (Fits (room_in maps nine)) (sym left_counts) (record { vertices = omega arith; edges = omega arith; faces = omega arith })

module _ (f : Operation) (m : Melts f) where
  abbrev tables : Tables
  tables = (f (zero_tables (ample maps)) zones block empty_file).1

  tables-are : tables ≡ merged.tables
  tables-are = right_tables f m (ample maps)

  -- ── 1: it leaves the overlay as it is ──

  pub not_the_overlay : ((t : Tables) (a b z : List ℕ) → Promised (lengths_of t) (a ∷ b ∷ z ∷ []) (f t a b z).0 (f t a b z).1) → ⊥
  not_the_overlay w =
      let o = subst (λ (l : Lengths). Promised l (zones ∷ block ∷ empty_file ∷ []) (f (zero_tables (ample maps)) zones block empty_file).0 tables) (zeros_long (ample maps)) (w (zero_tables (ample maps)) zones block empty_file) in
      let e : ◌≡◌ {A = ℕ} 9 11 = done-vertices (record { vertices = 9; edges = 10; faces = 3 }) (record { vertices = 11; edges = 13; faces = 5 })
      (sym merged-answer ∙ sym (right_answer f m (ample maps)) ∙ ap (λ (x : Outcome). x.answer) o ∙ ap (λ x. x.0.1) computed) in
      omega arith

  -- ── 2: vertices keep the numbers that they had in the overlay ──

  pub not_old_numbers : ((t : Tables) (a b z : List ℕ) (v : ℕ) → v < 9 → vertex_cell (f t a b z).1 v 0 ≡ vertex_cell (overlay (lengths_of t) a b z).tables v 0) → ⊥
  not_old_numbers w =
      let q = w (zero_tables (ample maps)) zones block empty_file 6 (omega arith) in
      let e : ◌≡◌ {A = ℕ} 0 5 = pos-once 0 5 (sym (ap (λ x. x.1.0) computed) ∙ ap (λ (t : Tables). vertex_cell t 6 0) (sym tables-are) ∙ q
      ∙ ap (λ (l : Lengths). vertex_cell (overlay l zones block empty_file).tables 6 0) (zeros_long (ample maps)) ∙ ap (λ x. x.1.1) computed) in
      omega arith

  -- ── 3: it compares zones alone ("Ask 12 compares triples") ──

  -- edge 4 lies within one zone, and the block ends there
  pub not_zones-alone : ((t : Tables) (a b z : List ℕ) (c : Counts) → answer_of (f t a b z).0 ≡ done c → (k : ℕ) → k < c.edges →
      face_cell maps (f t a b z).1 (T.face_of (f t a b z).1 (2 * k)) 0 ≡ face_cell maps (f t a b z).1 (T.face_of (f t a b z).1 (2 * k + 1)) 0 → ⊥) → ⊥
  not_zones-alone w =
      w (zero_tables (ample maps)) zones block empty_file (record { vertices = 9; edges = 10; faces = 3 }) (right_answer f m (ample maps) ∙ merged-answer) 4 (omega arith)
      (ap (λ (t : Tables). face_cell maps t (T.face_of t 8) 0) tables-are ∙ ap (λ x. x.2.0) computed ∙ sym (ap (λ x. x.2.1) computed) ∙ ap (λ (t : Tables). face_cell maps t (T.face_of t 9) 0) (sym tables-are))

  -- ── 4: it drops a vertex with two edges ("Vertices with two edges stay") ──

  -- vertex 4 is (4, 2), where the line between the zones ended
  pub corner-stays : (vertex_cell (f (zero_tables (ample maps)) zones block empty_file).1 4 0 ≡ pos 4) × (vertex_cell (f (zero_tables (ample maps)) zones block empty_file).1 4 1 ≡ pos 2)
  corner-stays = (ap (λ (t : Tables). vertex_cell t 4 0) tables-are ∙ ap (λ x. x.3.0) computed, ap (λ (t : Tables). vertex_cell t 4 1) tables-are ∙ ap (λ x. x.3.1) computed)

  -- ── 5: it judges room on what is left ──

  pub not_room_for_left : ((t : Tables) (a b z : List ℕ) → Fits (room_in maps (lengths_of t)) (melted_counts (a ∷ b ∷ z ∷ [])) → (c : Counts) × (answer_of (f t a b z).0 ≡ done c)) → ⊥
  not_room_for_left w =
      let (c, e) = w (zero_tables nine) zones block empty_file (subst (λ (l : Lengths). Fits (room_in maps l) (melted_counts (zones ∷ block ∷ empty_file ∷ []))) (sym (zeros_long nine)) nine_fits) in
      done_refused (sym e ∙ right_answer f m nine ∙ melted-refused)

  -- ── 6: it refuses everything ──

  pub not_refusing : ((t : Tables) (a b z : List ℕ) → (r : Refusal) × (answer_of (f t a b z).0 ≡ refused r)) → ⊥
  not_refusing w = let (r, e) = w (zero_tables (ample maps)) zones block empty_file in done_refused (sym merged-answer ∙ sym (right_answer f m (ample maps)) ∙ e)
