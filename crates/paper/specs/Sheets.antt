-- The worked sheets S1 to S12, listed once, and one statement over the list: each computes to what 01 says. A sheet is a question and its answer,
-- both of one type. Assumes nothing.
use Rattle.std.specs.Prelude.{◌≡◌, refl, ◌∷◌, ◌++◌, ◌*◌}
use Rattle.exact.specs.Exact.{gcd_of}
use Rattle.seq.specs.Seq.{List, [], map, Option, none, some, ℕ, ℤ, pos, negsuc, table}
use Rattle.paper.specs.Limits.{overlay_vertices, overlay_edges, overlay_faces, maps}
use Rattle.paper.specs.Plane.{vec, between, whole, side, crossing}
use Rattle.paper.specs.Bytes.{ascii, le}
use Rattle.paper.specs.Refusal.{Answer, done, refused}
use Rattle.paper.specs.Map.{fault, check}
use Rattle.paper.specs.Faces.{overlay_of}
use Rattle.paper.specs.Tables.{vertex_width, half_width, face_width, face_cell, tables_of, Counts, Tables}
use Rattle.paper.specs.Lent.{Lengths, Outcome}
use Rattle.paper.specs.Overlay.{overlay}
use Rattle.paper.specs.Record.{edge_record, Source, OverlayEdge, first, second, both}
use Rattle.paper.specs.Ovfile.{overlay_file}
use Rattle.paper.specs.Writer.{Written, write}
use Rattle.paper.specs.Listing.{listing}
use Rattle.paper.specs.SampleFile.{s12_file}
use Rattle.paper.specs.Sample.{at, empty_file, single, square, zone}

-- tables with room for the largest overlay of n maps
abbrev pub ample : ℕ → Lengths
ample n = record {
  vertices = vertex_width * overlay_vertices;
  halves = 2 * half_width * overlay_edges;
  sources = n * overlay_edges;
  faces = face_width n * overlay_faces;
}

-- "The two-map overlay is the one with an empty third map" (02, Ask 13)
abbrev pub run : List ℕ → List ℕ → Outcome
run a b = overlay (ample maps) a b empty_file

abbrev pub counted : ℕ → ℕ → ℕ → Answer Counts
counted v e f = done (record { vertices = v; edges = e; faces = f })

abbrev pub refused_with : {A : Type 0} → ℕ → ℕ → ℕ → Answer A
refused_with r m k = refused (record { number = r; map = m; place = k; other = 0 })

-- the numbers of face f: labels, least half-edge, holes
abbrev face_numbers : Outcome → ℕ → List ℕ
face_numbers o f = table (face_cell maps o.tables f) (face_width maps)

abbrev piece : ℕ → ℕ → Source → Option OverlayEdge
piece a b s = some (record { lower = a; upper = b; source = s })

-- what the writer answers and leaves for the tables of an outcome, with a buffer of n bytes
abbrev pub written_of : ℕ → Tables → Answer Counts → Written
written_of n t (done c) = write n c t
written_of n t (refused r) = record { answer = refused r; buffer = [] }

-- a question with its answer
pub record Sheet : Type 1 where
  pub Kind : Type 0
  pub got : Kind
  pub want : Kind

abbrev sheet : {A : Type 0} → A → A → Sheet
sheet {A} a b = record { Kind = A; got = a; want = b }

-- S7: an edge from (x, 0) to (0, 0)
abbrev reaching : ℤ → List ℕ
reaching x = single (vec x (pos 0)) (at 0 0)

-- S8: a header with so many vertices and no more bytes. The length is looked at after the counts: 4 says that rule 3 is passed
abbrev header : ℕ → List ℕ
header v = ascii "ZMP" ++ le 2 1 ++ le 2 v ++ le 2 0

abbrev s3 : Outcome
s3 = run (single (at 0 0) (at 4 0)) (single (at 2 0) (at 6 0))

abbrev s6 : Outcome
s6 = run (single (at 0 0) (at 1 1)) empty_file

abbrev s11 : Outcome
s11 = run (zone 0 0 10 1) (zone 4 4 2 7)

abbrev pub s12 : Outcome
s12 = run (zone 0 0 4 1) (zone 2 2 4 7)

-- S1 to S12, in 01's order. A sheet that asks two things asks for the pair
abbrev pub sheets : List Sheet
sheets =
    -- S1
    sheet (crossing (between (at 0 0) (at 3 2)) (between (at 0 2) (at 3 1))) (some (record { X = pos 6; Y = pos 4; D = pos 3 })) ∷
    -- S2
    sheet (crossing (between (at 0 0) (at 4 0)) (between (at 2 0) (at 2 3))) (some (record { X = pos 2; Y = pos 0; D = pos 1 })) ∷
    -- S3: three pieces, and no fourth
    sheet (table (edge_record s3.tables) 4) (piece 0 1 (first 0) ∷ piece 1 2 (both 0 0) ∷ piece 2 3 (second 0) ∷ none ∷ []) ∷
    -- S4
    sheet (side (between (at 0 0) (at 4 3)) (whole (at 3 2))) (negsuc 0) ∷
    -- S5
    sheet (run empty_file empty_file).answer (counted 0 0 1) ∷
    -- S6: the counts, and the one face with its hole
    sheet {A = Answer Counts × List ℕ} (s6.answer, face_numbers s6 0) (counted 2 1 1, 0 ∷ 0 ∷ 0 ∷ 65535 ∷ 1 ∷ []) ∷
    -- S7
    sheet {A = Answer (ℕ × ℕ) × Answer (ℕ × ℕ)} (check (reaching (negsuc 15999)), check (reaching (negsuc 16000))) (done (2, 1), refused_with 5 0 0) ∷
    -- S8
    sheet {A = Answer (ℕ × ℕ) × Answer (ℕ × ℕ)} (check (header 200), check (header 201)) (refused_with 4 0 0, refused_with 3 0 0) ∷
    -- S9
    sheet (run (square 0 0 4 1 1 2 1 0) empty_file).answer (refused_with 10 1 2) ∷
    -- S10
    sheet (run (square 0 0 4 1 1 1 1 5) empty_file).answer (refused_with 10 1 7) ∷
    -- S11: the counts, and of each face its labels, least half-edge and holes
    sheet {A = Answer Counts × List (List ℕ)} (s11.answer, table (face_numbers s11) 3)
    (counted 8 8 3, (0 ∷ 0 ∷ 0 ∷ 65535 ∷ 1 ∷ []) ∷ (1 ∷ 0 ∷ 0 ∷ 0 ∷ 1 ∷ []) ∷ (1 ∷ 7 ∷ 0 ∷ 6 ∷ 0 ∷ []) ∷ []) ∷
    -- S12: the listing, and the overlay file with its 427 bytes
    sheet {A = List ℕ × Written} (listing maps s12, written_of 427 s12.tables s12.answer)
    (ascii "vertices 10 edges 12 faces 4\nface 0 0 0 - 1\nface 1 1 0 0 0\nface 2 1 7 6 0\nface 3 0 7 10 0\ngaps 1\n", record { answer = done 427; buffer = s12_file }) ∷
    []

-- every sheet of a list is answered as it should be
abbrev pub Answered : List Sheet → Type 0
Answered [] = Unit {0}
Answered (s ∷ ss) = (s.got ≡ s.want) × Answered ss

-- the statement over the list
pub sheets-answered : Answered sheets
unfolding gcd_of fault overlay_of tables_of overlay_file
sheets-answered = (refl, (refl, (refl, (refl, (refl, (refl, (refl, (refl, (refl, (refl, (refl, (refl, tt))))))))))))
