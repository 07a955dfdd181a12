-- What is answered is determined by what it says in the definitions' terms: of the answer, and of the overlay edge record. So a promise that fixes the
-- latter leaves one outcome. Assumes nothing.
use Rattle.std.specs.Prelude as std
use Rattle.std.specs.Prelude.{◌≡◌, refl, Ok, Err, Some, None}
use Rattle.std.proofs.Common.{sym, ◌∙◌, ap}
use Rattle.seq.specs.Seq.{List, [], Option, none, some, ℕ}
use Rattle.seq.specs.Unique.{determined}
use Rattle.paper.specs.Tables as paper
use Rattle.paper.specs.Refusal as refusal
use Rattle.paper.specs.Record as lent
use Rattle.tables.specs.Answers.{Answer}
use Rattle.tables.specs.declared.edge_record.Source.{Source}
use Rattle.tables.specs.declared.edge_record.Source.TheVariants.{First, Second, Both, Third, FirstThird, SecondThird, All}
use Rattle.tables.specs.declared.edge_record.OverlayEdge.{OverlayEdge}
use Rattle.tables.specs.Values.{answer_of, tables_by}
use Rattle.tables.specs.Found.{source_from, found_of}

-- ── answers ──

abbrev answer_back : refusal.Answer paper.Counts → Answer
answer_back (refusal.done c) = Ok (record { vertices = c.vertices; edges = c.edges; faces = c.faces })
answer_back (refusal.refused r) = Err (record { number = r.number; map = r.map; place = r.place; other = r.other })

there_and_back : (a : Answer) → answer_back (answer_of a) ≡ a
there_and_back (Ok c) = refl
there_and_back (Err r) = refl

pub answer-once : (a b : Answer) → answer_of a ≡ answer_of b → a ≡ b
answer-once a b e = sym (there_and_back a) ∙ ap answer_back e ∙ there_and_back b

-- ── the overlay edge record ──

abbrev source_back : lent.Source → Source
source_back (lent.first j) = First j
source_back (lent.second k) = Second k
source_back (lent.both j k) = Both j k
source_back (lent.third l) = Third l
source_back (lent.first_third j l) = FirstThird j l
source_back (lent.second_third k l) = SecondThird k l
source_back (lent.all j k l) = All j k l

source-there : (s : Source) → source_back (source_from s) ≡ s
source-there (First j) = refl
source-there (Second k) = refl
source-there (Both j k) = refl
source-there (Third l) = refl
source-there (FirstThird j l) = refl
source-there (SecondThird k l) = refl
source-there (All j k l) = refl

abbrev found_back : Option lent.OverlayEdge → std.Option OverlayEdge
found_back none = None
found_back (some e) = Some (record { lower = e.lower; upper = e.upper; source = source_back e.source })

found-there : (f : std.Option OverlayEdge) → found_back (found_of f) ≡ f
found-there (Some e) = ap (λ (s : Source). Some (record { lower = e.lower; upper = e.upper; source = s })) (source-there e.source)
found-there None = refl

-- no second record satisfies the promise of `edge`
pub edge-unique : (hs ss : List ℕ) (k : ℕ) (r s : std.Option OverlayEdge) → found_of r ≡ lent.edge_record (tables_by [] hs ss []) k → found_of s ≡ lent.edge_record (tables_by [] hs ss []) k → r ≡ s
edge-unique hs ss k r s e g =
    sym (found-there r) ∙ ap found_back (determined (lent.edge_record (tables_by [] hs ss [])) k (found_of r) (found_of s) e g) ∙ found-there s
