-- The listing's lines over the face table alone, the line of an edge, and a line that stands at the start of a lent one. Assumes nothing.
use Rattle.std.specs.Prelude.{◌≡◌, ◌≤◌, ◌++◌}
use Rattle.std.proofs.Common.{sym, ◌∙◌}
use Rattle.io.specs.Counts as io
use Rattle.seq.specs.Seq.{List, [], cond, ℕ, eqb, length, take, sets}
use Rattle.paper.specs.Bytes.{ascii}
use Rattle.paper.specs.Limits.{maps}
use Rattle.paper.specs.Refusal.{done}
use Rattle.paper.specs.Tables.{Counts, Tables}
use Rattle.paper.specs.Record.{Source, first, second, both, third, first_third, second_third, all, OverlayEdge}
use Rattle.paper.specs.Listing.{decimal, face_line, gaps, listing_by}

-- tables of which only the faces are looked at
abbrev pub faces_only : List ℕ → Tables
faces_only fs = record { vertices = []; halves = []; sources = []; faces = fs }

abbrev pub face_text : List ℕ → ℕ → List ℕ
face_text fs f = face_line maps (faces_only fs) f

abbrev pub gaps_in : List ℕ → ℕ → ℕ
gaps_in fs n = gaps maps (faces_only fs) n

abbrev pub least_text : ℕ → ℕ → List ℕ
least_text f h = ascii " " ++ cond (eqb f 0) (ascii "-") (decimal h)

abbrev pub labels_text : ℕ → ℕ → ℕ → List ℕ
labels_text f a b = ascii "face " ++ decimal f ++ ascii " " ++ decimal a ++ ascii " " ++ decimal b

abbrev pub gaps_text : ℕ → List ℕ
gaps_text n = ascii "gaps " ++ decimal n ++ ascii "\n"

-- an edge's number, its lower and its upper vertex
abbrev pub ends_text : ℕ → ℕ → ℕ → List ℕ
ends_text k lower upper = ascii "edge " ++ decimal k ++ ascii " " ++ decimal lower ++ ascii " " ++ decimal upper

-- "whether it came from the first map, the second or both, with the edge number in each"; of a piece that comes from the third map too (02, Ask 13), each map by its name, or all
abbrev pub source_text : Source → List ℕ
source_text (first j) = ascii " first " ++ decimal j
source_text (second k) = ascii " second " ++ decimal k
source_text (both j k) = ascii " both " ++ decimal j ++ ascii " " ++ decimal k
source_text (third l) = ascii " third " ++ decimal l
source_text (first_third j l) = ascii " first " ++ decimal j ++ ascii " third " ++ decimal l
source_text (second_third k l) = ascii " second " ++ decimal k ++ ascii " third " ++ decimal l
source_text (all j k l) = ascii " all " ++ decimal j ++ ascii " " ++ decimal k ++ ascii " " ++ decimal l

-- the line of edge k
abbrev pub edge_text : ℕ → OverlayEdge → List ℕ
edge_text k e = (ends_text k e.lower e.upper ++ source_text e.source) ++ ascii "\n"

-- the whole listing
abbrev pub listing_text : Counts → List ℕ → List ℕ
listing_text c fs = listing_by maps (faces_only fs) (done c)

-- the text, of at most `most` bytes, stands at the start of t, and r is its length; behind it t is what d was
pub record Line (most : ℕ) (text d t : List ℕ) (r : ℕ) : Type 0 where
  pub all : t ≡ sets d 0 text
  pub is : take r t ≡ text
  pub end : r ≡ length text
  pub within : r ≤ most
  pub counts : io.IsPrefixLen r t

-- no second text and length are a line
pub line-once : {most : ℕ} {text d t u : List ℕ} {r q : ℕ} → Line most text d t r → Line most text d u q → (t ≡ u) × (r ≡ q)
line-once l k = (l.all ∙ sym k.all, l.end ∙ sym k.end)
