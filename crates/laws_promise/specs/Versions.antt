-- The versions of the overlay file, over the operations' promises: "writing what was read gives the same bytes only for the newest version" (02, Ask 7); "The writer writes 3, the reader takes all three versions" (02, Ask 13).
-- Whatever the reader gave back, answer and tables, of a file that it takes: of the newest version, writing it gives the same bytes (`newest_same`), and of no other version (`newest-only`); of any version it is written, and reading that gives
-- the same answer and tables (`any_again`). The file is of bytes, as every `&[u8]` is. Assumes nothing.
use Rattle.std.specs.Prelude.{◌≡◌, refl, ◌≤◌}
use Rattle.std.proofs.Common.{sym, ◌∙◌, ap}
use Rattle.seq.specs.Seq.{List, ℕ, length, take, padded}
use Rattle.paper.specs.Bytes.{u16}
use Rattle.paper.specs.Refusal.{done}
use Rattle.paper.specs.Tables.{Counts, Tables}
use Rattle.paper.specs.Lent.{Lengths, Outcome}
use Rattle.paper.specs.Ovfile.{layouts, file_length, overlay_file}
use Rattle.paper.specs.Writer.{write}
use Rattle.paper.specs.Reader.{read}
use Rattle.laws_file.specs.Bytes.{Bytes}
use Rattle.laws_roundtrip.specs.ReadWritten.{done-file}
use Rattle.laws_roundtrip.proofs.WrittenRead.{written_read}
use Rattle.laws_roundtrip.specs.OlderRead.{older-written}
use Rattle.laws_roundtrip.proofs.OlderRead.{older-read}
use Rattle.tables.specs.Answers as code
use Rattle.tables.specs.Values.{answer_of, outcome_of}
use Rattle.laws_promise.specs.Written.{newest}

-- the number of its version in a file that is written
newest-marked : (c : Counts) (t : Tables) → u16 (overlay_file (length layouts) newest c t) 3 ≡ length layouts
unfolding overlay_file
newest-marked c t = refl

-- the reader's promise, of the file s into tables of the lengths ls
module _ (ls : Lengths) (s : List ℕ) (B : Bytes s) (r : code.Answer) (t : Tables) (promise : outcome_of r t ≡ read ls s) (c : Counts) (e : answer_of r ≡ done c) (n : ℕ) where
  taken : (read ls s).answer ≡ done c
  taken = sym (ap (λ (o : Outcome). o.answer) promise) ∙ e

  tables-are : t ≡ (read ls s).tables
  tables-are = ap (λ (o : Outcome). o.tables) promise

  -- "writing what was read gives the same bytes only for the newest version"
  pub newest_same : u16 s 3 ≡ length layouts → length s ≤ n → write n c t ≡ record { answer = done (length s); buffer = padded 0 n s }
  newest_same v m = ap (write n c) tables-are ∙ written_read ls s B c taken v n m

  module _ (m : file_length newest c ≤ n) where
    pub any_done : (write n c t).answer ≡ done (file_length newest c)
    any_done = ap (λ (u : Tables). (write n c u).answer) tables-are ∙ older-written ls s B c taken n m

    pub any_again : read ls (take (file_length newest c) (write n c t).buffer) ≡ outcome_of r t
    any_again = ap (λ (u : Tables). read ls (take (file_length newest c) (write n c u).buffer)) tables-are ∙ older-read ls s B c taken n m ∙ sym promise

    -- "only": a file of another version is not what is written
    pub newest-only : (u16 s 3 ≡ length layouts → ⊥) → take (file_length newest c) (write n c t).buffer ≡ s → ⊥
    newest-only o same = o (ap (λ (f : List ℕ). u16 f 3) (sym same ∙ done-file (length layouts) newest n c t (file_length newest c) any_done) ∙ newest-marked c t)
