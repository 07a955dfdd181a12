-- Of WrittenRead of specs/, what rests on its definitions.
use Rattle.std.specs.Prelude.{◌≡◌, ◌<◌, ◌≤◌, ◌+◌, ◌*◌, ◌/◌, ◌%◌}
use Rattle.std.proofs.Common.{sym, ◌∙◌, ap, arith}
use Rattle.seq.specs.Seq.{List, Option, none, ℕ, length, padded}
use Rattle.paper.specs.Limits.{maps}
use Rattle.paper.specs.Bytes.{u16}
use Rattle.paper.specs.Refusal.{Refusal, done, unless_refused}
use Rattle.paper.specs.Tables.{Counts}
use Rattle.paper.specs.Lent.{Lengths, padded_tables, zero_tables}
use Rattle.paper.specs.Ovfile.{Layout, layouts, layout_of}
use Rattle.paper.specs.Writer.{write_by, write}
use Rattle.paper.specs.Reader.{counts_in, tables_in, read_fault, read_by, read}
use Rattle.laws_refusals.specs.Refusals.{done_none}
use Rattle.laws_file.specs.Bytes.{Bytes}
use Rattle.laws_roundtrip.specs.Accepts.{Reads, read_is}
use Rattle.laws_roundtrip.specs.WrittenRead.{l, written}

-- ── of a version that the writer writes ──

module _ (known : List Layout) (version : ℕ) (some_bytes : 0 < (layout_of known version).coordinate) (s : List ℕ) (B : Bytes s) (is-version : u16 s 3 ≡ version) (ls : Lengths) (c : Counts)
    (d : (read_by (layout_of known version).maps known ls s).answer ≡ done c) where
  -- the fault by a layout
  abbrev fault_by : Layout → Option Refusal
  fault_by lo = read_fault (l known version some_bytes s B is-version ls c d).maps (length known) lo ls s (tables_in (l known version some_bytes s B is-version ls c d).maps lo s)

  none_by : (fault_by (layout_of known (u16 s 3)) ≡ none) × (counts_in s ≡ c)
  none_by = done_none (counts_in s) c (fault_by (layout_of known (u16 s 3))) d

  accepted : Reads (l known version some_bytes s B is-version ls c d).maps (length known) (l known version some_bytes s B is-version ls c d) ls s (tables_in (l known version some_bytes s B is-version ls c d).maps (l known version some_bytes s B is-version ls c d) s)
  accepted = read_is (l known version some_bytes s B is-version ls c d).maps (length known) (l known version some_bytes s B is-version ls c d) ls s (tables_in (l known version some_bytes s B is-version ls c d).maps (l known version some_bytes s B is-version ls c d) s) (ap (λ (v : ℕ). fault_by (layout_of known v)) (sym is-version) ∙ none_by.0)

  tables-are : (read_by (l known version some_bytes s B is-version ls c d).maps known ls s).tables ≡ padded_tables ls (tables_in (l known version some_bytes s B is-version ls c d).maps (l known version some_bytes s B is-version ls c d) s)
  tables-are =
      ap (λ (r : Option Refusal). unless_refused (padded_tables ls (tables_in (l known version some_bytes s B is-version ls c d).maps (layout_of known (u16 s 3)) s)) (zero_tables ls) r) none_by.0
      ∙ ap (λ (v : ℕ). padded_tables ls (tables_in (l known version some_bytes s B is-version ls c d).maps (layout_of known v) s)) is-version

  pub read_is_written : (n : ℕ) → length s ≤ n
      → write_by version (layout_of known version) n c (read_by (layout_of known version).maps known ls s).tables ≡ record { answer = done (length s); buffer = padded 0 n s }
  read_is_written n m =
      (λ i. write_by (sym is-version i) (l known version some_bytes s B is-version ls c d) n (sym none_by.1 i) (tables-are i)) ∙ written (l known version some_bytes s B is-version ls c d) some_bytes s B (length known) ls accepted n m

-- ── the reader and the writer ──

pub written_read : (ls : Lengths) (s : List ℕ) → Bytes s → (c : Counts) → (read ls s).answer ≡ done c → u16 s 3 ≡ length layouts → (n : ℕ) → length s ≤ n
    → write n c (read ls s).tables ≡ record { answer = done (length s); buffer = padded 0 n s }
written_read ls s B c d v = read_is_written layouts (length layouts) (omega arith) s B v ls c d
