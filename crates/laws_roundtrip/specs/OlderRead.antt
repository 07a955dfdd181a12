-- "writing what was read gives the same bytes only for the newest version" (02, Ask 7); "The writer writes 3, the reader takes all three versions (a missing third source or label is 0)" (02, Ask 13). Of a file of any known version, an older one too: the tables
-- that were read are written in the newest, and reading that file gives what was read. First over any list of known versions, the newest of which has no fewer bytes for a coordinate (`any_read`), then for
-- the reader and the writer as they stand (`older-read`). Assumes nothing.
use Rattle.std.specs.Prelude.{◌≡◌, ◌<◌, ◌≤◌, ◌-◌, ◌^◌}
use Rattle.std.proofs.Common.{sym, ◌∙◌, ap, subst, not-suc-le-zero, le_of_suc-le-suc, arith}
use Rattle.seq.specs.Seq.{List, none, ℕ, zero, suc, length}
use Rattle.paper.specs.Limits.{coordinate_bytes, maps}
use Rattle.paper.specs.Bytes.{u16}
use Rattle.paper.specs.Refusal.{done}
use Rattle.paper.specs.Tables.{Counts, Tables}
use Rattle.paper.specs.Lent.{Lengths, lengths_of, padded_tables, outcome}
use Rattle.paper.specs.Ovfile.{Layout, layouts, file_length, layout_of}
use Rattle.paper.specs.Writer.{Written, write_fault, write_by, write}
use Rattle.paper.specs.Reader.{counts_in, tables_in, read_fault, read_by, read}
use Rattle.laws_refusals.specs.Refusals.{done_none}
use Rattle.laws_file.specs.Bytes.{Bytes}
use Rattle.laws_roundtrip.specs.Accepts.{is_write, Reads, read_is}
use Rattle.laws_roundtrip.specs.ReadCells.{read-lengths}
use Rattle.laws_roundtrip.specs.Zeros.{padded-writes}
use Rattle.laws_roundtrip.specs.ReadWritten.{write_done}
use Rattle.laws_roundtrip.specs.ReadGood.{good-vertex, good-edge}

-- ── over any list of known versions ──

module _ (known : List Layout) (some : 0 < length known) (few : length known < 256 ^ 2) (s : List ℕ) (B : Bytes s) (ls : Lengths) (c : Counts)
    (some_bytes : 0 < (layout_of known (u16 s 3)).coordinate) (more_bytes : (layout_of known (u16 s 3)).coordinate ≤ (layout_of known (length known)).coordinate)
    (d : (read_by (layout_of known (length known)).maps known ls s).answer ≡ done c) where
  -- the newest layout, and the file's
  abbrev pub l : Layout
  l = layout_of known (length known)

  abbrev pub lo : Layout
  lo = layout_of known (u16 s 3)

  abbrev pub u : Tables
  u = tables_in l.maps lo s

  abbrev pub t : Tables
  t = padded_tables ls u

  pub none_by : (read_fault l.maps (length known) lo ls s u ≡ none) × (counts_in s ≡ c)
  none_by = done_none (counts_in s) c (read_fault l.maps (length known) lo ls s u) d

  pub accepted : Reads l.maps (length known) lo ls s u
  accepted = read_is l.maps (length known) lo ls s u none_by.0

  pub was_read : read_by l.maps known ls s ≡ record { answer = done (counts_in s); tables = t }
  was_read = ap (outcome ls (counts_in s) u) none_by.0

  -- ── it is written ──

  module _ (n : ℕ) (m : file_length (layout_of known (length known)) c ≤ n) where
    pub accepts : write_fault l n (lengths_of t) (counts_in s) t ≡ none
    accepts =
        is_write l n (lengths_of t) (counts_in s) t
        (padded-writes l n ls (counts_in s) u (read-lengths l.maps lo s) accepted.room (good-vertex l.maps lo s B some_bytes l more_bytes) (good-edge l.maps lo s B (length known) ls accepted)
        (subst (λ (x : Counts). file_length l x ≤ n) (sym none_by.1) m))

    pub written_so : (write_by (length known) l n (counts_in s) t).answer ≡ done (file_length l (counts_in s))
    written_so = ap (λ (w : Written). w.answer) (write_done (length known) l n (counts_in s) t accepts)

    -- the same counts and tables, by the names of the statement
    pub same_written : write_by (length known) l n c (read_by l.maps known ls s).tables ≡ write_by (length known) l n (counts_in s) t
    same_written i = write_by (length known) l n (sym none_by.1 i) (was_read i).tables

    pub any_written : (write_by (length known) (layout_of known (length known)) n c (read_by (layout_of known (length known)).maps known ls s).tables).answer ≡ done (file_length (layout_of known (length known)) c)
    any_written = ap (λ (w : Written). w.answer) same_written ∙ written_so ∙ ap (λ (x : Counts). done (file_length l x)) none_by.1

-- ── the reader and the writer ──

-- a coordinate has some bytes in every version, and in none more than in the newest
some_of_each : (i : ℕ) → i < length layouts → (0 < (layout_of layouts (suc i)).coordinate) × ((layout_of layouts (suc i)).coordinate ≤ coordinate_bytes)
some_of_each zero h = (omega arith, omega arith)
some_of_each (suc zero) h = (omega arith, omega arith)
some_of_each (suc (suc zero)) h = (omega arith, omega arith)
some_of_each (suc (suc (suc i))) h = absurd (not-suc-le-zero (le_of_suc-le-suc (le_of_suc-le-suc (le_of_suc-le-suc h))))

module _ (ls : Lengths) (s : List ℕ) (B : Bytes s) (c : Counts) (d : (read ls s).answer ≡ done c) where
  pub bytes : (0 < (layout_of layouts (u16 s 3)).coordinate) × ((layout_of layouts (u16 s 3)).coordinate ≤ coordinate_bytes)
  bytes =
      let at = layout_of layouts (u16 s 3) in
      let R = read_is maps (length layouts) at ls s (tables_in maps at s) (done_none (counts_in s) c (read_fault maps (length layouts) at ls s (tables_in maps at s)) d).0 in
      let e : suc (u16 s 3 - 1) ≡ u16 s 3 = omega (arith, R.version) in
      subst (λ (v : ℕ). (0 < (layout_of layouts v).coordinate) × ((layout_of layouts v).coordinate ≤ coordinate_bytes)) e (some_of_each (u16 s 3 - 1) (omega (arith, R.version, R.known)))

  module _ (n : ℕ) (m : file_length (layout_of layouts (length layouts)) c ≤ n) where
    pub older-written : (write n c (read ls s).tables).answer ≡ done (file_length (layout_of layouts (length layouts)) c)
    older-written = any_written layouts (omega arith) (omega arith) s B ls c bytes.0 bytes.1 d n m
