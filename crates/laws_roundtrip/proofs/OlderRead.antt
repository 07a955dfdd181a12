-- Of OlderRead of specs/, what rests on its definitions.
use Rattle.std.specs.Prelude.{◌≡◌, ◌<◌, ◌≤◌, ◌-◌, ◌^◌}
use Rattle.std.proofs.Common.{sym, ◌∙◌, ap, subst, le_refl, arith}
use Rattle.seq.specs.Seq.{List, ℕ, length, take}
use Rattle.paper.specs.Limits.{maps}
use Rattle.paper.specs.Bytes.{u16}
use Rattle.paper.specs.Refusal.{done}
use Rattle.paper.specs.Tables.{Counts, Tables}
use Rattle.paper.specs.Lent.{Lengths, padded_tables}
use Rattle.paper.specs.Ovfile.{Layout, layouts, file_length, layout_of}
use Rattle.paper.specs.Writer.{write_by, write}
use Rattle.paper.specs.Reader.{counts_in, read_by, read}
use Rattle.laws_file.specs.Bytes.{Bytes}
use Rattle.laws_file.specs.Agree.{padded-agree}
use Rattle.laws_roundtrip.specs.ReadCells.{read-lengths}
use Rattle.laws_roundtrip.specs.Zeros.{padded-counted}
use Rattle.laws_roundtrip.specs.ReadWritten.{FacesFit, done-file}
use Rattle.laws_roundtrip.proofs.ReadWritten.{written_is_read}
use Rattle.laws_roundtrip.specs.ReadGood.{read-faces-fit}
use Rattle.laws_roundtrip.specs.OlderRead.{l, t, u, lo, none_by, same_written, written_so, accepts, accepted, was_read, bytes}

-- ── over any list of known versions ──

module _ (known : List Layout) (some : 0 < length known) (few : length known < 256 ^ 2) (s : List ℕ) (B : Bytes s) (ls : Lengths) (c : Counts)
    (some_bytes : 0 < (layout_of known (u16 s 3)).coordinate) (more_bytes : (layout_of known (u16 s 3)).coordinate ≤ (layout_of known (length known)).coordinate)
    (d : (read_by (layout_of known (length known)).maps known ls s).answer ≡ done c) where
  -- ── it is written ──

  module _ (n : ℕ) (m : file_length (layout_of known (length known)) c ≤ n) where
    -- ── and read again ──

    fit : FacesFit (l known some few s B ls c some_bytes more_bytes d).maps (counts_in s) (t known some few s B ls c some_bytes more_bytes d)
    fit f j b q = subst (λ (x : ℕ). x < 256 ^ 2) (sym ((padded-agree (l known some few s B ls c some_bytes more_bytes d).maps (counts_in s) ls (u known some few s B ls c some_bytes more_bytes d)).faces f j b q)) (read-faces-fit (l known some few s B ls c some_bytes more_bytes d).maps (lo known some few s B ls c some_bytes more_bytes d) s B f j b q)

    pub any_read : read_by (layout_of known (length known)).maps known ls (take (file_length (layout_of known (length known)) c) (write_by (length known) (layout_of known (length known)) n c (read_by (layout_of known (length known)).maps known ls s).tables).buffer)
        ≡ read_by (layout_of known (length known)).maps known ls s
    any_read =
        (λ i. read_by (l known some few s B ls c some_bytes more_bytes d).maps known ls (take (file_length (l known some few s B ls c some_bytes more_bytes d) (sym (none_by known some few s B ls c some_bytes more_bytes d).1 i)) (same_written known some few s B ls c some_bytes more_bytes d n m i).buffer))
        ∙ ap (read_by (l known some few s B ls c some_bytes more_bytes d).maps known ls) (done-file (length known) (l known some few s B ls c some_bytes more_bytes d) n (counts_in s) (t known some few s B ls c some_bytes more_bytes d) (file_length (l known some few s B ls c some_bytes more_bytes d) (counts_in s)) (written_so known some few s B ls c some_bytes more_bytes d n m))
        ∙ written_is_read known (length known) some (le_refl (length known)) few n (counts_in s) (t known some few s B ls c some_bytes more_bytes d) ls fit (accepts known some few s B ls c some_bytes more_bytes d n m) (accepted known some few s B ls c some_bytes more_bytes d).room
        ∙ ap (λ (x : Tables). record { answer = done (counts_in s); tables = padded_tables ls x }) (padded-counted (l known some few s B ls c some_bytes more_bytes d).maps ls (counts_in s) (u known some few s B ls c some_bytes more_bytes d) (read-lengths (l known some few s B ls c some_bytes more_bytes d).maps (lo known some few s B ls c some_bytes more_bytes d) s) (accepted known some few s B ls c some_bytes more_bytes d).room)
        ∙ sym (was_read known some few s B ls c some_bytes more_bytes d)

-- ── the reader and the writer ──

module _ (ls : Lengths) (s : List ℕ) (B : Bytes s) (c : Counts) (d : (read ls s).answer ≡ done c) where
  module _ (n : ℕ) (m : file_length (layout_of layouts (length layouts)) c ≤ n) where
    pub older-read : read ls (take (file_length (layout_of layouts (length layouts)) c) (write n c (read ls s).tables).buffer) ≡ read ls s
    older-read = any_read layouts (omega arith) (omega arith) s B ls c (bytes ls s B c d).0 (bytes ls s B c d).1 d n m
