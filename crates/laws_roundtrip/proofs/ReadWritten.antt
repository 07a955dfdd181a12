-- Of ReadWritten of specs/, what rests on its definitions.
use Rattle.std.specs.Prelude.{◌≡◌, ◌<◌, ◌≤◌, ◌*◌, ◌-◌, ◌^◌}
use Rattle.std.proofs.Common.{sym, ◌∙◌, ap, subst, arith}
use Rattle.seq.specs.Seq.{List, [], none, ℕ, length, take}
use Rattle.paper.specs.Limits.{maps}
use Rattle.paper.specs.Bytes.{u16}
use Rattle.paper.specs.Refusal.{done, answer}
use Rattle.paper.specs.Tables.{Counts, Tables}
use Rattle.paper.specs.Lent.{Lengths, room_in, lengths_of, padded_tables, outcome}
use Rattle.paper.specs.Ovfile.{Layout, layouts, file_length, overlay_file, layout_of}
use Rattle.paper.specs.Writer.{write_fault, write}
use Rattle.paper.specs.Reader.{counts_in, tables_in, numbers, read_fault, read_by, read}
use Rattle.laws_file.specs.Stands.{stands_self}
use Rattle.laws_refusals.specs.Room.{Fits}
use Rattle.laws_file.specs.Agree.{sound_same}
use Rattle.laws_file.specs.Placed.{Placed, length-file, file-placed}
use Rattle.laws_file.specs.Fields.{mark-read}
use Rattle.laws_file.proofs.Fields.{version-read, counts-read}
use Rattle.laws_roundtrip.specs.Sound.{SoundEdge, sound_is, is_sound, GoodEdge, GoodVertex}
use Rattle.laws_roundtrip.specs.Accepts.{Writes, write_is, Reads, is_read}
use Rattle.laws_roundtrip.specs.ReadCells.{exact_lengths, read-lengths}
use Rattle.laws_roundtrip.specs.Counted.{counted, room_rows, agree-counted}
use Rattle.laws_roundtrip.specs.ReadWritten.{v3, q, u, read-agrees, sound, FacesFit, l, done-file, done-accepts}

-- ── what is read of the bytes of good tables ──

module _ (version : ℕ) (l : Layout) (c : Counts) (t : Tables) (s : List ℕ) (P : Placed version l c t s) (W : Fits numbers c)
    (G : (v : ℕ) → v < c.vertices → GoodVertex l c t v) (E : (k : ℕ) → k < c.edges → GoodEdge l.maps c t k) (F : FacesFit l.maps c t) where
  -- ── the tables ──

  module _ (versions : ℕ) (ls : Lengths) (long : length s ≡ file_length l c) (some : 0 < version) (known : version ≤ versions) (few : versions < 256 ^ 2) (R : Fits (room_in l.maps ls) c) where
    pub accepted : Reads l.maps versions l ls s (tables_in l.maps l s)
    accepted = record {
      long = omega arith;
      mark = mark-read version l c t s P;
      version = omega (arith, v3 version l c t s P W G E F versions ls long some known few R);
      known = omega (arith, v3 version l c t s P W G E F versions ls long some known few R);
      within = subst (Fits numbers) (sym (q version l c t s P W G E F)) W;
      exact = long ∙ ap (file_length l) (sym (q version l c t s P W G E F));
      sound = λ k b. subst (λ (d : Counts). SoundEdge l.maps d (u version l c t s P W G E F) k) (sym (q version l c t s P W G E F)) (sound_of k (subst (λ (d : Counts). k < d.edges) (q version l c t s P W G E F) b));
      room = subst (Fits (room_in l.maps ls)) (sym (q version l c t s P W G E F)) R;
    }
      where
        sound_of : (k : ℕ) → k < c.edges → SoundEdge l.maps c (u version l c t s P W G E F) k
        sound_of k b = sound_is l.maps c (u version l c t s P W G E F) k (sound_same l.maps c (u version l c t s P W G E F) t (read-agrees version l c t s P W G E F) k b ∙ is_sound l.maps c t k (sound version l c t s P W G E F k b))

-- ── over any list of known versions ──

module _ (known : List Layout) (version : ℕ) (some : 0 < version) (is_Known : version ≤ length known) (few : length known < 256 ^ 2) where
  pub written_is_read : (n : ℕ) (c : Counts) (t : Tables) (ls : Lengths) → FacesFit (layout_of known version).maps c t → write_fault (layout_of known version) n (lengths_of t) c t ≡ none → Fits (room_in (layout_of known version).maps ls) c
      → read_by (layout_of known version).maps known ls (overlay_file version (layout_of known version) c t) ≡ record { answer = done c; tables = padded_tables ls (counted (layout_of known version).maps c t) }
  written_is_read n c t ls F e R =
      (λ i. let lo : Layout = layout_of known (v3 i) in outcome ls (counts_in s) (tables_in (l known version some is_Known few).maps lo s) (read_fault (l known version some is_Known few).maps (length known) lo ls s (tables_in (l known version some is_Known few).maps lo s)))
      ∙ ap (outcome ls (counts_in s) (tables_in (l known version some is_Known few).maps (l known version some is_Known few) s)) (is_read (l known version some is_Known few).maps (length known) (l known version some is_Known few) ls s (tables_in (l known version some is_Known few).maps (l known version some is_Known few) s) reads)
      ∙ (λ i. outcome ls (counts i) (rows_are i) none)
    where
      s : List ℕ
      s = overlay_file version (l known version some is_Known few) c t

      P : Placed version (l known version some is_Known few) c t s
      P = file-placed version (l known version some is_Known few) c t s (stands_self s)

      W : Writes (l known version some is_Known few) n (lengths_of t) c t
      W = write_is (l known version some is_Known few) n (lengths_of t) c t e

      within : Fits numbers c
      within = record { vertices = omega (arith, W.room.vertices); edges = omega (arith, W.room.edges); faces = omega (arith, W.room.faces) }

      v3 : u16 s 3 ≡ version
      v3 = version-read version (l known version some is_Known few) c t s P (omega arith)

      counts : counts_in s ≡ c
      counts = counts-read version (l known version some is_Known few) c t s P (omega (arith, within.vertices)) (omega (arith, within.edges)) (omega (arith, within.faces))

      reads : Reads (l known version some is_Known few).maps (length known) (l known version some is_Known few) ls s (tables_in (l known version some is_Known few).maps (l known version some is_Known few) s)
      reads = accepted version (l known version some is_Known few) c t s P within W.vertex W.edge F (length known) ls (length-file version (l known version some is_Known few) c t) some is_Known few R

      rows_are : tables_in (l known version some is_Known few).maps (l known version some is_Known few) s ≡ counted (l known version some is_Known few).maps c t
      rows_are =
          agree-counted (l known version some is_Known few).maps c (tables_in (l known version some is_Known few).maps (l known version some is_Known few) s) t (read-agrees version (l known version some is_Known few) c t s P within W.vertex W.edge F)
          (read-lengths (l known version some is_Known few).maps (l known version some is_Known few) s ∙ ap (exact_lengths (l known version some is_Known few).maps) counts) (room_rows (l known version some is_Known few).maps c (lengths_of t) W.room)

-- ── the reader and the writer ──

module _ (n : ℕ) (c : Counts) (t : Tables) (F : FacesFit maps c t) (k : ℕ) (d : (write n c t).answer ≡ done k) where
  -- into tables with room
  pub read-written : (ls : Lengths) → Fits (room_in maps ls) c → read ls (take k (write n c t).buffer) ≡ record { answer = done c; tables = padded_tables ls (counted maps c t) }
  read-written ls R =
      ap (read ls) (done-file (length layouts) (layout_of layouts (length layouts)) n c t k d)
      ∙ written_is_read layouts (length layouts) (omega arith) (omega arith) (omega arith) n c t ls F (done-accepts (length layouts) (layout_of layouts (length layouts)) n c t k d) R

  -- into tables of the same lengths, where past the counts there are zeros: the same tables
  pub read_back : t ≡ padded_tables (lengths_of t) (counted maps c t) → read (lengths_of t) (take k (write n c t).buffer) ≡ record { answer = done c; tables = t }
  read_back z =
      read-written (lengths_of t) (write_is (layout_of layouts (length layouts)) n (lengths_of t) c t (done-accepts (length layouts) (layout_of layouts (length layouts)) n c t k d)).room
      ∙ ap (λ (u : Tables). record { answer = done c; tables = u }) (sym z)
