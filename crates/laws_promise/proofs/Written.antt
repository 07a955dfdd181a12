-- Of Written of specs/, what rests on its definitions.
use Rattle.std.specs.Prelude.{◌≡◌, refl, ◌<◌, ◌≤◌, ◌∷◌, ◌*◌, ◌/◌, ◌^◌}
use Rattle.std.proofs.Common.{sym, ◌∙◌, ap, subst, le_refl, arith}
use Rattle.seq.specs.Seq.{List, [], none, ℕ, zero, suc, length, get_or, take, padded}
use Rattle.paper.specs.Limits.{maps}
use Rattle.paper.specs.Refusal.{done}
use Rattle.paper.specs.Map.{Map}
use Rattle.paper.specs.Pieces.{layer}
use Rattle.paper.specs.Tables.{Counts, Tables}
use Rattle.paper.specs.Lent.{Lengths, Outcome, room_in, lengths_of, padded_tables}
use Rattle.paper.specs.Overlay.{overlay}
use Rattle.paper.specs.Ovfile.{Layout, layouts, file_length, overlay_file, layout_of}
use Rattle.paper.specs.Writer.{Written, write_fault, write_by, write}
use Rattle.paper.specs.Reader.{read_by, read}
use Rattle.laws_graph.specs.Reading.{edges-count}
use Rattle.laws_map.specs.Keeps.{edges}
use Rattle.laws_map.proofs.Passes.{passes-form}
use Rattle.laws_overlay.specs.Maps.{AllKeep}
use Rattle.laws_overlay.specs.Files.{AllPass, maps_of, layer_is, maps-count, files-keep, files-bounded, files-labels}
use Rattle.laws_labels.specs.Done.{done-passes, done_fits, done-counts, done-tables}
use Rattle.laws_file.specs.Bytes.{Bytes}
use Rattle.laws_refusals.specs.Room.{Fits}
use Rattle.laws_file.specs.Agree.{padded-agree, file_same}
use Rattle.laws_roundtrip.specs.Sound.{GoodEdge}
use Rattle.laws_roundtrip.specs.Accepts.{is_write}
use Rattle.laws_roundtrip.specs.ReadCells.{exact_lengths}
use Rattle.laws_roundtrip.specs.Zeros.{padded-writes, padded-counted}
use Rattle.laws_roundtrip.specs.ReadWritten.{FacesFit, write_done, done-file}
use Rattle.laws_roundtrip.proofs.ReadWritten.{written_is_read}
use Rattle.tables.specs.Answers as code
use Rattle.tables.specs.Values.{answer_of, outcome_of}
use Rattle.tables.specs.Promise.{Promised}
use Rattle.laws_promise.specs.Demands.{counts_for, tables_for}
use Rattle.laws_promise.specs.Good.{good-edge, good-vertex, faces-fit, table-lengths}
use Rattle.laws_promise.specs.Written.{t, c, Wide, files, newest}

module _ (files : List (List ℕ)) (P : AllPass files) (B : (i : ℕ) → Bytes (get_or files i [])) where
  abbrev ms : List Map
  ms = maps_of files

  keep : AllKeep (maps_of files)
  keep = files-keep files P

  few_edges : (i : ℕ) → i < length (maps_of files) → edges (layer (maps_of files) i) < 256 ^ 2
  few_edges i l =
      let s = get_or files i [] in
      let f = (passes-form s (P i (subst (λ (n : ℕ). i < n) (maps-count files) l))).few_edges in
      subst (λ (m : Map). edges m < 256 ^ 2) (sym (layer_is files i)) (omega (arith, f, edges-count s))

  module _ (l : Layout) (q : l.maps ≡ length (maps_of files)) (wide : Wide l) (ls : Lengths) (R : Fits (room_in l.maps ls) (counts_for files)) where
    abbrev u : Tables
    u = padded_tables ls (t files P B)

    lengths-are : lengths_of (t files P B) ≡ exact_lengths l.maps (c files P B)
    lengths-are = table-lengths ms keep ∙ ap (λ (n : ℕ). exact_lengths n (c files P B)) (sym q)

    fit : FacesFit l.maps (c files P B) u
    fit f j b m =
        let F = subst (λ (n : ℕ). FacesFit n (c files P B) (t files P B)) (sym q) (faces-fit ms keep (omega (arith, R.vertices)) (omega (arith, R.edges)) (files-labels files (λ i. B i))) in
        subst (λ (x : ℕ). x < 256 ^ 2) (sym ((padded-agree l.maps (c files P B) ls (t files P B)).faces f j b m)) (F f j b m)

    accepted : (n : ℕ) → file_length l (c files P B) ≤ n → write_fault l n (lengths_of u) (c files P B) u ≡ none
    accepted n m =
        is_write l n (lengths_of u) (c files P B) u
        (padded-writes l n ls (c files P B) (t files P B) lengths-are R (λ v b. good-vertex ms keep v b (files-bounded files P) l wide)
        (λ k b. subst (λ (n : ℕ). GoodEdge n (c files P B) (t files P B) k) (sym q) (good-edge ms keep k b few_edges)) m)

    -- the same file as that of the tables without zeros past them
    same_file : (version : ℕ) → overlay_file version l (c files P B) u ≡ overlay_file version l (c files P B) (t files P B)
    same_file version = file_same version l (c files P B) u (t files P B) (padded-agree l.maps (c files P B) ls (t files P B))

    -- ── the tables are written ──

    pub tables-written : (version n : ℕ) → file_length l (counts_for files) ≤ n
        → write_by version l n (counts_for files) (padded_tables ls (tables_for files)) ≡ record { answer = done (file_length l (counts_for files)); buffer = padded 0 n (overlay_file version l (counts_for files) (tables_for files)) }
    tables-written version n m =
        write_done version l n (c files P B) u (accepted n m) ∙ ap (λ (s : List ℕ). record { answer = done (file_length l (c files P B)); buffer = padded 0 n s }) (same_file version)

  -- ── and the file is read ──

  module _ (known : List Layout) (version : ℕ) (some : 0 < version) (is_Known : version ≤ length known) (few : length known < 256 ^ 2) (q : (layout_of known version).maps ≡ length (maps_of files)) (wide : Wide (layout_of known version)) where
    pub tables-read : (ls : Lengths) → Fits (room_in (layout_of known version).maps ls) (counts_for files)
        → read_by (layout_of known version).maps known ls (overlay_file version (layout_of known version) (counts_for files) (tables_for files)) ≡ record { answer = done (counts_for files); tables = padded_tables ls (tables_for files) }
    tables-read ls R =
        let l = layout_of known version in
        ap (read_by l.maps known ls) (sym (same_file l q wide ls R version))
        ∙ written_is_read known version some is_Known few (file_length l (c files P B)) (c files P B) (padded_tables ls (t files P B)) ls (fit l q wide ls R) (accepted l q wide ls R (file_length l (c files P B)) (le_refl (file_length l (c files P B)))) R
        ∙ ap (λ (x : Tables). record { answer = done (c files P B); tables = padded_tables ls x }) (padded-counted l.maps ls (c files P B) (t files P B) (lengths-are l q wide ls R) R)

-- ── the operations as they stand: three files in, the newest version out ──

module _ (ls : Lengths) (a b z : List ℕ) (A : Bytes a) (B : Bytes b) (Z : Bytes z) (r : code.Answer) (t : Tables) (promise : Promised ls (a ∷ b ∷ z ∷ []) r t) (c : Counts) (e : answer_of r ≡ done c) where
  d : (overlay ls a b z).answer ≡ done c
  d = sym (ap (λ (o : Outcome). o.answer) promise) ∙ e

  passes : AllPass (files ls a b z A B Z r t promise c e)
  passes = done-passes ls (files ls a b z A B Z r t promise c e) c d

  bytes : (i : ℕ) → Bytes (get_or (files ls a b z A B Z r t promise c e) i [])
  bytes zero = A
  bytes (suc zero) = B
  bytes (suc (suc zero)) = Z
  bytes (suc (suc (suc i))) = λ j. omega arith

  counts-are : c ≡ counts_for (files ls a b z A B Z r t promise c e)
  counts-are = done-counts ls (files ls a b z A B Z r t promise c e) c d

  room : Fits (room_in maps ls) (counts_for (files ls a b z A B Z r t promise c e))
  room = let F = done_fits ls (files ls a b z A B Z r t promise c e) c d in record { vertices = F.vertices; edges = F.edges; faces = F.faces }

  tables-are : t ≡ padded_tables ls (tables_for (files ls a b z A B Z r t promise c e))
  tables-are = ap (λ (o : Outcome). o.tables) promise ∙ done-tables ls (files ls a b z A B Z r t promise c e) c d

  comes_out : outcome_of r t ≡ record { answer = done (counts_for (files ls a b z A B Z r t promise c e)); tables = padded_tables ls (tables_for (files ls a b z A B Z r t promise c e)) }
  comes_out = λ i. record { answer = (e ∙ ap done counts-are) i; tables = tables-are i }

  module _ (n : ℕ) (m : file_length newest c ≤ n) where
    m_is : file_length newest (counts_for (files ls a b z A B Z r t promise c e)) ≤ n
    m_is = subst (λ (x : Counts). file_length newest x ≤ n) counts-are m

    -- the tables that come out are written, for a buffer that is long enough
    pub overlay-written : (write n c t).answer ≡ done (file_length newest c)
    overlay-written =
        (λ i. (write n (counts-are i) (tables-are i)).answer)
        ∙ ap (λ (w : Written). w.answer) (tables-written (files ls a b z A B Z r t promise c e) passes bytes newest refl (omega arith) ls room (length layouts) n m_is)
        ∙ ap (λ (x : Counts). done (file_length newest x)) (sym counts-are)

    -- and reading the file gives what came out
    pub overlay_read : read ls (take (file_length newest c) (write n c t).buffer) ≡ outcome_of r t
    overlay_read =
        ap (read ls) (done-file (length layouts) newest n c t (file_length newest c) overlay-written)
        ∙ (λ i. read ls (overlay_file (length layouts) newest (counts-are i) (tables-are i)))
        ∙ ap (read ls) (same_file (files ls a b z A B Z r t promise c e) passes bytes newest refl (omega arith) ls room (length layouts))
        ∙ tables-read (files ls a b z A B Z r t promise c e) passes bytes layouts (length layouts) (omega arith) (omega arith) (omega arith) refl (omega arith) ls room
        ∙ sym comes_out
