-- What comes out of melting, from its promise alone (`PromisedMelted`, crates/tables/specs/Promise.antt), of any list of map files: r is what it answers, t what the tables hold, l the tables' lengths. Whenever it is
-- done, `Melted` (`melted-passes`). "Refusals: the overlay's, 11 included, which is judged on the overlay before melting" (02, Ask 12): it is refused exactly where the overlay is, with the same refusal, and done exactly
-- where the overlay is (`melted-refused`, `refused-melted`, `melted-done`, `done-melted`), for there is room for the melted tables wherever there is for the overlay's. No second outcome keeps the promise
-- (`melted-once`). Assumes nothing.
use Rattle.std.specs.Prelude.{◌≡◌, ◌<◌, ◌++◌}
use Rattle.std.proofs.Common.{sym, ◌∙◌, ap, subst}
use Rattle.seq.specs.Seq.{List, [], Option, none, some, ℕ, length, get_or}
use Rattle.seq.specs.Unique.{determined}
use Rattle.paper.specs.Refusal.{Refusal, done, refused, first_of, answer, unless_refused}
use Rattle.paper.specs.Map.{Map, fault}
use Rattle.paper.specs.Faces.{overlay_of, labels_of, sources_of}
use Rattle.paper.specs.Tables.{Counts, Tables, counts_of, tables_of}
use Rattle.paper.specs.Lent.{Lengths, lengths_of, Outcome, room_in, room_faults, padded_tables, zero_tables}
use Rattle.paper.specs.Overlay.{map_faults, lent}
use Rattle.paper.specs.Melt.{melted_pieces, melted_graph, melted_of, lent_melted}
use Rattle.laws_refusals.specs.Refusals.{done_none, refused_some}
use Rattle.laws_refusals.specs.Room.{Fits}
use Rattle.laws_overlay.specs.Maps.{AllKeep}
use Rattle.laws_overlay.specs.Cells.{vertices_long, halves_long, sources_long, faces_long}
use Rattle.laws_overlay.specs.Files.{AllPass, maps_of, maps-count, files-keep}
use Rattle.laws_labels.specs.Demand3.{Agrees}
use Rattle.laws_labels.specs.Done.{passes-done, done-passes, done_fits}
use Rattle.laws_roundtrip.specs.ReadCells.{exact_lengths}
use Rattle.laws_roundtrip.specs.Zeros.{padded-lengths}
use Rattle.laws_melt.specs.Whole.{melted_fits}
use Rattle.laws_promise.specs.Defined.{Zeros}
use Rattle.laws_promise.specs.Rows.{rows-zeros}
use Rattle.laws_promise.specs.Demands.{counts_for}
use Rattle.tables.specs.Answers as code
use Rattle.tables.specs.Values.{answer_of, outcome_of}
use Rattle.tables.specs.Promise.{Promised, PromisedMelted}
use Rattle.tables.specs.Unique.{answer-once}
use Rattle.laws_melted.specs.Rows.{melted-pieced}
use Rattle.laws_melted.specs.Agree.{melted-agree}

-- of a list of files, what is left of the defined overlay: its counts, its tables, and the labels of its half-edge h, one for each map
abbrev pub melted_counts : List (List ℕ) → Counts
melted_counts files = counts_of (melted_of (maps_of files))

abbrev pub melted_tables : List (List ℕ) → Tables
melted_tables files = tables_of (maps_of files) (melted_of (maps_of files))

abbrev pub melted_pair : List (List ℕ) → ℕ → List ℕ
melted_pair files h = labels_of (maps_of files) (melted_of (maps_of files)) h

-- the files melted together, done in tables of the lengths l
pub record Melted (l : Lengths) (files : List (List ℕ)) (c : Counts) (t : Tables) : Type 0 where
  -- every map passes, and there is room for the overlay; so there is for what is left of it
  pub passes : (i : ℕ) → i < length files → fault (get_or files i []) ≡ none
  pub fits : Fits (room_in (length files) l) (counts_for files)
  pub fits_left : Fits (room_in (length files) l) c
  -- the counts, and every cell of every table, are the definition's, with zeros past the counts
  pub counts-are : c ≡ melted_counts files
  pub tables-are : t ≡ padded_tables l (melted_tables files)
  pub lengths : lengths_of t ≡ l
  pub zeros : Zeros (length files) c t
  -- demand 3: the labels agree
  pub agrees : Agrees (length files) c t (melted_pair files)

module _ (ms : List Map) (K : AllKeep ms) (l : Lengths) where
  sources-wide : (k : ℕ) → k < (counts_of (melted_of ms)).edges → length (sources_of (melted_of ms) k) ≡ length ms
  unfolding melted_of
  sources-wide k l = ((melted-pieced ms K).sourced k l).width

  exact : lengths_of (tables_of ms (melted_of ms)) ≡ exact_lengths (length ms) (counts_of (melted_of ms))
  exact i = record {
    vertices = vertices_long ms (melted_of ms) i;
    halves = halves_long ms (melted_of ms) i;
    sources = sources_long ms (melted_of ms) sources-wide i;
    faces = faces_long ms (melted_of ms) i;
  }

  past_zero : Zeros (length ms) (counts_of (melted_of ms)) (padded_tables l (tables_of ms (melted_of ms)))
  unfolding melted_of
  past_zero = rows-zeros ms (melted_pieces ms (overlay_of ms)) (melted_graph ms (overlay_of ms)) (melted-pieced ms K) l

-- ── what is answered ──

module _ (l : Lengths) (files : List (List ℕ)) where
  -- the first thing that is found, the same for the overlay and for melting
  abbrev pub found : Option Refusal
  found = first_of (map_faults files ++ room_faults (room_in (length files) l) (counts_for files))

  found-done : (c : Counts) → (lent_melted l files).answer ≡ done c → (found ≡ none) × (melted_counts files ≡ c)
  found-done c d = done_none (melted_counts files) c found d

  found-refused : (x : Refusal) → (lent_melted l files).answer ≡ refused x → found ≡ some x
  found-refused x d = refused_some (melted_counts files) x found d

  -- done in those lengths: the overlay is
  overlay-done : (c : Counts) → (lent_melted l files).answer ≡ done c → (lent l files).answer ≡ done (counts_for files)
  overlay-done c d = ap (answer (counts_for files)) (found-done c d).0

module _ (l : Lengths) (files : List (List ℕ)) (r : code.Answer) (t : Tables) (promise : PromisedMelted l files r t) where
  answered : answer_of r ≡ (lent_melted l files).answer
  answered = ap (λ (o : Outcome). o.answer) promise

  held : t ≡ (lent_melted l files).tables
  held = ap (λ (o : Outcome). o.tables) promise

  abbrev made : Tables
  made = padded_tables l (melted_tables files)

  -- ── whenever it is done ──

  module _ (c : Counts) (e : answer_of r ≡ done c) where
    d : (lent_melted l files).answer ≡ done c
    d = sym answered ∙ e

    over : (lent l files).answer ≡ done (counts_for files)
    over = overlay-done l files c d

    keep : AllKeep (maps_of files)
    keep = files-keep files (done-passes l files (counts_for files) over)

    room : Fits (room_in (length files) l) (melted_counts files)
    room = melted_fits (maps_of files) keep (room_in (length files) l) (done_fits l files (counts_for files) over)

    counts : c ≡ melted_counts files
    counts = sym (found-done l files c d).1

    tables : t ≡ padded_tables l (melted_tables files)
    tables = held ∙ ap (unless_refused made (zero_tables l)) (found-done l files c d).0

    -- of what the definition gives
    at : (P : ℕ → Counts → Tables → Type 0) → P (length (maps_of files)) (melted_counts files) (padded_tables l (melted_tables files)) → P (length files) c t
    at P p =
        subst (λ (k : Counts). P (length files) k t) (sym counts)
        (subst (λ (u : Tables). P (length files) (melted_counts files) u) (sym tables) (subst (λ (n : ℕ). P n (melted_counts files) made) (maps-count files) p))

    pub melted-passes : Melted l files c t
    melted-passes = record {
      passes = done-passes l files (counts_for files) over;
      fits = done_fits l files (counts_for files) over;
      fits_left = subst (Fits (room_in (length files) l)) (sym counts) room;
      counts-are = counts;
      tables-are = tables;
      lengths = ap lengths_of tables
          ∙ padded-lengths (length files) l (melted_counts files) (melted_tables files) (exact (maps_of files) keep l ∙ ap (λ (n : ℕ). exact_lengths n (melted_counts files)) (maps-count files)) room;
      zeros = at Zeros (past_zero (maps_of files) keep l);
      agrees = at (λ n k u. Agrees n k u (melted_pair files)) (melted-agree (maps_of files) keep l);
    }

    -- then the overlay is done
    pub melted-done : (lent l files).answer ≡ done (counts_for files)
    melted-done = over

  -- and wherever the overlay is
  pub done-melted : (c : Counts) → (lent l files).answer ≡ done c → (answer_of r ≡ done (melted_counts files)) × Melted l files (melted_counts files) t
  done-melted c e =
      let d = answered ∙ ap (answer (melted_counts files)) (done_none (counts_for files) c (found l files) e).0 in
      (d, melted-passes (melted_counts files) d)

  -- with no premise but the checks and room for the overlay
  pub passes-melted : AllPass files → Fits (room_in (length files) l) (counts_for files) → (answer_of r ≡ done (melted_counts files)) × Melted l files (melted_counts files) t
  passes-melted P F = done-melted (counts_for files) (passes-done l files P F)

  -- ── whenever it is refused ──

  -- with the overlay's refusal, and every cell of every table is zero
  pub melted-refused : (x : Refusal) → answer_of r ≡ refused x → ((lent l files).answer ≡ refused x) × (t ≡ zero_tables l)
  melted-refused x e =
      let f = found-refused l files x (sym answered ∙ e) in
      (ap (answer (counts_for files)) f, held ∙ ap (unless_refused made (zero_tables l)) f)

  pub refused-melted : (x : Refusal) → (lent l files).answer ≡ refused x → (answer_of r ≡ refused x) × (t ≡ zero_tables l)
  refused-melted x e =
      let f = refused_some (counts_for files) x (found l files) e in
      (answered ∙ ap (answer (melted_counts files)) f, held ∙ ap (unless_refused made (zero_tables l)) f)

-- beside the overlay of the same files in tables of the same lengths, which answers q: the same refusal, whichever of the two refuses
module _ (l : Lengths) (files : List (List ℕ)) (q r : code.Answer) (u t : Tables) (overlay : Promised l files q u) (promise : PromisedMelted l files r t) where
  overlay-answered : answer_of q ≡ (lent l files).answer
  overlay-answered = ap (λ (o : Outcome). o.answer) overlay

  pub same_refusal : (x : Refusal) → answer_of r ≡ refused x → r ≡ q
  same_refusal x e = answer-once r q (e ∙ sym (melted-refused l files r t promise x e).0 ∙ sym overlay-answered)

  pub refusal_same : (x : Refusal) → answer_of q ≡ refused x → r ≡ q
  refusal_same x e = answer-once r q ((refused-melted l files r t promise x (sym overlay-answered ∙ e)).0 ∙ sym e)

-- ── no second outcome ──

pub melted-once : (l : Lengths) (files : List (List ℕ)) (r s : code.Answer) (t u : Tables) → PromisedMelted l files r t → PromisedMelted l files s u → (r ≡ s) × (t ≡ u)
melted-once l files r s t u e g =
    let d = determined (lent_melted l) files (outcome_of r t) (outcome_of s u) e g in
    (answer-once r s (ap (λ (o : Outcome). o.answer) d), ap (λ (o : Outcome). o.tables) d)
