-- Of Promised of specs/, what rests on its definitions.
use Rattle.std.specs.Prelude.{◌≡◌, ◌<◌, ◌*◌}
use Rattle.std.proofs.Common.{sym, ◌∙◌, subst}
use Rattle.seq.specs.Seq.{List, ℕ, length, get_or}
use Rattle.paper.specs.Refusal.{done}
use Rattle.paper.specs.Pieces.{Piece, vertices_of, edges_of}
use Rattle.paper.specs.Graph.{Graph}
use Rattle.paper.specs.Faces.{overlay_of}
use Rattle.laws_overlay.specs.Inside.{overlaid}
use Rattle.paper.specs.Tables.{Counts, Tables}
use Rattle.paper.specs.Lent.{Lengths, room_in, padded_tables}
use Rattle.laws_overlay.specs.Files.{AllPass, maps_of, maps-count, files-reach}
use Rattle.laws_refusals.specs.Room.{Fits}
use Rattle.laws_labels.specs.Demand3.{Agrees}
use Rattle.tables.specs.Answers as code
use Rattle.tables.specs.Values.{answer_of}
use Rattle.tables.specs.Promise.{Promised}
use Rattle.laws_promise.specs.Demands.{counts_for, tables_for, pair_for, Overlaid, done_is-overlaid, passes_is-overlaid}
use Rattle.laws_promise.specs.Defined.{Zeros, Labelled, Defined}
use Rattle.laws_promise.specs.Rows.{Pieced}
use Rattle.laws_promise.specs.Held.{overlay-pieced}
use Rattle.laws_promise.proofs.Held.{padded-zeros}
use Rattle.laws_promise.specs.VertexRows.{vertex-rows}
use Rattle.laws_promise.proofs.EdgeRows.{edge-rows}
use Rattle.laws_promise.proofs.HalfRows.{half-rows}
use Rattle.laws_promise.proofs.FaceRows.{pair-labelled, face-rows}
use Rattle.laws_promise.specs.Promised.{ms, keep, c, held, lengths-are}

-- ── files that pass ──

module _ (files : List (List ℕ)) (P : AllPass files) (l : Lengths) where
  abbrev t : Tables
  t = padded_tables l (tables_for files)

  abbrev ps : List Piece
  ps = edges_of (maps_of files) (vertices_of (maps_of files))

  abbrev g : Graph
  g = overlaid (maps_of files)

  N : Pieced (maps_of files) (edges_of (maps_of files) (vertices_of (maps_of files))) (overlaid (maps_of files))
  N = overlay-pieced (ms files P l) (keep files P l)

  labelled : (h i : ℕ) → h < 2 * (c files P l).edges → i < length (ms files P l) → Labelled (ms files P l) (c files P l) t i h (get_or (pair_for files h) i 0)
  unfolding overlay_of
  labelled = pair-labelled (ms files P l) (keep files P l) ps g N (c files P l) t (held files P l)

  module _ (F : Fits (room_in (length files) l) (counts_for files)) where
    pub padded-defined : Agrees (length files) (counts_for files) (padded_tables l (tables_for files)) (pair_for files) → Defined l files (counts_for files) (padded_tables l (tables_for files))
    padded-defined A = record {
      passes = P;
      room = F;
      lengths = lengths-are files P l F;
      vertices = vertex-rows (ms files P l) (keep files P l) (files-reach files P) (c files P l) t (held files P l);
      edges = edge-rows (ms files P l) (keep files P l) (c files P l) t (held files P l);
      halves = half-rows (ms files P l) ps g N (c files P l) t (held files P l);
      faces = face-rows (ms files P l) (keep files P l) ps g N (c files P l) t (held files P l);
      zeros = subst (λ (n : ℕ). Zeros n (c files P l) t) (maps-count files) (padded-zeros (ms files P l) (keep files P l) l);
      pair = pair_for files;
      pair_is = λ h i b m. labelled h i b (subst (λ (n : ℕ). i < n) (sym (maps-count files)) m);
      agrees = A;
    }

-- ── the promise ──

module _ (l : Lengths) (files : List (List ℕ)) (r : code.Answer) (t : Tables) (promise : Promised l files r t) where
  -- whenever it is done
  pub done_is-defined : (c : Counts) → answer_of r ≡ done c → Defined l files c t
  done_is-defined c e = overlaid (done_is-overlaid l files r t promise c e)
    where
      overlaid : Overlaid l files c t → Defined l files c t
      overlaid O =
          subst (λ (k : Counts). Defined l files k t) (sym O.counts-are)
          (subst (λ (v : Tables). Defined l files (counts_for files) v) (sym O.tables-are)
          (padded-defined files O.passes l O.fits
          (subst (λ (v : Tables). Agrees (length files) (counts_for files) v (pair_for files)) O.tables-are (subst (λ (k : Counts). Agrees (length files) k t (pair_for files)) O.counts-are O.agrees))))

  -- with no premise but the checks and room
  pub passes_is-defined : AllPass files → Fits (room_in (length files) l) (counts_for files) → (answer_of r ≡ done (counts_for files)) × Defined l files (counts_for files) t
  passes_is-defined P F =
      let d = (passes_is-overlaid l files r t promise P F).0 in
      (d, done_is-defined (counts_for files) d)
