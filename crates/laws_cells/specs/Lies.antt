-- "Each sounding gets one label pair" (02, Ask 3), and it is the pair stored for the face that the sounding lies in. "A sounding at p belongs to what lies just east of p and just north of its height: look west
-- with edges through p counted as west, nearest by greatest x, then smallest upward angle": that look is in the lent tables, over their own points and edges, in 01's words and with no algorithm (`LiesIn`), while
-- the labels of a sounding are found by a look in each map, which knows nothing of an overlay (`cell_of`). From the overlay's promise alone (`Promised`, crates/tables/specs/Promise.antt), of any number of map
-- files, whenever it is done: the labels of a sounding are those stored for the face that it lies in (`cell-stored`), for a list `cells-stored`; it lies in a face (`lies_somewhere`) and in no second (`lies-once`).
-- Soundings are counted by two maps and the overlay has three: in some of its maps, `first_stored`; in two of three, `pair-stored`, `pairs-stored`, and the counts that come out, `times-stored`. Assumes nothing.
use Rattle.std.specs.Prelude.{◌≡◌, refl, ◌<◌, ◌∷◌, ◌++◌, ◌*◌}
use Rattle.std.proofs.Common.{sym, ◌∙◌, ap, subst, inl}
use Rattle.seq.specs.Seq.{List, [], Option, none, some, ℕ, length, or_zero}
use Rattle.paper.specs.Limits.{maps}
use Rattle.paper.specs.Plane.{Vec, whole}
use Rattle.paper.specs.Graph.{Graph, west}
use Rattle.paper.specs.Refusal.{done}
use Rattle.paper.specs.Map.{Map}
use Rattle.paper.specs.Pieces.{Piece, vertices_of, edges_of}
use Rattle.paper.specs.Tables.{Counts, Tables, face_of, face_cell}
use Rattle.paper.specs.Lent.{Lengths}
use Rattle.paper.specs.Soundings.{east, Entry, CountRoom, Cells, soundings}
use Rattle.laws_plane.specs.Ends.{0<1}
use Rattle.laws_graph.specs.West.{look_below}
use Rattle.laws_overlay.specs.Maps.{AllKeep}
use Rattle.laws_overlay.specs.Inside.{overlaid}
use Rattle.laws_overlay.specs.Files.{maps_of, files-keep}
use Rattle.laws_soundings.specs.Told.{row_entries}
use Rattle.laws_promise.specs.Looking.{Looks}
use Rattle.laws_promise.proofs.Looks.{looks-once, west-looks}
use Rattle.laws_promise.specs.Defined.{graph_in, Defined}
use Rattle.laws_promise.specs.Held.{Held, overlay-pieced}
use Rattle.laws_promise.specs.Ways.{of_net}
use Rattle.laws_promise.proofs.Graphs.{graph_is}
use Rattle.laws_promise.specs.Demands.{counts_for, Overlaid, done_is-overlaid}
use Rattle.laws_promise.specs.Promised.{held}
use Rattle.laws_promise.proofs.Promised.{done_is-defined}
use Rattle.tables.specs.Answers as code
use Rattle.tables.specs.Values.{answer_of}
use Rattle.tables.specs.Promise.{Promised}

-- the face of the half-edge that is seen; "Face 0 is the outside" (01)
abbrev pub face_seen : Tables → Option ℕ → ℕ
face_seen t = or_zero (face_of t)

-- a sounding at the corner v lies in face f of the tables t, with counts c, of the maps ms: that is what is seen looking west from it, "with edges through p counted as west"
pub record LiesIn (ms : List Map) (c : Counts) (t : Tables) (v : Vec) (f : ℕ) : Type 0 where
  pub seen : Option ℕ
  pub looks : Looks (graph_in ms c t) (whole v) east seen
  pub face : f ≡ face_seen t seen

-- ── of any number of maps ──

module _ (l : Lengths) (files : List (List ℕ)) (r : code.Answer) (t : Tables) (promise : Promised l files r t) (c : Counts) (e : answer_of r ≡ done c) where
  abbrev pub ms : List Map
  ms = maps_of files

  abbrev pub g : Graph
  g = overlaid (maps_of files)

  abbrev ps : List Piece
  ps = edges_of (maps_of files) (vertices_of (maps_of files))

  pub overlay : Overlaid l files c t
  overlay = done_is-overlaid l files r t promise c e

  defined : Defined l files c t
  defined = done_is-defined l files r t promise c e

  pub keep : AllKeep (maps_of files)
  keep = files-keep files overlay.passes

  in_tables : Held (maps_of files) c t
  in_tables =
      subst (λ (k : Counts). Held ms k t) (sym overlay.counts-are)
      (subst (λ (u : Tables). Held ms (counts_for files) u) (sym overlay.tables-are) (held files overlay.passes l))

  -- what the definition sees in the overlay is what is seen in the tables
  abbrev pub seen_from : Vec → Option ℕ
  seen_from v = west g (whole v) east

  pub looks-there : (v : Vec) → Looks (graph_in (maps_of files) c t) (whole v) east (seen_from v)
  looks-there v =
      subst (λ (x : Graph). Looks x (whole v) east (seen_from v)) (sym (graph_is ms ps g (overlay-pieced ms keep) c t in_tables))
      (west-looks g (overlay-pieced ms keep).plane (whole v) 0<1 (overlay-pieced ms keep).clear east (inl refl))

  pub seen-counted : (v : Vec) (h : ℕ) → seen_from v ≡ some h → h < 2 * c.edges
  seen-counted v h q = of_net ms ps g (overlay-pieced ms keep) c t in_tables (look_below g (whole v) east h q)

  -- "Each sounding gets one": it lies in a face of those in the tables
  pub lies_somewhere : (v : Vec) → (f : ℕ) × LiesIn (maps_of files) c t v f × (f < c.faces)
  lies_somewhere v = (face_seen t (seen_from v), record { seen = seen_from v; looks = looks-there v; face = refl }, below (seen_from v) refl)
    where
      below : (s : Option ℕ) → seen_from v ≡ s → face_seen t s < c.faces
      below none q = defined.faces.outside-there
      below (some h) q = defined.halves.face_below h (seen-counted v h q)

  -- and in no second
  pub lies-once : (v : Vec) (f k : ℕ) → LiesIn (maps_of files) c t v f → LiesIn (maps_of files) c t v k → f ≡ k
  lies-once v f k A B = A.face ∙ ap (face_seen t) (looks-once (graph_in ms c t) (whole v) east A.seen B.seen A.looks B.looks) ∙ sym B.face

-- ── in some of the overlay's maps ──

module _ (l : Lengths) (fs gs : List (List ℕ)) (r : code.Answer) (t : Tables) (promise : Promised l (fs ++ gs) r t) (c : Counts) (e : answer_of r ≡ done c) where
  abbrev pub n : ℕ
  n = length (fs ++ gs)

-- ── Ask 3's pair ──

-- of the three labels stored for face f the first two
abbrev pub stored_pair : Tables → ℕ → List ℕ
stored_pair t f = face_cell maps t f 0 ∷ face_cell maps t f 1 ∷ []

-- the rows of pairs and counts that come out for the zones a, the blocks b and a list s of soundings, in lent tables of the lengths k, where the counts n are answered
abbrev pub pair_rows : CountRoom → List ℕ → List ℕ → List ℕ → Cells → List Entry
pair_rows k a b s n = let o = soundings k (a ∷ b ∷ []) s in row_entries (length (a ∷ b ∷ [])) o.labels o.counts n.entries
