-- Refusals in the order in which the code finds them: the maps, then vertices, edges and faces of the overlay over the room; where the overlay has room, so has what is
-- left of it (`melted_room`). Assumes nothing.
use Rattle.std.specs.Prelude.{◌≡◌, ◌≤◌, ◌<◌, ◌+◌}
use Rattle.std.proofs.Common.{sym, ◌∙◌, ap, lt-ltb, le-ltb}
use Rattle.seq.specs.Seq.{List, map, Option, none, some, ℕ, ltb, length}
use Rattle.paper.specs.Limits.{maps, overlay_vertices, overlay_edges}
use Rattle.paper.specs.Refusal.{Refusal, given, first_of}
use Rattle.paper.specs.Map.{Map, map_of}
use Rattle.paper.specs.Faces.{Overlay, overlay_of}
use Rattle.paper.specs.Tables.{counts_of, tables_of}
use Rattle.paper.specs.Lent.{Lengths, room_in, room_faults, outcome, Outcome}
use Rattle.paper.specs.Overlay.{map_faults}
use Rattle.paper.specs.Melt.{melted_of, lent_melted}
use Rattle.laws_refusals.specs.Refusals.{nothing, is_nothing, first_none, first_some}
use Rattle.laws_refusals.specs.Room.{room_none, none_room}
use Rattle.laws_overlay.specs.Maps.{AllKeep}
use Rattle.laws_melt.specs.Whole.{melted_fits}
use Rattle.overlay_graph.specs.Cut.{Cut, CutOf, overlay_in}
use Rattle.overlay_graph.specs.Laws.Drawing.{overlay_in_lem}
use Rattle.overlay_fill.specs.Judged.{laid_out, done_with, refused_with, Within, RefusesFiles, PassesFiles}
use Rattle.overlay_fill.proofs.JudgeLaws.{faces_last}
use Rattle.melt.specs.Melted.{melted_in}

-- ── the maps ──

module _ (files : List (List ℕ)) (l : Lengths) where
  abbrev maps_in : List Map
  maps_in = map map_of files

  abbrev left : Option Refusal → Outcome
  left = outcome l (counts_of (melted_of maps_in)) (tables_of maps_in (melted_of maps_in))

  abbrev faults : ℕ → List (Option Refusal)
  faults n = room_faults (room_in n l) (counts_of (overlay_of maps_in))

  pub files-refused : (r : Refusal) → first_of (map_faults files) ≡ some r → refused_with l r ≡ lent_melted l files
  files-refused r e = sym (ap left (first_some (map_faults files) (faults (length files)) e))

  pub files-pass : length files ≡ maps → first_of (map_faults files) ≡ none → melted_in (map map_of files) l ≡ lent_melted l files
  files-pass every e = ap (λ (n : ℕ). left (first_of (faults n))) (sym every) ∙ sym (ap left (first_none (map_faults files) (faults (length files)) e))

abbrev pub lent_melted_of : List (List ℕ) → Lengths → Outcome
lent_melted_of files l = lent_melted l files

pub melted-refused : RefusesFiles lent_melted_of
melted-refused = files-refused

pub melted-passes : PassesFiles melted_in lent_melted_of
melted-passes = files-pass

-- ── the room ──

module _ (ms : List Map) (l : Lengths) where
  abbrev judged : Option Refusal
  judged = first_of (room_faults (room_in maps l) (counts_of (overlay_of ms)))

  abbrev melted : Option Refusal → Outcome
  melted = outcome l (counts_of (melted_of ms)) (tables_of ms (melted_of ms))

  pub room_refused : (r : Refusal) → first_of (room_faults (room_in maps l) (counts_of (overlay_of ms))) ≡ some r → refused_with l r ≡ melted_in ms l
  room_refused r e = sym (ap melted e)

  pub room_done : first_of (room_faults (room_in maps l) (counts_of (overlay_of ms))) ≡ none → done_with l (counts_of (melted_of ms)) (tables_of ms (melted_of ms)) ≡ melted_in ms l
  room_done e = sym (ap melted e)

  -- what is left has room where the overlay has
  pub melted_room : AllKeep ms → first_of (room_faults (room_in maps l) (counts_of (overlay_of ms))) ≡ none →
      laid_out ms (melted_of ms) l ≡ done_with l (counts_of (melted_of ms)) (tables_of ms (melted_of ms))
  melted_room K e =
      let room = room_in maps l in
      let F = melted_fits ms K room (room_none room (counts_of (overlay_of ms)) (nothing (room_faults room (counts_of (overlay_of ms))) e)) in
      ap melted (is_nothing (room_faults room (counts_of (melted_of ms))) (none_room room (counts_of (melted_of ms)) F))

-- of vertices and edges within the room, the faces
module _ (ms : List Map) (c : Cut) (C : CutOf ms c) (few : c.vertices ≤ overlay_vertices) (short : c.edges ≤ overlay_edges) (l : Lengths) (w : Within c l) (n : ℕ) (counted : n ≡ length (overlay_in ms c).outers) where
  faces-judged : first_of (room_faults (room_in maps l) (counts_of (overlay_of ms))) ≡ given 11 3 (ltb (room_in maps l).faces (n + 1))
  faces-judged = ap (λ (o : Overlay). first_of (room_faults (room_in maps l) (counts_of o))) (sym (overlay_in_lem ms c C few short)) ∙ faces_last ms c l w n counted

  pub faces_over : (room_in maps l).faces < n + 1 → first_of (room_faults (room_in maps l) (counts_of (overlay_of ms))) ≡ some (record { number = 11; map = 0; place = 3; other = 0 })
  faces_over h = faces-judged ∙ ap (given 11 3) (lt-ltb (room_in maps l).faces (n + 1) h)

  pub faces-fit : n + 1 ≤ (room_in maps l).faces → first_of (room_faults (room_in maps l) (counts_of (overlay_of ms))) ≡ none
  faces-fit h = faces-judged ∙ ap (given 11 3) (le-ltb (room_in maps l).faces (n + 1) h)
