-- What is left of the overlay, in tables: the tables that are thinned hold the overlay of the maps with its faces and labels (`labelled`), and the thinned tables can
-- be drawn (`left_drawable`) and are within the room (`left_within`); the overlay that they hold is the melted one (`left_melted`). Assumes nothing.
use Rattle.std.specs.Prelude.{◌≡◌, ◌≤◌, ◌<◌, ◌+◌, ◌*◌}
use Rattle.std.proofs.Common.{sym, ◌∙◌, ap, subst, arith}
use Rattle.seq.specs.Seq.{List, ℕ, suc, length, get_or, cell, ℤ, filled}
use Rattle.paper.specs.Limits.{maps}
use Rattle.paper.specs.Map.{Map}
use Rattle.paper.specs.Faces.{Overlay, overlay_of}
use Rattle.paper.specs.Lent.{Lengths}
use Rattle.paper.specs.Melt.{melted_of}
use Rattle.laws_file.specs.Agree.{padded-cell}
use Rattle.graph.specs.Laws.Decode.{flat-halves}
use Rattle.overlay_cut.specs.PieceRows.{piece_width}
use Rattle.overlay_maps.specs.Held.{held_maps}
use Rattle.overlay_maps.specs.Layers.{Layers}
use Rattle.overlay_graph.specs.Cut.{Cut, CutOf, overlay_in, Drawable, DrawableCut}
use Rattle.overlay_graph.specs.Laws.Standing.{keep, held-count, vertex-near}
use Rattle.overlay_graph.specs.Laws.Drawing.{overlay_in_lem}
use Rattle.overlay_graph.specs.Laws.Zeros.{zeroed_long}
use Rattle.overlay_graph.specs.Laws.Tracing.{face-length}
use Rattle.overlay_pairs.specs.Labels.{label_cell}
use Rattle.overlay_pairs.specs.Pairs.{Outlined, label_of, labels-are}
use Rattle.thin.specs.Thinned.{Thinned}
use Rattle.thin.specs.Laws.Melted.{Labelled, thinned-melted, fewer-vertices, fewer-edges}
use Rattle.overlay_fill.specs.Judged.{Within}
use Rattle.melt.specs.Melted.{FacesIn}
use Rattle.melt.specs.Laws.Drawn.{melted-drawable}

module _ (l : Layers) (c : Cut) (C : CutOf (held_maps l) c) (os : List ℕ) (bs : List ℤ) (next outers : List ℕ) (count : ℕ) (O : Outlined l c os bs next outers count) (face : List ℕ) (F : FacesIn (held_maps l) c face) where
  abbrev ms : List Map
  ms = held_maps l

  drawn_is : overlay_in ms c ≡ overlay_of ms
  drawn_is = overlay_in_lem ms c C O.cut.few_vertices O.cut.few_edges

  -- as many faces as outer walks, and face 0
  pub faces-are : count + 1 ≡ suc (length (overlay_of (held_maps l)).outers)
  faces-are = omega (arith, O.count_is, ap (λ (o : Overlay). length o.outers) drawn_is)

  face_at_lem : (h : ℕ) → get_or face h 0 ≡ get_or (overlay_of ms).face h 0
  face_at_lem h = ap (λ (x : List ℕ). get_or x h 0) F.is ∙ padded-cell 0 F.cells (overlay_in ms c).face h ∙ ap (λ (o : Overlay). get_or o.face h 0) drawn_is

  pub face_long : 2 * c.edges ≤ length face
  face_long =
      omega (arith, zeroed_long (overlay_in ms c).face face F, face-length ms c _ O.net_by.net_is, flat-halves c.points os bs c.vertices c.edges)

  -- with the labels of every face
  module _ (triples d : List ℕ) (e : triples ≡ filled (maps * (count + 1)) (label_cell l c.points os bs c.pieces outers) d) where
    label_at_lem : (f i : ℕ) → f < count + 1 → i < maps → cell 0 maps triples f i ≡ label_of ms (overlay_of ms) i f
    label_at_lem f i q b = labels-are l c os bs next outers count O triples d e f q i b ∙ ap (λ (o : Overlay). label_of ms o i f) drawn_is

    pub labelled : Labelled (held_maps l) c face triples
    labelled = record {
      of_maps = held-count l;
      keep = keep l O.held;
      cut = C;
      few_vertices = O.cut.few_vertices;
      few_edges = O.cut.few_edges;
      faces-are = λ h q. face_at_lem h;
      labels-are = λ f q i b. label_at_lem f i (omega (arith, faces-are)) b;
    }

    -- thinned
    module _ (k : Cut) (T : Thinned c face triples k) where
      pub left_melted : overlay_in (held_maps l) k ≡ melted_of (held_maps l)
      left_melted = thinned-melted ms c face triples labelled k T

      fewer-points : k.vertices ≤ c.vertices
      fewer-points = fewer-vertices ms c face triples labelled k T

      fewer-pieces : k.edges ≤ c.edges
      fewer-pieces = fewer-edges ms c face triples labelled k T

      pub left_drawable : 4 * c.vertices ≤ length k.points → piece_width * c.edges ≤ length k.pieces → DrawableCut (held_maps l) k
      left_drawable points pieces = record {
        few_vertices = omega (arith, fewer-points, O.cut.few_vertices);
        few_edges = omega (arith, fewer-pieces, O.cut.few_edges);
        points_long = omega (arith, fewer-points);
        pieces_long = omega (arith, fewer-pieces);
        drawable = subst (Drawable ms) (sym left_melted) (melted-drawable ms (keep l O.held) (vertex-near l O.held));
      }

      pub left_within : (r : Lengths) → Within c r → Within k r
      left_within r w = record { vertices = omega (arith, fewer-points, w.vertices); edges = omega (arith, fewer-pieces, w.edges) }
