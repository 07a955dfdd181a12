-- The overlay of the points and pieces in tables: its parts; that it is the overlay of the maps where the tables hold the maps' vertices and edges (`overlay_in_lem`);
-- and that those of held layers have all that walks, faces and labels ask (`cut-drawable`). Assumes nothing.
use Rattle.std.specs.Prelude.{◌≡◌, ◌≤◌, ◌*◌}
use Rattle.std.proofs.Math.Path.{refl}
use Rattle.std.proofs.Common.{sym, subst}
use Rattle.seq.specs.Seq.{List, length}
use Rattle.seq.specs.Terms.{Among}
use Rattle.paper.specs.Limits.{overlay_vertices, overlay_edges}
use Rattle.paper.specs.Plane.{Pt}
use Rattle.paper.specs.Map.{Map}
use Rattle.paper.specs.Pieces.{vertices_of, graph_of}
use Rattle.paper.specs.Faces.{walks_of, overlay_by, net, overlay_of}
use Rattle.laws_overlay.specs.Maps.{AllKeep}
use Rattle.laws_overlay.specs.Places.{places}
use Rattle.laws_overlay.proofs.Net.{goes-even, sourced}
use Rattle.laws_overlay.proofs.NetPlane.{net-plane}
use Rattle.laws_labels.proofs.Agree.{walk-labels}
use Rattle.plane.specs.Bounds.{Near}
use Rattle.overlay_cut.specs.Points.{points_of}
use Rattle.overlay_cut.specs.PieceRows.{piece_width, pieces_in}
use Rattle.overlay_maps.specs.Held.{held_maps, Held}
use Rattle.overlay_maps.specs.Layers.{Layers}
use Rattle.overlay_graph.specs.Laws.Standing.{keep, vertex-near}
use Rattle.overlay_graph.specs.Cut.{Cut, CutOf, overlay_in, Drawable, DrawableCut}

-- ── its parts ──

module _ (ms : List Map) (c : Cut) where
  pub net_in : net (overlay_in ms c) ≡ graph_of ms (points_of c.points c.vertices) (pieces_in c.pieces c.edges)
  unfolding overlay_in
  net_in = refl

  pub pieces_in_lem : (overlay_in ms c).pieces ≡ pieces_in c.pieces c.edges
  unfolding overlay_in
  pieces_in_lem = refl

  -- of the maps' own vertices and edges it is the overlay of the maps
  pub overlay_in_lem : CutOf ms c → c.vertices ≤ overlay_vertices → c.edges ≤ overlay_edges → overlay_in ms c ≡ overlay_of ms
  unfolding overlay_in overlay_of
  overlay_in_lem C few short =
      let vs = C.vertices-are few in
      let ps = C.edges_are few short in
      λ i. overlay_by (ps i) (walks_of (graph_of ms (vs i) (ps i)))

-- ── the overlay of maps ──

pub overlay-drawable : (ms : List Map) → AllKeep ms → ((p : Pt) → Among p (vertices_of ms) → Near p) → Drawable ms (overlay_of ms)
unfolding overlay_of
overlay-drawable ms K near = record {
  plane = net-plane ms K (vertices_of ms) (places ms K);
  goes = λ h l. goes-even ms K (vertices_of ms) (places ms K) h l;
  near = near;
  sources = λ i k r li lk e. ((sourced ms K (vertices_of ms) (places ms K) k lk).from i r e).of_map;
  labels = walk-labels ms K;
}

module _ (l : Layers) (H : Held l) (c : Cut) (C : CutOf (held_maps l) c) where
  pub cut-drawable : c.vertices ≤ overlay_vertices → c.edges ≤ overlay_edges → 4 * c.vertices ≤ length c.points → piece_width * c.edges ≤ length c.pieces → DrawableCut (held_maps l) c
  cut-drawable few short points pieces = record {
    few_vertices = few;
    few_edges = short;
    points_long = points;
    pieces_long = pieces;
    drawable = subst (Drawable (held_maps l)) (sym (overlay_in_lem (held_maps l) c C few short)) (overlay-drawable (held_maps l) (keep l H) (vertex-near l H));
  }
