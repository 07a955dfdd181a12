-- What is left of the overlay of maps that keep the rules has all that walks, faces and labels ask (`melted-drawable`): its graph is a part of the overlay's, its
-- points are among the overlay's, its pieces have their sources, and half-edges of one walk have the same labels. Assumes nothing.
use Rattle.std.proofs.Common.{sym, ◌∙◌, ap, subst, arith}
use Rattle.std.proofs.Math.ListN.{length-map}
use Rattle.seq.specs.Seq.{List, length, select}
use Rattle.seq.specs.Terms.{Among}
use Rattle.seq.specs.Members.{map-among, at_among}
use Rattle.seq.specs.Select.{select_from_lem}
use Rattle.paper.specs.Plane.{Pt, whole, nowhere}
use Rattle.paper.specs.Graph.{Graph, point}
use Rattle.paper.specs.Map.{Map}
use Rattle.paper.specs.Pieces.{Piece, edge_of, vertices_of, edges_of}
use Rattle.paper.specs.Faces.{net, overlay_of}
use Rattle.paper.specs.Melt.{kept_pieces, is_end, melted_pieces, melted_graph, melted_of}
use Rattle.plane.specs.Bounds.{Near}
use Rattle.laws_overlay.specs.Maps.{AllKeep}
use Rattle.laws_overlay.specs.Places.{places}
use Rattle.laws_overlay.proofs.Net.{sourced}
use Rattle.laws_overlay.specs.Sources.{source_at}
use Rattle.laws_overlay.specs.Parts.{net_is}
use Rattle.laws_labels.proofs.Drawn.{drawn-walk}
use Rattle.laws_melt.specs.Thin.{was, was-kept, melted-piece}
use Rattle.laws_melt.specs.Melts.{melted-drawn}
use Rattle.overlay_graph.specs.Cut.{Drawable}

module _ (ms : List Map) (K : AllKeep ms) (near : (p : Pt) → Among p (vertices_of ms) → Near p) where
  abbrev s : Graph
  s = melted_graph ms (overlay_of ms)

  -- its points are among the overlay's
  points_near : (p : Pt) → Among p s.points → Near p
  points_near p j =
      let g = net (overlay_of ms) in
      let used = is_end (kept_pieces ms (overlay_of ms)) in
      let (v, i, e) = map-among (point g) p (select used (length g.points)) j in
      let b = (select_from_lem used (length g.points) v i).0 in
      subst Near e (near (point g v) (subst (λ (x : Graph). Among (point g v) x.points) (net_is ms) (at_among g.points v (whole nowhere) b)))

  pub melted-drawable : Drawable ms (melted_of ms)
  unfolding melted_of
  melted-drawable = record {
    plane = (melted-drawn ms K).plane;
    goes = (melted-drawn ms K).goes;
    near = points_near;
    sources = λ i k r li lk e.
        ((sourced ms K (vertices_of ms) (places ms K) (was ms K k) (omega (arith, (was-kept ms K k lk).0, length-map (edges_of ms (vertices_of ms)) (edge_of ms)))).from i r
        (sym (ap (λ (p : Piece). source_at p.sources i) (melted-piece ms K k lk)) ∙ e)).of_map;
    labels = drawn-walk ms K (melted_pieces ms (overlay_of ms)) s (melted-drawn ms K);
  }
