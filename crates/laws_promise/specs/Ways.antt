-- The direction of a half-edge as the tables say it, from the point where it starts to the point where it ends, has the angle of its heading in the graph that they hold (`way_less`): so what the laws say of
-- followers by headings holds by the tables' points. Assumes nothing.
use Rattle.std.specs.Prelude.{◌≡◌, ◌<◌, ◌*◌}
use Rattle.std.proofs.Common.{sym, ◌∙◌, ap, subst, arith}
use Rattle.seq.specs.Seq.{true, false, List, ℕ, length}
use Rattle.seq.specs.Tests.{clash, bool-ext}
use Rattle.exact.specs.Sign.{is_zer}
use Rattle.paper.specs.Plane.{Pt, Vec, dir, same, less_angle}
use Rattle.paper.specs.Graph.{Graph, point, the_half_count, twin, origin, start, heading}
use Rattle.paper.specs.Map.{Map}
use Rattle.paper.specs.Pieces.{Piece}
use Rattle.paper.specs.Tables.{Counts, Tables, origin_of}
use Rattle.laws_plane.specs.Cone.{NonZero, nil, lex_is}
use Rattle.laws_plane.specs.Points.{same_sym}
use Rattle.laws_plane.specs.Angles.{SameWay, same_way_sym}
use Rattle.laws_plane.proofs.Angles.{less_same_way, same_way-greater}
use Rattle.laws_graph.specs.Halves.{twin_below}
use Rattle.laws_graph.specs.Plane.{ends_differ, heading-moves, heading-along}
use Rattle.laws_graph.specs.Follow.{lesser}
use Rattle.laws_promise.specs.Defined.{the_from_at, way_at}
use Rattle.laws_promise.specs.Rows.{Pieced, Rows}

-- between two points there is a direction
dir-moves : (a b : Pt) → same a b ≡ false → NonZero (dir a b)
dir-moves a b d p q = clash (same_sym b a (ap is_zer (lex_is (dir a b).x (dir a b).y (nil p q)))) d

-- directions of one way stand alike in the order of angles
less_alike : (u v w z : Vec) → NonZero u → NonZero v → NonZero w → NonZero z → SameWay u w → SameWay v z → less_angle u v ≡ true → less_angle w z ≡ true
less_alike u v w z nu nv nw nz s r e = same_way-greater z u w nz nu nw (less_same_way u v z nu nv nz e r) s

module _ (ms : List Map) (ps : List Piece) (g : Graph) (N : Pieced ms ps g) (c : Counts) (t : Tables) (H : Rows ms ps g c t) where
  pub in_net : {h : ℕ} → h < 2 * c.edges → h < the_half_count g
  in_net {h} = subst (λ (n : ℕ). h < 2 * n) H.edges_are

  pub of_net : {h : ℕ} → h < the_half_count g → h < 2 * c.edges
  of_net {h} = subst (λ (n : ℕ). h < 2 * n) (sym H.edges_are)

  pub origin-counted : (h : ℕ) → h < 2 * c.edges → origin_of t h < c.vertices
  origin-counted h l =
      let a : origin g h < length g.points = N.plane.starts h (in_net l) in
      omega (arith, H.origin_at_lem h l, H.vertices-are)

  pub twin-counted : (h : ℕ) → h < 2 * c.edges → twin h < 2 * c.edges
  twin-counted h l = of_net (twin_below g h (in_net l))

  -- where a half-edge starts
  pub from_start : (h : ℕ) → h < 2 * c.edges → the_from_at t h ≡ start g h
  from_start h l = H.point_is (origin_of t h) (origin-counted h l) ∙ ap (point g) (H.origin_at_lem h l)

  pub way_is : (h : ℕ) → h < 2 * c.edges → way_at t h ≡ dir (start g h) (start g (twin h))
  way_is h l = (λ i. dir (from_start h l i) (the_from_at t (H.twin_at h l i))) ∙ ap (dir (start g h)) (from_start (twin h) (twin-counted h l))

  module _ (h r : ℕ) (lh : h < 2 * c.edges) (lr : r < 2 * c.edges) where
    abbrev u : Vec
    u = dir (start g h) (start g (twin h))

    abbrev v : Vec
    v = dir (start g r) (start g (twin r))

    mu : NonZero (dir (start g h) (start g (twin h)))
    mu = dir-moves (start g h) (start g (twin h)) (ends_differ g N.plane h (in_net lh))

    mv : NonZero (dir (start g r) (start g (twin r)))
    mv = dir-moves (start g r) (start g (twin r)) (ends_differ g N.plane r (in_net lr))

    pub way_less : less_angle (way_at t h) (way_at t r) ≡ lesser g h r
    way_less =
        (λ i. less_angle (way_is h lh i) (way_is r lr i))
        ∙ bool-ext (less_angle u v) (lesser g h r)
        (less_alike u v (heading g h) (heading g r) mu mv (heading-moves g N.plane h (in_net lh)) (heading-moves g N.plane r (in_net lr))
        (same_way_sym (heading g h) u (heading-along g N.plane h (in_net lh))) (same_way_sym (heading g r) v (heading-along g N.plane r (in_net lr))))
        (less_alike (heading g h) (heading g r) u v (heading-moves g N.plane h (in_net lh)) (heading-moves g N.plane r (in_net lr)) mu mv
        (heading-along g N.plane h (in_net lh)) (heading-along g N.plane r (in_net lr)))
