-- Two pieces on one line: with one lower vertex they have one upper, with one upper one lower, and where each starts before the other ends they are one. For the nearer
-- end of the two would be a vertex on the other's edge between its ends, which are neighbours. Rule 8 is not used. Assumes nothing.
use Rattle.std.specs.Prelude.{◌≡◌, ◌<◌}
use Rattle.std.proofs.Common.{arith}
use Rattle.seq.specs.Seq.{List, ℕ, length, pos}
use Rattle.paper.specs.Plane.{Pt, Seg, the_left_by}
use Rattle.paper.specs.Graph.{point_in}
use Rattle.laws_plane.specs.Points.{before_asym}
use Rattle.laws_plane.specs.Edges.{On, on_between}
use Rattle.laws_overlay.specs.Places.{Places, at_real, at_before}
use Rattle.laws_overlay.specs.Links.{Neighbours}

module _ (vs : List Pt) (O : Places vs) where
  -- a vertex on the line of an edge between two vertices on it is on the edge
  pub between_on : (s : Seg) (u v w : ℕ) → On s (point_in vs u) → On s (point_in vs w) → the_left_by s (point_in vs v) ≡ pos 0 → u < v → v < w → w < length vs → On s (point_in vs v)
  between_on s u v w ou ow l a b c =
      on_between s (point_in vs u) (point_in vs v) (point_in vs w) (at_real vs O u) (at_real vs O v) (at_real vs O w) ou ow l
      (before_asym (point_in vs u) (point_in vs v) (at_before vs O u v a (omega arith))) (before_asym (point_in vs v) (point_in vs w) (at_before vs O v w b c))

  -- so none stands between neighbours
  pub none_between : (s : Seg) (lo v hi : ℕ) → Neighbours vs s lo hi → the_left_by s (point_in vs v) ≡ pos 0 → lo < v → v < hi → ⊥
  none_between s lo v hi n l a b = n.none v a b (between_on s lo v hi n.on_lo n.on_hi l a b n.below)
