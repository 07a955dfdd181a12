-- How many vertices of a plane graph come before one in the order of points: less than there are, and less for a smaller vertex. Assumes nothing.
use Rattle.std.specs.Prelude.{◌≡◌, refl, ◌<◌}
use Rattle.std.proofs.Common.{arith}
use Rattle.seq.specs.Seq.{true, ℕ, length, count}
use Rattle.seq.specs.Count.{count_all, count-fewer}
use Rattle.paper.specs.Plane.{before}
use Rattle.paper.specs.Graph.{Graph, point}
use Rattle.laws_plane.specs.Points.{before_irr, before_trans}
use Rattle.laws_graph.specs.Plane.{Plane, real_at}

abbrev pub rank : Graph → ℕ → ℕ
rank g v = count (λ u. before (point g u) (point g v)) (length g.points)

module _ (g : Graph) (P : Plane g) where
  pub rank_below : (v : ℕ) → v < length g.points → rank g v < length g.points
  rank_below v l =
      let n = length g.points in
      let s : rank g v < count (λ u. true) n = count-fewer (λ u. before (point g u) (point g v)) (λ u. true) n v (λ j m e. refl) l (before_irr (point g v)) refl in
      let t : count (λ u. true) n ≡ n = count_all (λ u. true) n (λ k m. refl) in
      omega arith

  pub rank_less : (u v : ℕ) → u < length g.points → before (point g u) (point g v) ≡ true → rank g u < rank g v
  rank_less u v l e =
      count-fewer (λ j. before (point g j) (point g u)) (λ j. before (point g j) (point g v)) (length g.points) u
      (λ j m f. before_trans (point g j) (point g u) (point g v) (real_at g P j) (real_at g P u) (real_at g P v) f e) l (before_irr (point g u)) e
