-- Tables that keep (a) to (c) of Defined, side by side (c, t and d, u): the same vertices, edges, sources, twins, followers and predecessors. Nothing but those rows is used. Assumes nothing.
use Rattle.std.specs.Prelude.{◌≡◌, ◌⊎◌, ◌<◌, ◌≤◌, ◌&&◌, ◌||◌, ◌+◌, ◌*◌, ◌/◌}
use Rattle.std.proofs.Common.{◌∙◌}
use Rattle.seq.specs.Seq.{true, List, ℕ}
use Rattle.seq.specs.Tests.{clash}
use Rattle.seq.specs.SameRows.{same_count, same_at}
use Rattle.paper.specs.Plane.{Pt, before}
use Rattle.paper.specs.Map.{Map}
use Rattle.paper.specs.Tables.{Counts, Tables}
use Rattle.laws_plane.specs.Points.{before_asym}
use Rattle.laws_promise.specs.Defined.{the_point_at, VertexRows, EdgeRows, HalfRows}

-- ── point order, and the order of pairs ──

abbrev Comes : Pt → Pt → Type 0
Comes p q = before p q ≡ true

comes-asym : (p q : Pt) → Comes p q → Comes q p → ⊥
comes-asym p q e f = clash f (before_asym p q e)

-- ── the first clockwise is one ──

module _ (ms : List Map) (c : Counts) (t : Tables) (X : VertexRows ms c t) (E : EdgeRows ms c t) (S : HalfRows c t) (d : Counts) (u : Tables) (W : VertexRows ms d u) (F : EdgeRows ms d u) (R : HalfRows d u) where
  -- ── vertices ──

  pub vertices_same : c.vertices ≡ d.vertices
  vertices_same = same_count Comes comes-asym c.vertices d.vertices (the_point_at t) (the_point_at u) X.in_order W.in_order
      (λ v l. W.vertex-there (the_point_at t v) (X.vertex_is v l)) (λ v l. X.vertex-there (the_point_at u v) (W.vertex_is v l))

  pub point_same : (v : ℕ) → v < c.vertices → the_point_at t v ≡ the_point_at u v
  point_same = same_at Comes comes-asym c.vertices d.vertices (the_point_at t) (the_point_at u) X.in_order W.in_order
      (λ v l. W.vertex-there (the_point_at t v) (X.vertex_is v l)) (λ v l. X.vertex-there (the_point_at u v) (W.vertex_is v l))
