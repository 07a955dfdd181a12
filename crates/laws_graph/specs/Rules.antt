-- Rules 6, 7 and 8 of a map as facts of its graph, where their tests find nothing: `single_is`, `ends_are`, `clear_is`. Then the map that a file's bytes hold: whatever the bytes, its vertices
-- are corners and its edges are their own carriers, so that where rules 6 and 7 find nothing it is laid in corners (`file-laid`, `tests-laid`) and every edge goes up (`file_up`), and where 8 finds nothing too no two edges
-- clash (`tests-corners`). Assumes nothing.
use Rattle.std.specs.Prelude.{◌≡◌, refl, ◌<◌, ◌&&◌, ◌||◌}
use Rattle.std.proofs.Common.{sym, subst, arith, leb-false, ne_eqb}
use Rattle.std.proofs.Math.Decide.{dec_lt}
use Rattle.std.proofs.lemmas.Bool.{eqb-false}
use Rattle.seq.specs.Seq.{Bool, true, false, not, List, ℕ, leb, eqb, length}
use Rattle.seq.specs.Tests.{clash as no_both, or_false}
use Rattle.seq.proofs.Least.{no_some_is}
use Rattle.paper.specs.Plane.{between, same, clash}
use Rattle.paper.specs.Graph.{Graph, Edge, edge_count, point, edge}
use Rattle.paper.specs.Map.{corner, map_of, doubled, bad_ends, clashes, clashing}
use Rattle.laws_plane.specs.Cone.{UpV}
use Rattle.laws_plane.specs.Points.{same_sym}
use Rattle.laws_graph.specs.Reading.{corners_in, edges-count, edge-made}
use Rattle.laws_graph.specs.Laid.{Laid, carrier_up}
use Rattle.laws_graph.specs.Corners.{Corners}

-- ── the tests ──

module _ (g : Graph) where
  -- 6: no vertex lies on one of lower number
  pub single_is : (v : ℕ) → doubled g v ≡ false → (u : ℕ) → u < v → same (point g v) (point g u) ≡ false
  single_is v e = no_some_is (λ u. same (point g v) (point g u)) v e

  -- whichever is named first
  pub single-distinct : ((v u : ℕ) → v < length g.points → u < v → same (point g v) (point g u) ≡ false) →
      (u v : ℕ) → u < length g.points → v < length g.points → same (point g u) (point g v) ≡ true → u ≡ v
  single-distinct single u v lu lv e =
      elim (dec_lt v u) [
        | yes m ↦ absurd (no_both e (single u v lu m))
        | no m ↦ elim (dec_lt u v) [ yes n ↦ absurd (no_both (same_sym (point g u) (point g v) e) (single v u lv n)) | no n ↦ omega arith ]
      ]

  -- 7: the ends of an edge are two vertices
  pub ends_are : (k : ℕ) → bad_ends g k ≡ false → ((edge g k).from < length g.points) × ((edge g k).to < length g.points) × ((edge g k).from ≡ (edge g k).to → ⊥)
  ends_are k e =
      let n = length g.points in
      let a = (edge g k).from in
      let b = (edge g k).to in
      let r = or_false (leb n a || leb n b) (eqb a b) e in
      let q = or_false (leb n a) (leb n b) r.0 in
      (leb-false n a q.0, leb-false n b q.1, eqb-false a b r.1)

  -- 8: two edges do not clash
  pub clear_is : (k j : ℕ) → clashes g k j ≡ false → (k ≡ j → ⊥) → clash (edge g k).carrier (edge g j).carrier ≡ false
  clear_is k j e d = go (eqb k j) (ne_eqb k j d) e
    where
      go : (c : Bool) → c ≡ false → (not c && clash (edge g k).carrier (edge g j).carrier) ≡ false → clash (edge g k).carrier (edge g j).carrier ≡ false
      go true f e = absurd (no_both refl f)
      go false f e = e

-- ── the map that a file's bytes hold ──

module _ (s : List ℕ) where
  abbrev g : Graph
  g = (map_of s).graph

  pub file-laid : ((v u : ℕ) → v < length (map_of s).graph.points → u < v → same (point (map_of s).graph v) (point (map_of s).graph u) ≡ false) →
      ((k : ℕ) → k < edge_count (map_of s).graph →
      ((edge (map_of s).graph k).from < length (map_of s).graph.points) × ((edge (map_of s).graph k).to < length (map_of s).graph.points) × ((edge (map_of s).graph k).from ≡ (edge (map_of s).graph k).to → ⊥)) →
      Laid (map_of s).graph
  file-laid single ends = record {
    corners = corners_in s;
    points-are = refl;
    carried = λ k l. subst (λ (e : Edge). e.carrier ≡ between (corner (corners_in s) e.from) (corner (corners_in s) e.to)) (sym (edge-made s k (subst (λ (n : ℕ). k < n) (edges-count s) l))) refl;
    distinct = single-distinct g single;
    from_below = λ k l. (ends k l).0;
    to_below = λ k l. (ends k l).1;
    two = λ k l. (ends k l).2;
  }

  module _ (six : (v : ℕ) → v < length (map_of s).graph.points → doubled (map_of s).graph v ≡ false) (seven : (k : ℕ) → k < edge_count (map_of s).graph → bad_ends (map_of s).graph k ≡ false) where
    pub tests-laid : Laid (map_of s).graph
    tests-laid = file-laid (λ v u l. single_is g v (six v l) u) (λ k l. ends_are g k (seven k l))

    -- every edge goes up
    pub file_up : (k : ℕ) → k < edge_count (map_of s).graph → UpV (edge (map_of s).graph k).carrier.up
    file_up = carrier_up g tests-laid

    pub tests-corners : ((k : ℕ) → k < edge_count (map_of s).graph → clashing (map_of s).graph k ≡ false) → Corners (map_of s).graph
    tests-corners eight = record { laid = tests-laid; no_clash = λ k r lk lr. clear_is g k r (no_some_is (clashes g k) (edge_count g) (eight k lk) r lr) }
