-- The graph that is read from tables which hold a graph of pieces is that graph (`graph_is`), its followers are that graph's (`followers-are`), and so are its walks; a hole walk by the tables' points is a hole walk of the
-- definition (`hole-held`, `is_hole`). Assumes nothing.
use Rattle.std.specs.Prelude.{◌≡◌, refl, ◌<◌, ◌≤◌, ◌*◌}
use Rattle.std.proofs.Common.{sym, ◌∙◌, ap, subst, arith, eq-eqb, eqb-true}
use Rattle.std.proofs.Math.Decide.{ℕ_discrete}
use Rattle.seq.specs.Seq.{true, false, List, ℕ, table}
use Rattle.seq.specs.Terms.{Among, Best}
use Rattle.seq.specs.Tests.{clash, not-true}
use Rattle.seq.specs.Table.{table-ext}
use Rattle.paper.specs.Plane.{before}
use Rattle.paper.specs.Graph.{Graph, walk, point, the_half_count, origin, start, follower, followers, smallest, leaves}
use Rattle.paper.specs.Map.{Map}
use Rattle.paper.specs.Pieces.{Piece}
use Rattle.paper.specs.Faces.{walks_of, lead_at, hole_at}
use Rattle.paper.specs.Tables.{Counts, Tables, origin_of, follower_of}
use Rattle.laws_graph.specs.Plane.{Plane}
use Rattle.laws_graph.specs.Follow.{lesser, ranked}
use Rattle.laws_graph.specs.Walks.{Along, along_below, along-walk, walk-along, lead-along, lead-least, hole_is as hole_at_lem}
use Rattle.laws_graph.specs.Holes.{smallest_is, smallest_first, smallest_same, hole-makes, makes-best}
use Rattle.laws_labels.specs.Demand3.{followers_in}
use Rattle.laws_promise.specs.Defined.{OnWalk, Hole, Least}
use Rattle.laws_promise.specs.Rows.{Pieced, Rows}
use Rattle.laws_promise.specs.Ways.{in_net, of_net, from_start, way_less}

module _ (ms : List Map) (ps : List Piece) (g : Graph) (N : Pieced ms ps g) (c : Counts) (t : Tables) (H : Rows ms ps g c t) where
  abbrev pub P : Plane g
  P = N.plane

  -- ── walks ──

  followers-are : followers_in c t ≡ followers g
  followers-are = table-ext (follower_of t) (follower g) (2 * c.edges) H.follower_at_lem ∙ ap (λ (n : ℕ). table (follower g) (2 * n)) H.edges_are

  module _ (h : ℕ) (l : h < 2 * c.edges) where
    pub lh : h < the_half_count g
    lh = in_net ms ps g N c t H l

    pub on_along : (k : ℕ) → OnWalk c t h k → Along g h k
    on_along k i = walk-along g P h lh k (subst (λ (nx : List ℕ). Among k (walk nx h)) followers-are i)

    pub along_on : (k : ℕ) → Along g h k → OnWalk c t h k
    along_on k a = subst (λ (nx : List ℕ). Among k (walk nx h)) (sym followers-are) (along-walk g P h lh k a)

    pub on_below : (k : ℕ) → OnWalk c t h k → k < 2 * c.edges
    on_below k i = of_net ms ps g N c t H (along_below g P lh (on_along k i))

    -- the least half-edge of the walk
    pub least-lead : Least c t h → lead_at (walks_of g) h ≡ h
    least-lead f =
        let a : h ≤ lead_at (walks_of g) h = f (lead_at (walks_of g) h) (along_on (lead_at (walks_of g) h) (lead-along g P h lh)) in
        let b : lead_at (walks_of g) h ≤ h = lead-least g P h h lh (0, refl) in
        omega arith

    pub lead_is_least : lead_at (walks_of g) h ≡ h → Least c t h
    lead_is_least e k i = subst (λ (x : ℕ). x ≤ k) e (lead-least g P h k lh (on_along k i))

    -- ── hole walks ──

    -- the maker starts at the smallest vertex of the walk
    pub maker_low : (o : Hole c t h) → smallest g (followers g) h ≡ origin g o.maker
    maker_low o =
        let m = o.maker in
        smallest_is g P h lh m (on_along m o.on)
        (λ j b. let i = along_on j b in sym (λ x. before (from_start ms ps g N c t H j (on_below j i) x) (from_start ms ps g N c t H m (on_below m o.on) x)) ∙ o.smallest j i)

    pub is_hole : hole_at (walks_of g) h ≡ true → Hole c t h
    is_hole e =
        let (m, a, makes, once) = hole-makes g P h lh (sym (hole_at_lem g P h lh) ∙ e) in
        let lm : m < 2 * c.edges = of_net ms ps g N c t H (along_below g P lh a) in
        let b = makes-best g P m makes in
        let out : origin g m ≡ smallest g (followers g) m = eqb-true (origin g m) (smallest g (followers g) m) b.is.has in
        record {
          maker = m;
          on = along_on m a;
          smallest = λ k i.
              (λ x. before (from_start ms ps g N c t H k (on_below k i) x) (from_start ms ps g N c t H m lm x))
              ∙ ap (λ (v : ℕ). before (start g k) (point g v)) (out ∙ smallest_same g P h m lh a)
              ∙ smallest_first g P h lh k (on_along k i);
          greatest = λ r lr o. way_less ms ps g N c t H m r lm lr ∙ greatest m lm b out r lr o;
        }
      where
        greatest : (m : ℕ) → m < 2 * c.edges → Best (leaves g (smallest g (followers g) m)) (λ y z. lesser g z y) (the_half_count g) m → origin g m ≡ smallest g (followers g) m
            → (r : ℕ) → r < 2 * c.edges → origin_of t r ≡ origin_of t m → lesser g m r ≡ false
        greatest m lm b out r lr o =
            elim (ℕ_discrete r m) [
              | yes q ↦ subst (λ (y : ℕ). lesser g m y ≡ false) (sym q) ((ranked g P).irr m (in_net ms ps g N c t H lm))
              | no q ↦ let e : origin g r ≡ origin g m = sym (H.origin_at_lem r lr) ∙ o ∙ H.origin_at_lem m lm in
                  let w : lesser g r m ≡ true = b.beats r (record { below = in_net ms ps g N c t H lr; has = eq-eqb (origin g r) (smallest g (followers g) m) (e ∙ out) }) q in
                  not-true (lesser g m r) (λ f. clash ((ranked g P).trans m r m (in_net ms ps g N c t H lm) (in_net ms ps g N c t H lr) (in_net ms ps g N c t H lm) (sym e) e f w) ((ranked g P).irr m (in_net ms ps g N c t H lm)))
            ]
