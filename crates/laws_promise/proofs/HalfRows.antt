-- (c) of Defined: the rows of the half-edge table, in tables that hold a graph of pieces. Assumes nothing.
use Rattle.std.specs.Prelude.{◌≡◌, refl, ◌⊎◌, ◌<◌, ◌&&◌, ◌||◌, ◌+◌, ◌*◌}
use Rattle.std.proofs.Common.{sym, ◌∙◌, ap, subst, inl, inr, arith}
use Rattle.seq.specs.Seq.{Bool, true, false, cond, List, ℕ}
use Rattle.seq.specs.Tests.{clash, not-true, and_parts, or_cases}
use Rattle.seq.specs.Downward.{inner, wrap}
use Rattle.paper.specs.Plane.{less_angle}
use Rattle.paper.specs.Graph.{Graph, twin, origin, follower}
use Rattle.paper.specs.Map.{Map}
use Rattle.paper.specs.Pieces.{Piece}
use Rattle.paper.specs.Tables.{Counts, Tables, origin_of, twin_of, follower_of, predecessor_of}
use Rattle.laws_graph.specs.Halves.{twin_first, twin-second}
use Rattle.laws_graph.specs.Follow.{lesser, Clockwise, ranked, follower-origin, follower_below, follower_clockwise, predecessor-follower, follower-predecessor, predecessor_below}
use Rattle.laws_graph.specs.Faces.{face_below}
use Rattle.laws_promise.specs.Defined.{way_at, clockwise_between, HalfRows}
use Rattle.laws_promise.specs.Rows.{Pieced, Rows}
use Rattle.laws_promise.specs.Nears.{low_end, high_end, lo-hi}
use Rattle.laws_promise.specs.Ways.{in_net, of_net, origin-counted, twin-counted, way_less}

-- by the three comparisons: with b < a nothing is greater than b and less than a; else nothing is less than a or greater than b
none_by : (ba bd da : Bool) → (ba ≡ true → bd ≡ true → da ≡ true → ⊥) → (ba ≡ false → da ≡ true → ⊥) → (ba ≡ false → bd ≡ true → ⊥) → cond ba (bd && da) (da || bd) ≡ false
none_by true bd da f g h = not-true (bd && da) (λ e. let r = and_parts bd da e in f refl r.0 r.1)
none_by false bd da f g h = not-true (da || bd) (λ e. go (or_cases da bd e))
  where
    go : (da ≡ true) ⊎ (bd ≡ true) → ⊥
    go (inl e) = g refl e
    go (inr e) = h refl e

module _ (ms : List Map) (ps : List Piece) (g : Graph) (N : Pieced ms ps g) (c : Counts) (t : Tables) (H : Rows ms ps g c t) where
  follower-counted : (h : ℕ) → h < 2 * c.edges → follower_of t h < 2 * c.edges
  follower-counted h l = subst (λ (x : ℕ). x < 2 * c.edges) (sym (H.follower_at_lem h l)) (of_net ms ps g N c t H (follower_below g N.plane h (in_net ms ps g N c t H l)))

  predecessor-counted : (h : ℕ) → h < 2 * c.edges → predecessor_of t h < 2 * c.edges
  predecessor-counted h l = subst (λ (x : ℕ). x < 2 * c.edges) (sym (H.predecessor_at h l)) (of_net ms ps g N c t H (predecessor_below g N.plane h (in_net ms ps g N c t H l)))

  follows_on : (h : ℕ) → h < 2 * c.edges → origin_of t (follower_of t h) ≡ origin_of t (twin_of t h)
  follows_on h l =
      H.origin_at_lem (follower_of t h) (follower-counted h l) ∙ ap (origin g) (H.follower_at_lem h l) ∙ follower-origin g N.plane h
      ∙ sym (H.origin_at_lem (twin h) (twin-counted ms ps g N c t H h l)) ∙ ap (origin_of t) (sym (H.twin_at h l))

  -- ── the first clockwise ──

  module _ (h r : ℕ) (lh : h < 2 * c.edges) (lr : r < 2 * c.edges) (o : origin_of t r ≡ origin_of t (twin_of t h)) where
    abbrev a : ℕ
    a = twin h

    abbrev b : ℕ
    b = follower g h

    la : a < 2 * c.edges
    la = twin-counted ms ps g N c t H h lh

    lb : b < 2 * c.edges
    lb = of_net ms ps g N c t H (follower_below g N.plane h (in_net ms ps g N c t H lh))

    same_origin : origin g r ≡ origin g (twin h)
    same_origin = sym (H.origin_at_lem r lr) ∙ o ∙ ap (origin_of t) (H.twin_at h lh) ∙ H.origin_at_lem (twin h) la

    -- by the laws of the graph
    none_clockwise : Clockwise g (twin h) (follower g h) → cond (lesser g b a) (lesser g b r && lesser g r a) (lesser g r a || lesser g b r) ≡ false
    none_clockwise (inner e f) =
        none_by (lesser g b a) (lesser g b r) (lesser g r a) (λ x y z. f r (in_net ms ps g N c t H lr) same_origin y z) (λ x y. clash e x) (λ x y. clash e x)
    none_clockwise (wrap e f) =
        none_by (lesser g b a) (lesser g b r) (lesser g r a) (λ x y z. e r (in_net ms ps g N c t H lr) same_origin z) (λ x y. e r (in_net ms ps g N c t H lr) same_origin y)
        (λ x y. f r (in_net ms ps g N c t H lr) same_origin y)

    by_graph : clockwise_between (way_at t a) (way_at t b) (way_at t r) ≡ false
    by_graph =
        (λ i. cond (way_less ms ps g N c t H b a lb la i) (way_less ms ps g N c t H b r lb lr i && way_less ms ps g N c t H r a lr la i) (way_less ms ps g N c t H r a lr la i || way_less ms ps g N c t H b r lb lr i))
        ∙ none_clockwise (follower_clockwise g N.plane h (in_net ms ps g N c t H lh))

    first : clockwise_between (way_at t (twin_of t h)) (way_at t (follower_of t h)) (way_at t r) ≡ false
    first = (λ i. clockwise_between (way_at t (H.twin_at h lh i)) (way_at t (H.follower_at_lem h lh i)) (way_at t r)) ∙ by_graph

  -- ── no two with one origin go one way ──

  differ : (h r : ℕ) → h < 2 * c.edges → r < 2 * c.edges → origin_of t h ≡ origin_of t r → (h ≡ r → ⊥) → (less_angle (way_at t h) (way_at t r) ≡ true) ⊎ (less_angle (way_at t r) (way_at t h) ≡ true)
  differ h r lh lr o d = go (lesser g h r) refl
    where
      go : (x : Bool) → lesser g h r ≡ x → (less_angle (way_at t h) (way_at t r) ≡ true) ⊎ (less_angle (way_at t r) (way_at t h) ≡ true)
      go true e = inl (way_less ms ps g N c t H h r lh lr ∙ e)
      go false e =
          inr (way_less ms ps g N c t H r h lr lh
          ∙ (ranked g N.plane).total h r (in_net ms ps g N c t H lh) (in_net ms ps g N c t H lr) (sym (H.origin_at_lem h lh) ∙ o ∙ H.origin_at_lem r lr) d e)

  pub half-rows : HalfRows c t
  half-rows = record {
    rises = λ k l. omega (arith, low_end ms ps g N c t H k l, high_end ms ps g N c t H k l, lo-hi ms ps g N c t H k l);
    origin_below = origin-counted ms ps g N c t H;
    twin_first = λ k l. H.twin_at (2 * k) (omega arith) ∙ twin_first k;
    twin-second = λ k l. H.twin_at (2 * k + 1) (omega arith) ∙ twin-second k;
    follower_below = follower-counted;
    follows = follows_on;
    first_clockwise = first;
    ways-differ = differ;
    predecessor_below = predecessor-counted;
    back = λ h l. ap (predecessor_of t) (H.follower_at_lem h l) ∙ H.predecessor_at (follower g h) (of_net ms ps g N c t H (follower_below g N.plane h (in_net ms ps g N c t H l)))
        ∙ predecessor-follower g N.plane h (in_net ms ps g N c t H l);
    forth = λ h l. H.follower_at_lem (predecessor_of t h) (predecessor-counted h l) ∙ ap (follower g) (H.predecessor_at h l) ∙ follower-predecessor g N.plane h (in_net ms ps g N c t H l);
    face_below = λ h l. omega (arith, H.face_at_lem h l, H.faces-are, face_below g N.plane h (in_net ms ps g N c t H l));
  }
