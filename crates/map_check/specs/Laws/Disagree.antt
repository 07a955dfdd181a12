-- Rule 10 on flat tables is rule 10 of the map, where the graph that they hold is plane: `flat-disagrees`. Assumes nothing.
use Rattle.std.specs.Prelude.{◌≡◌, refl, ◌<◌, ◌&&◌, ◌||◌, ◌∷◌, ◌*◌}
use Rattle.std.proofs.Common.{sym, ◌∙◌, ap, subst, inr}
use Rattle.seq.specs.Seq.{Bool, true, false, cond, not, List, [], Option, Option·getD, ℕ, zero, suc, eqb, get_or, ℤ, best, the_some_below, or_zero, walk_from}
use Rattle.seq.specs.Terms.{Among}
use Rattle.seq.specs.BestLoop.{best-ext}
use Rattle.paper.specs.Limits.{absent}
use Rattle.paper.specs.Plane.{Pt, nowhere, before, less_angle}
use Rattle.paper.specs.Graph.{Graph, the_half_count, point, heading, leaves, greatest_out, follower, followers, west, makes_hole, hole_look}
use Rattle.paper.specs.Map.{Map, label, disagrees}
use Rattle.laws_graph.specs.Plane.{Plane}
use Rattle.laws_graph.specs.Follow.{followers_at, followers-length}
use Rattle.laws_graph.specs.Walks.{along_below, walk-along}
use Rattle.graph.specs.Flat.{origin_at, flat_graph, Flat}
use Rattle.graph.specs.Laws.Decode.{flat-halves, flat_origin, flat_start}
use Rattle.seq.specs.Filled.{Holds}
use Rattle.graph.specs.Follow.{Heads}
use Rattle.graph.specs.Stars.{greater_at, greatest_at}
use Rattle.map_check.specs.Labels.{the_none_of, earlier_at, top_at, makes_hole_at, seen_west, disagrees_at}
use Rattle.map_check.specs.Laws.Makers.{none_of_ext, greater, earlier, after, top_is, maker_is, makes-smallest}

-- two lists of followers that agree below m have the same walks there
pub walk-agrees : (nx ny : List ℕ) (m : ℕ) → ((x : ℕ) → x < m → get_or nx x 0 ≡ get_or ny x 0) → ((x : ℕ) → x < m → get_or nx x 0 < m) →
    (h k x : ℕ) → x < m → walk_from nx h k x ≡ walk_from ny h k x
walk-agrees nx ny m agree into h zero x l = refl
walk-agrees nx ny m agree into h (suc k) x l =
    ap (λ (r : List ℕ). cond (eqb x h) [] (x ∷ r)) (walk-agrees nx ny m agree into h k (get_or nx x 0) (into x l) ∙ ap (walk_from ny h k) (agree x l))

module _ (ps : List ℤ) (os : List ℕ) (cs : List ℤ) (n e : ℕ) (F : Flat ps os cs n e) (P : Plane (flat_graph ps os cs n e)) where
  abbrev g : Graph
  g = flat_graph ps os cs n e

  half : {h : ℕ} → h < 2 * e → h < the_half_count g
  half {h} l = subst (λ (m : ℕ). h < m) (sym (flat-halves ps os cs n e)) l

  whole-half : {h : ℕ} → h < the_half_count g → h < 2 * e
  whole-half {h} l = subst (λ (m : ℕ). h < m) (flat-halves ps os cs n e) l

  -- ── the tables of headings and followers ──

  -- the table of the half-edges of greatest angle has those of the graph
  flat-greatest : (hs : List ℤ) → Heads ps os cs n e hs → (v : ℕ) → greatest_at os hs (2 * e) v ≡ Option·getD (greatest_out g v) absent
  flat-greatest hs H v =
      ap (λ (o : Option ℕ). Option·getD o absent)
      (best-ext (λ k. eqb (origin_at os k) v) (leaves g v) (greater_at hs) (λ h r. less_angle (heading g r) (heading g h)) (2 * e)
      (λ k b. ap (λ (x : ℕ). eqb x v) (sym (flat_origin ps os cs n e k b)))
      (λ j k a b. λ i. less_angle (H k b i) (H j a i))
      ∙ ap (best (leaves g v) (λ h r. less_angle (heading g r) (heading g h))) (sym (flat-halves ps os cs n e)))

  module _ (hs : List ℤ) (H : Heads ps os cs n e hs) (gs : List ℕ) (G : Holds (greatest_at os hs (2 * e)) gs n) (nx : List ℕ) (N : Holds (follower g) nx (2 * e)) where
    next_is : (x : ℕ) → x < 2 * e → get_or nx x 0 ≡ get_or (followers g) x 0
    next_is x l = N.at x l ∙ sym (followers_at g P x (half l))

    next_below : (x : ℕ) → x < 2 * e → get_or nx x 0 < 2 * e
    next_below x l = subst (λ (y : ℕ). y < 2 * e) (sym (next_is x l)) (whole-half (along_below g P (half l) (1, refl)))

    module _ (h : ℕ) (l : h < 2 * e) where
      tops_is : top_at os gs h ≡ not (the_some_below (greater g h) (the_half_count g))
      tops_is =
          ap (λ (x : ℕ). eqb x h)
          (G.at (origin_at os h) (F.origins.named h l) ∙ flat-greatest hs H (origin_at os h) ∙ ap (λ (v : ℕ). Option·getD (greatest_out g v) absent) (sym (flat_origin ps os cs n e h l)))
          ∙ top_is g P h (half l)

      after_is : walk_from nx h (2 * e) (get_or nx h 0) ≡ after g h
      after_is =
          walk-agrees nx (followers g) (2 * e) next_is next_below h (2 * e) (get_or nx h 0) (next_below h l)
          ∙ (λ i. walk_from (followers g) h (sym (followers-length g P ∙ flat-halves ps os cs n e) i) (next_is h l i))

      earlier_is : (x : ℕ) → Among x (after g h) → earlier_at ps os h x ≡ earlier g h x
      earlier_is x a =
          let b = whole-half (along_below g P (half l) (walk-along g P h (half l) x (inr a))) in
          λ i. before (sym (flat_start ps os cs n e F.origins x b) i) (sym (flat_start ps os cs n e F.origins h l) i)

      makes_is : makes_hole_at ps os gs nx (2 * e) h ≡ makes_hole g (followers g) h
      makes_is =
          (λ i. tops_is i && the_none_of (earlier_at ps os h) (after_is i))
          ∙ ap (λ (b : Bool). not (the_some_below (greater g h) (the_half_count g)) && b) (none_of_ext (earlier_at ps os h) (earlier g h) (after g h) earlier_is)
          ∙ maker_is g P h (half l)

      -- ── rule 10 ──

      module _ (ls : List ℕ) where
        abbrev map : Map
        map = record { graph = g; labels = ls }

        seen_is : makes_hole g (followers g) h ≡ true → seen_west ps os cs ls n e h ≡ or_zero (label map) (hole_look g (followers g) h)
        seen_is t =
            ap (λ (p : Pt). or_zero (label map) (west g p nowhere))
            (sym (flat_start ps os cs n e F.origins h l) ∙ ap (point g) (sym (makes-smallest g P h (half l) t)))

        look_by_lem : (c : Bool) → makes_hole g (followers g) h ≡ c →
            (c && not (eqb (get_or ls h 0) (seen_west ps os cs ls n e h))) ≡ (c && not (eqb (label map h) (or_zero (label map) (hole_look g (followers g) h))))
        look_by_lem true t = ap (λ (x : ℕ). not (eqb (get_or ls h 0) x)) (seen_is t)
        look_by_lem false t = refl

        pub flat-disagrees : disagrees_at ps os cs ls gs nx n e h ≡ disagrees map (followers g) h
        flat-disagrees =
            (λ i. not (eqb (get_or ls h 0) (get_or ls (next_is h l i) 0)) || (makes_is i && not (eqb (get_or ls h 0) (seen_west ps os cs ls n e h))))
            ∙ ap (λ (b : Bool). not (eqb (get_or ls h 0) (get_or ls (get_or (followers g) h 0) 0)) || b) (look_by_lem (makes_hole g (followers g) h) refl)
