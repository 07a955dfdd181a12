-- Hole walks of a plane graph O that covers a map m, in m's potentials: at the left of a hole walk is what is at the left of the half-edge that it sees, or 0 where it sees
-- the outside (`hole_left`). A half-edge of greatest angle out of its origin that goes up has at its left what lies strictly west of its origin
-- (`strict_left`), and the one that makes a walk a hole walk is such a half-edge. Assumes nothing.
use Rattle.std.specs.Prelude.{◌≡◌, Bool, true, false, cond, not, List, ℕ, ◌/◌, ◌<◌, pos}
use Rattle.std.proofs.Common.{sym, ◌∙◌, ap, eqb-true, eq-eqb}
use Rattle.std.proofs.Math.Decide.{ℕ_discrete}
use Rattle.std.specs.Int.Signed.{≤ℤ_refl}
use Rattle.exact.specs.Tests.{clash, not-false}
use Rattle.paper.specs.Plane.{nowhere, opposite, before, less_angle}
use Rattle.paper.specs.Graph.{Graph, the_half_count, point, twin, origin, start, goes_up, upward, heading, follower, followers, smallest, hole_walk, makes_hole, west, hole_look}
use Rattle.paper.specs.Map.{Map}
use Rattle.laws_plane.specs.Cone.{up_nonzero}
use Rattle.laws_plane.specs.Angles.{angle_irr, angle_asym, same_way_sym}
use Rattle.laws_plane.proofs.Angles.{less_same_way}
use Rattle.laws_graph.specs.Halves.{twin-twin, half_below}
use Rattle.laws_graph.specs.Plane.{real_at, goes_up-twin, heading-moves, upward_up}
use Rattle.laws_graph.specs.Follow.{lesser, follower-origin}
use Rattle.laws_graph.specs.Walks.{along-step, along_below, along_same}
use Rattle.laws_graph.specs.Holes.{smallest_first, smallest_same, makes-best, hole-makes}
use Rattle.laws_map.specs.Keeps.{seg}
use Rattle.laws_labels.specs.Lawful.{Lawful}
use Rattle.laws_labels.specs.Cuts.{above, at_left}
use Rattle.laws_labels.specs.Pot.{pot}
use Rattle.laws_labels.proofs.Sector.{last_up}
use Rattle.laws_labels.specs.Covers.{Covers}
use Rattle.laws_labels.proofs.Covers.{left_along}
use Rattle.laws_labels.specs.Star.{the_left_in}
use Rattle.laws_labels.proofs.Star.{followed}
use Rattle.laws_labels.specs.Looks.{seen_in}
use Rattle.laws_labels.proofs.LooksSeen.{looked}

module _ (O : Graph) (m : Map) (K : Lawful m) (C : Covers O m) where
  abbrev nx : List ℕ
  nx = followers O

  -- no half-edge leaves where h does at a greater angle
  abbrev Greatest : ℕ → Type 0
  Greatest h = (k : ℕ) → k < the_half_count O → origin O k ≡ origin O h → lesser O h k ≡ true → ⊥

  pub strict_left : (h : ℕ) → h < the_half_count O → goes_up O h ≡ true → Greatest h → the_left_in m O h ≡ pot m (above false (start O h) nowhere)
  strict_left h l u n =
      ap (λ (b : Bool). pot m (at_left (start O h) b (upward O (h / 2)))) u
      ∙ last_up m K (start O h) (real_at O C.plane (origin O h)) (upward O (h / 2)) (upward_up O C.plane (h / 2) (half_below O h l))
      (λ k j w o e. let p = left_along O m K C (origin O h) (C.plane.starts h l) k j w (real_at O C.plane (origin O h)) true o in
      n p.half p.below p.leaves
      (less_same_way (heading O h) (seg m k).up (heading O p.half) (heading-moves O C.plane h l) (up_nonzero (seg m k).up (upward_up m.graph K.plane k j)) (heading-moves O C.plane p.half p.below)
      (ap (λ (b : Bool). less_angle (cond b (upward O (h / 2)) (opposite (upward O (h / 2)))) (seg m k).up) u ∙ e) (same_way_sym (heading O p.half) (seg m k).up p.along)))

  -- ── the half-edge that makes its walk a hole walk ──

  module _ (h : ℕ) (l : h < the_half_count O) (e : makes_hole O nx h ≡ true) where
    at_smallest : origin O h ≡ smallest O nx h
    at_smallest = eqb-true (origin O h) (smallest O nx h) (makes-best O C.plane h e).is.has

    greatest : Greatest h
    greatest k j o f =
        elim (ℕ_discrete k h) [
          | yes q ↦ clash (ap (lesser O h) (sym q) ∙ f) (angle_irr (heading O h))
          | no q ↦ clash f (angle_asym (heading O k) (heading O h) ((makes-best O C.plane h e).beats k (record { below = j; has = eq-eqb (origin O k) (smallest O nx h) (o ∙ at_smallest) }) q))
        ]

    -- it goes up: where it arrives its walk goes on, not lower
    up : goes_up O h ≡ true
    up = not-false (goes_up O h) (λ d. clash
        (ap (λ (x : ℕ). before (start O (twin h)) (start O x)) (sym (twin-twin h)) ∙ goes_up-twin O C.plane h l ∙ ap not d)
        ((λ i. before (point O (sym (follower-origin O C.plane h) i)) (point O (at_smallest i))) ∙ smallest_first O C.plane h l (follower O h) (along-step O C.plane h l)))

    maker_left : the_left_in m O h ≡ seen_in m O (hole_look O nx h)
    maker_left =
        strict_left h l up greatest
        ∙ looked O m K C (start O h) (real_at O C.plane (origin O h)) nowhere (≤ℤ_refl (pos 0))
        ∙ ap (λ (v : ℕ). seen_in m O (west O (point O v) nowhere)) at_smallest

  -- ── its walk ──

  pub hole_left : (h : ℕ) → h < the_half_count O → hole_walk O nx h ≡ true → the_left_in m O h ≡ seen_in m O (hole_look O nx h)
  hole_left h l e =
      let (x, a, f, only) = hole-makes O C.plane h l e in
      sym (along_same O C.plane (the_left_in m O) (followed O m K C) l a)
      ∙ maker_left x (along_below O C.plane l a) f
      ∙ ap (λ (v : ℕ). seen_in m O (west O (point O v) nowhere)) (smallest_same O C.plane h x l a)
