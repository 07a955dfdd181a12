-- Of Star of specs/, what rests on its definitions.
use Rattle.std.specs.Prelude.{◌≡◌, refl, Bool, true, false, not, ℕ, ◌/◌, ◌<◌}
use Rattle.std.proofs.Common.{sym, ◌∙◌, ap}
use Rattle.seq.specs.Downward.{inner as inside, wrap as round}
use Rattle.paper.specs.Plane.{Vec, less_angle}
use Rattle.paper.specs.Graph.{Graph, edge_count, the_half_count, point, edge, twin, origin, start, low, high, goes_up, upward, heading, follower}
use Rattle.paper.specs.Map.{Map}
use Rattle.laws_plane.specs.Cone.{UpV, NonZero, up_nonzero, opposite-nonzero}
use Rattle.laws_plane.specs.Angles.{same_way_sym}
use Rattle.laws_plane.proofs.Angles.{less_same_way, same_way-greater}
use Rattle.laws_graph.specs.Halves.{twin-half, twin_below, half_below}
use Rattle.laws_graph.specs.Plane.{real_at, goes_up-twin, up_ends, down_ends, heading-moves, upward_up}
use Rattle.laws_graph.specs.Follow.{Clockwise, follower-origin, follower_below, follower_clockwise}
use Rattle.laws_map.specs.Keeps.{seg, edges}
use Rattle.laws_labels.specs.Lawful.{Lawful}
use Rattle.laws_labels.specs.Spans.{span}
use Rattle.laws_labels.specs.Cuts.{above, under, at_left, at_right, Leaves}
use Rattle.laws_labels.specs.Pot.{Jumps, pot}
use Rattle.laws_labels.proofs.Moves.{pot-piece}
use Rattle.laws_labels.specs.Sector.{arrow, Sector, inner, wrap}
use Rattle.laws_labels.proofs.Sector.{sector}
use Rattle.laws_labels.specs.Covers.{Covers, Out}
use Rattle.laws_labels.proofs.Covers.{left_along}
use Rattle.laws_labels.specs.Star.{right_in, the_left_in}

module _ (O : Graph) (m : Map) (K : Lawful m) (C : Covers O m) where
  -- ── along a half-edge ──

  pub along-piece : (on : Bool) (k : ℕ) → k < edge_count O → pot m (under on (high O k) (upward O k)) ≡ pot m (above on (low O k) (upward O k))
  along-piece on k l = pot-piece m K on (edge O k).carrier (low O k) (high O k) (C.within k l) (λ j i. C.clear k j l i)

  -- what is at the left of a half-edge where it starts is at the right of its twin where that starts
  pub slid : (h : ℕ) → h < the_half_count O → right_in m O (twin h) ≡ the_left_in m O h
  slid h l = (λ i. pot m (at_right (start O (twin h)) (goes_up-twin O C.plane h l i) (upward O (twin-half h i)))) ∙ go (goes_up O h) refl
    where
      go : (b : Bool) → goes_up O h ≡ b → pot m (at_right (start O (twin h)) (not b) (upward O (h / 2))) ≡ pot m (at_left (start O h) b (upward O (h / 2)))
      go true u =
          let r = up_ends O h u in
          (λ i. pot m (under false (sym r.1 i) (upward O (h / 2)))) ∙ along-piece false (h / 2) (half_below O h l) ∙ (λ i. pot m (above false (r.0 i) (upward O (h / 2))))
      go false d =
          let r = down_ends O C.plane h l d in
          (λ i. pot m (above true (sym r.1 i) (upward O (h / 2)))) ∙ sym (along-piece true (h / 2) (half_below O h l)) ∙ (λ i. pot m (under true (r.0 i) (upward O (h / 2))))

  -- ── round a vertex ──

  arrow-moves : (b : Bool) (u : Vec) → UpV u → NonZero (arrow b u)
  arrow-moves true u h = up_nonzero u h
  arrow-moves false u h = opposite-nonzero u (up_nonzero u h)

  module _ (t r : ℕ) (lt : t < the_half_count O) (lr : r < the_half_count O) (o : origin O r ≡ origin O t) where
    abbrev out : (k : ℕ) → k < edges m → Jumps m k → (b : Bool) → Leaves (start O t) b (span m k) → Out O (origin O t) (arrow b (seg m k).up)
    out k l w b q = left_along O m K C (origin O t) (C.plane.starts t lt) k l w (real_at O C.plane (origin O t)) b q

    -- an angle of the map's edge as one of the half-edge along it
    under_as : (k : ℕ) (l : k < edges m) (w : Jumps m k) (b : Bool) (q : Leaves (start O t) b (span m k)) (x : ℕ) → x < the_half_count O →
        less_angle (arrow b (seg m k).up) (heading O x) ≡ true → less_angle (heading O (out k l w b q).half) (heading O x) ≡ true
    under_as k l w b q x lx e =
        let p = out k l w b q in
        same_way-greater (heading O x) (arrow b (seg m k).up) (heading O p.half) (heading-moves O C.plane x lx) (arrow-moves b (seg m k).up (upward_up m.graph K.plane k l)) (heading-moves O C.plane p.half p.below)
        e (same_way_sym (heading O p.half) (arrow b (seg m k).up) p.along)

    over_as : (k : ℕ) (l : k < edges m) (w : Jumps m k) (b : Bool) (q : Leaves (start O t) b (span m k)) (x : ℕ) → x < the_half_count O →
        less_angle (heading O x) (arrow b (seg m k).up) ≡ true → less_angle (heading O x) (heading O (out k l w b q).half) ≡ true
    over_as k l w b q x lx e =
        let p = out k l w b q in
        less_same_way (heading O x) (arrow b (seg m k).up) (heading O p.half) (heading-moves O C.plane x lx) (arrow-moves b (seg m k).up (upward_up m.graph K.plane k l)) (heading-moves O C.plane p.half p.below)
        e (same_way_sym (heading O p.half) (arrow b (seg m k).up) p.along)

    -- the first half-edge clockwise bounds a sector that no edge leaves into
    as_sector : Clockwise O t r → Sector m (start O t) (goes_up O t) (upward O (t / 2)) (goes_up O r) (upward O (r / 2))
    as_sector (inside e n) = inner e (λ k l w b q a c. let p = out k l w b q in n p.half p.below p.leaves (over_as k l w b q r lr a) (under_as k l w b q t lt c))
    as_sector (round f n) =
        wrap (λ e. f r lr o e)
        (λ k l w b q c. let p = out k l w b q in f p.half p.below p.leaves (under_as k l w b q t lt c))
        (λ k l w b q a. let p = out k l w b q in n p.half p.below p.leaves (over_as k l w b q r lr a))

    star : Clockwise O t r → the_left_in m O r ≡ right_in m O t
    star c =
        ap (λ (v : ℕ). pot m (at_left (point O v) (goes_up O r) (upward O (r / 2)))) o
        ∙ sector m K (start O t) (real_at O C.plane (origin O t)) (upward O (t / 2)) (upward O (r / 2))
        (upward_up O C.plane (t / 2) (half_below O t lt)) (upward_up O C.plane (r / 2) (half_below O r lr)) (goes_up O t) (goes_up O r) (as_sector c)

  -- ── to the follower ──

  pub followed : (h : ℕ) → h < the_half_count O → the_left_in m O (follower O h) ≡ the_left_in m O h
  followed h l =
      star (twin h) (follower O h) (twin_below O h l) (follower_below O C.plane h l) (follower-origin O C.plane h) (follower_clockwise O C.plane h l)
      ∙ slid h l
