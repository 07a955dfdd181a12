-- Of Looks of specs/, what rests on its definitions.
use Rattle.std.specs.Prelude.{◌≡◌, refl, true, false, not, ℕ, ◌<◌, pos, ◌≤ℤ◌, ◌<ℤ◌}
use Rattle.std.proofs.Common.{sym, ◌∙◌, ap}
use Rattle.exact.specs.Order.{0<-*}
use Rattle.exact.specs.Sign.{Sign, neg, zer, plus, sgn, is_plus, neg_s, pick, sgn-negℤ}
use Rattle.exact.specs.Tests.{clash, never, not-true, and_both, and_parts}
use Rattle.seq.specs.Terms.{Has}
use Rattle.seq.specs.Tests.{was-false}
use Rattle.paper.specs.Plane.{Pt, Vec, Seg, cross, before, below, the_left_by}
use Rattle.paper.specs.Graph.{Graph, edge_count, edge, low, high, upward, at_height, left_of, westward, nearer, east_side}
use Rattle.paper.specs.Graph as Gr
use Rattle.paper.specs.Map.{Map}
use Rattle.laws_plane.specs.Cone.{UpV}
use Rattle.laws_plane.specs.Ends.{below_before}
use Rattle.laws_graph.specs.East.{east-half, east_down, east-start}
use Rattle.laws_graph.specs.West.{candidate}
use Rattle.laws_map.specs.Keeps.{seg, edges}
use Rattle.laws_labels.specs.Lawful.{Lawful}
use Rattle.laws_labels.specs.Spans.{Span, span, Good}
use Rattle.laws_labels.specs.Near.{near}
use Rattle.laws_labels.specs.Cuts.{lo, hi, above, at_left}
use Rattle.laws_labels.specs.Pot.{Jumps, pot}
use Rattle.laws_labels.specs.Edges.{good}
use Rattle.laws_labels.specs.Moves.{pot_none}
use Rattle.laws_labels.proofs.Along.{at_piece}
use Rattle.laws_labels.specs.Height.{at_height_of, span-steep}
use Rattle.laws_labels.proofs.Height.{above_height}
use Rattle.laws_labels.specs.Across.{across, across_left, across_below, across-line}
use Rattle.laws_labels.proofs.Across.{lower_below, across_after, across_before}
use Rattle.laws_labels.specs.Covers.{Covers, PieceAt}
use Rattle.laws_labels.specs.Star.{the_left_in}
use Rattle.laws_labels.proofs.Star.{along-piece}
use Rattle.laws_plane.specs.Angles.{turn-swap}
use Rattle.laws_plane.specs.Parallel.{same_turn, same_climb, same_side}
use Rattle.laws_graph.specs.Plane.{upward_up}

-- ── the tests of 01 by signs ──

west-signs : (s k : Sign) → is_plus (pick (neg_s s) k) ≡ near false s k
west-signs neg k = refl
west-signs zer neg = refl
west-signs zer zer = refl
west-signs zer plus = refl
west-signs plus k = refl

near-signs : (t k : Sign) → is_plus (pick t (neg_s k)) ≡ false → near true t k ≡ true
near-signs neg k e = refl
near-signs zer neg e = never (sym e)
near-signs zer zer e = refl
near-signs zer plus e = refl
near-signs plus k e = never (sym e)

module _ (O : Graph) (p : Pt) where
  pub westward-near : (d : Vec) (k : ℕ) → westward O p d k ≡ near false (sgn (left_of O p k)) (sgn (cross d (upward O k)))
  westward-near d k = ap (λ (s : Sign). is_plus (pick s (sgn (cross d (upward O k))))) (sgn-negℤ (left_of O p k)) ∙ west-signs (sgn (left_of O p k)) (sgn (cross d (upward O k)))

  -- where k is not nearer than W, it lies west of the right of W, above W's point at the height of p
  pub not_nearer : (k W : ℕ) → nearer O p k W ≡ false → near true (sgn (left_of O (across (edge O W).carrier p) k)) (sgn (cross (upward O W) (upward O k))) ≡ true
  not_nearer k W e =
      near-signs (sgn (left_of O (across (edge O W).carrier p) k)) (sgn (cross (upward O W) (upward O k)))
      ((λ i. is_plus (pick (sgn (across_left (edge O W).carrier p (edge O k).carrier i)) (sym (turn-swap (upward O W) (upward O k)) i))) ∙ e)

module _ (O : Graph) (m : Map) (K : Lawful m) (C : Covers O m) (p : Pt) (hp : pos 0 <ℤ p.D) (d : Vec) (hd : pos 0 ≤ℤ d.y) where
  abbrev pub F : ℕ → Seg
  F k = (edge O k).carrier

  rises_O : (k : ℕ) → k < edge_count O → UpV (upward O k)
  rises_O k l = upward_up O C.plane k l

  -- ── a candidate of O is in the cut of its carrier ──

  module _ (W : ℕ) (c : Has (candidate O p d) (edge_count O) W) where
    parts : (at_height O p W ≡ true) × (westward O p d W ≡ true)
    parts = and_parts (at_height O p W) (westward O p d W) c.has

    at_low : below p (low O W) ≡ false
    at_low = was-false (below p (low O W)) (and_parts (not (below p (low O W))) (below p (high O W)) parts.0).0

    at_high : below p (high O W) ≡ true
    at_high = (and_parts (not (below p (low O W))) (below p (high O W)) parts.0).1

    -- the piece itself
    abbrev pub piece-span : Span
    piece-span = record { line = F W; bottom = low O W; top = high O W }

    pub good-span : Good piece-span
    good-span = (C.within W c.below).segment

    pub counts : above false p d piece-span ≡ true
    counts = above_height p d piece-span good-span hd ∙ and_both parts.0 (sym (westward-near O p d W) ∙ parts.1)

    steep : pos 0 <ℤ (upward O W).y
    steep = span-steep p piece-span good-span hp parts.0

    -- ── the right side of W ──

    pub east_left : the_left_in m O (east_side O W) ≡ pot m (above true (low O W) (upward O W))
    east_left = (λ i. pot m (at_left (east-start O C.plane W c.below i) (east_down O C.plane W c.below i) (upward O (east-half O W i)))) ∙ along-piece O m K C true W c.below

    -- from W's point at the height of p down to its lower end
    pub down_right : pot m (above true (across (F W) p) (upward O W)) ≡ pot m (above true (low O W) (upward O W))
    down_right =
        let w = C.within W c.below in
        at_piece m K (F W) (low O W) (high O W) w (λ j l. C.clear W j c.below l) (across (F W) p) (0<-* hp steep) (across-line (F W) p)
        (across_after (F W) steep p (low O W) w.segment.p_on at_low) (across_before (F W) steep p (high O W) w.segment.r_on at_high) true

  -- ── an edge of m that is counted lies along a piece that O counts ──

  module _ (j : ℕ) (lj : j < edges m) (wj : Jumps m j) (cj : above false p d (span m j) ≡ true) where
    abbrev pub s : Seg
    s = seg m j

    us : UpV s.up
    us = upward_up m.graph K.plane j lj

    abbrev e : Span
    e = span m j

    ge : Good (span m j)
    ge = good m K j lj

    here : (at_height_of p e ≡ true) × (near false (sgn (the_left_by s p)) (sgn (cross d s.up)) ≡ true)
    here = and_parts (at_height_of p e) (near false (sgn (the_left_by s p)) (sgn (cross d s.up))) (sym (above_height p d e ge hd) ∙ cj)

    heights : (not (below p (lo e)) ≡ true) × (below p (hi e) ≡ true)
    heights = and_parts (not (below p (lo e))) (below p (hi e)) here.0

    climbs : pos 0 <ℤ s.up.y
    climbs = span-steep p e ge hp here.0

    -- its point at the height of p
    abbrev x : Pt
    x = across s p

    hx : pos 0 <ℤ x.D
    hx = 0<-* hp climbs

    pub piece : PieceAt O s x true
    piece = C.piece_at_lem j lj wj x hx true record {
      reaches = and_both {a = not (before x (lo e))} (ap not (across_after s climbs p (lo e) ge.p_on (was-false (below p (lo e)) heights.0))) (across_before s climbs p (hi e) ge.r_on heights.1);
      on = ap sgn (across-line s p);
    }

    abbrev pub k : ℕ
    k = piece.piece

    abbrev lk : k < edge_count O
    lk = piece.below

    -- the same line
    pub side_as : (z : Pt) → sgn (left_of O z k) ≡ sgn (the_left_by s z)
    side_as = same_side (F k) s (rises_O k lk) us piece.parallel x hx piece.on (across-line s p)

    pub turn_as : (u : Vec) → sgn (cross u (upward O k)) ≡ sgn (cross u s.up)
    turn_as = same_turn (upward O k) s.up (rises_O k lk) us piece.parallel

    piece-height : at_height O p k ≡ true
    piece-height =
        let r = and_parts (not (before x (low O k))) (before x (high O k)) piece.reaches in
        let steep : pos 0 <ℤ (upward O k).y = same_climb (upward O k) s.up (rises_O k lk) us piece.parallel climbs in
        and_both {a = not (below p (low O k))}
        (ap not (sym (across_below s p climbs (low O k)) ∙ not-true (below x (low O k)) (λ e. clash (below_before x (low O k) e) (was-false (before x (low O k)) r.0))))
        (sym (across_below s p climbs (high O k)) ∙ lower_below (F k) steep x (high O k) piece.on (C.within k lk).segment.r_on r.1)

    pub counted-piece : Has (candidate O p d) (edge_count O) k
    counted-piece = record { below = lk; has = and_both piece-height (westward-near O p d k ∙ (λ i. near false (side_as p i) (turn_as d i)) ∙ here.1) }

  -- ── what is seen ──

  pub unseen : ((k : ℕ) → Has (candidate O p d) (edge_count O) k → ⊥) → pot m (above false p d) ≡ pos 0
  unseen n = pot_none m (above false p d) (λ j l v. not-true (above false p d (span m j)) (λ e. n (k j l v e) (counted-piece j l v e)))
