-- Of Sector of specs/, what rests on its definitions.
use Rattle.std.specs.Prelude.{◌≡◌, refl, Bool, true, false, ℕ, ◌<◌, T, pos, ◌<ℤ◌}
use Rattle.std.proofs.Common.{sym, ◌∙◌, ap}
use Rattle.exact.specs.Sign.{Sign, neg, zer, plus, sgn, is_plus, neg_s, sums}
use Rattle.exact.specs.Tests.{never, clash}
use Rattle.paper.specs.Plane.{Pt, Vec, nowhere, cross, less_angle}
use Rattle.paper.specs.Map.{Map}
use Rattle.laws_plane.specs.Cone.{UpV}
use Rattle.laws_plane.specs.Angles.{turn-swap}
use Rattle.laws_plane.proofs.Angles.{turn-trans}
use Rattle.laws_graph.specs.Plane.{upward_up}
use Rattle.laws_map.specs.Keeps.{seg, edges}
use Rattle.laws_labels.specs.Lawful.{Lawful}
use Rattle.laws_labels.specs.Spans.{span}
use Rattle.laws_labels.specs.Near.{near}
use Rattle.laws_labels.specs.Cuts.{above, under, at_left, at_right, turn-nowhere, nowhere-turn, Leaves}
use Rattle.laws_labels.specs.Pot.{Jumps, pot}
use Rattle.laws_labels.proofs.Moves.{pot_above, pot_under, pot-through, pot-strict}
use Rattle.laws_labels.specs.Sector.{less_by, arrow, angle_is, First, Last, Between, Sector, inner, wrap}

-- ── signs ──

-- not clockwise, with `on`; not counter-clockwise, without
is_true : (s : Sign) → (s ≡ neg → ⊥) → near true zer s ≡ true
is_true neg n = absurd (n refl)
is_true zer n = refl
is_true plus n = refl

is_false : (s : Sign) → (is_plus s ≡ true → ⊥) → near false zer s ≡ false
is_false neg n = refl
is_false zer n = refl
is_false plus n = absurd (n refl)

-- x from r to t, y from t to an edge, z from r to it: up; down the turns are the other way
gap_up : (x y z : Sign) → is_plus x ≡ true → T (sums x y z) → (is_plus z ≡ true → is_plus (neg_s y) ≡ true → ⊥) → near true zer y ≡ near false zer z
gap_up neg y z p t n = never p
gap_up zer y z p t n = never p
gap_up plus neg neg p t n = refl
gap_up plus neg zer p t n = refl
gap_up plus neg plus p t n = absurd (n refl refl)
gap_up plus zer neg p t n = absurd t
gap_up plus zer zer p t n = absurd t
gap_up plus zer plus p t n = refl
gap_up plus plus neg p t n = absurd t
gap_up plus plus zer p t n = absurd t
gap_up plus plus plus p t n = refl

gap_down : (x y z : Sign) → is_plus x ≡ true → T (sums z x y) → (is_plus (neg_s z) ≡ true → is_plus y ≡ true → ⊥) → near false zer y ≡ near true zer z
gap_down neg y z p t n = never p
gap_down zer y z p t n = never p
gap_down plus neg neg p t n = refl
gap_down plus zer neg p t n = refl
gap_down plus plus neg p t n = absurd (n refl refl)
gap_down plus neg zer p t n = absurd t
gap_down plus zer zer p t n = absurd t
gap_down plus plus zer p t n = refl
gap_down plus neg plus p t n = absurd t
gap_down plus zer plus p t n = absurd t
gap_down plus plus plus p t n = refl

-- ── the sector ──

module _ (m : Map) (K : Lawful m) (p : Pt) (d : pos 0 <ℤ p.D) where
  abbrev U : ℕ → Vec
  U k = (seg m k).up

  -- a turn as an angle
  module _ (u v : Vec) (hu : UpV u) (hv : UpV v) where
    less_of : (b c : Bool) → less_by b c (is_plus (sgn (cross u v))) ≡ true → less_angle (arrow b u) (arrow c v) ≡ true
    less_of b c e = angle_is u v hu hv b c ∙ e

    -- v has the lesser angle: both up or both down
    less_back : (b : Bool) → sgn (cross u v) ≡ neg → less_angle (arrow b v) (arrow b u) ≡ true
    less_back b e = angle_is v u hv hu b b ∙ go b
      where
        left : is_plus (sgn (cross v u)) ≡ true
        left = ap is_plus (turn-swap u v ∙ ap neg_s e)

        go : (b : Bool) → less_by b b (is_plus (sgn (cross v u))) ≡ true
        go true = left
        go false = left

  module _ (t : Vec) (ut : UpV t) where
    -- the first of those that go up: all are at its left
    first_up : First m p true t → pot m (above true p t) ≡ pot m (above true p nowhere)
    first_up f = pot_above m p true true t nowhere (λ k l w o.
        is_true (sgn (cross t (U k))) (λ n. f k l w true o (less_back t (U k) ut (upward_up m.graph K.plane k l) true n)) ∙ sym (ap (near true zer) (turn-nowhere (U k))))

    first_down : ((k : ℕ) → k < edges m → Jumps m k → Leaves p false (span m k) → less_angle (arrow false (U k)) (arrow false t) ≡ true → ⊥) → pot m (under false p t) ≡ pot m (under false p nowhere)
    first_down f = pot_under m p false false t nowhere (λ k l w o.
        is_false (sgn (cross (U k) t)) (λ n. f k l w o (less_of (U k) t (upward_up m.graph K.plane k l) ut false false n)) ∙ sym (ap (near false zer) (nowhere-turn (U k))))

    -- nothing goes up
    no_up : First m p false t → pot m (above true p nowhere) ≡ pot m (above false p nowhere)
    no_up f = pot_above m p true false nowhere nowhere (λ k l w o. absurd (f k l w true o (less_of (U k) t (upward_up m.graph K.plane k l) ut true false refl)))

  module _ (r : Vec) (ur : UpV r) where
    -- the last of those that go up: none is at its left
    pub last_up : ((k : ℕ) → k < edges m → Jumps m k → Leaves p true (span m k) → less_angle r (U k) ≡ true → ⊥) → pot m (above false p r) ≡ pot m (above false p nowhere)
    last_up f = pot_above m p false false r nowhere (λ k l w o.
        is_false (sgn (cross r (U k))) (λ n. f k l w o (less_of r (U k) ur (upward_up m.graph K.plane k l) true true n)) ∙ sym (ap (near false zer) (turn-nowhere (U k))))

    last_down : Last m p false r → pot m (under true p r) ≡ pot m (under true p nowhere)
    last_down f = pot_under m p true true r nowhere (λ k l w o.
        is_true (sgn (cross (U k) r)) (λ n. f k l w false o (less_back (U k) r (upward_up m.graph K.plane k l) ur false n)) ∙ sym (ap (near true zer) (nowhere-turn (U k))))

    -- nothing goes down
    no_down : Last m p true r → pot m (under true p nowhere) ≡ pot m (under false p nowhere)
    no_down f = pot_under m p true false nowhere nowhere (λ k l w o. absurd (f k l w false o (less_of r (U k) ur (upward_up m.graph K.plane k l) true false refl)))

  module _ (t r : Vec) (ut : UpV t) (ur : UpV r) where
    -- r is at t's right: both up, or both down
    left_of_lem : (b : Bool) → less_angle (arrow b r) (arrow b t) ≡ true → is_plus (sgn (cross r t)) ≡ true
    left_of_lem true e = sym (angle_is r t ur ut true true) ∙ e
    left_of_lem false e = sym (angle_is r t ur ut false false) ∙ e

    both_up : is_plus (sgn (cross r t)) ≡ true → Between m p true t true r → pot m (above true p t) ≡ pot m (above false p r)
    both_up l n = pot_above m p true false t r (λ k h w o.
        let uk = upward_up m.graph K.plane k h in
        gap_up (sgn (cross r t)) (sgn (cross t (U k))) (sgn (cross r (U k))) l (turn-trans r t (U k) ur ut uk)
        (λ a b. n k h w true o (less_of r (U k) ur uk true true a) (less_of (U k) t uk ut true true (ap is_plus (turn-swap t (U k)) ∙ b))))

    both_down : is_plus (sgn (cross r t)) ≡ true → Between m p false t false r → pot m (under false p t) ≡ pot m (under true p r)
    both_down l n = pot_under m p false true t r (λ k h w o.
        let uk = upward_up m.graph K.plane k h in
        gap_down (sgn (cross r t)) (sgn (cross (U k) t)) (sgn (cross (U k) r)) l (turn-trans (U k) r t uk ur ut)
        (λ a b. n k h w false o (less_of r (U k) ur uk false false (ap is_plus (turn-swap (U k) r) ∙ a)) (less_of (U k) t uk ut false false b)))

    pub sector : (bt br : Bool) → Sector m p bt t br r → pot m (at_left p br r) ≡ pot m (at_right p bt t)
    sector true true (inner l n) = sym (both_up (left_of_lem true l) n)
    sector true false (inner l n) = absurd (clash l (angle_is r t ur ut false true))
    sector false true (inner l n) =
        last_up r ur (λ k h w o e. n k h w true o e (less_of (U k) t (upward_up m.graph K.plane k h) ut true false refl))
        ∙ pot-strict m K p d
        ∙ sym (first_down t ut (λ k h w o e. n k h w false o (less_of r (U k) ur (upward_up m.graph K.plane k h) true false refl) e))
    sector false false (inner l n) = sym (both_down (left_of_lem false l) n)
    sector true true (wrap c f l) = last_up r ur (λ k h w. l k h w true) ∙ pot-strict m K p d ∙ sym (no_down r ur l) ∙ sym (pot-through m K p d) ∙ sym (first_up t ut f)
    sector true false (wrap c f l) = last_down r ur l ∙ sym (pot-through m K p d) ∙ sym (first_up t ut f)
    sector false true (wrap c f l) = absurd (c (angle_is r t ur ut true false))
    sector false false (wrap c f l) = last_down r ur l ∙ sym (pot-through m K p d) ∙ no_up t ut f ∙ pot-strict m K p d ∙ sym (first_down t ut (λ k h w. f k h w false))
