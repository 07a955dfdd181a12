-- Of Angles of specs/, what rests on its definitions.
use Rattle.std.specs.Prelude.{◌≡◌, refl, Bool, true, false, ◌&&◌, ◌||◌, [], ◌∷◌, T, ℤ, ◌+ℤ◌, ◌-ℤ◌, ◌*ℤ◌}
use Rattle.std.proofs.Common.{sym, ◌∙◌, ap}
use Rattle.exact.specs.Sign.{Sign, neg, zer, plus, sgn, is_plus, sums, lex_pairs}
use Rattle.exact.specs.Tests.{clash, never, T_true}
use Rattle.paper.specs.Plane.{Vec, cross, opposite, rises, less_angle}
use Rattle.laws_plane.specs.Cone.{up, lex_is, UpV, NonZero, rises_up, rises_no}
use Rattle.laws_plane.specs.Angles.{turn_y, turn_x, cross-opposite, angle_test, SameWay, turned, Turn, less, same, same_way_less, same_way-trans, same_way_sym, more}

-- ── in the first half ──

-- the signs of the turns from u to v, from v to w and from u to w
pub turn-trans : (u v w : Vec) → UpV u → UpV v → UpV w → T (sums (sgn (cross u v)) (sgn (cross v w)) (sgn (cross u w)))
turn-trans u v w hu hv hw =
    lex_pairs w.y w.x u.y u.x v.y v.x (cross u v) (cross v w) (cross u w)
    (lex_is w.x w.y (up hw)) (lex_is u.x u.y (up hu)) (lex_is v.x v.y (up hv))
    (turn_y u.x u.y v.x v.y w.x w.y) (turn_x u.x u.y v.x v.y w.x w.y)

turn : (u v w : Vec) → UpV u → UpV v → UpV w → is_plus (sgn (cross u v)) ≡ true → is_plus (sgn (cross v w)) ≡ true → is_plus (sgn (cross u w)) ≡ true
turn u v w hu hv hw = go (sgn (cross u v)) (sgn (cross v w)) (sgn (cross u w)) (turn-trans u v w hu hv hw)
  where
    go : (s t r : Sign) → T (sums s t r) → is_plus s ≡ true → is_plus t ≡ true → is_plus r ≡ true
    go plus plus r h e f = T_true (is_plus r) h
    go plus zer r h e f = never f
    go plus neg r h e f = never f
    go zer t r h e f = never e
    go neg t r h e f = never e

-- ── the laws ──

module _ (u v w : Vec) (nu : NonZero u) (nv : NonZero v) (nw : NonZero w) where
  -- in the second half
  turn_down : rises u ≡ false → rises v ≡ false → rises w ≡ false → is_plus (sgn (cross u v)) ≡ true → is_plus (sgn (cross v w)) ≡ true → is_plus (sgn (cross u w)) ≡ true
  turn_down e f g p q =
      ap (λ (z : ℤ). is_plus (sgn z)) (sym (cross-opposite u w))
      ∙ turn (opposite u) (opposite v) (opposite w) (rises_no u nu e) (rises_no v nv f) (rises_no w nw g)
      (ap (λ (z : ℤ). is_plus (sgn z)) (cross-opposite u v) ∙ p) (ap (λ (z : ℤ). is_plus (sgn z)) (cross-opposite v w) ∙ q)

  trans_by : (a b c : Bool) → rises u ≡ a → rises v ≡ b → rises w ≡ c →
      angle_test a b (is_plus (sgn (cross u v))) ≡ true → angle_test b c (is_plus (sgn (cross v w))) ≡ true → angle_test a c (is_plus (sgn (cross u w))) ≡ true
  trans_by true true true e f g p q = turn u v w (rises_up u e) (rises_up v f) (rises_up w g) p q
  trans_by true true false e f g p q = refl
  trans_by true false true e f g p q = never q
  trans_by true false false e f g p q = refl
  trans_by false true c e f g p q = never p
  trans_by false false true e f g p q = never q
  trans_by false false false e f g p q = turn_down e f g p q

  pub angle_trans : less_angle u v ≡ true → less_angle v w ≡ true → less_angle u w ≡ true
  angle_trans = trans_by (rises u) (rises v) (rises w) refl refl refl

-- ── directions of one way are one ──

-- u is less than v, which is the same way as w
pub less_same_way : (u v w : Vec) → NonZero u → NonZero v → NonZero w → less_angle u v ≡ true → SameWay v w → less_angle u w ≡ true
less_same_way u v w nu nv nw l s = go (turned u w)
  where
    go : Turn u w → less_angle u w ≡ true
    go (less e) = e
    go (same t) = absurd (clash l (same_way_less u v (same_way-trans u w v nw t (same_way_sym v w s))))
    go (more e) = absurd (clash (angle_trans w u v nw nu nv e l) (same_way_less w v (same_way_sym v w s)))

-- v is less than u, and the same way as w
pub same_way-greater : (u v w : Vec) → NonZero u → NonZero v → NonZero w → less_angle v u ≡ true → SameWay v w → less_angle w u ≡ true
same_way-greater u v w nu nv nw l s = go (turned w u)
  where
    go : Turn w u → less_angle w u ≡ true
    go (less e) = e
    go (same t) = absurd (clash l (same_way_less v u (same_way-trans v w u nw s t)))
    go (more e) = absurd (clash (angle_trans v u w nv nu nw l e) (same_way_less v w s))
