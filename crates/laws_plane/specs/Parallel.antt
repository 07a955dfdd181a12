-- Two edges that go up along one line have the same side of every point, and the same turn from every direction. Assumes nothing.
use Rattle.std.specs.Prelude.{◌≡◌, [], ◌∷◌, pos, neg_ℤ, ◌+ℤ◌, ◌*ℤ◌, ◌<ℤ◌}
use Rattle.std.proofs.Common.{sym, ◌∙◌, ap}
use Rattle.exact.specs.Solve.{ring, reify}
use Rattle.exact.specs.Mul.{≡-by₁, drop-zero}
use Rattle.exact.specs.Sign.{zer, sgn, sgn_is, sg, sg-scale, sgn-plus, plus→, neg_s, lex_pairs}
use Rattle.exact.specs.Signs.{zer-sum, sums-swap}
use Rattle.paper.specs.Plane.{Pt, Vec, vec, Seg, dir, cross, the_left_by}
use Rattle.laws_plane.specs.Cone.{UpV, up, lex_is}
use Rattle.laws_plane.specs.Angles.{turn-swap}
use Rattle.laws_plane.specs.Sides.{left_chord}

-- cross(d,u)·v = cross(d,v)·u, where u and v are parallel
pub same_turn : (u v : Vec) → UpV u → UpV v → cross u v ≡ pos 0 → (d : Vec) → sgn (cross d u) ≡ sgn (cross d v)
same_turn u v hu hv z d =
    zer-sum (sgn (cross d u)) (sgn (cross d v))
    (sums-swap (sgn (cross d u)) zer (sgn (cross d v))
    (lex_pairs v.y v.x v.y v.x u.y u.x (cross d u) (pos 0) (cross d v) (lex_is v.x v.y (up hv)) (lex_is v.x v.y (up hv)) (lex_is u.x u.y (up hu)) in_y in_x))
  where
    in_y : v.y *ℤ cross d u +ℤ v.y *ℤ pos 0 ≡ u.y *ℤ cross d v
    in_y = ≡-by₁ z (neg_ℤ d.y) (ring (u.x ∷ u.y ∷ v.x ∷ v.y ∷ d.x ∷ d.y ∷ []) (search reify depth 20) tt)

    in_x : v.x *ℤ cross d u +ℤ v.x *ℤ pos 0 ≡ u.x *ℤ cross d v
    in_x = ≡-by₁ z (neg_ℤ d.x) (ring (u.x ∷ u.y ∷ v.x ∷ v.y ∷ d.x ∷ d.y ∷ []) (search reify depth 20) tt)

-- one that is parallel to one that climbs, climbs
pub same_climb : (u v : Vec) → UpV u → UpV v → cross u v ≡ pos 0 → pos 0 <ℤ v.y → pos 0 <ℤ u.y
same_climb u v hu hv z h = plus→ (sym (ap sgn (east u)) ∙ same_turn u v hu hv z (vec (pos 1) (pos 0)) ∙ ap sgn (east v) ∙ sgn-plus h)
  where
    east : (w : Vec) → cross (vec (pos 1) (pos 0)) w ≡ w.y
    east w = ring (w.x ∷ w.y ∷ []) (search reify depth 20) tt

module _ (s t : Seg) (us : UpV s.up) (ut : UpV t.up) (z : cross s.up t.up ≡ pos 0) (x : Pt) (hx : pos 0 <ℤ x.D) (on_s : the_left_by s x ≡ pos 0) (on_t : the_left_by t x ≡ pos 0) where
  -- the side of p is the turn from the edge to the way from x to p
  by_turn : (e : Seg) → the_left_by e x ≡ pos 0 → (p : Pt) → sgn (the_left_by e p) ≡ neg_s (sgn (cross (dir x p) e.up))
  by_turn e on p =
      sym (sgn_is (x.D *ℤ the_left_by e p) (sg-scale x.D (the_left_by e p) hx (sg (the_left_by e p))))
      ∙ ap sgn (sym (left_chord e x p ∙ drop-zero x.D p.D (the_left_by e p) (the_left_by e x) on))
      ∙ turn-swap (dir x p) e.up

  pub same_side : (p : Pt) → sgn (the_left_by s p) ≡ sgn (the_left_by t p)
  same_side p = by_turn s on_s p ∙ ap neg_s (same_turn s.up t.up us ut z (dir x p)) ∙ sym (by_turn t on_t p)
