-- Sides, by `the_left_by s p`: how far p lies to the left of the line of s. In order: an edge's own ends are on its line; another edge's ends, and the crossing's numbers, as
-- sides; two points against one line (`left_chord`), and the same point by other numbers; the signs of sides and turns of two edges that go up:
--     meet-signs    p on the line of f, z on the line of e: the_left_by e p · f + the_left_by f z · e is turn f e · (the way from p to z)
--     pass-signs    p and r on the line of f: the_left_by e r · f + turn f e · (the way from p to r) is the_left_by e p · f
-- each as the signs of a sum, after positive factors. Assumes nothing.
use Rattle.std.specs.Prelude.{◌≡◌, true, [], ◌∷◌, T, ℤ, pos, neg_ℤ, ◌+ℤ◌, ◌-ℤ◌, ◌*ℤ◌, ◌<ℤ◌}
use Rattle.std.proofs.Common.{sym, ◌∙◌, ap}
use Rattle.exact.specs.Solve.{ring, reify}
use Rattle.exact.specs.Mul.{≡-by₂, zero-cancel}
use Rattle.exact.specs.Sign.{sgn, sums, sgn_is, sg-scale, sg, lex_pairs}
use Rattle.exact.specs.Lowest.{Pt}
use Rattle.paper.specs.Plane.{Seg, minus_v, cross, head, whole, dir, before, same, the_left_by}
use Rattle.laws_plane.specs.Cone.{up, lex_is, up-*, UpV}
use Rattle.laws_plane.specs.Points.{before_up, same_is}

-- ── the test ──

-- ── ends ──

pub left_foot : (s : Seg) → the_left_by s (whole s.foot) ≡ pos 0
left_foot s = ring (s.foot.x ∷ s.foot.y ∷ s.up.x ∷ s.up.y ∷ []) (search reify depth 20) tt

pub left_head : (s : Seg) → the_left_by s (whole (head s)) ≡ pos 0
left_head s = ring (s.foot.x ∷ s.foot.y ∷ s.up.x ∷ s.up.y ∷ []) (search reify depth 20) tt

module _ (s t : Seg) where
  -- the ends of another edge differ by the turn
  pub left_ends : the_left_by s (whole (head t)) -ℤ the_left_by s (whole t.foot) ≡ cross s.up t.up
  left_ends = ring (s.foot.x ∷ s.foot.y ∷ s.up.x ∷ s.up.y ∷ t.foot.x ∷ t.foot.y ∷ t.up.x ∷ t.up.y ∷ []) (search reify depth 20) tt

  -- the numbers of the crossing: how far s's foot lies to the left of t, and t's foot to the right of s
  pub first_number : cross (minus_v t.foot s.foot) t.up ≡ the_left_by t (whole s.foot)
  first_number = ring (s.foot.x ∷ s.foot.y ∷ s.up.x ∷ s.up.y ∷ t.foot.x ∷ t.foot.y ∷ t.up.x ∷ t.up.y ∷ []) (search reify depth 20) tt

  pub second-number : cross (minus_v t.foot s.foot) s.up ≡ neg_ℤ (the_left_by s (whole t.foot))
  second-number = ring (s.foot.x ∷ s.foot.y ∷ s.up.x ∷ s.up.y ∷ t.foot.x ∷ t.foot.y ∷ t.up.x ∷ t.up.y ∷ []) (search reify depth 20) tt

-- ── two points against one line ──

module _ (s : Seg) (p q : Pt) where
  pub left_chord : cross s.up (dir p q) ≡ p.D *ℤ the_left_by s q -ℤ q.D *ℤ the_left_by s p
  left_chord = ring (s.foot.x ∷ s.foot.y ∷ s.up.x ∷ s.up.y ∷ p.X ∷ p.Y ∷ p.D ∷ q.X ∷ q.Y ∷ q.D ∷ []) (search reify depth 20) tt

  -- both on it: so is the way from the one to the other
  pub chord : the_left_by s p ≡ pos 0 → the_left_by s q ≡ pos 0 → cross s.up (dir p q) ≡ pos 0
  chord e f = left_chord ∙ (λ i. p.D *ℤ f i -ℤ q.D *ℤ e i) ∙ ring (p.D ∷ q.D ∷ []) (search reify depth 20) tt

  -- and back
  pub chord_left : pos 0 <ℤ p.D → the_left_by s p ≡ pos 0 → cross s.up (dir p q) ≡ pos 0 → the_left_by s q ≡ pos 0
  chord_left h e c = zero-cancel p.D (the_left_by s q) h (law p.D q.D (the_left_by s q) (the_left_by s p) (sym left_chord ∙ c) e)
    where
      law : (d e x y : ℤ) → d *ℤ x -ℤ e *ℤ y ≡ pos 0 → y ≡ pos 0 → d *ℤ x ≡ pos 0
      law d e x y p q = ≡-by₂ p (pos 1) q e (ring (d ∷ e ∷ x ∷ y ∷ []) (search reify depth 20) tt)

  -- one point by other numbers lies as far to the left
  pub left_same : same p q ≡ true → q.D *ℤ the_left_by s p ≡ p.D *ℤ the_left_by s q
  left_same e =
      let f = same_is p q e in
      ≡-by₂ f.1 s.up.x f.0 (neg_ℤ s.up.y) (ring (s.foot.x ∷ s.foot.y ∷ s.up.x ∷ s.up.y ∷ p.X ∷ p.Y ∷ p.D ∷ q.X ∷ q.Y ∷ q.D ∷ []) (search reify depth 20) tt)

  pub left_same-sign : pos 0 <ℤ p.D → pos 0 <ℤ q.D → same p q ≡ true → sgn (the_left_by s p) ≡ sgn (the_left_by s q)
  left_same-sign hp hq e =
      sym (sgn_is (q.D *ℤ the_left_by s p) (sg-scale q.D (the_left_by s p) hq (sg (the_left_by s p)))) ∙ ap sgn (left_same e)
      ∙ sgn_is (p.D *ℤ the_left_by s q) (sg-scale p.D (the_left_by s q) hp (sg (the_left_by s q)))

-- ── signs of sides and turns ──

module _ (f e : Seg) (p z : Pt) (on : the_left_by f p ≡ pos 0) (on' : the_left_by e z ≡ pos 0) where
  meet_x : (z.D *ℤ f.up.x) *ℤ the_left_by e p +ℤ (p.D *ℤ e.up.x) *ℤ the_left_by f z ≡ (dir p z).x *ℤ cross f.up e.up
  meet_x =
      ≡-by₂ on (z.D *ℤ e.up.x) on' (p.D *ℤ f.up.x)
      (ring (f.foot.x ∷ f.foot.y ∷ f.up.x ∷ f.up.y ∷ e.foot.x ∷ e.foot.y ∷ e.up.x ∷ e.up.y ∷ p.X ∷ p.Y ∷ p.D ∷ z.X ∷ z.Y ∷ z.D ∷ []) (search reify depth 20) tt)

  meet_y : (z.D *ℤ f.up.y) *ℤ the_left_by e p +ℤ (p.D *ℤ e.up.y) *ℤ the_left_by f z ≡ (dir p z).y *ℤ cross f.up e.up
  meet_y =
      ≡-by₂ on (z.D *ℤ e.up.y) on' (p.D *ℤ f.up.y)
      (ring (f.foot.x ∷ f.foot.y ∷ f.up.x ∷ f.up.y ∷ e.foot.x ∷ e.foot.y ∷ e.up.x ∷ e.up.y ∷ p.X ∷ p.Y ∷ p.D ∷ z.X ∷ z.Y ∷ z.D ∷ []) (search reify depth 20) tt)

  pub meet-signs : UpV f.up → UpV e.up → pos 0 <ℤ p.D → pos 0 <ℤ z.D → before p z ≡ true → T (sums (sgn (the_left_by e p)) (sgn (the_left_by f z)) (sgn (cross f.up e.up)))
  meet-signs uf ue hp hz b =
      lex_pairs (z.D *ℤ f.up.y) (z.D *ℤ f.up.x) (p.D *ℤ e.up.y) (p.D *ℤ e.up.x) (dir p z).y (dir p z).x (the_left_by e p) (the_left_by f z) (cross f.up e.up)
      (lex_is (z.D *ℤ f.up.x) (z.D *ℤ f.up.y) (up (up-* hz uf))) (lex_is (p.D *ℤ e.up.x) (p.D *ℤ e.up.y) (up (up-* hp ue)))
      (lex_is (dir p z).x (dir p z).y (up (before_up p z b))) meet_y meet_x

module _ (f e : Seg) (p r : Pt) (on : the_left_by f p ≡ pos 0) (on' : the_left_by f r ≡ pos 0) where
  pass_x : (p.D *ℤ f.up.x) *ℤ the_left_by e r +ℤ (dir p r).x *ℤ cross f.up e.up ≡ (r.D *ℤ f.up.x) *ℤ the_left_by e p
  pass_x =
      ≡-by₂ on (neg_ℤ (e.up.x *ℤ r.D)) on' (e.up.x *ℤ p.D)
      (ring (f.foot.x ∷ f.foot.y ∷ f.up.x ∷ f.up.y ∷ e.foot.x ∷ e.foot.y ∷ e.up.x ∷ e.up.y ∷ p.X ∷ p.Y ∷ p.D ∷ r.X ∷ r.Y ∷ r.D ∷ []) (search reify depth 20) tt)

  pass_y : (p.D *ℤ f.up.y) *ℤ the_left_by e r +ℤ (dir p r).y *ℤ cross f.up e.up ≡ (r.D *ℤ f.up.y) *ℤ the_left_by e p
  pass_y =
      ≡-by₂ on (neg_ℤ (e.up.y *ℤ r.D)) on' (e.up.y *ℤ p.D)
      (ring (f.foot.x ∷ f.foot.y ∷ f.up.x ∷ f.up.y ∷ e.foot.x ∷ e.foot.y ∷ e.up.x ∷ e.up.y ∷ p.X ∷ p.Y ∷ p.D ∷ r.X ∷ r.Y ∷ r.D ∷ []) (search reify depth 20) tt)

  pub pass-signs : UpV f.up → pos 0 <ℤ p.D → pos 0 <ℤ r.D → before p r ≡ true → T (sums (sgn (the_left_by e r)) (sgn (cross f.up e.up)) (sgn (the_left_by e p)))
  pass-signs uf hp hr b =
      lex_pairs (p.D *ℤ f.up.y) (p.D *ℤ f.up.x) (dir p r).y (dir p r).x (r.D *ℤ f.up.y) (r.D *ℤ f.up.x) (the_left_by e r) (cross f.up e.up) (the_left_by e p)
      (lex_is (p.D *ℤ f.up.x) (p.D *ℤ f.up.y) (up (up-* hp uf))) (lex_is (dir p r).x (dir p r).y (up (before_up p r b)))
      (lex_is (r.D *ℤ f.up.x) (r.D *ℤ f.up.y) (up (up-* hr uf))) pass_y pass_x
