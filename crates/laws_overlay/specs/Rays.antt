-- Directions of one ray, each a positive multiple of the other, and carriers on one line: what the definitions ask of a direction or a carrier are signs, and they are the same
-- of both. In order: signs; rays (`Ray`), and the angle of two directions by them; carriers (`Carry`), sides and what is nearer by them; carriers with two points in
-- common are such (`two_carry`). Assumes nothing.
use Rattle.std.specs.Prelude.{◌≡◌, [], ◌∷◌, ℤ, pos, negsuc, neg_ℤ, ◌-ℤ◌, ◌*ℤ◌, ◌<ℤ◌}
use Rattle.std.proofs.Common.{sym, ◌∙◌, ap}
use Rattle.exact.specs.Solve.{ring, reify}
use Rattle.exact.specs.Order.{0<-*, <→≢}
use Rattle.exact.specs.Mul.{≡-by₁, ≡-by₂, zero-cancel}
use Rattle.exact.specs.Sign.{sgn, is_plus, pick}
use Rattle.exact.specs.Signs.{sgn-scale}
use Rattle.seq.specs.Seq.{true}
use Rattle.paper.specs.Plane.{Pt, Vec, Seg, whole, opposite, dir, cross, rises, before, less_angle, the_left_by}
use Rattle.laws_plane.specs.Cone.{above, level, UpV, up_nonzero}
use Rattle.laws_plane.specs.Points.{before_up}
use Rattle.laws_plane.specs.Angles.{cross-swap_0, parallel-trans, angle_test}
use Rattle.laws_plane.specs.Sides.{chord, left_foot}
use Rattle.laws_plane.specs.Lines.{one_line}

-- ── signs ──

pub scaled_sign : (p q x y : ℤ) → pos 0 <ℤ p → pos 0 <ℤ q → p *ℤ y ≡ q *ℤ x → sgn y ≡ sgn x
scaled_sign p q x y hp hq e = sym (sgn-scale y p hp) ∙ ap sgn e ∙ sgn-scale x q hq

-- ── rays ──

-- v is a positive multiple of u: p·v = q·u
pub record Ray (u v : Vec) : Type 0 where
  pub p : ℤ
  pub q : ℤ
  pub p_pos : pos 0 <ℤ p
  pub q_pos : pos 0 <ℤ q
  pub at_x : p *ℤ v.x ≡ q *ℤ u.x
  pub at_y : p *ℤ v.y ≡ q *ℤ u.y

module _ (u v : Vec) (r : Ray u v) where
  sign_x : sgn v.x ≡ sgn u.x
  sign_x = scaled_sign r.p r.q u.x v.x r.p_pos r.q_pos r.at_x

  sign_y : sgn v.y ≡ sgn u.y
  sign_y = scaled_sign r.p r.q u.y v.y r.p_pos r.q_pos r.at_y

  pub ray-rises : rises v ≡ rises u
  ray-rises = λ i. is_plus (pick (sign_y i) (sign_x i))

  pub ray-opposite : Ray (opposite u) (opposite v)
  ray-opposite = record {
    p = r.p;
    q = r.q;
    p_pos = r.p_pos;
    q_pos = r.q_pos;
    at_x = back r.p r.q u.x v.x r.at_x;
    at_y = back r.p r.q u.y v.y r.at_y;
  }
    where
      back : (p q x y : ℤ) → p *ℤ y ≡ q *ℤ x → p *ℤ neg_ℤ y ≡ q *ℤ neg_ℤ x
      back p q x y e = ≡-by₁ e (negsuc 0) (ring (p ∷ q ∷ x ∷ y ∷ []) (search reify depth 20) tt)

-- of one direction against another that is a multiple
pub ray-cross : (d u v : Vec) → Ray u v → sgn (cross d v) ≡ sgn (cross d u)
ray-cross d u v r =
    scaled_sign r.p r.q (cross d u) (cross d v) r.p_pos r.q_pos
    (≡-by₂ r.at_y d.x r.at_x (neg_ℤ d.y) (ring (r.p ∷ r.q ∷ d.x ∷ d.y ∷ u.x ∷ u.y ∷ v.x ∷ v.y ∷ []) (search reify depth 20) tt))

pub cross-ray : (d u v : Vec) → Ray u v → sgn (cross v d) ≡ sgn (cross u d)
cross-ray d u v r =
    scaled_sign r.p r.q (cross u d) (cross v d) r.p_pos r.q_pos
    (≡-by₂ r.at_x d.y r.at_y (neg_ℤ d.x) (ring (r.p ∷ r.q ∷ d.x ∷ d.y ∷ u.x ∷ u.y ∷ v.x ∷ v.y ∷ []) (search reify depth 20) tt))

module _ (u v w z : Vec) (r : Ray u v) (s : Ray w z) where
  pub rays_cross : sgn (cross v z) ≡ sgn (cross u w)
  rays_cross = ray-cross v w z s ∙ cross-ray w u v r

  -- the order of angles is the same
  pub rays_angle : less_angle v z ≡ less_angle u w
  rays_angle = λ i. angle_test (ray-rises u v r i) (ray-rises w z s i) (is_plus (rays_cross i))

-- two directions that go up and are parallel
pub up_ray : (u v : Vec) → UpV u → UpV v → cross u v ≡ pos 0 → Ray u v
up_ray u v (above h) (above l) c = record {
  p = u.y;
  q = v.y;
  p_pos = h;
  q_pos = l;
  at_x = ≡-by₁ c (negsuc 0) (ring (u.x ∷ u.y ∷ v.x ∷ v.y ∷ []) (search reify depth 20) tt);
  at_y = ring (u.y ∷ v.y ∷ []) (search reify depth 20) tt;
}
up_ray u v (above h) (level e l) c =
    absurd (<→≢ l (sym (zero-cancel u.y v.x h (≡-by₂ c (negsuc 0) e u.x (ring (u.x ∷ u.y ∷ v.x ∷ v.y ∷ []) (search reify depth 20) tt)))))
up_ray u v (level e h) (above l) c =
    absurd (<→≢ h (sym (zero-cancel v.y u.x l (≡-by₂ c (pos 1) e v.x (ring (u.x ∷ u.y ∷ v.x ∷ v.y ∷ []) (search reify depth 20) tt)))))
up_ray u v (level d h) (level e l) c = record {
  p = u.x;
  q = v.x;
  p_pos = h;
  q_pos = l;
  at_x = ring (u.x ∷ v.x ∷ []) (search reify depth 20) tt;
  at_y = ≡-by₂ e u.x d (neg_ℤ v.x) (ring (u.x ∷ u.y ∷ v.x ∷ v.y ∷ []) (search reify depth 20) tt);
}

-- ── carriers ──

-- t lies on the line of s, the same way
pub record Carry (s t : Seg) : Type 0 where
  pub ray : Ray s.up t.up
  pub left : (z : Pt) → ray.p *ℤ the_left_by t z ≡ ray.q *ℤ the_left_by s z

pub carry_left : (s t : Seg) → Carry s t → (z : Pt) → sgn (the_left_by t z) ≡ sgn (the_left_by s z)
carry_left s t c z = scaled_sign c.ray.p c.ray.q (the_left_by s z) (the_left_by t z) c.ray.p_pos c.ray.q_pos (c.left z)

-- the x at the height of z of two carriers, compared
pub carry-nearer : (s t s' t' : Seg) → Carry s s' → Carry t t' → (z : Pt) → sgn (the_left_by s' z *ℤ t'.up.y -ℤ the_left_by t' z *ℤ s'.up.y) ≡ sgn (the_left_by s z *ℤ t.up.y -ℤ the_left_by t z *ℤ s.up.y)
carry-nearer s t s' t' c e z =
    scaled_sign (c.ray.p *ℤ e.ray.p) (c.ray.q *ℤ e.ray.q) (the_left_by s z *ℤ t.up.y -ℤ the_left_by t z *ℤ s.up.y) (the_left_by s' z *ℤ t'.up.y -ℤ the_left_by t' z *ℤ s'.up.y)
    (0<-* c.ray.p_pos e.ray.p_pos) (0<-* c.ray.q_pos e.ray.q_pos)
    (split c.ray.p e.ray.p (the_left_by s' z) t'.up.y (the_left_by t' z) s'.up.y
    ∙ (λ i. c.left z i *ℤ e.ray.at_y i -ℤ e.left z i *ℤ c.ray.at_y i)
    ∙ sym (split c.ray.q e.ray.q (the_left_by s z) t.up.y (the_left_by t z) s.up.y))
  where
    split : (p q a b x y : ℤ) → (p *ℤ q) *ℤ (a *ℤ b -ℤ x *ℤ y) ≡ (p *ℤ a) *ℤ (q *ℤ b) -ℤ (q *ℤ x) *ℤ (p *ℤ y)
    split p q a b x y = ring (p ∷ q ∷ a ∷ b ∷ x ∷ y ∷ []) (search reify depth 20) tt

-- ── two points in common ──

-- p·(t against z) = q·(s against z - s against t's foot, times z's D)
line_left : (s t : Seg) (r : Ray s.up t.up) → the_left_by s (whole t.foot) ≡ pos 0 → (z : Pt) → r.p *ℤ the_left_by t z ≡ r.q *ℤ the_left_by s z
line_left s t r f z =
    ≡-by₂ r.at_x (z.Y -ℤ t.foot.y *ℤ z.D) (turned r.at_y f) (pos 1)
    (ring (r.p ∷ r.q ∷ s.foot.x ∷ s.foot.y ∷ s.up.x ∷ s.up.y ∷ t.foot.x ∷ t.foot.y ∷ t.up.x ∷ t.up.y ∷ z.X ∷ z.Y ∷ z.D ∷ []) (search reify depth 20) tt)
  where
    turned : {a b x y : ℤ} → a ≡ b → x ≡ y →
        neg_ℤ ((z.X -ℤ t.foot.x *ℤ z.D) *ℤ a) -ℤ (r.q *ℤ z.D) *ℤ x ≡ neg_ℤ ((z.X -ℤ t.foot.x *ℤ z.D) *ℤ b) -ℤ (r.q *ℤ z.D) *ℤ y
    turned e f = λ i. neg_ℤ ((z.X -ℤ t.foot.x *ℤ z.D) *ℤ e i) -ℤ (r.q *ℤ z.D) *ℤ f i

module _ (s t : Seg) (us : UpV s.up) (ut : UpV t.up) (p q : Pt) (hp : pos 0 <ℤ p.D) (b : before p q ≡ true) where
  -- two carriers that go up, with two points in common
  pub two_carry : the_left_by s p ≡ pos 0 → the_left_by s q ≡ pos 0 → the_left_by t p ≡ pos 0 → the_left_by t q ≡ pos 0 → Carry s t
  two_carry sp sq tp tq =
      let d = dir p q in
      let c : cross s.up t.up ≡ pos 0 = parallel-trans s.up d t.up (up_nonzero d (before_up p q b)) (chord s p q sp sq) (cross-swap_0 t.up d (chord t p q tp tq)) in
      let r = up_ray s.up t.up us ut c in
      record { ray = r; left = line_left s t r (one_line t s p (whole t.foot) ut hp c tp sp (left_foot t)) }
