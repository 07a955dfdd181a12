-- The order of two edges along the line that passes over the plane, when it stands at a point p. The line is level but for an infinitely small tilt: the west is a little higher, so
-- that it meets points in point order, and a level edge is like any other. `gap p e f` is the way along that line from e to f, up to positive factors: in the cone of laws_plane where e is
-- west of f, nowhere where both meet the line in one point. It changes from point to point by the turn alone (`pass_x`, `pass_y`):
--     D of p · gap r = D of r · gap p + turn f e · (the way from p to r)
-- In order: the gap; the order just above p (`West`) and that at a point which the line reaches (`Upto`); `carried`: from just above p up to r, where the two do not cross strictly between;
-- the sides of a point by it and back; how the order goes on past r. Nothing here needs the order to be transitive. Assumes nothing.
use Rattle.std.specs.Prelude.{◌≡◌, refl, Bool, true, false, [], ◌∷◌, ℤ, pos, negsuc, neg_ℤ, ◌+ℤ◌, ◌-ℤ◌, ◌*ℤ◌, ◌≤ℤ◌, ◌<ℤ◌}
use Rattle.std.proofs.Common.{sym, ◌∙◌, ⊎_elim}
use Rattle.exact.specs.Solve.{ring, reify}
use Rattle.exact.specs.Order.{Tri, lt, eq, gt, tri, ≤-of-≡, ≤→≯, *-zero, 0<-neg, zero-neg}
use Rattle.exact.specs.Mul.{≡-by₁, ≡-by₂, drop_first}
use Rattle.exact.specs.Sign.{Sign, neg, zer, plus, sgn, Sg, is_neg_lem, is_zer_lem, is_plus_lem, sg}
use Rattle.exact.specs.Lowest.{Pt}
use Rattle.paper.specs.Plane.{Vec, vec, Seg, cross, dir, before, the_left_by}
use Rattle.laws_plane.specs.Cone.{Up, Way, up, nil, down, which, up_by, up-+, up-*, up_0, up_not_down, up_cancel, UpV}
use Rattle.laws_plane.specs.Points.{up_before, before_up}
use Rattle.laws_plane.specs.Angles.{cross-swap_0}
use Rattle.laws_plane.specs.Meeting.{lines-meet}

abbrev pub gap : Pt → Seg → Seg → Vec
gap p e f = vec (the_left_by f p *ℤ e.up.x -ℤ the_left_by e p *ℤ f.up.x) (the_left_by f p *ℤ e.up.y -ℤ the_left_by e p *ℤ f.up.y)

-- positive where e turns away from f to the west
abbrev pub spread : Seg → Seg → ℤ
spread e f = cross f.up e.up

-- just above p, e is west of f or they lie along one another
pub data West (p : Pt) (e f : Seg) : Type 0 where
  apart : UpV (gap p e f) → West p e f
  together : (gap p e f).x ≡ pos 0 → (gap p e f).y ≡ pos 0 → pos 0 ≤ℤ spread e f → West p e f

-- when the line reaches r, e is west of f or they meet it in one point
pub data Upto (r : Pt) (e f : Seg) : Type 0 where
  apart : UpV (gap r e f) → Upto r e f
  together : (gap r e f).x ≡ pos 0 → (gap r e f).y ≡ pos 0 → Upto r e f

-- ── from point to point ──

module _ (e f : Seg) (p r : Pt) where
  pub pass_x : p.D *ℤ (gap r e f).x ≡ r.D *ℤ (gap p e f).x +ℤ spread e f *ℤ (dir p r).x
  pass_x = ring (e.foot.x ∷ e.foot.y ∷ e.up.x ∷ e.up.y ∷ f.foot.x ∷ f.foot.y ∷ f.up.x ∷ f.up.y ∷ p.X ∷ p.Y ∷ p.D ∷ r.X ∷ r.Y ∷ r.D ∷ []) (search reify depth 20) tt

  pub pass_y : p.D *ℤ (gap r e f).y ≡ r.D *ℤ (gap p e f).y +ℤ spread e f *ℤ (dir p r).y
  pass_y = ring (e.foot.x ∷ e.foot.y ∷ e.up.x ∷ e.up.y ∷ f.foot.x ∷ f.foot.y ∷ f.up.x ∷ f.up.y ∷ p.X ∷ p.Y ∷ p.D ∷ r.X ∷ r.Y ∷ r.D ∷ []) (search reify depth 20) tt

-- ── from just above p up to r ──

plus_0 : (a b c z : ℤ) → z ≡ pos 0 → b *ℤ z +ℤ a *ℤ c ≡ a *ℤ c
plus_0 a b c z e = ≡-by₁ e b (ring (a ∷ b ∷ c ∷ z ∷ []) (search reify depth 20) tt)

-- a·0 = b·g + c·d: -c·d = b·g
solved : (a b c d g z : ℤ) → z ≡ pos 0 → a *ℤ z ≡ b *ℤ g +ℤ c *ℤ d → b *ℤ g ≡ neg_ℤ c *ℤ d
solved a b c d g z e h = ≡-by₂ h (negsuc 0) e a (ring (a ∷ b ∷ c ∷ d ∷ g ∷ z ∷ []) (search reify depth 20) tt)

-- a·g = b·0 + c·d: a·-g = -c·d
solved' : (a b c d g z : ℤ) → z ≡ pos 0 → a *ℤ g ≡ b *ℤ z +ℤ c *ℤ d → a *ℤ neg_ℤ g ≡ neg_ℤ c *ℤ d
solved' a b c d g z e h = ≡-by₂ h (negsuc 0) e (neg_ℤ b) (ring (a ∷ b ∷ c ∷ d ∷ g ∷ z ∷ []) (search reify depth 20) tt)

both_0 : (l m u v : ℤ) → l ≡ pos 0 → m ≡ pos 0 → m *ℤ u -ℤ l *ℤ v ≡ pos 0
both_0 l m u v e f = ≡-by₂ e (neg_ℤ v) f u (ring (l ∷ m ∷ u ∷ v ∷ []) (search reify depth 20) tt)

zero_of : (a b c d g h : ℤ) → pos 0 <ℤ a → g ≡ pos 0 → c ≡ pos 0 → a *ℤ h ≡ b *ℤ g +ℤ c *ℤ d → h ≡ pos 0
zero_of a b c d g h l e f k = ⊎_elim (λ z. absurd (≤→≯ (≤-of-≡ z) l)) (λ z. z) (*-zero a h (k ∙ ≡-by₂ e b f d (ring (b ∷ c ∷ d ∷ g ∷ []) (search reify depth 20) tt)))

-- a common point of the two lines, strictly between p and r
pub record Between (e f : Seg) (p r : Pt) : Type 0 where
  pub at : Pt
  pub real : pos 0 <ℤ at.D
  pub first : the_left_by e at ≡ pos 0
  pub second : the_left_by f at ≡ pos 0
  pub from_p : before p at ≡ true
  pub to_r : before at r ≡ true

module _ (e f : Seg) (p r : Pt) (hp : pos 0 <ℤ p.D) (hr : pos 0 <ℤ r.D) (b : before p r ≡ true) where
  -- a vector that is a sum of the two terms
  summed : Up (r.D *ℤ (gap p e f).x +ℤ spread e f *ℤ (dir p r).x) (r.D *ℤ (gap p e f).y +ℤ spread e f *ℤ (dir p r).y) → Upto r e f
  summed h = apart (up_cancel p.D (gap r e f).x (gap r e f).y hp (up_by (sym (pass_x e f p r)) (sym (pass_y e f p r)) h))

  -- they spread
  away : pos 0 <ℤ spread e f → West p e f → Upto r e f
  away k (apart h) = summed (up-+ (up-* hr h) (up-* k (before_up p r b)))
  away k (together x y s) =
      summed (up_by (sym (plus_0 (spread e f) r.D (dir p r).x (gap p e f).x x)) (sym (plus_0 (spread e f) r.D (dir p r).y (gap p e f).y y)) (up-* k (before_up p r b)))

  -- they are parallel
  level : spread e f ≡ pos 0 → West p e f → Upto r e f
  level k (apart h) = summed (up_by (also (gap p e f).x (dir p r).x) (also (gap p e f).y (dir p r).y) (up-* hr h))
    where
      also : (g d : ℤ) → r.D *ℤ g ≡ r.D *ℤ g +ℤ spread e f *ℤ d
      also g d = ≡-by₁ k (neg_ℤ d) (go r.D g d (spread e f))
        where
          go : (a g d c : ℤ) → a *ℤ g -ℤ (a *ℤ g +ℤ c *ℤ d) ≡ neg_ℤ d *ℤ (c -ℤ pos 0)
          go a g d c = ring (a ∷ g ∷ d ∷ c ∷ []) (search reify depth 20) tt
  level k (together x y s) =
      together (zero_of p.D r.D (spread e f) (dir p r).x (gap p e f).x (gap r e f).x hp x k (pass_x e f p r))
      (zero_of p.D r.D (spread e f) (dir p r).y (gap p e f).y (gap r e f).y hp y k (pass_y e f p r))

  -- they approach, and have changed places
  met : spread e f <ℤ pos 0 → UpV (gap p e f) → Up (neg_ℤ (gap r e f).x) (neg_ℤ (gap r e f).y) → Between e f p r
  met k h l =
      let (q, m) = lines-meet e f (λ z. ≤→≯ (≤-of-≡ (sym (cross-swap_0 e.up f.up z))) k) in
      let zx : (gap q e f).x ≡ pos 0 = both_0 (the_left_by e q) (the_left_by f q) e.up.x f.up.x m.first m.second in
      let zy : (gap q e f).y ≡ pos 0 = both_0 (the_left_by e q) (the_left_by f q) e.up.y f.up.y m.first m.second in
      record {
        at = q;
        real = m.real;
        first = m.first;
        second = m.second;
        from_p = up_before p q (up_cancel (neg_ℤ (spread e f)) (dir p q).x (dir p q).y (0<-neg (spread e f) k)
            (up_by (solved p.D q.D (spread e f) (dir p q).x (gap p e f).x (gap q e f).x zx (pass_x e f p q))
            (solved p.D q.D (spread e f) (dir p q).y (gap p e f).y (gap q e f).y zy (pass_y e f p q)) (up-* m.real h)));
        to_r = up_before q r (up_cancel (neg_ℤ (spread e f)) (dir q r).x (dir q r).y (0<-neg (spread e f) k)
            (up_by (solved' q.D r.D (spread e f) (dir q r).x (gap r e f).x (gap q e f).x zx (pass_x e f q r))
            (solved' q.D r.D (spread e f) (dir q r).y (gap r e f).y (gap q e f).y zy (pass_y e f q r)) (up-* m.real l)));
      }

  -- the order is carried from just above p up to r, if no common point of the two is strictly between
  pub carried : ((spread e f ≡ pos 0 → ⊥) → Between e f p r → ⊥) → West p e f → Upto r e f
  carried free w = go (tri (pos 0) (spread e f))
    where
      near : spread e f <ℤ pos 0 → West p e f → Upto r e f
      near k (together x y s) = absurd (≤→≯ s k)
      near k (apart h) = by (which (gap r e f).x (gap r e f).y)
        where
          by : {s : Sign} → Way (gap r e f).x (gap r e f).y s → Upto r e f
          by (up l) = apart l
          by (nil x y) = together x y
          by (down l) = absurd (free (λ z. ≤→≯ (≤-of-≡ (sym z)) k) (met k h l))

      go : Tri (pos 0) (spread e f) → Upto r e f
      go (lt k) = away k w
      go (eq k) = level (sym k) w
      go (gt k) = near k w

-- ── sides ──

-- of two signs the first is not the greater
abbrev pub at_most : Sign → Sign → Bool
at_most neg t = true
at_most zer neg = false
at_most zer zer = true
at_most zer plus = true
at_most plus neg = false
at_most plus zer = false
at_most plus plus = true

-- l ≤ 0 ≤ m as signs, and not both 0
pub data Parted : Sign → Sign → Type 0 where
  right_on : Parted neg zer
  right_left : Parted neg plus
  on_left : Parted zer plus

terms : (l m u v : ℤ) → m *ℤ u +ℤ neg_ℤ l *ℤ v ≡ m *ℤ u -ℤ l *ℤ v
terms l m u v = ring (l ∷ m ∷ u ∷ v ∷ []) (search reify depth 20) tt

second_0 : (l m u v : ℤ) → m ≡ pos 0 → neg_ℤ l *ℤ v ≡ m *ℤ u -ℤ l *ℤ v
second_0 l m u v e = ≡-by₁ e (neg_ℤ u) (ring (l ∷ m ∷ u ∷ v ∷ []) (search reify depth 20) tt)

back : (l m u v : ℤ) → l *ℤ v -ℤ m *ℤ u ≡ neg_ℤ (m *ℤ u -ℤ l *ℤ v)
back l m u v = ring (l ∷ m ∷ u ∷ v ∷ []) (search reify depth 20) tt

module _ (e f : Seg) (ue : UpV e.up) (uf : UpV f.up) (r : Pt) where
  abbrev l : ℤ
  l = the_left_by e r

  abbrev m : ℤ
  m = the_left_by f r

  -- r is to the right of e and not of f, or on e and to the left of f: e is west of f
  pub parted-gap : {s t : Sign} → Sg l s → Sg m t → Parted s t → UpV (gap r e f)
  parted-gap (is_neg_lem h) (is_zer_lem k) right_on = up_by (second_0 l m e.up.x f.up.x k) (second_0 l m e.up.y f.up.y k) (up-* (0<-neg l h) uf)
  parted-gap (is_neg_lem h) (is_plus_lem k) right_left = up_by (terms l m e.up.x f.up.x) (terms l m e.up.y f.up.y) (up-+ (up-* k ue) (up-* (0<-neg l h) uf))
  parted-gap (is_zer_lem h) (is_plus_lem k) on_left = up_by (drop_first l f.up.x m e.up.x h) (drop_first l f.up.y m e.up.y h) (up-* k ue)
  parted-gap (is_neg_lem h) (is_neg_lem _) w = elim w [ ]
  parted-gap (is_zer_lem h) (is_neg_lem _) w = elim w [ ]
  parted-gap (is_zer_lem h) (is_zer_lem k) w = elim w [ ]
  parted-gap {t = t} (is_plus_lem _) _ w = elim w [ ]

module _ (e f : Seg) (ue : UpV e.up) (uf : UpV f.up) (r : Pt) where
  no_east : Upto r e f → UpV (gap r f e) → ⊥
  no_east (apart h) k =
      up_not_down h (up_by (back (the_left_by e r) (the_left_by f r) e.up.x f.up.x) (back (the_left_by e r) (the_left_by f r) e.up.y f.up.y) k)
  no_east (together x y) k =
      up_0 (back (the_left_by e r) (the_left_by f r) e.up.x f.up.x ∙ zero-neg (gap r e f).x x) (back (the_left_by e r) (the_left_by f r) e.up.y f.up.y ∙ zero-neg (gap r e f).y y) k

  -- a point that the line reaches is no further to the left of the western edge
  pub upto-sides : Upto r e f → at_most (sgn (the_left_by e r)) (sgn (the_left_by f r)) ≡ true
  upto-sides w = go (sg (the_left_by e r)) (sg (the_left_by f r))
    where
      go : {s t : Sign} → Sg (the_left_by e r) s → Sg (the_left_by f r) t → at_most s t ≡ true
      go (is_neg_lem h) k = refl
      go (is_zer_lem h) (is_neg_lem k) = absurd (no_east w (parted-gap f e uf ue r (is_neg_lem k) (is_zer_lem h) right_on))
      go (is_zer_lem h) (is_zer_lem k) = refl
      go (is_zer_lem h) (is_plus_lem k) = refl
      go (is_plus_lem h) (is_neg_lem k) = absurd (no_east w (parted-gap f e uf ue r (is_neg_lem k) (is_plus_lem h) right_left))
      go (is_plus_lem h) (is_zer_lem k) = absurd (no_east w (parted-gap f e uf ue r (is_zer_lem k) (is_plus_lem h) on_left))
      go (is_plus_lem h) (is_plus_lem k) = refl

  -- ── past r ──

  -- both through r: by their turn
  pub through-west : the_left_by e r ≡ pos 0 → the_left_by f r ≡ pos 0 → pos 0 ≤ℤ spread e f → West r e f
  through-west h k s = together (both_0 (the_left_by e r) (the_left_by f r) e.up.x f.up.x h k) (both_0 (the_left_by e r) (the_left_by f r) e.up.y f.up.y h k) s

  -- they meet the line in one point, which is not r: they are parallel
  flat : (the_left_by e r ≡ pos 0 → ⊥) → (gap r e f).x ≡ pos 0 → (gap r e f).y ≡ pos 0 → spread e f ≡ pos 0
  flat n x y = ⊎_elim (λ z. absurd (n z)) (λ z. z) (*-zero (the_left_by e r) (spread e f) (go (the_left_by e r) (the_left_by f r) e.up.x e.up.y f.up.x f.up.y x y))
    where
      go : (l m ux uy vx vy : ℤ) → m *ℤ ux -ℤ l *ℤ vx ≡ pos 0 → m *ℤ uy -ℤ l *ℤ vy ≡ pos 0 → l *ℤ (vx *ℤ uy -ℤ vy *ℤ ux) ≡ pos 0
      go l m ux uy vx vy p q = ≡-by₂ p (neg_ℤ uy) q ux (ring (l ∷ m ∷ ux ∷ uy ∷ vx ∷ vy ∷ []) (search reify depth 20) tt)

  -- an edge that does not go through r keeps its place
  pub upto-west : (the_left_by e r ≡ pos 0 → ⊥) → Upto r e f → West r e f
  upto-west n (apart h) = apart h
  upto-west n (together x y) = together x y (≤-of-≡ (sym (flat n x y)))
