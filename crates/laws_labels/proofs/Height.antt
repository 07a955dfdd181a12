-- Of Height of specs/, what rests on its definitions.
use Rattle.std.specs.Prelude.{◌≡◌, Bool, not, ◌&&◌, [], ◌∷◌, ℤ, ◌-ℤ◌, ◌*ℤ◌, ◌≤ℤ◌, ◌<ℤ◌}
use Rattle.std.proofs.Math.Path.{refl, ap}
use Rattle.std.proofs.Common.{sym, ◌∙◌, subst, arith}
use Rattle.std.proofs.Math.Bool.{true, false}
use Rattle.std.proofs.Math.IntN.{pos, neg_ℤ}
use Rattle.exact.specs.Solve.{ring, reify}
use Rattle.exact.specs.Order.{zomega, sq, 0≤-*, 0<-*, <→≤}
use Rattle.exact.specs.Mul.{≡-by₁, ≡-by₂}
use Rattle.exact.specs.Sign.{Sign, neg, zer, plus, sgn, sgn-neg, Sg, is_neg_lem, is_zer_lem, is_plus_lem, sg, is_neg, is_zer, neg_s, sgn-negℤ, pick}
use Rattle.exact.specs.Signs.{zero_is}
use Rattle.paper.specs.Plane.{Pt, Vec, Seg, dir, cross, the_left_by}
use Rattle.laws_plane.specs.Cone.{above as rising, level, UpV}
use Rattle.laws_plane.specs.Sides.{left_chord}
use Rattle.laws_labels.specs.Spans.{Span, Good}
use Rattle.laws_labels.specs.Near.{near}
use Rattle.laws_labels.specs.Cuts.{lo, hi, reach_above, above}
use Rattle.laws_labels.specs.Height.{scaled, t, at_height_of, no_climb}

-- ── point order and height ──

-- a, b: the heights of p against the ends; x, y: the same of x; s: p against the edge. A test that rejects a positive s does not see the difference
steep-signs : (on : Bool) (k a b s x y : Sign) → (a ≡ zer → s ≡ neg_s x) → (b ≡ zer → s ≡ neg_s y) →
    ((not (is_neg (pick a x)) && is_neg (pick b y)) && near on s k) ≡ ((not (is_neg a) && is_neg b) && near on s k)
steep-signs on k neg b s x y f g = refl
steep-signs on k plus neg s x y f g = refl
steep-signs on k plus plus s x y f g = refl
steep-signs on k plus zer s x y f g = subst (λ (t : Sign). (is_neg y && near on t k) ≡ false) (sym (g refl)) (no y)
  where
    no : (y : Sign) → (is_neg y && near on (neg_s y) k) ≡ false
    no neg = refl
    no zer = refl
    no plus = refl
steep-signs on k zer neg s x y f g = subst (λ (t : Sign). ((not (is_neg x) && true) && near on t k) ≡ near on t k) (sym (f refl)) (no x)
  where
    no : (x : Sign) → ((not (is_neg x) && true) && near on (neg_s x) k) ≡ near on (neg_s x) k
    no neg = refl
    no zer = refl
    no plus = refl
steep-signs on k zer plus s x y f g = off (is_neg x)
  where
    off : (b : Bool) → ((not b && false) && near on s k) ≡ false
    off true = refl
    off false = refl
steep-signs on k zer zer s x y f g =
    subst (λ (t : Sign). ((not (is_neg x) && is_neg y) && near on t k) ≡ false) (sym (g refl)) (no (not (is_neg x)) y)
  where
    no : (b : Bool) (y : Sign) → ((b && is_neg y) && near on (neg_s y) k) ≡ false
    no true neg = refl
    no true zer = refl
    no true plus = refl
    no false y = refl

flat-signs : (on : Bool) (k a s x y : Sign) → near on zer k ≡ false → (a ≡ zer → s ≡ zer) →
    ((not (is_neg (pick a x)) && is_neg (pick a y)) && near on s k) ≡ ((not (is_neg a) && is_neg a) && near on s k)
flat-signs on k neg s x y n f = refl
flat-signs on k plus s x y n f = refl
flat-signs on k zer s x y n f = subst (λ (t : Sign). ((not (is_neg x) && is_neg y) && near on t k) ≡ false) (sym (f refl)) (ap (λ (b : Bool). (not (is_neg x) && is_neg y) && b) n ∙ off (not (is_neg x) && is_neg y))
  where
    off : (b : Bool) → (b && false) ≡ false
    off true = refl
    off false = refl

-- ── p against a point of the line at its height ──

module _ (t : Seg) (p z : Pt) (hz : pos 0 <ℤ z.D) (on : the_left_by t z ≡ pos 0) where
  -- the side of p against the line, from z
  from_end : z.D *ℤ the_left_by t p ≡ cross t.up (dir z p)
  from_end = law (z.D *ℤ the_left_by t p) p.D (the_left_by t z) (cross t.up (dir z p)) (left_chord t z p) on
    where
      law : (a c m x : ℤ) → x ≡ a -ℤ c *ℤ m → m ≡ pos 0 → a ≡ x
      law a c m x e h = sym (e ∙ ≡-by₁ h (neg_ℤ c) (ring (a ∷ c ∷ m ∷ []) (search reify depth 20) tt))

  side_by : (y : ℤ) → z.D *ℤ the_left_by t p ≡ y → sgn (the_left_by t p) ≡ sgn y
  side_by y e = sym (scaled z.D (the_left_by t p) (z.D *ℤ the_left_by t p) hz refl) ∙ ap sgn e

  -- where the line climbs it is by x
  end-side : pos 0 <ℤ t.up.y → (dir z p).y ≡ pos 0 → sgn (the_left_by t p) ≡ neg_s (sgn (dir z p).x)
  end-side h l =
      side_by (t.up.y *ℤ neg_ℤ (dir z p).x) (from_end ∙ law t.up.x t.up.y (dir z p).x (dir z p).y l)
      ∙ scaled t.up.y (neg_ℤ (dir z p).x) (t.up.y *ℤ neg_ℤ (dir z p).x) h refl ∙ sgn-negℤ (dir z p).x
    where
      law : (a b x y : ℤ) → y ≡ pos 0 → a *ℤ y -ℤ b *ℤ x ≡ b *ℤ neg_ℤ x
      law a b x y h = ≡-by₁ h a (ring (a ∷ b ∷ x ∷ y ∷ []) (search reify depth 20) tt)

  -- where it is level p is on it
  end-flat : t.up.y ≡ pos 0 → (dir z p).y ≡ pos 0 → sgn (the_left_by t p) ≡ zer
  end-flat h l = side_by (pos 0) (from_end ∙ law t.up.x t.up.y (dir z p).x (dir z p).y h l)
    where
      law : (a b x y : ℤ) → b ≡ pos 0 → y ≡ pos 0 → a *ℤ y -ℤ b *ℤ x ≡ pos 0
      law a b x y h l = ≡-by₂ l a h (neg_ℤ x) (ring (a ∷ b ∷ x ∷ y ∷ []) (search reify depth 20) tt)

module _ (p : Pt) (e : Span) (G : Good e) where
  -- the heights of p against the ends, and the same of x
  abbrev ya : ℤ
  ya = (dir (lo e) p).y

  abbrev yb : ℤ
  yb = (dir (hi e) p).y

  abbrev xa : ℤ
  xa = (dir (lo e) p).x

  abbrev xb : ℤ
  xb = (dir (hi e) p).x

  steep : (on : Bool) (k : Sign) → pos 0 <ℤ (t p e G).up.y → (reach_above p e && near on (sgn (the_left_by (t p e G) p)) k) ≡ (at_height_of p e && near on (sgn (the_left_by (t p e G) p)) k)
  steep on k h = steep-signs on k (sgn ya) (sgn yb) (sgn (the_left_by (t p e G) p)) (sgn xa) (sgn xb)
      (λ z. end-side (t p e G) p (lo e) G.p_real G.p_on h (zero_is ya (ap is_zer z)))
      (λ z. end-side (t p e G) p (hi e) G.r_real G.r_on h (zero_is yb (ap is_zer z)))

  flat-heights : (t p e G).up.y ≡ pos 0 → pos 0 <ℤ (t p e G).up.x → sgn yb ≡ sgn ya
  flat-heights h x =
      sym (scaled (lo e).D yb ((lo e).D *ℤ yb) G.p_real refl)
      ∙ ap sgn (law (lo e).Y (lo e).D (hi e).Y (hi e).D p.Y p.D (no_climb p e G h x))
      ∙ scaled (hi e).D ya ((hi e).D *ℤ ya) G.r_real refl
    where
      law : (ly ld hy hd py pd : ℤ) → hy *ℤ ld -ℤ ly *ℤ hd ≡ pos 0 → ld *ℤ (py *ℤ hd -ℤ hy *ℤ pd) ≡ hd *ℤ (py *ℤ ld -ℤ ly *ℤ pd)
      law ly ld hy hd py pd e = ≡-by₁ e (neg_ℤ pd) (ring (ly ∷ ld ∷ hy ∷ hd ∷ py ∷ pd ∷ []) (search reify depth 20) tt)

  flat : (on : Bool) (k : Sign) → (t p e G).up.y ≡ pos 0 → pos 0 <ℤ (t p e G).up.x → near on zer k ≡ false → (reach_above p e && near on (sgn (the_left_by (t p e G) p)) k) ≡ (at_height_of p e && near on (sgn (the_left_by (t p e G) p)) k)
  flat on k h x n =
      (λ i. (not (is_neg (pick (sgn ya) (sgn xa))) && is_neg (pick (flat-heights h x i) (sgn xb))) && near on (sgn (the_left_by (t p e G) p)) k)
      ∙ flat-signs on k (sgn ya) (sgn (the_left_by (t p e G) p)) (sgn xa) (sgn xb) n (λ z. end-flat (t p e G) p (lo e) G.p_real G.p_on h (zero_is ya (ap is_zer z)))
      ∙ (λ i. (not (is_neg (sgn ya)) && is_neg (sym (flat-heights h x) i)) && near on (sgn (the_left_by (t p e G) p)) k)

  by_height : (on : Bool) (k : Sign) → UpV (t p e G).up → ((t p e G).up.y ≡ pos 0 → pos 0 <ℤ (t p e G).up.x → near on zer k ≡ false) →
      (reach_above p e && near on (sgn (the_left_by (t p e G) p)) k) ≡ (at_height_of p e && near on (sgn (the_left_by (t p e G) p)) k)
  by_height on k (rising h) n = steep on k h
  by_height on k (level z h) n = flat on k z h (n z h)

-- ── the candidates ──

-- a level edge turns to the right of a direction that does not fall, or not at all
level-turn : (d u : Vec) → u.y ≡ pos 0 → cross d u ≡ neg_ℤ (d.y *ℤ u.x)
level-turn d u z = ≡-by₁ z d.x (ring (d.x ∷ d.y ∷ u.x ∷ u.y ∷ []) (search reify depth 20) tt)

module _ (p : Pt) (d : Vec) (e : Span) (ue : Good e) where
  -- on the left of a direction that does not fall
  pub above_height : pos 0 ≤ℤ d.y → above false p d e ≡ (at_height_of p e && near false (sgn (the_left_by e.line p)) (sgn (cross d e.line.up)))
  unfolding above
  above_height h = by_height p e ue false (sgn (cross d e.line.up)) ue.rises (λ z x. no (sg (cross d e.line.up))
      (zomega (cross d e.line.up ∷ d.y ∷ e.line.up.x ∷ []) {A = cross d e.line.up ≡ neg_ℤ (d.y *ℤ e.line.up.x) → pos 0 ≤ℤ (d.y *ℤ e.line.up.x) → cross d e.line.up ≤ℤ pos 0} (search sq depth 20) (omega arith)
      (level-turn d e.line.up z) (0≤-* h (<→≤ x))))
    where
      no : {s : Sign} → Sg (cross d e.line.up) s → cross d e.line.up ≤ℤ pos 0 → near false zer s ≡ false
      no (is_neg_lem a) b = refl
      no (is_zer_lem a) b = refl
      no (is_plus_lem a) b = absurd (zomega (cross d e.line.up ∷ []) {A = pos 0 <ℤ cross d e.line.up → cross d e.line.up ≤ℤ pos 0 → ⊥} (search sq depth 20) (omega arith) a b)

  -- on the right of one that climbs
  pub right_height : pos 0 <ℤ d.y → above true p d e ≡ (at_height_of p e && near true (sgn (the_left_by e.line p)) (sgn (cross d e.line.up)))
  unfolding above
  right_height h = by_height p e ue true (sgn (cross d e.line.up)) ue.rises (λ z x. ap (near true zer) (sgn-neg
      (zomega (cross d e.line.up ∷ d.y ∷ e.line.up.x ∷ []) {A = cross d e.line.up ≡ neg_ℤ (d.y *ℤ e.line.up.x) → pos 0 <ℤ (d.y *ℤ e.line.up.x) → cross d e.line.up <ℤ pos 0} (search sq depth 20) (omega arith)
      (level-turn d e.line.up z) (0<-* h x))))
