-- Of Looks of specs/, what rests on its definitions.
use Rattle.std.specs.Prelude.{◌≡◌, refl, ◌⊎◌, ◌<ℤ◌, ◌∷◌, ◌+ℤ◌, ◌-ℤ◌, ◌*ℤ◌}
use Rattle.std.proofs.Common.{sym, ◌∙◌, ap, inl, inr}
use Rattle.std.proofs.Math.Decide.{ℕ_discrete}
use Rattle.std.proofs.Math.IntN.{+ℤ_invr}
use Rattle.seq.specs.Seq.{Bool, true, false, not, [], Option, none, some, ℕ, ℤ, pos, neg_ℤ}
use Rattle.seq.specs.Terms.{Has}
use Rattle.seq.specs.Tests.{clash, and_both, and_parts}
use Rattle.exact.specs.Solve.{ring, reify}
use Rattle.exact.specs.Order.{<→≢, 0<-*, 0<-neg, neg-<0, neg-zero, sgn-plus}
use Rattle.exact.specs.Sign.{Sign, sgn, is_zer, is_plus, Sg, is_neg_lem, is_zer_lem, is_plus_lem, sg}
use Rattle.exact.specs.Mul.{0<-by, 0<-cancel, zero-cancel}
use Rattle.exact.specs.Tests.{never}
use Rattle.paper.specs.Plane.{Pt, Vec, Seg, cross, dir, before, same, below, rises, less_angle, the_left_by}
use Rattle.paper.specs.Graph.{Graph, edge_count, edge, low, upward, left_of, at_height, westward, nearer, east_side, west}
use Rattle.laws_plane.specs.Cone.{Up, above, level, nil, UpV, lex_is, lex_nil, up_nonzero}
use Rattle.laws_plane.specs.Points.{before_up, up_before, before_asym, same_sym, same_neither}
use Rattle.laws_plane.specs.Angles.{SameWay, same_way_up, same_way_sym, angle_test, angle_asym}
use Rattle.laws_plane.proofs.Angles.{same_way-greater}
use Rattle.laws_graph.specs.Plane.{Plane, upward_up}
use Rattle.laws_graph.specs.West.{candidate, height_is, westward_is, right_westward, turned-westward, ahead, nearer_up, height-steep}
use Rattle.laws_graph.specs.Nearest.{Clear, SeesOne, west-nearest}
use Rattle.laws_promise.specs.Looking.{Passes, Candidate, Nearest, Looks}
use Rattle.laws_promise.specs.Looks.{Lookable}

-- ── no second answer ──

module _ (g : Graph) (p : Pt) (d : Vec) where
  one_nearest : (k r : ℕ) → Nearest g p d k → Nearest g p d r → k ≡ r
  one_nearest k r N M =
      elim (ℕ_discrete k r) [
        | yes e ↦ e
        | no n ↦ absurd (go (N.beats r M.point M.counts (λ e. n (sym e))) (M.beats k N.point N.counts n))
      ]
    where
      a : Pt
      a = N.point

      b : Pt
      b = M.point

      go : (before b a ≡ true) ⊎ ((same b a ≡ true) × (less_angle (upward g k) (upward g r) ≡ true)) → (before a b ≡ true) ⊎ ((same a b ≡ true) × (less_angle (upward g r) (upward g k) ≡ true)) → ⊥
      go (inl e) (inl f) = clash f (before_asym b a e)
      go (inl e) (inr (f, l)) = clash e (same_neither b a (same_sym a b f))
      go (inr (e, l)) (inl f) = clash f (same_neither a b (same_sym b a e))
      go (inr (e, l)) (inr (f, m)) = clash m (angle_asym (upward g k) (upward g r) l)

  pub looks-once : (o s : Option ℕ) → Looks g p d o → Looks g p d s → o ≡ s
  looks-once none none a b = refl
  looks-once none (some h) a (k, N, e) = absurd (a k N.point N.counts)
  looks-once (some h) none (k, N, e) b = absurd (b k N.point N.counts)
  looks-once (some h) (some r) (k, N, e) (j, M, f) = ap some (sym e ∙ ap (east_side g) (one_nearest k j N M) ∙ f)

-- ── an edge's point at the height of p ──

abbrev height_point : Seg → Pt → Pt
height_point s p = record {
  X = s.foot.x *ℤ s.up.y *ℤ p.D +ℤ s.up.x *ℤ (p.Y -ℤ s.foot.y *ℤ p.D);
  Y = p.Y *ℤ s.up.y;
  D = p.D *ℤ s.up.y;
}

height-level : (s : Seg) (p : Pt) → (height_point s p).Y *ℤ p.D ≡ p.Y *ℤ (height_point s p).D
height-level s p = ring (s.up.y ∷ p.Y ∷ p.D ∷ []) (search reify depth 20) tt

height_on : (s : Seg) (p : Pt) → the_left_by s (height_point s p) ≡ pos 0
height_on s p = ring (s.foot.x ∷ s.foot.y ∷ s.up.x ∷ s.up.y ∷ p.Y ∷ p.D ∷ []) (search reify depth 20) tt

-- how far p lies to the right of an edge, by the edge's point q at its height
right_by : (s : Seg) (p q : Pt) → q.D *ℤ neg_ℤ (the_left_by s p) ≡ s.up.y *ℤ (dir q p).x +ℤ (s.up.x *ℤ (dir p q).y -ℤ p.D *ℤ the_left_by s q)
right_by s p q = ring (s.foot.x ∷ s.foot.y ∷ s.up.x ∷ s.up.y ∷ p.X ∷ p.Y ∷ p.D ∷ q.X ∷ q.Y ∷ q.D ∷ []) (search reify depth 20) tt

-- how far edge s is ahead of edge t at the height of p, by their points q and r there
ahead_by : (s t : Seg) (p q r : Pt) →
    (q.D *ℤ r.D) *ℤ (the_left_by s p *ℤ t.up.y -ℤ the_left_by t p *ℤ s.up.y)
    ≡ (s.up.y *ℤ t.up.y *ℤ p.D) *ℤ (dir r q).x +ℤ ((r.D *ℤ t.up.y) *ℤ (p.D *ℤ the_left_by s q -ℤ s.up.x *ℤ (dir p q).y) -ℤ (q.D *ℤ s.up.y) *ℤ (p.D *ℤ the_left_by t r -ℤ t.up.x *ℤ (dir p r).y))
ahead_by s t p q r =
    ring (s.foot.x ∷ s.foot.y ∷ s.up.x ∷ s.up.y ∷ t.foot.x ∷ t.foot.y ∷ t.up.x ∷ t.up.y ∷ p.X ∷ p.Y ∷ p.D ∷ q.X ∷ q.Y ∷ q.D ∷ r.X ∷ r.Y ∷ r.D ∷ []) (search reify depth 20) tt

-- two points at the height of p are at one height
both_level : (p q r : Pt) → p.D *ℤ (dir r q).y ≡ r.D *ℤ (dir p q).y -ℤ q.D *ℤ (dir p r).y
both_level p q r = ring (p.Y ∷ p.D ∷ q.Y ∷ q.D ∷ r.Y ∷ r.D ∷ []) (search reify depth 20) tt

drop_one : (a b c : ℤ) → a +ℤ (b *ℤ pos 0 -ℤ c *ℤ pos 0) ≡ a
drop_one a b c = ring (a ∷ b ∷ c ∷ []) (search reify depth 20) tt

drop_two : (a b c d e f h : ℤ) → a +ℤ (b *ℤ (c *ℤ pos 0 -ℤ d *ℤ pos 0) -ℤ e *ℤ (f *ℤ pos 0 -ℤ h *ℤ pos 0)) ≡ a
drop_two a b c d e f h = ring (a ∷ b ∷ c ∷ d ∷ e ∷ f ∷ h ∷ []) (search reify depth 20) tt

drop_all : (a b : ℤ) → a *ℤ pos 0 -ℤ b *ℤ pos 0 ≡ pos 0
drop_all a b = ring (a ∷ b ∷ []) (search reify depth 20) tt

times_zero : (a : ℤ) → a *ℤ pos 0 ≡ pos 0
times_zero a = ring (a ∷ []) (search reify depth 20) tt

no_zero : {z : ℤ} → z ≡ pos 0 → pos 0 <ℤ z → ⊥
no_zero e h = <→≢ h (sym e)

-- of points at one height: before is west, the same is the same x
module _ (a b : Pt) (e : (dir a b).y ≡ pos 0) where
  before_west : before a b ≡ true → pos 0 <ℤ (dir a b).x
  before_west h = go (before_up a b h)
    where
      go : Up (dir a b).x (dir a b).y → pos 0 <ℤ (dir a b).x
      go (above l) = absurd (no_zero e l)
      go (level f l) = l

  west_before : pos 0 <ℤ (dir a b).x → before a b ≡ true
  west_before l = up_before a b (level e l)

  same_x : same b a ≡ true → (dir a b).x ≡ pos 0
  same_x h = (lex_nil (dir a b).x (dir a b).y h).0

  x_same : (dir a b).x ≡ pos 0 → same a b ≡ true
  x_same f = same_sym b a (ap is_zer (lex_is (dir a b).x (dir a b).y (nil f e)))

-- ── angles of upward directions ──

plus_true : (z : ℤ) → is_plus (sgn z) ≡ true → pos 0 <ℤ z
plus_true z = go (sg z)
  where
    go : {s : Sign} → Sg z s → is_plus s ≡ true → pos 0 <ℤ z
    go (is_neg_lem h) e = never e
    go (is_zer_lem h) e = never e
    go (is_plus_lem h) e = h

less_turn : (d u : Vec) → rises u ≡ true → less_angle d u ≡ true → (rises d ≡ true) × (pos 0 <ℤ cross d u)
less_turn d u r l = let q = go (rises d) (rises u) (is_plus (sgn (cross d u))) r l in (q.0, plus_true (cross d u) q.1)
  where
    go : (a b s : Bool) → b ≡ true → angle_test a b s ≡ true → (a ≡ true) × (s ≡ true)
    go true true s e f = (refl, f)
    go true false s e f = never e
    go false true s e f = never f
    go false false s e f = never e

turn_less : (d u : Vec) → rises d ≡ true → rises u ≡ true → pos 0 <ℤ cross d u → less_angle d u ≡ true
turn_less d u a b h = λ i. angle_test (a i) (b i) (is_plus (sgn-plus h i))

zero_turn : (x y : ℤ) → pos 0 *ℤ y -ℤ pos 0 *ℤ x ≡ pos 0
zero_turn x y = ring (x ∷ y ∷ []) (search reify depth 20) tt

lookable_less : (d u : Vec) → Lookable d → rises u ≡ true → pos 0 <ℤ cross d u → less_angle d u ≡ true
lookable_less d u (inl a) b h = turn_less d u a b h
lookable_less d u (inr e) b h = absurd (no_zero (ap (λ (v : Vec). cross v u) e ∙ zero_turn u.x u.y) h)

-- ── the tests, by points ──

module _ (g : Graph) (P : Plane g) (p : Pt) (hp : pos 0 <ℤ p.D) where
  module _ (k : ℕ) (q : Pt) (S : Passes g p k q) where
    flat : (dir p q).y ≡ pos 0
    flat = ap (λ (z : ℤ). z -ℤ p.Y *ℤ q.D) S.level ∙ +ℤ_invr (p.Y *ℤ q.D)

    flat_back : (dir q p).y ≡ pos 0
    flat_back = ap (λ (z : ℤ). p.Y *ℤ q.D -ℤ z) S.level ∙ +ℤ_invr (p.Y *ℤ q.D)

    at_height_lem : at_height g p k ≡ true
    at_height_lem = and_both {a = not (below p (low g k))} (ap not S.low_end) S.high_end

    steep : pos 0 <ℤ (upward g k).y
    steep = height-steep g P p hp k S.is_edge at_height_lem

    climbs : rises (upward g k) ≡ true
    climbs = P.rising k S.is_edge

    -- p is as far right of the edge as it is east of q
    right_is : q.D *ℤ neg_ℤ (left_of g p k) ≡ (upward g k).y *ℤ (dir q p).x
    right_is =
        right_by (edge g k).carrier p q
        ∙ (λ i. (upward g k).y *ℤ (dir q p).x +ℤ ((upward g k).x *ℤ flat i -ℤ p.D *ℤ S.on_line i))
        ∙ drop_one ((upward g k).y *ℤ (dir q p).x) (upward g k).x p.D

    module _ (d : Vec) where
      west-test : (before q p ≡ true) ⊎ ((same q p ≡ true) × (less_angle d (upward g k) ≡ true)) → westward g p d k ≡ true
      west-test (inl b) = right_westward g p k d (neg-<0 (left_of g p k) (0<-cancel q.D (neg_ℤ (left_of g p k)) S.real (0<-by right_is (0<-* steep (before_west q p flat_back b)))))
      west-test (inr (s, m)) =
          turned-westward g p k d
          (neg-zero (left_of g p k) (zero-cancel q.D (neg_ℤ (left_of g p k)) S.real
          (right_is ∙ ap (λ (z : ℤ). (upward g k).y *ℤ z) (same_x q p flat_back (same_sym q p s)) ∙ times_zero (upward g k).y)))
          (less_turn d (upward g k) climbs m).1

      test-west : Lookable d → westward g p d k ≡ true → (before q p ≡ true) ⊎ ((same q p ≡ true) × (less_angle d (upward g k) ≡ true))
      test-west L w = go (westward_is g p k d w)
        where
          go : (left_of g p k <ℤ pos 0) ⊎ ((left_of g p k ≡ pos 0) × (pos 0 <ℤ cross d (upward g k))) → (before q p ≡ true) ⊎ ((same q p ≡ true) × (less_angle d (upward g k) ≡ true))
          go (inl h) = inl (west_before q p flat_back (0<-cancel (upward g k).y (dir q p).x steep (0<-by (sym right_is) (0<-* S.real (0<-neg (left_of g p k) h)))))
          go (inr (e, h)) =
              inr (
                x_same q p flat_back (zero-cancel (upward g k).y (dir q p).x steep (sym right_is ∙ ap (λ (z : ℤ). q.D *ℤ neg_ℤ z) e ∙ times_zero q.D)),
                lookable_less d (upward g k) L climbs h,
              )

  -- the edges that count are the definition's candidates
  candidate_has : (d : Vec) (k : ℕ) (q : Pt) → Candidate g p d k q → Has (candidate g p d) (edge_count g) k
  candidate_has d k q C = record {
    below = C.passes.is_edge;
    has = and_both {a = at_height g p k} (at_height_lem k q C.passes) (west-test k q C.passes d C.west);
  }

  has_candidate : (d : Vec) → Lookable d → (k : ℕ) → Has (candidate g p d) (edge_count g) k → (q : Pt) × Candidate g p d k q
  has_candidate d L k h =
      let s = (edge g k).carrier in
      let r = and_parts (at_height g p k) (westward g p d k) h.has in
      let a = height_is g p k r.0 in
      let S : Passes g p k (height_point s p) = record {
        is_edge = h.below;
        low_end = a.0;
        high_end = a.1;
        real = 0<-* hp (height-steep g P p hp k h.below r.0);
        level = height-level s p;
        on_line = height_on s p;
      } in
      (height_point s p, record { passes = S; west = test-west k (height_point s p) S d L r.1 })

  -- and nearer by the definition is east, or of lesser angle
  module _ (k r : ℕ) (q s : Pt) (S : Passes g p k q) (R : Passes g p r s) where
    abbrev u : Vec
    u = upward g k

    abbrev v : Vec
    v = upward g r

    flat_both : (dir s q).y ≡ pos 0
    flat_both = zero-cancel p.D (dir s q).y hp (both_level p q s ∙ (λ i. s.D *ℤ flat k q S i -ℤ q.D *ℤ flat r s R i) ∙ drop_all s.D q.D)

    ahead_is : (q.D *ℤ s.D) *ℤ ahead g p k r ≡ (u.y *ℤ v.y *ℤ p.D) *ℤ (dir s q).x
    ahead_is =
        ahead_by (edge g k).carrier (edge g r).carrier p q s
        ∙ (λ i. (u.y *ℤ v.y *ℤ p.D) *ℤ (dir s q).x +ℤ ((s.D *ℤ v.y) *ℤ (p.D *ℤ S.on_line i -ℤ u.x *ℤ flat k q S i) -ℤ (q.D *ℤ u.y) *ℤ (p.D *ℤ R.on_line i -ℤ v.x *ℤ flat r s R i)))
        ∙ drop_two ((u.y *ℤ v.y *ℤ p.D) *ℤ (dir s q).x) (s.D *ℤ v.y) p.D u.x (q.D *ℤ u.y) p.D v.x

    ground : pos 0 <ℤ (u.y *ℤ v.y *ℤ p.D)
    ground = 0<-* (0<-* (steep k q S) (steep r s R)) hp

    nearer-east : nearer g p k r ≡ true → (before s q ≡ true) ⊎ ((same s q ≡ true) × (less_angle u v ≡ true))
    nearer-east e = go (nearer_up g p k r e)
      where
        go : Up (cross u v) (ahead g p k r) → (before s q ≡ true) ⊎ ((same s q ≡ true) × (less_angle u v ≡ true))
        go (above h) = inl (west_before s q flat_both (0<-cancel (u.y *ℤ v.y *ℤ p.D) (dir s q).x ground (0<-by (sym ahead_is) (0<-* (0<-* S.real R.real) h))))
        go (level z h) =
            inr (
              x_same s q flat_both (zero-cancel (u.y *ℤ v.y *ℤ p.D) (dir s q).x ground (sym ahead_is ∙ ap (λ (x : ℤ). (q.D *ℤ s.D) *ℤ x) z ∙ times_zero (q.D *ℤ s.D))),
              turn_less u v (climbs k q S) (climbs r s R) h,
            )

  -- ── the definition's answer ──

  sees-looks : (d : Vec) → Lookable d → (o : Option ℕ) → SeesOne g p d o → Looks g p d o
  sees-looks d L none f = λ k q C. f k (candidate_has d k q C)
  sees-looks d L (some h) (k, B, e) =
      let (q, C) = has_candidate d L k B.is in
      (k, record { point = q; counts = C; beats = λ r s D n. nearer-east k r q s C.passes D.passes (B.beats r (candidate_has d r s D) n) }, e)

  pub west-looks : Clear g → (d : Vec) → Lookable d → Looks g p d (west g p d)
  west-looks C d L = sees-looks d L (west g p d) (west-nearest g P p hp C d)

-- ── along directions of one way ──

module _ (g : Graph) (P : Plane g) (p : Pt) where
  candidate-along : (d e : Vec) → UpV d → SameWay d e → (k : ℕ) (q : Pt) → Candidate g p d k q → Candidate g p e k q
  candidate-along d e h s k q C = record { passes = C.passes; west = go C.west }
    where
      go : (before q p ≡ true) ⊎ ((same q p ≡ true) × (less_angle d (upward g k) ≡ true)) → (before q p ≡ true) ⊎ ((same q p ≡ true) × (less_angle e (upward g k) ≡ true))
      go (inl b) = inl b
      go (inr (z, l)) =
          inr (z, same_way-greater (upward g k) d e (up_nonzero (upward g k) (upward_up g P k C.passes.is_edge)) (up_nonzero d h) (up_nonzero e (same_way_up d e s h)) l s)

  pub looks-along : (d e : Vec) → UpV d → SameWay d e → (o : Option ℕ) → Looks g p d o → Looks g p e o
  looks-along d e h s none f = λ k q C. f k q (candidate-along e d (same_way_up d e s h) (same_way_sym d e s) k q C)
  looks-along d e h s (some x) (k, N, y) = (
    k,
    record {
      point = N.point;
      counts = candidate-along d e h s k N.point N.counts;
      beats = λ r q C. N.beats r q (candidate-along e d (same_way_up d e s h) (same_way_sym d e s) r q C);
    },
    y,
  )
