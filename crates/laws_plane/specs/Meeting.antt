-- Where the lines of two edges f and e that go up meet, by signs. Let q be on both lines: a point p of f's line lies on that side of e which its place before or after q says (`side-order`), and so
-- two points of f on opposite strict sides of e have q strictly between them. In order: products of signs; the meeting point of two lines that are not parallel; sides by opposed-places and
-- back; opposite strict sides give a meeting point between (`opposite-meet`), and a crossing where it lies on both edges (`opposite-crossing`, `apart-inside`).
-- Assumes nothing.
use Rattle.std.specs.Prelude.{◌≡◌, refl, true, false, [], ◌∷◌, T, ℤ, pos, negsuc, ◌+ℤ◌, ◌*ℤ◌, ◌<ℤ◌}
use Rattle.std.proofs.Common.{sym, ◌∙◌, ap, subst, arith}
use Rattle.std.proofs.Math.Option.{some}
use Rattle.exact.specs.Solve.{ring, reify}
use Rattle.exact.specs.Order.{zomega, sq, Tri, lt, eq, gt, tri}
use Rattle.exact.specs.Sign.{Sign, neg, zer, plus, sgn, neg_s, is_neg, is_zer, is_plus, sums}
use Rattle.exact.specs.Lowest.{Pt, lowest}
use Rattle.exact.specs.Signs.{zero_is, zer-sum, sums-swap}
use Rattle.paper.specs.Plane.{Seg, cross, head, whole, order, before, same, the_left_by, opposed, apart, crossing}
use Rattle.laws_plane.specs.Cone.{UpV}
use Rattle.laws_plane.specs.Points.{after, le_before, before_le, before_asym}
use Rattle.laws_plane.specs.Ends.{0<1}
use Rattle.laws_plane.specs.Sides.{meet-signs, pass-signs, left_same-sign, left_foot, left_head}
use Rattle.laws_plane.specs.Edges.{On, Inside, inside_on, inside_between, seg_up}
use Rattle.laws_plane.specs.Crossing.{crossing-there}
use Rattle.laws_plane.specs.Signs.{times_s, times-plus, times-neg, times-zer, turn-side, opposed-places, strict, two_sides}
use Rattle.laws_plane.specs.Angles.{turn-swap}

-- ── the meeting point of two lines ──

pub record Meet (f e : Seg) (q : Pt) : Type 0 where
  pub real : pos 0 <ℤ q.D
  pub first : the_left_by f q ≡ pos 0
  pub second : the_left_by e q ≡ pos 0

pub lines-swap : {f e : Seg} {q : Pt} → Meet f e q → Meet e f q
lines-swap m = record { real = m.real; first = m.second; second = m.first }

-- with σ = 1 or -1, so that its D is positive
abbrev met_at : ℤ → Seg → Seg → Pt
met_at σ f e = record {
  X = f.foot.x *ℤ (σ *ℤ cross f.up e.up) +ℤ (σ *ℤ the_left_by e (whole f.foot)) *ℤ f.up.x;
  Y = f.foot.y *ℤ (σ *ℤ cross f.up e.up) +ℤ (σ *ℤ the_left_by e (whole f.foot)) *ℤ f.up.y;
  D = σ *ℤ cross f.up e.up;
}

met : (σ : ℤ) (f e : Seg) → pos 0 <ℤ (σ *ℤ cross f.up e.up) → Meet f e (met_at σ f e)
met σ f e h = record {
  real = h;
  first = ring (σ ∷ f.foot.x ∷ f.foot.y ∷ f.up.x ∷ f.up.y ∷ e.foot.x ∷ e.foot.y ∷ e.up.x ∷ e.up.y ∷ []) (search reify depth 20) tt;
  second = ring (σ ∷ f.foot.x ∷ f.foot.y ∷ f.up.x ∷ f.up.y ∷ e.foot.x ∷ e.foot.y ∷ e.up.x ∷ e.up.y ∷ []) (search reify depth 20) tt;
}

pub lines-meet : (f e : Seg) → (cross f.up e.up ≡ pos 0 → ⊥) → (q : Pt) × Meet f e q
lines-meet f e n = go (tri (pos 0) (cross f.up e.up))
  where
    once : (z : ℤ) → pos 0 <ℤ z → pos 0 <ℤ (pos 1 *ℤ z)
    once z = zomega (z ∷ []) (search sq depth 20) (omega arith)

    turned : (z : ℤ) → z <ℤ pos 0 → pos 0 <ℤ (negsuc 0 *ℤ z)
    turned z = zomega (z ∷ []) (search sq depth 20) (omega arith)

    go : Tri (pos 0) (cross f.up e.up) → (q : Pt) × Meet f e q
    go (lt h) = (met_at (pos 1) f e, met (pos 1) f e (once (cross f.up e.up) h))
    go (eq z) = absurd (n (sym z))
    go (gt h) = (met_at (negsuc 0) f e, met (negsuc 0) f e (turned (cross f.up e.up) h))

-- ── sides by opposed-places ──

module _ (f e : Seg) (uf : UpV f.up) (ue : UpV e.up) (q : Pt) (m : Meet f e q) where
  abbrev K : Sign
  K = sgn (cross f.up e.up)

  swapped : sgn (cross e.up f.up) ≡ neg_s K
  swapped = turn-swap f.up e.up

  module _ (p : Pt) (hp : pos 0 <ℤ p.D) (on : the_left_by f p ≡ pos 0) where
    before_q : before p q ≡ true → sgn (the_left_by e p) ≡ K
    before_q b =
        zer-sum (sgn (the_left_by e p)) K (sums-swap (sgn (the_left_by e p)) zer K
        (subst (λ (z : ℤ). T (sums (sgn (the_left_by e p)) (sgn z) K)) m.first (meet-signs f e p q on m.second uf ue hp m.real b)))

    after_q : before q p ≡ true → sgn (the_left_by e p) ≡ neg_s K
    after_q b =
        zer-sum (sgn (the_left_by e p)) (sgn (cross e.up f.up))
        (subst (λ (z : ℤ). T (sums (sgn z) (sgn (the_left_by e p)) (sgn (cross e.up f.up)))) m.first (meet-signs e f q p m.second on ue uf m.real hp b))
        ∙ swapped

    at_q : same q p ≡ true → sgn (the_left_by e p) ≡ zer
    at_q s = sym (left_same-sign e q p m.real hp s) ∙ ap sgn m.second

    -- p against e, by where p stands along f from q
    pub side-order : sgn (the_left_by e p) ≡ times_s K (order q p)
    side-order = go (order q p) refl
      where
        go : (s : Sign) → order q p ≡ s → sgn (the_left_by e p) ≡ times_s K s
        go neg o = after_q (ap is_neg o) ∙ times-neg K
        go zer o = at_q (ap is_zer o) ∙ times-zer K
        go plus o = before_q (after q p ∙ ap is_plus o) ∙ times-plus K

-- ── opposite strict sides ──

module _ (f e : Seg) (uf : UpV f.up) (ue : UpV e.up) (p r : Pt) (hp : pos 0 <ℤ p.D) (hr : pos 0 <ℤ r.D) (on-p : the_left_by f p ≡ pos 0) (on_r : the_left_by f r ≡ pos 0) where
  -- two points of f on opposite strict sides of e: not parallel
  pub opposite_turned : before p r ≡ true → opposed (sgn (the_left_by e p)) (sgn (the_left_by e r)) ≡ true → sgn (cross f.up e.up) ≡ sgn (the_left_by e p)
  opposite_turned b o = turn-side (sgn (the_left_by e p)) (sgn (the_left_by e r)) (sgn (cross f.up e.up)) o (pass-signs f e p r on-p on_r uf hp hr b)

  -- and the meeting point is strictly between them
  pub opposite_between : (q : Pt) → Meet f e q → before p r ≡ true → opposed (sgn (the_left_by e p)) (sgn (the_left_by e r)) ≡ true → (before p q ≡ true) × (before q r ≡ true)
  opposite_between q m b o =
      let k = opposite_turned b o in
      let w = opposed-places (sgn (the_left_by e p)) (sgn (the_left_by e r)) (order q p) (order q r) o
      (side-order f e uf ue q m p hp on-p ∙ ap (λ (s : Sign). times_s s (order q p)) k)
      (side-order f e uf ue q m r hr on_r ∙ ap (λ (s : Sign). times_s s (order q r)) k) in
      (after q p ∙ ap is_plus w.0, ap is_neg w.1)

  pub opposite-meet : before p r ≡ true → opposed (sgn (the_left_by e p)) (sgn (the_left_by e r)) ≡ true → (q : Pt) × Meet f e q × (before p q ≡ true) × (before q r ≡ true)
  opposite-meet b o =
      let m = lines-meet f e (λ z. strict (sgn (the_left_by e p)) (sgn (the_left_by e r)) o (sym (opposite_turned b o) ∙ ap sgn z)) in
      let w = opposite_between m.0 m.1 b o in
      (m.0, m.1, w.0, w.1)

-- ── on both edges ──

-- two points of f on opposite strict sides of e, neither below e's lower end nor above its upper end: e crosses f strictly between them
pub opposite-crossing : (f e : Seg) → UpV f.up → UpV e.up → (p r : Pt) → pos 0 <ℤ p.D → pos 0 <ℤ r.D → On f p → On f r → before p r ≡ true →
    opposed (sgn (the_left_by e p)) (sgn (the_left_by e r)) ≡ true → before p (whole e.foot) ≡ false → before (whole (head e)) r ≡ false →
    (q : Pt) × (pos 0 <ℤ q.D) × On f q × On e q × (before p q ≡ true) × (before q r ≡ true) × (crossing f e ≡ some (lowest q.X q.Y q.D))
opposite-crossing f e uf ue p r hp hr op or b o low high =
    let (q, m, pq, qr) = opposite-meet f e uf ue p r hp hr op.line or.line b o in
    let h = m.real in
    let on_f : On f q = inside_on f q (inside_between f p q r hp h hr op or m.first pq qr) in
    let on_e : On e q = record {
      line = m.second;
      low = before_asym (whole e.foot) q (le_before (whole e.foot) p q 0<1 hp h low pq);
      high = before_asym q (whole (head e)) (before_le q r (whole (head e)) h hr 0<1 qr high);
    } in
    (q, h, on_f, on_e, pq, qr, crossing-there f e uf ue q (λ z. strict (sgn (the_left_by e p)) (sgn (the_left_by e r)) o (sym (opposite_turned f e uf ue p r hp hr op.line or.line b o) ∙ ap sgn z)) h on_f on_e)

module _ (f e : Seg) (uf : UpV f.up) (ue : UpV e.up) where
  -- the ends of each on opposite strict sides of the other: they cross inside both
  pub apart-inside : apart e f ≡ true → apart f e ≡ true → (q : Pt) × (pos 0 <ℤ q.D) × Inside f q × Inside e q
  apart-inside ef fe =
      let (q, m, a, b) = opposite-meet f e uf ue (whole f.foot) (whole (head f)) 0<1 0<1 (left_foot f) (left_head f) (seg_up f uf) ef in
      let (c, d) = opposite_between e f ue uf (whole e.foot) (whole (head e)) 0<1 0<1 (left_foot e) (left_head e) q (lines-swap m) (seg_up e ue) fe in
      (q, m.real, record { line = m.first; low = a; high = b }, record { line = m.second; low = c; high = d })

  -- and back: where they cross inside f and are not parallel, the ends of f are on opposite strict sides of e
  pub inside-apart : (q : Pt) → pos 0 <ℤ q.D → Inside f q → the_left_by e q ≡ pos 0 → (cross f.up e.up ≡ pos 0 → ⊥) → apart e f ≡ true
  inside-apart q h i l n =
      let m : Meet f e q = record { real = h; first = i.line; second = l } in
      (λ t. opposed (before_q f e uf ue q m (whole f.foot) 0<1 (left_foot f) i.low t) (after_q f e uf ue q m (whole (head f)) 0<1 (left_head f) i.high t))
      ∙ two_sides (sgn (cross f.up e.up)) (λ z. n (zero_is (cross f.up e.up) (ap is_zer z)))
