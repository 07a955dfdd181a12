-- Rule 8 for two edges with each side reckoned once: reasons why two edges that go up do not clash. The ends of the one lie strictly on one side of the other (`one_side`); the one ends where the other starts, or
-- before (`end_to_end`); they start together, or end together, and go different ways (`common-foot`, `common-head`). Assumes nothing.
use Rattle.std.specs.Prelude.{◌≡◌, [], ◌∷◌, ◌⊎◌, ◌≤◌, ◌<◌, ◌≤ℤ◌, ◌<ℤ◌, ◌||◌, ◌&&◌, ◌+ℤ◌, ◌-ℤ◌, ◌*ℤ◌}
use Rattle.std.proofs.Common.{sym, ◌∙◌, ap, subst, inl, inr, ⊎_elim, arith}
use Rattle.std.specs.Int.Signed.{lt_z}
use Rattle.exact.specs.Solve.{ring, reify}
use Rattle.exact.specs.Order.{zomega, sq, 0≤-*, 0<-*, ≤→0≤}
use Rattle.exact.specs.Mul.{≡-by₂}
use Rattle.exact.specs.Tests.{lt_t}
use Rattle.seq.specs.Seq.{Bool, true, false, ℤ, pos, neg_ℤ}
use Rattle.seq.specs.Tests.{not-true, and_parts, or_cases}
use Rattle.paper.specs.Plane.{Pt, Vec, Seg, cross, head, whole, before, same, the_left_by, clash}
use Rattle.laws_plane.specs.Cone.{UpV}
use Rattle.laws_plane.specs.Points.{le_trans, neither, same_sym}
use Rattle.laws_plane.specs.Ends.{0<1}
use Rattle.laws_plane.specs.Sides.{left_foot, left_head}
use Rattle.laws_plane.specs.Lines.{Part, numer, denom, denom-pos, line-part, on_part, one_point}
use Rattle.laws_plane.specs.Clash.{Share, clash-shares}
use Rattle.laws_plane.specs.Disjoint.{Disjoint}

-- ── one strict side ──

-- how far a point of t, at n/d from its foot, lies to the left of s: a mean of what its ends do
module _ (s t : Seg) (p : Pt) (n d : ℤ) (a : Part t n d p) where
  abbrev w : ℤ
  w = the_left_by s (whole t.foot)

  abbrev x : ℤ
  x = the_left_by s (whole (head t))

  mean : d *ℤ the_left_by s p ≡ p.D *ℤ (d *ℤ w +ℤ n *ℤ (x -ℤ w))
  mean =
      ≡-by₂ a.at_y s.up.x a.at_x (neg_ℤ s.up.y)
      (ring (s.foot.x ∷ s.foot.y ∷ s.up.x ∷ s.up.y ∷ t.foot.x ∷ t.foot.y ∷ t.up.x ∷ t.up.y ∷ n ∷ d ∷ p.X ∷ p.Y ∷ p.D ∷ []) (search reify depth 20) tt)

-- both left, or both right
abbrev pub OneSide : ℤ → ℤ → Type 0
OneSide a b = ((pos 0 <ℤ a) × (pos 0 <ℤ b)) ⊎ ((a <ℤ pos 0) × (b <ℤ pos 0))

left_mean : (c d n w x l : ℤ) → pos 0 <ℤ c → pos 0 <ℤ d → pos 0 ≤ℤ n → n ≤ℤ d → d *ℤ l ≡ c *ℤ (d *ℤ w +ℤ n *ℤ (x -ℤ w)) → l ≡ pos 0 → OneSide w x → ⊥
left_mean c d n w x l hc hd hn hnd e z side = go side
  where
    zero : c *ℤ (d *ℤ w +ℤ n *ℤ (x -ℤ w)) ≡ pos 0
    zero = sym e ∙ ap (λ (y : ℤ). d *ℤ y) z ∙ ring (d ∷ []) (search reify depth 20) tt

    no : (y : ℤ) → pos 0 <ℤ y → y ≡ pos 0 → ⊥
    no y = zomega (y ∷ []) {A = pos 0 <ℤ y → y ≡ pos 0 → ⊥} (search sq depth 20) (omega arith)

    gap : (y : ℤ) → pos 0 <ℤ y → pos 0 ≤ℤ (y -ℤ pos 1)
    gap y = zomega (y ∷ []) (search sq depth 20) (omega arith)

    under : (y : ℤ) → y <ℤ pos 0 → pos 0 ≤ℤ (neg_ℤ y -ℤ pos 1)
    under y = zomega (y ∷ []) (search sq depth 20) (omega arith)

    go : OneSide w x → ⊥
    go (inl (hw, hx)) =
        no (c *ℤ (d *ℤ w +ℤ n *ℤ (x -ℤ w))) (0<-* hc (zomega (d ∷ n ∷ w ∷ x ∷ [])
        {A = pos 0 ≤ℤ ((d -ℤ n) *ℤ (w -ℤ pos 1)) → pos 0 ≤ℤ (n *ℤ (x -ℤ pos 1)) → pos 0 <ℤ d → pos 0 <ℤ (d *ℤ w +ℤ n *ℤ (x -ℤ w))} (search sq depth 20) (omega arith)
        (0≤-* (≤→0≤ hnd) (gap w hw)) (0≤-* hn (gap x hx)) hd)) zero
    go (inr (hw, hx)) =
        no (c *ℤ neg_ℤ (d *ℤ w +ℤ n *ℤ (x -ℤ w))) (0<-* hc (zomega (d ∷ n ∷ w ∷ x ∷ [])
        {A = pos 0 ≤ℤ ((d -ℤ n) *ℤ (neg_ℤ w -ℤ pos 1)) → pos 0 ≤ℤ (n *ℤ (neg_ℤ x -ℤ pos 1)) → pos 0 <ℤ d → pos 0 <ℤ neg_ℤ (d *ℤ w +ℤ n *ℤ (x -ℤ w))} (search sq depth 20) (omega arith)
        (0≤-* (≤→0≤ hnd) (under w hw)) (0≤-* hn (under x hx)) hd)) (flip (d *ℤ w +ℤ n *ℤ (x -ℤ w)) zero)
      where
        flip : (y : ℤ) → c *ℤ y ≡ pos 0 → c *ℤ neg_ℤ y ≡ pos 0
        flip y q = ring (c ∷ y ∷ []) (search reify depth 20) tt ∙ ap neg_ℤ q

-- no point of t is on s
pub one_side : (s t : Seg) → UpV t.up → OneSide (the_left_by s (whole t.foot)) (the_left_by s (whole (head t))) → Disjoint s t
one_side s t ut side p h a b =
    let d = denom t p in
    let n = numer t p in
    let hd = denom-pos t p ut h in
    let part = line-part t p b.line in
    let r = on_part t ut p h n d hd part b in
    left_mean p.D d n (the_left_by s (whole t.foot)) (the_left_by s (whole (head t))) (the_left_by s p) h hd r.0 r.1 (mean s t p n d part) a.line side

-- ── ends ──

module _ (s t : Seg) (us : UpV s.up) (ut : UpV t.up) where
  -- t ends where s starts, or before
  pub end_to_end : before (whole s.foot) (whole (head t)) ≡ false → clash s t ≡ false
  end_to_end e = not-true (clash s t) (λ c. no (clash-shares s t us ut c))
    where
      no : Share s t → ⊥
      no h =
          let p = h.at in
          let a : before (whole s.foot) p ≡ false = le_trans p (whole (head t)) (whole s.foot) h.real 0<1 0<1 h.second.high e in
          let b : before p (whole (head t)) ≡ false = le_trans (whole (head t)) (whole s.foot) p 0<1 0<1 h.real e h.first.low in
          h.no_end (inl (neither (whole s.foot) p a h.first.low)) (inr (neither (whole (head t)) p h.second.high b))

  module _ (turned : cross s.up t.up ≡ pos 0 → ⊥) where
    -- the point that both lines have is q
    only : (q : Pt) → the_left_by s q ≡ pos 0 → the_left_by t q ≡ pos 0 → (h : Share s t) → same q h.at ≡ true
    only q ls lt h = same_sym h.at q (one_point s t h.at q turned h.first.line h.second.line ls lt)

    pub common-foot : s.foot ≡ t.foot → clash s t ≡ false
    common-foot e = not-true (clash s t) (λ c. let h = clash-shares s t us ut c in
        let q = only (whole s.foot) (left_foot s) (ap (λ (v : Vec). the_left_by t (whole v)) e ∙ left_foot t) h in
        h.no_end (inl q) (inl (subst (λ (v : Vec). same (whole v) h.at ≡ true) e q)))

    pub common-head : head s ≡ head t → clash s t ≡ false
    common-head e = not-true (clash s t) (λ c. let h = clash-shares s t us ut c in
        let q = only (whole (head s)) (left_head s) (ap (λ (v : Vec). the_left_by t (whole v)) e ∙ left_head t) h in
        h.no_end (inr q) (inr (subst (λ (v : Vec). same (whole v) h.at ≡ true) e q)))

-- ── the test ──

abbrev pub the_one_side : ℤ → ℤ → Bool
the_one_side a b = (lt_z (pos 0) a && lt_z (pos 0) b) || (lt_z a (pos 0) && lt_z b (pos 0))

pub one_is : (a b : ℤ) → the_one_side a b ≡ true → OneSide a b
one_is a b e =
    ⊎_elim (λ f. let r = and_parts (lt_z (pos 0) a) (lt_z (pos 0) b) f in inl (lt_t {a = pos 0} {b = a} r.0, lt_t {a = pos 0} {b = b} r.1))
    (λ f. let r = and_parts (lt_z a (pos 0)) (lt_z b (pos 0)) f in inr (lt_t {a = a} {b = pos 0} r.0, lt_t {a = b} {b = pos 0} r.1))
    (or_cases (lt_z (pos 0) a && lt_z (pos 0) b) (lt_z a (pos 0) && lt_z b (pos 0)) e)
