-- Points on an edge and inside it: the tests `on_seg` and `inside` as facts. In order: the tests; an edge's own ends, and the three places of a point on it (`on_where`); what lies between two
-- points of an edge, on its line, is on it; the same point by other numbers; the edge between two corners, which goes up from the lower to the upper. Assumes nothing.
use Rattle.std.specs.Prelude.{◌≡◌, refl, Bool, true, false, cond, not, ◌&&◌, [], ◌∷◌, ◌⊎◌, ℤ, pos, ◌+ℤ◌, ◌-ℤ◌, ◌<ℤ◌}
use Rattle.std.proofs.Common.{sym, ◌∙◌, ap, subst, inl, inr}
use Rattle.exact.specs.Solve.{ring, reify}
use Rattle.exact.specs.Sign.{sgn, is_zer}
use Rattle.exact.specs.Lowest.{Pt}
use Rattle.exact.specs.Tests.{clash, and_both, and_parts}
use Rattle.exact.specs.Signs.{zero_is}
use Rattle.seq.specs.Tests.{was-false}
use Rattle.paper.specs.Plane.{Vec, Seg, plus_v, minus_v, head, between, whole, before, same, lower, upper, the_left_by, inside, on_seg}
use Rattle.laws_plane.specs.Cone.{up_by, UpV}
use Rattle.laws_plane.specs.Points.{before_irr, before_asym, le_trans, le_before, before_le, neither, same_neither, same_sym, same_before, before_same}
use Rattle.laws_plane.specs.Ends.{0<1, corner_up, up_corner}
use Rattle.laws_plane.specs.Sides.{left_foot, left_head, left_same-sign}

pub record On (s : Seg) (p : Pt) : Type 0 where
  pub line : the_left_by s p ≡ pos 0
  pub low : before p (whole s.foot) ≡ false
  pub high : before (whole (head s)) p ≡ false

pub record Inside (s : Seg) (p : Pt) : Type 0 where
  pub line : the_left_by s p ≡ pos 0
  pub low : before (whole s.foot) p ≡ true
  pub high : before p (whole (head s)) ≡ true

abbrev pub IsEnd : Seg → Pt → Type 0
IsEnd s p = (same (whole s.foot) p ≡ true) ⊎ (same (whole (head s)) p ≡ true)

-- ── the tests ──

module _ (s : Seg) (p : Pt) where
  pub on_is : on_seg s p ≡ true → On s p
  on_is e =
      let r = and_parts (is_zer (sgn (the_left_by s p))) (not (before p (whole s.foot)) && not (before (whole (head s)) p)) e in
      let t = and_parts (not (before p (whole s.foot))) (not (before (whole (head s)) p)) r.1 in
      record { line = zero_is (the_left_by s p) r.0; low = was-false (before p (whole s.foot)) t.0; high = was-false (before (whole (head s)) p) t.1 }

  pub is_on : On s p → on_seg s p ≡ true
  is_on o =
      and_both {a = is_zer (sgn (the_left_by s p))} (ap (λ (z : ℤ). is_zer (sgn z)) o.line)
      (and_both {a = not (before p (whole s.foot))} (ap not o.low) (ap not o.high))

  pub inside_is : inside s p ≡ true → Inside s p
  inside_is e =
      let r = and_parts (is_zer (sgn (the_left_by s p))) (before (whole s.foot) p && before p (whole (head s))) e in
      let t = and_parts (before (whole s.foot) p) (before p (whole (head s))) r.1 in
      record { line = zero_is (the_left_by s p) r.0; low = t.0; high = t.1 }

  pub is_inside : Inside s p → inside s p ≡ true
  is_inside o =
      and_both {a = is_zer (sgn (the_left_by s p))} (ap (λ (z : ℤ). is_zer (sgn z)) o.line) (and_both {a = before (whole s.foot) p} o.low o.high)

  pub inside_on : Inside s p → On s p
  inside_on o = record { line = o.line; low = before_asym (whole s.foot) p o.low; high = before_asym p (whole (head s)) o.high }

  -- a point on an edge is inside it or one of its ends
  pub on_where : On s p → Inside s p ⊎ IsEnd s p
  on_where o = go (before (whole s.foot) p) (before p (whole (head s))) refl refl
    where
      go : (a b : Bool) → before (whole s.foot) p ≡ a → before p (whole (head s)) ≡ b → Inside s p ⊎ IsEnd s p
      go true true e f = inl (record { line = o.line; low = e; high = f })
      go true false e f = inr (inr (neither (whole (head s)) p o.high f))
      go false b e f = inr (inl (neither (whole s.foot) p e o.low))

-- ── an edge's own ends ──

pub seg_up : (s : Seg) → UpV s.up → before (whole s.foot) (whole (head s)) ≡ true
seg_up s u = up_corner s.foot (head s) (up_by (go s.foot.x s.up.x) (go s.foot.y s.up.y) u)
  where
    go : (f u : ℤ) → u ≡ (f +ℤ u) -ℤ f
    go f u = ring (f ∷ u ∷ []) (search reify depth 20) tt

pub on_foot : (s : Seg) → UpV s.up → On s (whole s.foot)
on_foot s u = record { line = left_foot s; low = before_irr (whole s.foot); high = before_asym (whole s.foot) (whole (head s)) (seg_up s u) }

pub on_head : (s : Seg) → UpV s.up → On s (whole (head s))
on_head s u = record { line = left_head s; low = before_asym (whole s.foot) (whole (head s)) (seg_up s u); high = before_irr (whole (head s)) }

-- an end is not inside
pub end_not_inside : (s : Seg) (p : Pt) → IsEnd s p → Inside s p → ⊥
end_not_inside s p (inl e) o = clash o.low (same_neither (whole s.foot) p e)
end_not_inside s p (inr e) o = clash o.high (same_neither p (whole (head s)) (same_sym (whole (head s)) p e))

-- ── between two points of an edge ──

module _ (s : Seg) (x q y : Pt) (hx : pos 0 <ℤ x.D) (hq : pos 0 <ℤ q.D) (hy : pos 0 <ℤ y.D) where
  -- x ≤ q ≤ y
  pub on_between : On s x → On s y → the_left_by s q ≡ pos 0 → before q x ≡ false → before y q ≡ false → On s q
  on_between ox oy l e f = record {
    line = l;
    low = le_trans (whole s.foot) x q 0<1 hx hq ox.low e;
    high = le_trans q y (whole (head s)) hq hy 0<1 f oy.high;
  }

  -- x < q < y
  pub inside_between : On s x → On s y → the_left_by s q ≡ pos 0 → before x q ≡ true → before q y ≡ true → Inside s q
  inside_between ox oy l e f = record {
    line = l;
    low = le_before (whole s.foot) x q 0<1 hx hq ox.low e;
    high = before_le q y (whole (head s)) hq hy 0<1 f oy.high;
  }

-- ── the same point by other numbers ──

module _ (s : Seg) (p q : Pt) (hp : pos 0 <ℤ p.D) (hq : pos 0 <ℤ q.D) (e : same p q ≡ true) where
  line_same : the_left_by s p ≡ pos 0 → the_left_by s q ≡ pos 0
  line_same l = zero_is (the_left_by s q) (ap is_zer (sym (left_same-sign s p q hp hq e)) ∙ ap (λ (z : ℤ). is_zer (sgn z)) l)

  pub on_same : On s p → On s q
  on_same o = record {
    line = line_same o.line;
    low = same_before p q (whole s.foot) hp hq 0<1 e ∙ o.low;
    high = before_same p q (whole (head s)) hp hq 0<1 e ∙ o.high;
  }

  pub inside_same : Inside s p → Inside s q
  inside_same o = record {
    line = line_same o.line;
    low = before_same p q (whole s.foot) hp hq 0<1 e ∙ o.low;
    high = same_before p q (whole (head s)) hp hq 0<1 e ∙ o.high;
  }

-- ── the edge between two corners ──

plus-minus : (a b : Vec) → plus_v b (minus_v a b) ≡ a
plus-minus a b = λ i. record { x = go a.x b.x i; y = go a.y b.y i }
  where
    go : (a b : ℤ) → b +ℤ (a -ℤ b) ≡ a
    go a b = ring (a ∷ b ∷ []) (search reify depth 20) tt

-- by the test that `between` makes
abbrev picked : Bool → Vec → Vec → Seg
picked c a b = cond c (record { foot = b; up = minus_v a b }) (record { foot = a; up = minus_v b a })

module _ (a b : Vec) where
  pub between_foot : whole (between a b).foot ≡ lower (whole a) (whole b)
  between_foot = go (before (whole b) (whole a))
    where
      go : (c : Bool) → whole (picked c a b).foot ≡ cond c (whole b) (whole a)
      go true = refl
      go false = refl

  pub between_head : whole (head (between a b)) ≡ upper (whole a) (whole b)
  between_head = go (before (whole b) (whole a))
    where
      go : (c : Bool) → whole (head (picked c a b)) ≡ cond c (whole a) (whole b)
      go true = ap whole (plus-minus a b)
      go false = ap whole (plus-minus b a)

  -- of two different corners it goes up
  pub between_up : (before (whole a) (whole b) ≡ true) ⊎ (before (whole b) (whole a) ≡ true) → UpV (between a b).up
  between_up (inl e) = subst (λ (c : Bool). UpV (picked c a b).up) (sym (before_asym (whole a) (whole b) e)) (corner_up a b e)
  between_up (inr e) = subst (λ (c : Bool). UpV (picked c a b).up) (sym e) (corner_up b a e)

  -- and which is named first does not matter
  pub between_swap : (before (whole a) (whole b) ≡ true) ⊎ (before (whole b) (whole a) ≡ true) → between a b ≡ between b a
  between_swap (inl e) = ap (λ (c : Bool). picked c a b) (before_asym (whole a) (whole b) e) ∙ ap (λ (c : Bool). picked c b a) (sym e)
  between_swap (inr e) = ap (λ (c : Bool). picked c a b) e ∙ ap (λ (c : Bool). picked c b a) (sym (before_asym (whole b) (whole a) e))
