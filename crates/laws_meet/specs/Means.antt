-- `meeting s t` means what it says, of two edges that go up: `Means s t m` says of each answer m what it stands for, by points on the edges alone, and it holds of `meeting s t` (`meeting-means`).
-- Parallel edges touch at an end of both, so at a point that is an input vertex already (`parallel_ends`), and do not cross (`parallel-crossed`). Assumes nothing.
use Rattle.std.specs.Prelude.{◌≡◌, refl, ◌⊎◌, ◌<ℤ◌, ◌&&◌}
use Rattle.std.proofs.Common.{sym, ◌∙◌, ap, subst, inl, inr, arith}
use Rattle.seq.specs.Seq.{Bool, true, false, cond, Option, none, some, ℕ, ℤ, pos}
use Rattle.exact.specs.Sign.{Sign, neg, zer, plus, sgn, is_zer, is_neg, is_plus}
use Rattle.exact.specs.Lowest.{Pt}
use Rattle.exact.specs.Tests.{clash as no_both, and_both, and_parts}
use Rattle.exact.specs.Signs.{zero_is}
use Rattle.paper.specs.Plane.{Seg, cross, head, whole, order, before, same, lower, upper, the_left_by, inside, crossing}
use Rattle.laws_plane.specs.Cone.{UpV}
use Rattle.laws_plane.specs.Points.{LowestP, after, le_trans, before_le, before_asym, before_irr, neither, same_neither, same_sym, same_self, same_before}
use Rattle.laws_plane.specs.Ends.{0<1, corner-lowest, lower-upper, lower_first_lem, upper_last}
use Rattle.laws_plane.specs.Angles.{cross-swap_0}
use Rattle.laws_plane.specs.Sides.{left_foot, left_head}
use Rattle.laws_plane.specs.Edges.{On, Inside, IsEnd, inside_is, is_inside, on_where, seg_up}
use Rattle.laws_plane.specs.Lines.{one_line}
use Rattle.laws_plane.specs.Crossing.{Touch, crossing-touch, crossing_none, crossing-only}
use Rattle.paper.specs.Meeting.{Meeting, apart as separate, touching, crossing as crossed, sharing, meeting_at, stretch, meeting}

-- p, in lowest terms, is the only point on both
pub record Only (s t : Seg) (p : Pt) : Type 0 where
  pub lowest_p : LowestP p
  pub first : On s p
  pub second : On t p
  pub only : (q : Pt) → pos 0 <ℤ q.D → On s q → On t q → same p q ≡ true

-- two different points on both
pub record Two (s t : Seg) : Type 0 where
  pub low : Pt
  pub high : Pt
  pub low_real : pos 0 <ℤ low.D
  pub high_real : pos 0 <ℤ high.D
  pub differ : before low high ≡ true
  pub low_first : On s low
  pub low_second : On t low
  pub high_first : On s high
  pub high_second : On t high

pub data Means (s t : Seg) : Meeting → Type 0 where
  -- no point is on both
  is_separate : ((q : Pt) → pos 0 <ℤ q.D → On s q → On t q → ⊥) → Means s t separate
  -- the only point on both, and an end of one
  is_touching : (p : Pt) → Only s t p → IsEnd s p ⊎ IsEnd t p → Means s t (touching p)
  -- the only point on both, and inside both
  is_crossed : (p : Pt) → Only s t p → Inside s p → Inside t p → Means s t (crossed p)
  is_sharing : Two s t → Means s t sharing

-- ── each answer has its meaning ──

module _ (s t : Seg) (us : UpV s.up) (ut : UpV t.up) where
  -- edges that are not parallel
  module _ (n : cross s.up t.up ≡ pos 0 → ⊥) where
    at_point : (p : Pt) → crossing s t ≡ some p → Means s t (meeting_at s t (some p))
    at_point p e = go (inside s p && inside t p) refl
      where
        h : Touch s t p
        h = crossing-touch s t us ut p e

        o : Only s t p
        o = record { lowest_p = h.lowest_p; first = h.first; second = h.second; only = λ q r a b. crossing-only s t us ut p q e a b }

        ends : Inside s p ⊎ IsEnd s p → Inside t p ⊎ IsEnd t p → (inside s p && inside t p) ≡ false → IsEnd s p ⊎ IsEnd t p
        ends (inr i) j f = inl i
        ends (inl i) (inr j) f = inr j
        ends (inl i) (inl j) f = absurd (no_both (and_both {a = inside s p} {b = inside t p} (is_inside s p i) (is_inside t p j)) f)

        go : (c : Bool) → (inside s p && inside t p) ≡ c → Means s t (cond c (crossed p) (touching p))
        go true f = let r = and_parts (inside s p) (inside t p) f in is_crossed p o (inside_is s p r.0) (inside_is t p r.1)
        go false f = is_touching p o (ends (on_where s p h.first) (on_where t p h.second) f)

    turned-means : Means s t (meeting_at s t (crossing s t))
    turned-means = go (crossing s t) refl
      where
        go : (o : Option Pt) → crossing s t ≡ o → Means s t (meeting_at s t o)
        go none e = is_separate (λ q h a b. crossing_none s t us ut e n q h a b)
        go (some p) e = at_point p e

  -- parallel edges
  module _ (z : cross s.up t.up ≡ pos 0) where
    abbrev fs : Pt
    fs = whole s.foot

    abbrev ft : Pt
    ft = whole t.foot

    abbrev hs : Pt
    hs = whole (head s)

    abbrev ht : Pt
    ht = whole (head t)

    abbrev lo : Pt
    lo = upper fs ft

    abbrev hi : Pt
    hi = lower hs ht

    -- a common point puts them in one line
    lined : (q : Pt) → pos 0 <ℤ q.D → On s q → On t q → the_left_by s ft ≡ pos 0
    lined q h a b = one_line t s q ft ut h z b.line a.line (left_foot t)

    module _ (line : the_left_by s ft ≡ pos 0) where
      on_s : (p : Pt) → the_left_by t p ≡ pos 0 → the_left_by s p ≡ pos 0
      on_s p e = one_line t s ft p ut 0<1 z (left_foot t) line e

      on_t : (p : Pt) → the_left_by s p ≡ pos 0 → the_left_by t p ≡ pos 0
      on_t p e = one_line s t ft p us 0<1 (cross-swap_0 s.up t.up z) line (left_foot t) e

      -- lo and hi are ends, and so corners
      lo_is : (lo ≡ fs) ⊎ (lo ≡ ft)
      lo_is = go (lower-upper fs ft)
        where
          go : ((lower fs ft ≡ fs) × (upper fs ft ≡ ft)) ⊎ ((lower fs ft ≡ ft) × (upper fs ft ≡ fs)) → (lo ≡ fs) ⊎ (lo ≡ ft)
          go (inl e) = inr e.1
          go (inr e) = inl e.1

      hi_is : (hi ≡ hs) ⊎ (hi ≡ ht)
      hi_is = go (lower-upper hs ht)
        where
          go : ((lower hs ht ≡ hs) × (upper hs ht ≡ ht)) ⊎ ((lower hs ht ≡ ht) × (upper hs ht ≡ hs)) → (hi ≡ hs) ⊎ (hi ≡ ht)
          go (inl e) = inl e.0
          go (inr e) = inr e.0

      lo_low : LowestP lo
      lo_low = go lo_is
        where
          go : (lo ≡ fs) ⊎ (lo ≡ ft) → LowestP lo
          go (inl e) = subst LowestP (sym e) (corner-lowest s.foot)
          go (inr e) = subst LowestP (sym e) (corner-lowest t.foot)

      hi_low : LowestP hi
      hi_low = go hi_is
        where
          go : (hi ≡ hs) ⊎ (hi ≡ ht) → LowestP hi
          go (inl e) = subst LowestP (sym e) (corner-lowest (head s))
          go (inr e) = subst LowestP (sym e) (corner-lowest (head t))

      lo-line : the_left_by s lo ≡ pos 0
      lo-line = go lo_is
        where
          go : (lo ≡ fs) ⊎ (lo ≡ ft) → the_left_by s lo ≡ pos 0
          go (inl e) = ap (the_left_by s) e ∙ left_foot s
          go (inr e) = ap (the_left_by s) e ∙ line

      hi-line : the_left_by s hi ≡ pos 0
      hi-line = go hi_is
        where
          go : (hi ≡ hs) ⊎ (hi ≡ ht) → the_left_by s hi ≡ pos 0
          go (inl e) = ap (the_left_by s) e ∙ left_head s
          go (inr e) = ap (the_left_by s) e ∙ on_s ht (left_head t)

      -- a point of the line from lo to hi is on both
      both_on : (q : Pt) → pos 0 <ℤ q.D → the_left_by s q ≡ pos 0 → before q lo ≡ false → before hi q ≡ false → On s q × On t q
      both_on q h l e f = (
        record { line = l; low = le_trans fs lo q 0<1 lo_low.positive h (upper_last fs ft).0 e; high = le_trans q hi hs h hi_low.positive 0<1 f (lower_first_lem hs ht).0 },
        record { line = on_t q l; low = le_trans ft lo q 0<1 lo_low.positive h (upper_last fs ft).1 e; high = le_trans q hi ht h hi_low.positive 0<1 f (lower_first_lem hs ht).1 },
      )

      -- and a point on both is one of these
      on_both : (q : Pt) → On s q → On t q → (before q lo ≡ false) × (before hi q ≡ false)
      on_both q a b = (low lo_is, high hi_is)
        where
          low : (lo ≡ fs) ⊎ (lo ≡ ft) → before q lo ≡ false
          low (inl e) = ap (before q) e ∙ a.low
          low (inr e) = ap (before q) e ∙ b.low

          high : (hi ≡ hs) ⊎ (hi ≡ ht) → before hi q ≡ false
          high (inl e) = ap (λ (x : Pt). before x q) e ∙ a.high
          high (inr e) = ap (λ (x : Pt). before x q) e ∙ b.high

      lo-end : (lo ≡ fs) ⊎ (lo ≡ ft) → IsEnd s lo ⊎ IsEnd t lo
      lo-end (inl e) = inl (inl (ap (λ (x : Pt). same x lo) (sym e) ∙ same_self lo))
      lo-end (inr e) = inr (inl (ap (λ (x : Pt). same x lo) (sym e) ∙ same_self lo))

      line-means : Means s t (stretch lo (order lo hi))
      line-means = go (order lo hi) refl
        where
          go : (k : Sign) → order lo hi ≡ k → Means s t (stretch lo k)
          go neg e =
              let lt : before lo hi ≡ true = ap is_neg e in
              let a = both_on lo lo_low.positive lo-line (before_irr lo) (before_asym lo hi lt) in
              let b = both_on hi hi_low.positive hi-line (before_asym lo hi lt) (before_irr hi) in
              is_sharing (record {
                low = lo;
                high = hi;
                low_real = lo_low.positive;
                high_real = hi_low.positive;
                differ = lt;
                low_first = a.0;
                low_second = a.1;
                high_first = b.0;
                high_second = b.1;
              })
          go zer e =
              let eq : same lo hi ≡ true = ap is_zer e in
              let a = both_on lo lo_low.positive lo-line (before_irr lo) (same_neither hi lo (same_sym lo hi eq)) in
              is_touching lo
              (record {
                lowest_p = lo_low;
                first = a.0;
                second = a.1;
                only = λ q h c d. let r = on_both q c d in
                    neither lo q (same_before hi lo q hi_low.positive lo_low.positive h (same_sym lo hi eq) ∙ r.1) r.0;
              })
              (lo-end lo_is)
          go plus e =
              let gt : before hi lo ≡ true = after lo hi ∙ ap is_plus e in
              is_separate (λ q h c d. let r = on_both q c d in no_both (before_le hi lo q hi_low.positive lo_low.positive h gt r.0) r.1)

      -- where lo is hi, it is the upper end of one and the lower end of the other
      ends_meet : order lo hi ≡ zer → IsEnd s lo × IsEnd t lo
      ends_meet e = go lo_is hi_is
        where
          eq : same lo hi ≡ true
          eq = ap is_zer e

          lo_at : (c : Pt) → lo ≡ c → same c lo ≡ true
          lo_at c a = ap (λ (x : Pt). same x lo) (sym a) ∙ same_self lo

          hi_at : (c : Pt) → hi ≡ c → same c lo ≡ true
          hi_at c a = ap (λ (x : Pt). same x lo) (sym a) ∙ same_sym lo hi eq

          one_edge : (f h : Pt) → lo ≡ f → hi ≡ h → before f h ≡ true → ⊥
          one_edge f h a b l = no_both l ((λ i. before (sym a i) (sym b i)) ∙ same_neither lo hi eq)

          go : (lo ≡ fs) ⊎ (lo ≡ ft) → (hi ≡ hs) ⊎ (hi ≡ ht) → IsEnd s lo × IsEnd t lo
          go (inl a) (inl b) = absurd (one_edge fs hs a b (seg_up s us))
          go (inl a) (inr b) = (inl (lo_at fs a), inr (hi_at ht b))
          go (inr a) (inl b) = (inr (hi_at hs b), inl (lo_at ft a))
          go (inr a) (inr b) = absurd (one_edge ft ht a b (seg_up t ut))

      stretch_ends : (p : Pt) (k : Sign) → order lo hi ≡ k → stretch lo k ≡ touching p → IsEnd s p × IsEnd t p
      stretch_ends p neg e f = absurd (let z : ◌≡◌ {A = ℕ} 0 1 = cc in omega arith)
      stretch_ends p zer e f = let q : lo ≡ p = cc in subst (λ (x : Pt). IsEnd s x × IsEnd t x) q (ends_meet e)
      stretch_ends p plus e f = absurd (let z : ◌≡◌ {A = ℕ} 0 1 = cc in omega arith)

  -- parallel edges touch at an end of both
  pub parallel_ends : cross s.up t.up ≡ pos 0 → (p : Pt) → meeting s t ≡ touching p → IsEnd s p × IsEnd t p
  parallel_ends z p e = side (is_zer (sgn (the_left_by s (whole t.foot)))) refl (sym (ap (λ (x : ℤ). cond (is_zer (sgn x)) (aside (is_zer (sgn (the_left_by s (whole t.foot))))) (meeting_at s t (crossing s t))) z) ∙ e)
    where
      aside : Bool → Meeting
      aside c = cond c (stretch (upper (whole s.foot) (whole t.foot)) (order (upper (whole s.foot) (whole t.foot)) (lower (whole (head s)) (whole (head t))))) separate

      side : (c : Bool) → is_zer (sgn (the_left_by s (whole t.foot))) ≡ c → aside c ≡ touching p → IsEnd s p × IsEnd t p
      side true l f = stretch_ends z (zero_is (the_left_by s (whole t.foot)) l) p (order (upper (whole s.foot) (whole t.foot)) (lower (whole (head s)) (whole (head t)))) refl f
      side false l f = absurd (let z : ◌≡◌ {A = ℕ} 0 1 = cc in omega arith)

  -- and do not cross inside both
  pub parallel-crossed : cross s.up t.up ≡ pos 0 → (p : Pt) → meeting s t ≡ crossed p → ⊥
  parallel-crossed z p e = side (is_zer (sgn (the_left_by s (whole t.foot)))) (sym (ap (λ (x : ℤ). cond (is_zer (sgn x)) (aside (is_zer (sgn (the_left_by s (whole t.foot))))) (meeting_at s t (crossing s t))) z) ∙ e)
    where
      lo : Pt
      lo = upper (whole s.foot) (whole t.foot)

      k : Sign
      k = order lo (lower (whole (head s)) (whole (head t)))

      aside : Bool → Meeting
      aside c = cond c (stretch lo k) separate

      by_order : (k : Sign) → stretch lo k ≡ crossed p → ⊥
      by_order neg f = absurd (let z : ◌≡◌ {A = ℕ} 0 1 = cc in omega arith)
      by_order zer f = absurd (let z : ◌≡◌ {A = ℕ} 0 1 = cc in omega arith)
      by_order plus f = absurd (let z : ◌≡◌ {A = ℕ} 0 1 = cc in omega arith)

      side : (c : Bool) → aside c ≡ crossed p → ⊥
      side true f = by_order k f
      side false f = absurd (let z : ◌≡◌ {A = ℕ} 0 1 = cc in omega arith)

  pub meeting-means : Means s t (meeting s t)
  meeting-means = go (is_zer (sgn (cross s.up t.up))) refl
    where
      side : cross s.up t.up ≡ pos 0 → (c : Bool) → is_zer (sgn (the_left_by s (whole t.foot))) ≡ c → Means s t (cond c (stretch (upper (whole s.foot) (whole t.foot)) (order (upper (whole s.foot) (whole t.foot)) (lower (whole (head s)) (whole (head t))))) separate)
      side z true e = line-means z (zero_is (the_left_by s (whole t.foot)) e)
      side z false e = is_separate (λ q h a b. no_both (ap (λ (x : ℤ). is_zer (sgn x)) (lined z q h a b)) e)

      go : (c : Bool) → is_zer (sgn (cross s.up t.up)) ≡ c → Means s t (cond c (cond (is_zer (sgn (the_left_by s (whole t.foot)))) (stretch (upper (whole s.foot) (whole t.foot)) (order (upper (whole s.foot) (whole t.foot)) (lower (whole (head s)) (whole (head t))))) separate) (meeting_at s t (crossing s t)))
      go true e = let z = zero_is (cross s.up t.up) e in side z (is_zer (sgn (the_left_by s (whole t.foot)))) refl
      go false e = turned-means (λ z. no_both (ap (λ (x : ℤ). is_zer (sgn x)) z) e)
