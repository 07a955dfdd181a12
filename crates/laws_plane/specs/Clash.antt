-- `clash s t` says, of two edges that go up, that they share a point that is not an end of both (01, refusal 8). In order: the ways in which the test finds it (`Clash`); such a point from each way
-- (`clash-share`); two edges on one line that overlap (`overlap-clash`); a way from each such point (`share-clash`): it is an end of one inside the other, or strictly inside both, and then the ends of each are on opposite strict sides of the
-- other, or the two lie on one line and an end of one is inside the other, or both ends are the same. Clashing is mutual. Assumes nothing.
use Rattle.std.specs.Prelude.{◌≡◌, refl, Bool, true, false, ◌&&◌, ◌||◌, [], ◌∷◌, ◌⊎◌, ℤ, pos, negsuc, ◌+ℤ◌, ◌*ℤ◌, ◌<ℤ◌}
use Rattle.std.proofs.Common.{sym, ◌∙◌, subst, inl, inr}
use Rattle.exact.specs.Solve.{ring, reify}
use Rattle.exact.specs.Mul.{≡-by₂}
use Rattle.exact.specs.Order.{Tri, lt, eq, gt, tri, <→≢}
use Rattle.exact.specs.Lowest.{Pt}
use Rattle.exact.specs.Tests.{or_l, or_r, or_cases, and_both, and_parts}
use Rattle.paper.specs.Plane.{Vec, Seg, cross, head, whole, before, same, the_left_by, inside, apart, clash}
use Rattle.laws_plane.specs.Cone.{UpV}
use Rattle.laws_plane.specs.Points.{before_trans, neither, same_sym}
use Rattle.laws_plane.specs.Ends.{0<1, corner_same}
use Rattle.laws_plane.specs.Angles.{cross-swap_0}
use Rattle.laws_plane.specs.Sides.{left_foot, left_head}
use Rattle.laws_plane.specs.Edges.{On, Inside, IsEnd, inside_is, is_inside, inside_on, inside_same, on_where, on_foot, on_head, end_not_inside}
use Rattle.laws_plane.specs.Lines.{part-inside, one_line}
use Rattle.laws_plane.specs.Meeting.{apart-inside, inside-apart}

-- ── the ways ──

pub data Clash (s t : Seg) : Type 0 where
  foot_in : Inside s (whole t.foot) → Clash s t
  head_in : Inside s (whole (head t)) → Clash s t
  in_foot : Inside t (whole s.foot) → Clash s t
  in_head : Inside t (whole (head s)) → Clash s t
  across : apart s t ≡ true → apart t s ≡ true → Clash s t
  equal : same (whole s.foot) (whole t.foot) ≡ true → same (whole (head s)) (whole (head t)) ≡ true → Clash s t

module _ (s t : Seg) where
  abbrev st : Bool
  st = inside s (whole t.foot) || inside s (whole (head t))

  abbrev ts : Bool
  ts = inside t (whole s.foot) || inside t (whole (head s))

  abbrev crossed : Bool
  crossed = apart s t && apart t s

  abbrev alike : Bool
  alike = same (whole s.foot) (whole t.foot) && same (whole (head s)) (whole (head t))

  pub clash-way : clash s t ≡ true → Clash s t
  clash-way e = go (or_cases (st || ts) (crossed || alike) e)
    where
      in_s : (inside s (whole t.foot) ≡ true) ⊎ (inside s (whole (head t)) ≡ true) → Clash s t
      in_s (inl f) = foot_in (inside_is s (whole t.foot) f)
      in_s (inr f) = head_in (inside_is s (whole (head t)) f)

      in_t : (inside t (whole s.foot) ≡ true) ⊎ (inside t (whole (head s)) ≡ true) → Clash s t
      in_t (inl f) = in_foot (inside_is t (whole s.foot) f)
      in_t (inr f) = in_head (inside_is t (whole (head s)) f)

      ends : (st ≡ true) ⊎ (ts ≡ true) → Clash s t
      ends (inl f) = in_s (or_cases (inside s (whole t.foot)) (inside s (whole (head t))) f)
      ends (inr f) = in_t (or_cases (inside t (whole s.foot)) (inside t (whole (head s))) f)

      rest : (crossed ≡ true) ⊎ (alike ≡ true) → Clash s t
      rest (inl f) = let r = and_parts (apart s t) (apart t s) f in across r.0 r.1
      rest (inr f) = let r = and_parts (same (whole s.foot) (whole t.foot)) (same (whole (head s)) (whole (head t))) f in equal r.0 r.1

      go : ((st || ts) ≡ true) ⊎ ((crossed || alike) ≡ true) → Clash s t
      go (inl f) = ends (or_cases st ts f)
      go (inr f) = rest (or_cases crossed alike f)

  pub way-clash : Clash s t → clash s t ≡ true
  way-clash (foot_in i) = or_l {a = st || ts} (crossed || alike) (or_l {a = st} ts (or_l {a = inside s (whole t.foot)} (inside s (whole (head t))) (is_inside s (whole t.foot) i)))
  way-clash (head_in i) = or_l {a = st || ts} (crossed || alike) (or_l {a = st} ts (or_r (inside s (whole t.foot)) (is_inside s (whole (head t)) i)))
  way-clash (in_foot i) = or_l {a = st || ts} (crossed || alike) (or_r st (or_l {a = inside t (whole s.foot)} (inside t (whole (head s))) (is_inside t (whole s.foot) i)))
  way-clash (in_head i) = or_l {a = st || ts} (crossed || alike) (or_r st (or_r (inside t (whole s.foot)) (is_inside t (whole (head s)) i)))
  way-clash (across a b) = or_r (st || ts) (or_l {a = crossed} alike (and_both {a = apart s t} {b = apart t s} a b))
  way-clash (equal a b) = or_r (st || ts) (or_r crossed (and_both {a = same (whole s.foot) (whole t.foot)} {b = same (whole (head s)) (whole (head t))} a b))

-- ── a point that is not an end of both ──

pub record Share (s t : Seg) : Type 0 where
  pub at : Pt
  pub real : pos 0 <ℤ at.D
  pub first : On s at
  pub second : On t at
  pub no_end : IsEnd s at → IsEnd t at → ⊥

pub share-swap : (s t : Seg) → Share s t → Share t s
share-swap s t h = record { at = h.at; real = h.real; first = h.second; second = h.first; no_end = λ a b. h.no_end b a }

-- an edge's middle is inside it
abbrev pub middle : Seg → Pt
middle s = record { X = s.foot.x *ℤ pos 2 +ℤ s.up.x; Y = s.foot.y *ℤ pos 2 +ℤ s.up.y; D = pos 2 }

0<2 : pos 0 <ℤ pos 2
0<2 = record { lt = tt }

pub middle-inside : (s : Seg) → UpV s.up → Inside s (middle s)
middle-inside s u = part-inside s u (middle s) 0<2 (pos 1) (pos 2) 0<2 (record { at_x = half s.foot.x s.up.x; at_y = half s.foot.y s.up.y }) 0<1 (record { lt = tt })
  where
    half : (f u : ℤ) → (f *ℤ pos 2 +ℤ u) *ℤ pos 2 ≡ (f *ℤ pos 2 +ℤ pos 1 *ℤ u) *ℤ pos 2
    half f u = ring (f ∷ u ∷ []) (search reify depth 20) tt

-- an edge is its two ends
pub ends_equal : (s t : Seg) → same (whole s.foot) (whole t.foot) ≡ true → same (whole (head s)) (whole (head t)) ≡ true → s ≡ t
ends_equal s t e f =
    let a : s.foot ≡ t.foot = corner_same s.foot t.foot e in
    let b : head s ≡ head t = corner_same (head s) (head t) f in
    λ i. record { foot = a i; up = record { x = go s.foot.x s.up.x t.foot.x t.up.x (λ j. (a j).x) (λ j. (b j).x) i; y = go s.foot.y s.up.y t.foot.y t.up.y (λ j. (a j).y) (λ j. (b j).y) i } }
  where
    go : (f u g v : ℤ) → f ≡ g → f +ℤ u ≡ g +ℤ v → u ≡ v
    go f u g v p q = ≡-by₂ q (pos 1) p (negsuc 0) (ring (f ∷ u ∷ g ∷ v ∷ []) (search reify depth 20) tt)

module _ (s t : Seg) (us : UpV s.up) (ut : UpV t.up) where
  pub clash-share : Clash s t → Share s t
  clash-share (foot_in i) = record { at = whole t.foot; real = 0<1; first = inside_on s (whole t.foot) i; second = on_foot t ut; no_end = λ a b. end_not_inside s (whole t.foot) a i }
  clash-share (head_in i) = record { at = whole (head t); real = 0<1; first = inside_on s (whole (head t)) i; second = on_head t ut; no_end = λ a b. end_not_inside s (whole (head t)) a i }
  clash-share (in_foot i) = record { at = whole s.foot; real = 0<1; first = on_foot s us; second = inside_on t (whole s.foot) i; no_end = λ a b. end_not_inside t (whole s.foot) b i }
  clash-share (in_head i) = record { at = whole (head s); real = 0<1; first = on_head s us; second = inside_on t (whole (head s)) i; no_end = λ a b. end_not_inside t (whole (head s)) b i }
  clash-share (across a b) =
      let (q, h, i, j) = apart-inside s t us ut b a in
      record { at = q; real = h; first = inside_on s q i; second = inside_on t q j; no_end = λ x y. end_not_inside s q x i }
  clash-share (equal a b) =
      let i : Inside s (middle s) = middle-inside s us in
      let o : On s (middle s) = inside_on s (middle s) i in
      record { at = middle s; real = 0<2; first = o; second = subst (λ (x : Seg). On x (middle s)) (ends_equal s t a b) o; no_end = λ x y. end_not_inside s (middle s) x i }

  -- ── on one line ──

  -- each of the two starts before the other ends
  module _ (q : Pt) (h : pos 0 <ℤ q.D) (sq : the_left_by s q ≡ pos 0) (tq : the_left_by t q ≡ pos 0) (z : cross s.up t.up ≡ pos 0) (st : before (whole s.foot) (whole (head t)) ≡ true)
      (ts : before (whole t.foot) (whole (head s)) ≡ true) where
    on_s : (p : Pt) → the_left_by t p ≡ pos 0 → the_left_by s p ≡ pos 0
    on_s p e = one_line t s q p ut h z tq sq e

    on_t : (p : Pt) → the_left_by s p ≡ pos 0 → the_left_by t p ≡ pos 0
    on_t p e = one_line s t q p us h (cross-swap_0 s.up t.up z) sq tq e

    by_heads : same (whole s.foot) (whole t.foot) ≡ true → (a b : Bool) → before (whole (head s)) (whole (head t)) ≡ a → before (whole (head t)) (whole (head s)) ≡ b → Clash s t
    by_heads e true b f g = in_head (record { line = on_t (whole (head s)) (left_head s); low = ts; high = f })
    by_heads e false true f g = head_in (record { line = on_s (whole (head t)) (left_head t); low = st; high = g })
    by_heads e false false f g = equal e (neither (whole (head s)) (whole (head t)) f g)

    by_feet : (a b : Bool) → before (whole s.foot) (whole t.foot) ≡ a → before (whole t.foot) (whole s.foot) ≡ b → Clash s t
    by_feet true b f g = foot_in (record { line = on_s (whole t.foot) (left_foot t); low = f; high = ts })
    by_feet false true f g = in_foot (record { line = on_t (whole s.foot) (left_foot s); low = g; high = st })
    by_feet false false f g = by_heads (neither (whole s.foot) (whole t.foot) f g) (before (whole (head s)) (whole (head t))) (before (whole (head t)) (whole (head s))) refl refl

    pub overlap-clash : Clash s t
    overlap-clash = by_feet (before (whole s.foot) (whole t.foot)) (before (whole t.foot) (whole s.foot)) refl refl

  -- ── a point strictly inside both ──

  module _ (q : Pt) (h : pos 0 <ℤ q.D) (i : Inside s q) (j : Inside t q) where
    -- not parallel
    turned : (cross s.up t.up ≡ pos 0 → ⊥) → Clash s t
    turned n = across (inside-apart t s ut us q h j i.line (λ z. n (cross-swap_0 t.up s.up z))) (inside-apart s t us ut q h i j.line n)

    low_high : (a b : Vec) → before (whole a) q ≡ true → before q (whole b) ≡ true → before (whole a) (whole b) ≡ true
    low_high a b e f = before_trans (whole a) q (whole b) 0<1 h 0<1 e f

    both_inside : Clash s t
    both_inside = go (tri (pos 0) (cross s.up t.up))
      where
        go : Tri (pos 0) (cross s.up t.up) → Clash s t
        go (lt l) = turned (λ z. <→≢ l (sym z))
        go (eq z) = overlap-clash q h i.line j.line (sym z) (low_high s.foot (head t) i.low j.high) (low_high t.foot (head s) j.low i.high)
        go (gt l) = turned (λ z. <→≢ l z)

  pub share-clash : Share s t → Clash s t
  share-clash p = go (on_where s q p.first) (on_where t q p.second)
    where
      q : Pt
      q = p.at

      go : Inside s q ⊎ IsEnd s q → Inside t q ⊎ IsEnd t q → Clash s t
      go (inl i) (inl j) = both_inside q p.real i j
      go (inl i) (inr (inl e)) = foot_in (inside_same s q (whole t.foot) p.real 0<1 (same_sym (whole t.foot) q e) i)
      go (inl i) (inr (inr e)) = head_in (inside_same s q (whole (head t)) p.real 0<1 (same_sym (whole (head t)) q e) i)
      go (inr (inl e)) (inl j) = in_foot (inside_same t q (whole s.foot) p.real 0<1 (same_sym (whole s.foot) q e) j)
      go (inr (inr e)) (inl j) = in_head (inside_same t q (whole (head s)) p.real 0<1 (same_sym (whole (head s)) q e) j)
      go (inr a) (inr b) = absurd (p.no_end a b)

  -- the test is true exactly if there is such a point
  pub clash-shares : clash s t ≡ true → Share s t
  clash-shares e = clash-share (clash-way s t e)

  pub shares-clash : Share s t → clash s t ≡ true
  shares-clash p = way-clash s t (share-clash p)

-- clashing is mutual
pub clash-swap : (s t : Seg) → UpV s.up → UpV t.up → clash s t ≡ clash t s
clash-swap s t us ut = go (clash s t) (clash t s) refl refl
  where
    go : (a b : Bool) → clash s t ≡ a → clash t s ≡ b → a ≡ b
    go true b e f = sym (shares-clash t s ut us (share-swap s t (clash-shares s t us ut e))) ∙ f
    go false true e f = sym e ∙ shares-clash s t us ut (share-swap t s (clash-shares t s ut us f))
    go false false e f = refl
