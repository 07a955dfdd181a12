-- What is taken from `meeting`, of two edges that go up: `clash s t` (refusal 8) is exactly that they cross, share, or touch at a point that is not an end of both
-- (`clash-meeting`); `crossing s t` (the overlay's vertices) is the point of the meeting where they are not parallel, and none where they are (`crossing-meeting`). Then the
-- four answers one by one, each given exactly where it holds. Assumes nothing.
use Rattle.std.specs.Prelude.{◌≡◌, refl, ◌⊎◌, ◌<ℤ◌, ◌&&◌}
use Rattle.std.proofs.Common.{sym, ◌∙◌, subst, inl, inr, arith}
use Rattle.seq.specs.Seq.{Bool, true, false, cond, not, Option, none, some, ℕ, pos}
use Rattle.exact.specs.Order.{Tri, lt, eq, gt, tri, <→≢}
use Rattle.exact.specs.Sign.{sgn, is_zer}
use Rattle.exact.specs.Lowest.{Pt}
use Rattle.exact.specs.Tests.{clash as no_both, not-true, and_both, and_parts, or_l, or_r, or_cases}
use Rattle.exact.specs.Signs.{zero_is}
use Rattle.paper.specs.Plane.{Seg, cross, head, whole, before, same, the_left_by, inside, crossing, clash}
use Rattle.laws_plane.specs.Cone.{UpV}
use Rattle.laws_plane.specs.Points.{same_neither, same_sym, same_before, before_same, neither, before_trans}
use Rattle.laws_plane.specs.Ends.{0<1}
use Rattle.laws_plane.specs.Angles.{cross-swap_0}
use Rattle.laws_plane.specs.Edges.{On, Inside, IsEnd, end_not_inside, seg_up, on_foot, on_head, on_between}
use Rattle.laws_plane.specs.Lines.{one_line, one_point}
use Rattle.laws_plane.specs.Crossing.{parallel_none}
use Rattle.laws_plane.specs.Clash.{equal, way-clash, clash-shares, shares-clash}
use Rattle.paper.specs.Meeting.{Meeting, apart as separate, touching, crossing as crossed, sharing, meeting_at, in_line, meeting, point_of, is_end, clash_by}
use Rattle.laws_meet.specs.Means.{Only, Two, Means, is_separate, is_touching, is_crossed, is_sharing, meeting-means}
use Rattle.laws_meet.specs.Exactly.{is_meeting}

-- ── the test of an end ──

pub end_is : (s : Seg) (p : Pt) → is_end s p ≡ true → IsEnd s p
end_is s p e = or_cases (same (whole s.foot) p) (same (whole (head s)) p) e

pub is_end_lem : (s : Seg) (p : Pt) → IsEnd s p → is_end s p ≡ true
is_end_lem s p (inl e) = or_l {a = same (whole s.foot) p} (same (whole (head s)) p) e
is_end_lem s p (inr e) = or_r (same (whole s.foot) p) {b = same (whole (head s)) p} e

-- an end by other numbers
end_same : (s : Seg) (p q : Pt) → pos 0 <ℤ p.D → pos 0 <ℤ q.D → same p q ≡ true → IsEnd s p → IsEnd s q
end_same s p q hp hq e (inl a) = inl (move (whole s.foot) 0<1 a)
  where
    move : (c : Pt) → pos 0 <ℤ c.D → same c p ≡ true → same c q ≡ true
    move c h a = neither c q (before_same p q c hp hq h e ∙ same_neither c p a) (same_before p q c hp hq h e ∙ same_neither p c (same_sym c p a))
end_same s p q hp hq e (inr a) = inr (move (whole (head s)) 0<1 a)
  where
    move : (c : Pt) → pos 0 <ℤ c.D → same c p ≡ true → same c q ≡ true
    move c h a = neither c q (before_same p q c hp hq h e ∙ same_neither c p a) (same_before p q c hp hq h e ∙ same_neither p c (same_sym c p a))

-- ── clashes ──

-- of two ends of one edge the lesser is the foot, the greater the head
module _ (s : Seg) (us : UpV s.up) (p q : Pt) (hp : pos 0 <ℤ p.D) (hq : pos 0 <ℤ q.D) (l : before p q ≡ true) where
  foot-head : IsEnd s p → IsEnd s q → (same (whole s.foot) p ≡ true) × (same (whole (head s)) q ≡ true)
  foot-head (inl a) (inl b) = absurd (no_both l (same_before f p q 0<1 hp hq a ∙ same_neither f q b))
    where
      f : Pt
      f = whole s.foot
  foot-head (inl a) (inr b) = (a, b)
  foot-head (inr a) (inl b) =
      absurd (no_both (before_trans (whole s.foot) (whole (head s)) q 0<1 0<1 hq (seg_up s us) (sym (same_before (whole (head s)) p q 0<1 hp hq a) ∙ l)) (same_neither (whole s.foot) q b))
  foot-head (inr a) (inr b) = absurd (no_both l (same_before h p q 0<1 hp hq a ∙ same_neither h q b))
    where
      h : Pt
      h = whole (head s)

same_trans : (a b p : Pt) → pos 0 <ℤ a.D → pos 0 <ℤ b.D → pos 0 <ℤ p.D → same a p ≡ true → same b p ≡ true → same a b ≡ true
same_trans a b p ha hb hp e f =
    neither a b (before_same p b a hp hb ha (same_sym b p f) ∙ same_neither a p e) (same_before p b a hp hb ha (same_sym b p f) ∙ same_neither p a (same_sym a p e))

module _ (s t : Seg) (us : UpV s.up) (ut : UpV t.up) where
  -- two different points on both: one is no end of both, or the edges have both ends in common
  two_clash : Two s t → clash s t ≡ true
  two_clash w = go (is_end s w.low && is_end t w.low) (is_end s w.high && is_end t w.high) refl refl
    where
      share : (p : Pt) → pos 0 <ℤ p.D → On s p → On t p → (is_end s p && is_end t p) ≡ false → clash s t ≡ true
      share p h a b e =
          shares-clash s t us ut (record { at = p; real = h; first = a; second = b; no_end = λ x y. no_both (and_both {a = is_end s p} {b = is_end t p} (is_end_lem s p x) (is_end_lem t p y)) e })

      go : (a b : Bool) → (is_end s w.low && is_end t w.low) ≡ a → (is_end s w.high && is_end t w.high) ≡ b → clash s t ≡ true
      go false b e f = share w.low w.low_real w.low_first w.low_second e
      go true false e f = share w.high w.high_real w.high_first w.high_second f
      go true true e f =
          let a = and_parts (is_end s w.low) (is_end t w.low) e in
          let b = and_parts (is_end s w.high) (is_end t w.high) f in
          let x = foot-head s us w.low w.high w.low_real w.high_real w.differ (end_is s w.low a.0) (end_is s w.high b.0) in
          let y = foot-head t ut w.low w.high w.low_real w.high_real w.differ (end_is t w.low a.1) (end_is t w.high b.1) in
          way-clash s t (equal (same_trans (whole s.foot) (whole t.foot) w.low 0<1 0<1 w.low_real x.0 y.0) (same_trans (whole (head s)) (whole (head t)) w.high 0<1 0<1 w.high_real x.1 y.1))

  clash-means : {m : Meeting} → Means s t m → clash s t ≡ clash_by s t m
  clash-means (is_separate f) = not-true (clash s t) (λ e. let h = clash-shares s t us ut e in f h.at h.real h.first h.second)
  clash-means (is_touching p o a) = go (is_end s p && is_end t p) refl
    where
      go : (c : Bool) → (is_end s p && is_end t p) ≡ c → clash s t ≡ not c
      go true e =
          let r = and_parts (is_end s p) (is_end t p) e in
          not-true (clash s t) (λ f. let h = clash-shares s t us ut f in let q = o.only h.at h.real h.first h.second in
          h.no_end (end_same s p h.at o.lowest_p.positive h.real q (end_is s p r.0)) (end_same t p h.at o.lowest_p.positive h.real q (end_is t p r.1)))
      go false e =
          shares-clash s t us ut
          (record { at = p; real = o.lowest_p.positive; first = o.first; second = o.second; no_end = λ x y. no_both (and_both {a = is_end s p} {b = is_end t p} (is_end_lem s p x) (is_end_lem t p y)) e })
  clash-means (is_crossed p o i j) =
      shares-clash s t us ut (record { at = p; real = o.lowest_p.positive; first = o.first; second = o.second; no_end = λ x y. end_not_inside s p x i })
  clash-means (is_sharing w) = two_clash w

  -- refusal 8's test is a function of the meeting
  pub clash-meeting : clash s t ≡ clash_by s t (meeting s t)
  clash-meeting = clash-means (meeting-means s t us ut)

-- ── vertices ──

-- the point of the meeting, where the edges are not parallel
pub crossing-meeting : (s t : Seg) → crossing s t ≡ cond (is_zer (sgn (cross s.up t.up))) none (point_of (meeting s t))
crossing-meeting s t = go (is_zer (sgn (cross s.up t.up))) refl
  where
    by_point : (c : Bool) (p : Pt) → some p ≡ point_of (cond c (crossed p) (touching p))
    by_point true p = refl
    by_point false p = refl

    point_is : (o : Option Pt) → o ≡ point_of (meeting_at s t o)
    point_is none = refl
    point_is (some p) = by_point (inside s p && inside t p) p

    go : (c : Bool) → is_zer (sgn (cross s.up t.up)) ≡ c → crossing s t ≡ cond c none (point_of (cond c (cond (is_zer (sgn (the_left_by s (whole t.foot)))) (in_line s t) separate) (meeting_at s t (crossing s t))))
    go true e = parallel_none s t (zero_is (cross s.up t.up) e)
    go false e = point_is (crossing s t)

-- ── the four answers ──

-- the same answer has the same meaning
separate_by : {s t : Seg} {m : Meeting} → Means s t m → m ≡ separate → (q : Pt) → pos 0 <ℤ q.D → On s q → On t q → ⊥
separate_by (is_separate f) e = f
separate_by (is_touching p o a) e = absurd (let z : ◌≡◌ {A = ℕ} 0 1 = cc in omega arith)
separate_by (is_crossed p o i j) e = absurd (let z : ◌≡◌ {A = ℕ} 0 1 = cc in omega arith)
separate_by (is_sharing w) e = absurd (let z : ◌≡◌ {A = ℕ} 0 1 = cc in omega arith)

touching_by : {s t : Seg} {m : Meeting} (p : Pt) → Means s t m → m ≡ touching p → Only s t p × (IsEnd s p ⊎ IsEnd t p)
touching_by p (is_separate f) e = absurd (let z : ◌≡◌ {A = ℕ} 0 1 = cc in omega arith)
touching_by {s} {t} p (is_touching q o a) e = let r : q ≡ p = cc in subst (λ (x : Pt). Only s t x × (IsEnd s x ⊎ IsEnd t x)) r (o, a)
touching_by p (is_crossed q o i j) e = absurd (let z : ◌≡◌ {A = ℕ} 0 1 = cc in omega arith)
touching_by p (is_sharing w) e = absurd (let z : ◌≡◌ {A = ℕ} 0 1 = cc in omega arith)

crossed_by_lem : {s t : Seg} {m : Meeting} (p : Pt) → Means s t m → m ≡ crossed p → Only s t p × Inside s p × Inside t p
crossed_by_lem p (is_separate f) e = absurd (let z : ◌≡◌ {A = ℕ} 0 1 = cc in omega arith)
crossed_by_lem p (is_touching q o a) e = absurd (let z : ◌≡◌ {A = ℕ} 0 1 = cc in omega arith)
crossed_by_lem {s} {t} p (is_crossed q o i j) e = let r : q ≡ p = cc in subst (λ (x : Pt). Only s t x × Inside s x × Inside t x) r (o, i, j)
crossed_by_lem p (is_sharing w) e = absurd (let z : ◌≡◌ {A = ℕ} 0 1 = cc in omega arith)

sharing_by : {s t : Seg} {m : Meeting} → Means s t m → m ≡ sharing → Two s t
sharing_by (is_separate f) e = absurd (let z : ◌≡◌ {A = ℕ} 0 1 = cc in omega arith)
sharing_by (is_touching p o a) e = absurd (let z : ◌≡◌ {A = ℕ} 0 1 = cc in omega arith)
sharing_by (is_crossed p o i j) e = absurd (let z : ◌≡◌ {A = ℕ} 0 1 = cc in omega arith)
sharing_by (is_sharing w) e = w

module _ (s t : Seg) (us : UpV s.up) (ut : UpV t.up) where
  -- apart exactly if no point is on both
  pub separate_is : meeting s t ≡ separate → (q : Pt) → pos 0 <ℤ q.D → On s q → On t q → ⊥
  separate_is e = separate_by (meeting-means s t us ut) e

  pub is_apart : ((q : Pt) → pos 0 <ℤ q.D → On s q → On t q → ⊥) → meeting s t ≡ separate
  is_apart f = is_meeting s t us ut separate (is_separate f)

  -- touching p exactly if p is the only point on both, and an end of one
  pub touching_is : (p : Pt) → meeting s t ≡ touching p → Only s t p × (IsEnd s p ⊎ IsEnd t p)
  touching_is p e = touching_by p (meeting-means s t us ut) e

  pub is_touched : (p : Pt) → Only s t p → IsEnd s p ⊎ IsEnd t p → meeting s t ≡ touching p
  is_touched p o a = is_meeting s t us ut (touching p) (is_touching p o a)

  -- crossing p exactly if p is the only point on both, and inside both
  pub crossed_is : (p : Pt) → meeting s t ≡ crossed p → Only s t p × Inside s p × Inside t p
  crossed_is p e = crossed_by_lem p (meeting-means s t us ut) e

  pub is_cross : (p : Pt) → Only s t p → Inside s p → Inside t p → meeting s t ≡ crossed p
  is_cross p o i j = is_meeting s t us ut (crossed p) (is_crossed p o i j)

  -- sharing exactly if two different points are on both
  pub sharing_is : meeting s t ≡ sharing → Two s t
  sharing_is e = sharing_by (meeting-means s t us ut) e

  pub is_shared : Two s t → meeting s t ≡ sharing
  is_shared w = is_meeting s t us ut sharing (is_sharing w)

  -- and then the whole stretch between them is
  pub stretch-shared : (w : Two s t) (q : Pt) → pos 0 <ℤ q.D → the_left_by s q ≡ pos 0 → before q w.low ≡ false → before w.high q ≡ false → On s q × On t q
  stretch-shared w q h l e f =
      let o = on_between s w.low q w.high w.low_real h w.high_real w.low_first w.high_first l e f in
      (o, on_between t w.low q w.high w.low_real h w.high_real w.low_second w.high_second (other (tri (pos 0) (cross s.up t.up))) e f)
    where
      -- with two points in common they are not turned
      no_turn : (cross s.up t.up ≡ pos 0 → ⊥) → ⊥
      no_turn n = no_both w.differ (same_neither w.low w.high (one_point s t w.low w.high n w.low_first.line w.low_second.line w.high_first.line w.high_second.line))

      other : Tri (pos 0) (cross s.up t.up) → the_left_by t q ≡ pos 0
      other (lt g) = absurd (no_turn (λ z. <→≢ g (sym z)))
      other (gt g) = absurd (no_turn (λ z. <→≢ g z))
      other (eq z) = one_line s t w.low q us w.low_real (cross-swap_0 s.up t.up (sym z)) w.low_first.line w.low_second.line l

-- an edge with itself is sharing
pub meeting-self : (s : Seg) → UpV s.up → meeting s s ≡ sharing
meeting-self s us = is_shared s s us us (record {
  low = whole s.foot;
  high = whole (head s);
  low_real = 0<1;
  high_real = 0<1;
  differ = seg_up s us;
  low_first = on_foot s us;
  low_second = on_foot s us;
  high_first = on_head s us;
  high_second = on_head s us;
})
