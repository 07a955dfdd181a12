-- `crossing` means what it says, of two edges s and t that go up: where they are not parallel it is the one point, in lowest terms, that lies on both; it is none where they are parallel or no point
-- lies on both. In order: the numbers of steps along both edges that lead to one point; `crossing` is that point (`crossing-touch`) and finds it (`touch-crossing`); the only one; none;
-- which edge is named first does not matter (`crossing-swap`). Assumes nothing.
use Rattle.std.specs.Prelude.{◌≡◌, refl, Bool, true, false, cond, ◌&&◌, [], ◌∷◌, ℕ, zero, suc, ℤ, pos, negsuc, neg_ℤ, ◌+ℤ◌, ◌*ℤ◌, ◌≤ℤ◌, ◌<ℤ◌}
use Rattle.std.proofs.Common.{sym, ◌∙◌, ap, subst, arith}
use Rattle.std.proofs.Math.Option.{Option, none, some}
use Rattle.std.specs.Int.Signed.{le_z}
use Rattle.exact.specs.Solve.{ring, reify}
use Rattle.exact.specs.Order.{<-of}
use Rattle.exact.specs.Mul.{≡-by₁, ≡-by₂}
use Rattle.exact.specs.Lowest.{Pt, lowest, lowest_is, lowest_x, lowest_y, lowest-only}
use Rattle.exact.specs.Tests.{and_both, and_parts, le_t, t_le}
use Rattle.seq.specs.Options.{not_both}
use Rattle.paper.specs.Plane.{Seg, minus_v, cross, same, the_left_by, within, cross_at, cross_by, crossing}
use Rattle.laws_plane.specs.Cone.{UpV}
use Rattle.laws_plane.specs.Points.{LowestP, is_same, same_equal}
use Rattle.laws_plane.specs.Angles.{cross-swap_0}
use Rattle.laws_plane.specs.Edges.{On, on_same}
use Rattle.laws_plane.specs.Lines.{Part, part_on, on_part, one_point}

-- p, in lowest terms, lies on both edges, which are not parallel
pub record Touch (s t : Seg) (p : Pt) : Type 0 where
  pub turned : cross s.up t.up ≡ pos 0 → ⊥
  pub lowest_p : LowestP p
  pub first : On s p
  pub second : On t p

pub touch-swap : (s t : Seg) (p : Pt) → Touch s t p → Touch t s p
touch-swap s t p h = record { turned = λ e. h.turned (cross-swap_0 t.up s.up e); lowest_p = h.lowest_p; first = h.second; second = h.first }

-- ── numbers of steps along both edges that lead to one point ──

record Agree (s t : Seg) (n m d : ℤ) : Type 0 where
  same_x : s.foot.x *ℤ d +ℤ n *ℤ s.up.x ≡ t.foot.x *ℤ d +ℤ m *ℤ t.up.x
  same_y : s.foot.y *ℤ d +ℤ n *ℤ s.up.y ≡ t.foot.y *ℤ d +ℤ m *ℤ t.up.y

over : {s t : Seg} {n m d : ℤ} {p : Pt} → Agree s t n m d → Part s n d p → Part t m d p
over {p = p} g a = record { at_x = a.at_x ∙ ap (λ (z : ℤ). z *ℤ p.D) g.same_x; at_y = a.at_y ∙ ap (λ (z : ℤ). z *ℤ p.D) g.same_y }

pub cond_some : (c : Bool) (q p : Pt) → cond c (some q) none ≡ some p → (c ≡ true) × (q ≡ p)
cond_some true q p e = (refl, cc)
cond_some false q p e = absurd (let z : ◌≡◌ {A = ℕ} 0 1 = cc in omega arith)

module _ (s t : Seg) (us : UpV s.up) (ut : UpV t.up) where
  module _ (n m : ℤ) (k : ℕ) (g : Agree s t n m (pos (suc k))) where
    abbrev d : ℤ
    d = pos (suc k)

    0<d : pos 0 <ℤ d
    0<d = <-of (pos 0) d (omega arith)

    abbrev X : ℤ
    X = s.foot.x *ℤ d +ℤ n *ℤ s.up.x

    abbrev Y : ℤ
    Y = s.foot.y *ℤ d +ℤ n *ℤ s.up.y

    abbrev met : Pt
    met = lowest X Y d

    met-part : Part s n d met
    met-part = record { at_x = lowest_x X Y d 0<d; at_y = lowest_y X Y d 0<d }

    met_on : within n d ≡ true → within m d ≡ true → On s met × On t met
    met_on e f =
        let x = and_parts (le_z (pos 0) n) (le_z n d) e in
        let y = and_parts (le_z (pos 0) m) (le_z m d) f in
        let h = (lowest_is X Y d 0<d).positive in
        (part_on s us met h n d 0<d met-part (le_t x.0) (le_t x.1), part_on t ut met h m d 0<d (over g met-part) (le_t y.0) (le_t y.1))

    sound_at : (p : Pt) → cross_at s n m d ≡ some p → LowestP p × On s p × On t p
    sound_at p e =
        let r = cond_some (within n d && within m d) met p e in
        let w = and_parts (within n d) (within m d) r.0 in
        let o = met_on w.0 w.1 in
        subst (λ (q : Pt). LowestP q × On s q × On t q) r.1 (lowest_is X Y d 0<d, o.0, o.1)

    within_by : (z : ℤ) → (pos 0 ≤ℤ z) × (z ≤ℤ d) → within z d ≡ true
    within_by z h = and_both {a = le_z (pos 0) z} {b = le_z z d} (t_le h.0) (t_le h.1)

    complete_at : (p : Pt) → LowestP p → On s p → On t p → Part s n d p → cross_at s n m d ≡ some p
    complete_at p l os ot a =
        ap (λ (c : Bool). cond c (some met) none)
        (and_both {a = within n d} {b = within m d} (within_by n (on_part s us p l.positive n d 0<d a os)) (within_by m (on_part t ut p l.positive m d 0<d (over g a) ot)))
        ∙ ap some (sym (lowest-only X Y d p 0<d l a.at_x a.at_y))

  -- ── at the numbers of `crossing` ──

  abbrev n : ℤ
  n = cross (minus_v t.foot s.foot) t.up

  abbrev m : ℤ
  m = cross (minus_v t.foot s.foot) s.up

  abbrev turn : ℤ
  turn = cross s.up t.up

  agree : Agree s t n m turn
  agree = record {
    same_x = ring (s.foot.x ∷ s.foot.y ∷ s.up.x ∷ s.up.y ∷ t.foot.x ∷ t.foot.y ∷ t.up.x ∷ t.up.y ∷ []) (search reify depth 20) tt;
    same_y = ring (s.foot.x ∷ s.foot.y ∷ s.up.x ∷ s.up.y ∷ t.foot.x ∷ t.foot.y ∷ t.up.x ∷ t.up.y ∷ []) (search reify depth 20) tt;
  }

  agree-neg : Agree s t (neg_ℤ n) (neg_ℤ m) (neg_ℤ turn)
  agree-neg = record {
    same_x = ring (s.foot.x ∷ s.foot.y ∷ s.up.x ∷ s.up.y ∷ t.foot.x ∷ t.foot.y ∷ t.up.x ∷ t.up.y ∷ []) (search reify depth 20) tt;
    same_y = ring (s.foot.x ∷ s.foot.y ∷ s.up.x ∷ s.up.y ∷ t.foot.x ∷ t.foot.y ∷ t.up.x ∷ t.up.y ∷ []) (search reify depth 20) tt;
  }

  -- a point on both lines is at the part n/turn of the first
  both_part : (p : Pt) → the_left_by s p ≡ pos 0 → the_left_by t p ≡ pos 0 → Part s n turn p
  both_part p e f = record {
    at_x = ≡-by₂ e t.up.x f (neg_ℤ s.up.x) (ring (s.foot.x ∷ s.foot.y ∷ s.up.x ∷ s.up.y ∷ t.foot.x ∷ t.foot.y ∷ t.up.x ∷ t.up.y ∷ p.X ∷ p.Y ∷ p.D ∷ []) (search reify depth 20) tt);
    at_y = ≡-by₂ e t.up.y f (neg_ℤ s.up.y) (ring (s.foot.x ∷ s.foot.y ∷ s.up.x ∷ s.up.y ∷ t.foot.x ∷ t.foot.y ∷ t.up.x ∷ t.up.y ∷ p.X ∷ p.Y ∷ p.D ∷ []) (search reify depth 20) tt);
  }

  part-neg : (p : Pt) → Part s n turn p → Part s (neg_ℤ n) (neg_ℤ turn) p
  part-neg p a = record { at_x = go s.foot.x s.up.x n turn p.X p.D a.at_x; at_y = go s.foot.y s.up.y n turn p.Y p.D a.at_y }
    where
      go : (f u k d x c : ℤ) → x *ℤ d ≡ (f *ℤ d +ℤ k *ℤ u) *ℤ c → x *ℤ neg_ℤ d ≡ (f *ℤ neg_ℤ d +ℤ neg_ℤ k *ℤ u) *ℤ c
      go f u k d x c q = ≡-by₁ q (negsuc 0) (ring (f ∷ u ∷ k ∷ d ∷ x ∷ c ∷ []) (search reify depth 20) tt)

  sound_by : (z : ℤ) → turn ≡ z → (p : Pt) → cross_by s n m z ≡ some p → Touch s t p
  sound_by (pos zero) e p q = absurd (let z : ◌≡◌ {A = ℕ} 0 1 = cc in omega arith)
  sound_by (pos (suc k)) e p q =
      let r = sound_at n m k (subst (Agree s t n m) e agree) p q in
      record { turned = λ f. absurd (let z : ◌≡◌ {A = ℕ} (suc k) 0 = cc in omega arith); lowest_p = r.0; first = r.1; second = r.2 }
  sound_by (negsuc k) e p q =
      let r = sound_at (neg_ℤ n) (neg_ℤ m) k (subst (Agree s t (neg_ℤ n) (neg_ℤ m)) (ap neg_ℤ e) agree-neg) p q in
      record { turned = λ f. absurd (let z : ◌≡◌ {A = ℕ} 0 1 = cc in omega arith); lowest_p = r.0; first = r.1; second = r.2 }

  complete_by : (z : ℤ) → turn ≡ z → (p : Pt) → Touch s t p → cross_by s n m z ≡ some p
  complete_by (pos zero) e p h = absurd (h.turned e)
  complete_by (pos (suc k)) e p h =
      complete_at n m k (subst (Agree s t n m) e agree) p h.lowest_p h.first h.second
      (subst (λ (z : ℤ). Part s n z p) e (both_part p h.first.line h.second.line))
  complete_by (negsuc k) e p h =
      complete_at (neg_ℤ n) (neg_ℤ m) k (subst (Agree s t (neg_ℤ n) (neg_ℤ m)) (ap neg_ℤ e) agree-neg) p h.lowest_p h.first h.second
      (subst (λ (z : ℤ). Part s (neg_ℤ n) z p) (ap neg_ℤ e) (part-neg p (both_part p h.first.line h.second.line)))

  -- ── the crossing is the point on both ──

  pub crossing-touch : (p : Pt) → crossing s t ≡ some p → Touch s t p
  crossing-touch p e = sound_by turn refl p e

  pub touch-crossing : (p : Pt) → Touch s t p → crossing s t ≡ some p
  touch-crossing p h = complete_by turn refl p h

  -- the only one
  pub crossing-only : (p q : Pt) → crossing s t ≡ some p → On s q → On t q → same p q ≡ true
  crossing-only p q e os ot = let h = crossing-touch p e in one_point s t p q h.turned h.first.line h.second.line os.line ot.line

  pub crossing-equal : (p q : Pt) → crossing s t ≡ some p → LowestP q → On s q → On t q → p ≡ q
  crossing-equal p q e l os ot = same_equal p q (crossing-touch p e).lowest_p l (crossing-only p q e os ot)

  -- a point on both, whatever its numbers: the crossing is there, and is that point
  pub crossing-there : (q : Pt) → (turn ≡ pos 0 → ⊥) → pos 0 <ℤ q.D → On s q → On t q → crossing s t ≡ some (lowest q.X q.Y q.D)
  crossing-there q w h os ot =
      touch-crossing p (record { turned = w; lowest_p = l; first = on_same s q p h l.positive e os; second = on_same t q p h l.positive e ot })
    where
      p : Pt
      p = lowest q.X q.Y q.D

      l : LowestP p
      l = lowest_is q.X q.Y q.D h

      e : same q p ≡ true
      e = is_same q p (sym (lowest_x q.X q.Y q.D h)) (sym (lowest_y q.X q.Y q.D h))

  -- none
  pub crossing_none : crossing s t ≡ none → (turn ≡ pos 0 → ⊥) → (q : Pt) → pos 0 <ℤ q.D → On s q → On t q → ⊥
  crossing_none e w q h os ot = not_both (crossing s t) e (crossing-there q w h os ot)

-- parallel edges have none, whatever they are
pub parallel_none : (s t : Seg) → cross s.up t.up ≡ pos 0 → crossing s t ≡ none
parallel_none s t e = ap (cross_by s (cross (minus_v t.foot s.foot) t.up) (cross (minus_v t.foot s.foot) s.up)) e

-- which is named first does not matter
pub crossing-swap : (s t : Seg) → UpV s.up → UpV t.up → crossing s t ≡ crossing t s
crossing-swap s t us ut = go (crossing s t) (crossing t s) refl refl
  where
    go : (a b : Option Pt) → crossing s t ≡ a → crossing t s ≡ b → a ≡ b
    go none none e f = refl
    go (some p) b e f = sym (touch-crossing t s ut us p (touch-swap s t p (crossing-touch s t us ut p e))) ∙ f
    go none (some q) e f = sym e ∙ touch-crossing s t us ut q (touch-swap t s q (crossing-touch t s ut us q f))
