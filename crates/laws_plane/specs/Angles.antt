-- The order of angles of directions that are not nowhere: irreflexive, transitive, and of two directions one has the lesser angle or they are the same way
-- (parallel, in one half of the plane), and then neither is less. Both halves are one case: the opposites of the directions of the second half are in
-- the first, and have the same cross products. In the first half all is one identity,
--     cross u v · w + cross v w · u = cross u w · v
-- so that the signs of the three are those of a sum (`turn-trans`). In order: cross products; the first half; parallel directions; the same way; the laws.
-- Assumes nothing.
use Rattle.std.specs.Prelude.{◌≡◌, refl, Bool, true, false, cond, not, ◌&&◌, ◌||◌, [], ◌∷◌, ℤ, pos, neg_ℤ, ◌+ℤ◌, ◌-ℤ◌, ◌*ℤ◌}
use Rattle.std.proofs.Common.{sym, ◌∙◌, ap, subst}
use Rattle.exact.specs.Solve.{ring, reify}
use Rattle.exact.specs.Mul.{≡-by₂}
use Rattle.exact.specs.Sign.{Sign, sgn, is_plus, neg_s, sgn-negℤ, Sg, is_neg_lem, is_zer_lem, is_plus_lem, sg}
use Rattle.exact.specs.Tests.{never}
use Rattle.exact.specs.Signs.{plus-turned, plus_not-neg}
use Rattle.paper.specs.Plane.{Vec, cross, opposite, rises, less_angle}
use Rattle.laws_plane.specs.Cone.{up, lex_is, zero_factor, UpV, NonZero, rises_up, up_rises, no_rises, rises-opposite}

-- ── cross products ──

pub cross-opposite : (u v : Vec) → cross (opposite u) (opposite v) ≡ cross u v
cross-opposite u v = go u.x u.y v.x v.y
  where
    go : (a b c d : ℤ) → neg_ℤ a *ℤ neg_ℤ d -ℤ neg_ℤ b *ℤ neg_ℤ c ≡ a *ℤ d -ℤ b *ℤ c
    go a b c d = ring (a ∷ b ∷ c ∷ d ∷ []) (search reify depth 20) tt

pub cross_back : (u v : Vec) → cross u (opposite v) ≡ neg_ℤ (cross u v)
cross_back u v = go u.x u.y v.x v.y
  where
    go : (a b c d : ℤ) → a *ℤ neg_ℤ d -ℤ b *ℤ neg_ℤ c ≡ neg_ℤ (a *ℤ d -ℤ b *ℤ c)
    go a b c d = ring (a ∷ b ∷ c ∷ d ∷ []) (search reify depth 20) tt

-- the turn from v to u is the opposite of that from u to v
pub cross-swap : (u v : Vec) → cross v u ≡ neg_ℤ (cross u v)
cross-swap u v = go u.x u.y v.x v.y
  where
    go : (a b c d : ℤ) → c *ℤ b -ℤ d *ℤ a ≡ neg_ℤ (a *ℤ d -ℤ b *ℤ c)
    go a b c d = ring (a ∷ b ∷ c ∷ d ∷ []) (search reify depth 20) tt

pub turn-swap : (u v : Vec) → sgn (cross v u) ≡ neg_s (sgn (cross u v))
turn-swap u v = ap sgn (cross-swap u v) ∙ sgn-negℤ (cross u v)

pub cross-self : (u : Vec) → cross u u ≡ pos 0
cross-self u = go u.x u.y
  where
    go : (a b : ℤ) → a *ℤ b -ℤ b *ℤ a ≡ pos 0
    go a b = ring (a ∷ b ∷ []) (search reify depth 20) tt

pub cross-swap_0 : (u v : Vec) → cross u v ≡ pos 0 → cross v u ≡ pos 0
cross-swap_0 u v e = cross-swap u v ∙ ap neg_ℤ e

-- ── in the first half ──

pub turn_x : (a b c d e f : ℤ) → e *ℤ (a *ℤ d -ℤ b *ℤ c) +ℤ a *ℤ (c *ℤ f -ℤ d *ℤ e) ≡ c *ℤ (a *ℤ f -ℤ b *ℤ e)
turn_x a b c d e f = ring (a ∷ b ∷ c ∷ d ∷ e ∷ f ∷ []) (search reify depth 20) tt

pub turn_y : (a b c d e f : ℤ) → f *ℤ (a *ℤ d -ℤ b *ℤ c) +ℤ b *ℤ (c *ℤ f -ℤ d *ℤ e) ≡ d *ℤ (a *ℤ f -ℤ b *ℤ e)
turn_y a b c d e f = ring (a ∷ b ∷ c ∷ d ∷ e ∷ f ∷ []) (search reify depth 20) tt

-- ── parallel ──

zero_x : (a b c d e f : ℤ) → a *ℤ d -ℤ b *ℤ c ≡ pos 0 → c *ℤ f -ℤ d *ℤ e ≡ pos 0 → (a *ℤ f -ℤ b *ℤ e) *ℤ c ≡ pos 0
zero_x a b c d e f p q = ≡-by₂ p e q a (ring (a ∷ b ∷ c ∷ d ∷ e ∷ f ∷ []) (search reify depth 20) tt)

zero_y : (a b c d e f : ℤ) → a *ℤ d -ℤ b *ℤ c ≡ pos 0 → c *ℤ f -ℤ d *ℤ e ≡ pos 0 → (a *ℤ f -ℤ b *ℤ e) *ℤ d ≡ pos 0
zero_y a b c d e f p q = ≡-by₂ p f q b (ring (a ∷ b ∷ c ∷ d ∷ e ∷ f ∷ []) (search reify depth 20) tt)

-- parallel to one that is not nowhere, so to each other
pub parallel-trans : (u v w : Vec) → NonZero v → cross u v ≡ pos 0 → cross v w ≡ pos 0 → cross u w ≡ pos 0
parallel-trans u v w n p q =
    zero_factor (cross u w) n (zero_x u.x u.y v.x v.y w.x w.y p q) (zero_y u.x u.y v.x v.y w.x w.y p q)

-- ── the same way ──

pub record SameWay (u v : Vec) : Type 0 where
  pub parallel : cross u v ≡ pos 0
  pub half : rises u ≡ rises v

pub same_way_up : (u v : Vec) → SameWay u v → UpV u → UpV v
same_way_up u v s h = rises_up v (sym s.half ∙ ap is_plus (lex_is u.x u.y (up h)))

pub same_way_sym : (u v : Vec) → SameWay u v → SameWay v u
same_way_sym u v s = record { parallel = cross-swap_0 u v s.parallel; half = sym s.half }

pub same_way-opposite : (u v : Vec) → NonZero u → NonZero v → SameWay u v → SameWay (opposite u) (opposite v)
same_way-opposite u v nu nv s = record {
  parallel = cross-opposite u v ∙ s.parallel;
  half = rises-opposite u nu ∙ ap not s.half ∙ sym (rises-opposite v nv);
}

-- ── the laws ──

-- the test by the two halves and the turn
abbrev pub angle_test : Bool → Bool → Bool → Bool
angle_test a b s = cond a (not b || s) (not b && s)

level-turn : (a : Bool) {z : ℤ} → z ≡ pos 0 → angle_test a a (is_plus (sgn z)) ≡ false
level-turn true e = ap (λ (z : ℤ). is_plus (sgn z)) e
level-turn false e = ap (λ (z : ℤ). is_plus (sgn z)) e

pub angle_irr : (u : Vec) → less_angle u u ≡ false
angle_irr u = level-turn (rises u) (cross-self u)

pub angle_asym : (u v : Vec) → less_angle u v ≡ true → less_angle v u ≡ false
angle_asym u v = go (rises u) (rises v)
  where
    other : is_plus (sgn (cross u v)) ≡ true → is_plus (sgn (cross v u)) ≡ false
    other e = ap is_plus (turn-swap u v) ∙ plus-turned (sgn (cross u v)) ∙ plus_not-neg (sgn (cross u v)) e

    go : (a b : Bool) → angle_test a b (is_plus (sgn (cross u v))) ≡ true → angle_test b a (is_plus (sgn (cross v u))) ≡ false
    go true true e = other e
    go true false e = refl
    go false true e = never e
    go false false e = other e

module _ (u v : Vec) where
  flat : is_plus (sgn (cross u v)) ≡ false → is_plus (sgn (cross v u)) ≡ false → cross u v ≡ pos 0
  flat e f = go (sg (cross u v)) e (ap is_plus (sym (turn-swap u v)) ∙ f)
    where
      go : {s : Sign} → Sg (cross u v) s → is_plus s ≡ false → is_plus (neg_s s) ≡ false → cross u v ≡ pos 0
      go (is_neg_lem h) e f = never (sym f)
      go (is_zer_lem h) e f = h
      go (is_plus_lem h) e f = never (sym e)

  -- neither less: the same way
  pub neither_less : less_angle u v ≡ false → less_angle v u ≡ false → SameWay u v
  neither_less = go (rises u) (rises v) refl refl
    where
      go : (a b : Bool) → rises u ≡ a → rises v ≡ b → angle_test a b (is_plus (sgn (cross u v))) ≡ false → angle_test b a (is_plus (sgn (cross v u))) ≡ false → SameWay u v
      go true true e f p q = record { parallel = flat p q; half = e ∙ sym f }
      go true false e f p q = never (sym p)
      go false true e f p q = never (sym q)
      go false false e f p q = record { parallel = flat p q; half = e ∙ sym f }

  -- and back
  pub same_way_less : SameWay u v → less_angle u v ≡ false
  same_way_less s =
      subst (λ (b : Bool). angle_test (rises u) b (is_plus (sgn (cross u v))) ≡ false) s.half (level-turn (rises u) s.parallel)

-- the three ways, as data
pub data Turn (u v : Vec) : Type 0 where
  less : less_angle u v ≡ true → Turn u v
  same : SameWay u v → Turn u v
  more : less_angle v u ≡ true → Turn u v

pub turned : (u v : Vec) → Turn u v
turned u v = go (less_angle u v) (less_angle v u) refl refl
  where
    go : (a b : Bool) → less_angle u v ≡ a → less_angle v u ≡ b → Turn u v
    go true b e f = less e
    go false true e f = more f
    go false false e f = same (neither_less u v e f)

-- what goes up has a lesser angle than what goes down
pub up_less_down : (u v : Vec) → UpV u → UpV (opposite v) → less_angle u v ≡ true
up_less_down u v h l = (λ i. angle_test (up_rises u h i) (no_rises v l i) (is_plus (sgn (cross u v))))

-- ── directions of one way are one ──

pub same_way-trans : (u v w : Vec) → NonZero v → SameWay u v → SameWay v w → SameWay u w
same_way-trans u v w n s t = record { parallel = parallel-trans u v w n s.parallel t.parallel; half = s.half ∙ t.half }
