-- How two edges meet, asked by itself (02, Ask 2): the whole operation on eight numbers. In order: each refusal where it is given; done exactly where nothing is refused, and then the answer is the meaning of
-- `Means`; which end, and which edge, is named first. Assumes nothing.
use Rattle.std.specs.Prelude.{◌≡◌, refl, ◌⊎◌, ◌≤◌, ◌||◌, ◌∷◌}
use Rattle.std.proofs.Common.{sym, ◌∙◌, ap, subst, inl, inr, arith, ltb-false, le-ltb}
use Rattle.seq.specs.Seq.{Bool, true, false, [], ℕ, ltb, nat_abs}
use Rattle.seq.specs.Tests.{false_or}
use Rattle.exact.specs.Tests.{clash as no_both, not-true, or_false}
use Rattle.paper.specs.Limits.{reach}
use Rattle.paper.specs.Plane.{Vec, Seg, whole, same, before, between}
use Rattle.paper.specs.Refusal.{Answer, done, refused, given, first_of, answer}
use Rattle.laws_plane.specs.Cone.{UpV}
use Rattle.laws_plane.specs.Points.{same_self, Three, less, equal, more, three}
use Rattle.laws_plane.specs.Ends.{corner-lowest, corner_same, whole-equal}
use Rattle.laws_plane.specs.Edges.{between_up, between_swap}
use Rattle.paper.specs.Meeting.{Meeting, meeting, beyond, meet_corners}
use Rattle.laws_meet.specs.Means.{Means, meeting-means}
use Rattle.laws_meet.specs.Exactly.{meeting-swap}

-- ── refusals ──

module _ (a b c d : Vec) where
  abbrev far_first : Bool
  far_first = beyond a || beyond b

  abbrev far-second : Bool
  far-second = beyond c || beyond d

  abbrev no_first : Bool
  no_first = same (whole a) (whole b)

  abbrev no_second : Bool
  no_second = same (whole c) (whole d)

  abbrev by : Bool → Bool → Bool → Bool → Answer Meeting
  by x y z w = answer (meeting (between a b) (between c d)) (first_of (given 5 0 x ∷ given 5 1 y ∷ given 7 0 z ∷ given 7 1 w ∷ []))

  pub refused_5_first : (beyond a || beyond b) ≡ true → meet_corners a b c d ≡ refused (record { number = 5; map = 0; place = 0; other = 0 })
  refused_5_first e = ap (λ (x : Bool). by x far-second no_first no_second) e

  pub refused_5_second : (beyond a || beyond b) ≡ false → (beyond c || beyond d) ≡ true → meet_corners a b c d ≡ refused (record { number = 5; map = 0; place = 1; other = 0 })
  refused_5_second e f = λ i. by (e i) (f i) no_first no_second

  pub refused_7_first : (beyond a || beyond b) ≡ false → (beyond c || beyond d) ≡ false → a ≡ b → meet_corners a b c d ≡ refused (record { number = 7; map = 0; place = 0; other = 0 })
  refused_7_first e f g = λ i. by (e i) (f i) (eq i) no_second
    where
      eq : no_first ≡ true
      eq = ap (λ (x : Vec). same (whole a) (whole x)) (sym g) ∙ same_self (whole a)

  pub refused_7_second : (beyond a || beyond b) ≡ false → (beyond c || beyond d) ≡ false → (a ≡ b → ⊥) → c ≡ d → meet_corners a b c d ≡ refused (record { number = 7; map = 0; place = 1; other = 0 })
  refused_7_second e f n g = λ i. by (e i) (f i) (ne i) (eq i)
    where
      ne : no_first ≡ false
      ne = not-true no_first (λ q. n (corner_same a b q))

      eq : no_second ≡ true
      eq = ap (λ (x : Vec). same (whole c) (whole x)) (sym g) ∙ same_self (whole c)

-- ── done ──

abbrev pub Near : Vec → Type 0
Near a = (nat_abs a.x ≤ reach) × (nat_abs a.y ≤ reach)

-- what may be asked
pub record Askable (a b c d : Vec) : Type 0 where
  pub near_a : Near a
  pub near_b : Near b
  pub near_c : Near c
  pub near_d : Near d
  pub first_long : a ≡ b → ⊥
  pub second_long : c ≡ d → ⊥

near_is : (a : Vec) → beyond a ≡ false → Near a
near_is a e = let r = or_false (ltb reach (nat_abs a.x)) (ltb reach (nat_abs a.y)) e in (ltb-false reach (nat_abs a.x) r.0, ltb-false reach (nat_abs a.y) r.1)

is_near : (a : Vec) → Near a → beyond a ≡ false
is_near a n = false_or (le-ltb reach (nat_abs a.x) n.0) (le-ltb reach (nat_abs a.y) n.1)

-- of two different corners one comes first
pub differ-way : (a b : Vec) → (a ≡ b → ⊥) → (before (whole a) (whole b) ≡ true) ⊎ (before (whole b) (whole a) ≡ true)
differ-way a b n = go (three (whole a) (whole b) (corner-lowest a) (corner-lowest b))
  where
    go : Three (whole a) (whole b) → (before (whole a) (whole b) ≡ true) ⊎ (before (whole b) (whole a) ≡ true)
    go (less e) = inl e
    go (equal e) = absurd (n (whole-equal a b e))
    go (more e) = inr e

pub drawn_up : (a b : Vec) → (a ≡ b → ⊥) → UpV (between a b).up
drawn_up a b n = between_up a b (differ-way a b n)

module _ (a b c d : Vec) where
  asked : Askable a b c d → meet_corners a b c d ≡ done (meeting (between a b) (between c d))
  asked k = λ i. by a b c d (e i) (f i) (g i) (h i)
    where
      e : (beyond a || beyond b) ≡ false
      e = false_or (is_near a k.near_a) (is_near b k.near_b)

      f : (beyond c || beyond d) ≡ false
      f = false_or (is_near c k.near_c) (is_near d k.near_d)

      g : same (whole a) (whole b) ≡ false
      g = not-true (same (whole a) (whole b)) (λ q. k.first_long (corner_same a b q))

      h : same (whole c) (whole d) ≡ false
      h = not-true (same (whole c) (whole d)) (λ q. k.second_long (corner_same c d q))

  -- it is done where all may be asked, and answers how the edges meet
  pub meet_has : Askable a b c d → (meet_corners a b c d ≡ done (meeting (between a b) (between c d))) × Means (between a b) (between c d) (meeting (between a b) (between c d))
  meet_has k = (asked k, meeting-means (between a b) (between c d) (drawn_up a b k.first_long) (drawn_up c d k.second_long))

  -- and only there
  pub meet-done : (m : Meeting) → meet_corners a b c d ≡ done m → Askable a b c d × Means (between a b) (between c d) m
  meet-done m e = go (beyond a || beyond b) (beyond c || beyond d) (same (whole a) (whole b)) (same (whole c) (whole d)) refl refl refl refl e
    where
      go : (x y z w : Bool) → (beyond a || beyond b) ≡ x → (beyond c || beyond d) ≡ y → same (whole a) (whole b) ≡ z → same (whole c) (whole d) ≡ w → by a b c d x y z w ≡ done m
          → Askable a b c d × Means (between a b) (between c d) m
      go true y z w p q r s f = absurd (let z : ◌≡◌ {A = ℕ} 0 1 = cc in omega arith)
      go false true z w p q r s f = absurd (let z : ◌≡◌ {A = ℕ} 0 1 = cc in omega arith)
      go false false true w p q r s f = absurd (let z : ◌≡◌ {A = ℕ} 0 1 = cc in omega arith)
      go false false false true p q r s f = absurd (let z : ◌≡◌ {A = ℕ} 0 1 = cc in omega arith)
      go false false false false p q r s f =
          let x = or_false (beyond a) (beyond b) p in
          let y = or_false (beyond c) (beyond d) q in
          let n : a ≡ b → ⊥ = λ g. no_both (ap (λ (v : Vec). same (whole a) (whole v)) (sym g) ∙ same_self (whole a)) r in
          let o : c ≡ d → ⊥ = λ g. no_both (ap (λ (v : Vec). same (whole c) (whole v)) (sym g) ∙ same_self (whole c)) s in
          let h : meeting (between a b) (between c d) ≡ m = cc in (
            record { near_a = near_is a x.0; near_b = near_is b x.1; near_c = near_is c y.0; near_d = near_is d y.1; first_long = n; second_long = o },
            subst (Means (between a b) (between c d)) h (meeting-means (between a b) (between c d) (drawn_up a b n) (drawn_up c d o)),
          )

-- which edge is named first does not matter, nor which end
module _ (a b c d : Vec) (k : Askable a b c d) where
  pub meet-swap : meet_corners c d a b ≡ meet_corners a b c d
  meet-swap =
      asked c d a b (record { near_a = k.near_c; near_b = k.near_d; near_c = k.near_a; near_d = k.near_b; first_long = k.second_long; second_long = k.first_long })
      ∙ ap done (sym (meeting-swap (between a b) (between c d) (drawn_up a b k.first_long) (drawn_up c d k.second_long))) ∙ sym (asked a b c d k)

  pub meet-turned : meet_corners b a c d ≡ meet_corners a b c d
  meet-turned =
      asked b a c d (record { near_a = k.near_b; near_b = k.near_a; near_c = k.near_c; near_d = k.near_d; first_long = λ e. k.first_long (sym e); second_long = k.second_long })
      ∙ ap (λ (s : Seg). done (meeting s (between c d))) (sym (between_swap a b (differ-way a b k.first_long))) ∙ sym (asked a b c d k)
