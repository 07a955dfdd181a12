-- Keys: two corners within reach are the same exactly if their keys are, and so are two pairs of numbers, whichever way round. Then the searches of cells that hold keys. Assumes nothing.
use Rattle.std.specs.Prelude.{◌&&◌, ◌||◌, ◌+◌, ◌*◌}
use mathlib.Core.Path.{◌≡◌, refl, sym, ◌∙◌, ap}
use mathlib.Core.Logic.{⊎_elim}
use Prim.Native.Nat.{◌≤◌, ◌<◌}
use native.Mathlib.Omega.{arith}
use borrow.Author.Tests.{eqb-true, eq-eqb, leb-true, leb-false}
use Rattle.seq.specs.Seq.{Bool, true, false, cond, not, List, ℕ, leb, eqb, ℤ, pos, negsuc, nat_abs, get_or, least, the_some_below, filled}
use Rattle.seq.specs.Tests.{bool-ext, or_l, or_r, or_cases, and_both, and_parts}
use Rattle.seq.specs.Least.{least-ext}
use Rattle.seq.proofs.Least.{some_ext}
use Rattle.seq.specs.Filled.{filled_at, filled-ext}
use Rattle.paper.specs.Limits.{reach}
use Rattle.paper.specs.Plane.{Vec, vec, whole, same}
use Rattle.laws_plane.specs.Points.{same_self}
use Rattle.laws_plane.specs.Ends.{corner_same}
use Rattle.laws_file.specs.Bytes.{wrapped}
use Rattle.plane.specs.Bounds.{Corner}
use Rattle.map_check.specs.Parts.{corner_in, lies_on, Corners}
use Rattle.mend.specs.Keys.{corner_key, pair_key, edge_key, like_in}
use Rattle.mend.specs.Steps.{into_at, shrunk_in, alike_in, repeated_in, edge_step}

-- ── corners ──

pub wrapped_below : (z : ℤ) → nat_abs z ≤ reach → wrapped 2 z < 65536
wrapped_below (pos n) h = omega arith
wrapped_below (negsuc n) h = omega arith

wrapped-once : (y z : ℤ) → nat_abs y ≤ reach → nat_abs z ≤ reach → wrapped 2 y ≡ wrapped 2 z → y ≡ z
wrapped-once (pos a) (pos b) h g e = ap pos e
wrapped-once (pos a) (negsuc b) h g e = absurd (omega arith)
wrapped-once (negsuc a) (pos b) h g e = absurd (omega arith)
wrapped-once (negsuc a) (negsuc b) h g e = let q : a ≡ b = omega arith in ap negsuc q

module _ (a b : Vec) (p : Corner a) (q : Corner b) where
  corner-once : wrapped 2 a.x + 65536 * wrapped 2 a.y ≡ wrapped 2 b.x + 65536 * wrapped 2 b.y → a ≡ b
  corner-once e =
      let k = wrapped_below a.x p.x_is in
      let l = wrapped_below b.x q.x_is in
      let f : wrapped 2 a.x ≡ wrapped 2 b.x = omega (arith, e, k, l) in
      let g : wrapped 2 a.y ≡ wrapped 2 b.y = omega (arith, e, k, l) in
      let x = wrapped-once a.x b.x p.x_is q.x_is f in
      let y = wrapped-once a.y b.y p.y_is q.y_is g in
      λ i. vec (x i) (y i)

  pub corner_like : eqb (wrapped 2 a.x + 65536 * wrapped 2 a.y) (wrapped 2 b.x + 65536 * wrapped 2 b.y) ≡ same (whole a) (whole b)
  corner_like =
      bool-ext (eqb (wrapped 2 a.x + 65536 * wrapped 2 a.y) (wrapped 2 b.x + 65536 * wrapped 2 b.y)) (same (whole a) (whole b))
      (λ e. ap (λ (c : Vec). same (whole a) (whole c)) (sym (corner-once (eqb-true _ _ e))) ∙ same_self (whole a))
      (λ e. let r = corner_same a b e in eq-eqb _ _ (ap (λ (c : Vec). wrapped 2 c.x + 65536 * wrapped 2 c.y) r))

-- ── pairs ──

module _ (a b c d : ℕ) (la : a < 65536) (lb : b < 65536) (lc : c < 65536) (ld : d < 65536) where
  straight : a ≡ c → b ≡ d → ((eqb a c && eqb b d) || (eqb a d && eqb b c)) ≡ true
  straight e f = or_l (eqb a d && eqb b c) (and_both (eq-eqb a c e) (eq-eqb b d f))

  turned : a ≡ d → b ≡ c → ((eqb a c && eqb b d) || (eqb a d && eqb b c)) ≡ true
  turned e f = or_r (eqb a c && eqb b d) (and_both (eq-eqb a d e) (eq-eqb b c f))

  pair_is : (p q : Bool) → cond p (65536 * a + b) (65536 * b + a) ≡ cond q (65536 * c + d) (65536 * d + c) → ((eqb a c && eqb b d) || (eqb a d && eqb b c)) ≡ true
  pair_is true true e = straight (omega arith) (omega arith)
  pair_is true false e = turned (omega arith) (omega arith)
  pair_is false true e = turned (omega arith) (omega arith)
  pair_is false false e = straight (omega arith) (omega arith)

  swapped : (p q : Bool) → leb a b ≡ p → leb b a ≡ q → cond p (65536 * a + b) (65536 * b + a) ≡ cond q (65536 * b + a) (65536 * a + b)
  swapped true true e f = omega (arith, leb-true a b e, leb-true b a f)
  swapped true false e f = refl
  swapped false true e f = refl
  swapped false false e f = omega (arith, leb-false a b e, leb-false b a f)

  pub pair_like : eqb (pair_key a b) (pair_key c d) ≡ ((eqb a c && eqb b d) || (eqb a d && eqb b c))
  pair_like =
      bool-ext (eqb (pair_key a b) (pair_key c d)) ((eqb a c && eqb b d) || (eqb a d && eqb b c))
      (λ e. pair_is (leb a b) (leb c d) (eqb-true _ _ e))
      (λ e. eq-eqb (pair_key a b) (pair_key c d) (⊎_elim
      (λ w. let (f, g) = and_parts (eqb a c) (eqb b d) w in λ i. pair_key (eqb-true a c f i) (eqb-true b d g i))
      (λ w. let (f, g) = and_parts (eqb a d) (eqb b c) w in swapped (leb a b) (leb b a) refl refl ∙ (λ i. pair_key (eqb-true b c g i) (eqb-true a d f i)))
      (or_cases (eqb a c && eqb b d) (eqb a d && eqb b c) e)))

-- ── cells that hold keys ──

module _ (f : ℕ → ℕ) (ks d : List ℕ) (n : ℕ) (is : ks ≡ filled n f d) where
  cell_is : (i : ℕ) → i < n → get_or ks i 0 ≡ f i
  cell_is i l = ap (λ (x : List ℕ). get_or x i 0) is ∙ filled_at f n i d 0 l

  like_is : (i : ℕ) → i < n → (j : ℕ) → j < i → like_in ks i j ≡ eqb (f i) (f j)
  like_is i l j m = let k : j < n = omega arith in λ z. eqb (cell_is i l z) (cell_is j k z)

  pub like_some : (i : ℕ) → i < n → the_some_below (like_in ks i) i ≡ the_some_below (λ j. eqb (f i) (f j)) i
  like_some i l = some_ext (like_in ks i) (λ j. eqb (f i) (f j)) i (like_is i l)

  pub like_least : (i : ℕ) → i < n → least (like_in ks i) i ≡ least (λ j. eqb (f i) (f j)) i
  like_least i l = least-ext (like_in ks i) (λ j. eqb (f i) (f j)) i (like_is i l)

-- the lowest vertex by keys is the lowest at the point
pub merged_by_keys : (ps : List ℤ) (n : ℕ) (ks d is o : List ℕ) → Corners ps n → ks ≡ filled n (corner_key ps) d → is ≡ filled n (λ v. least (like_in ks v) v) o → is ≡ filled n (into_at ps) o
merged_by_keys ps n ks d is o C e g =
    g ∙ filled-ext (λ v. least (like_in ks v) v) (into_at ps) n o
    (λ v l. like_least (corner_key ps) ks d n e v l
    ∙ least-ext (λ u. eqb (corner_key ps v) (corner_key ps u)) (lies_on ps v) v (λ u m. let k : u < n = omega arith in corner_like (corner_in ps v) (corner_in ps u) (C.near v l) (C.near u k)))

-- the steps of the edges by keys are those by their ends
step-fold : (s r : Bool) → edge_step s r ≡ edge_step s (not s && r)
step-fold true r = refl
step-fold false r = refl

pub stepped_by_keys : (t : List ℕ) (e : ℕ) (ks d es o : List ℕ) → ks ≡ filled e (edge_key t) d → es ≡ filled e (λ k. edge_step (shrunk_in t k) (the_some_below (like_in ks k) k)) o
    → es ≡ filled e (λ k. edge_step (shrunk_in t k) (repeated_in t k)) o
stepped_by_keys t e ks d es o q g =
    g ∙ filled-ext (λ k. edge_step (shrunk_in t k) (the_some_below (like_in ks k) k)) (λ k. edge_step (shrunk_in t k) (repeated_in t k)) e o
    (λ k l. ap (edge_step (shrunk_in t k)) (like_some (edge_key t) ks d e q k l) ∙ step-fold (shrunk_in t k) (the_some_below (alike_in t k) k))
