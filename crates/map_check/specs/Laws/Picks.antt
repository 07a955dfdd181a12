-- A list of the cells whose edges may clash with that in cell i, made cell by cell:    n[c] = j; c += 1, or c += 0 where the boxes are apart
-- (`pick_turns`); and that edges whose boxes lie beside each other do not clash (`beside-clear`). Assumes nothing.
use Rattle.std.specs.Prelude.{◌≡◌, refl, [], ◌∷◌, ◌⊎◌, ◌≤◌, ◌<◌, set, ◌≤ℤ◌, ◌<ℤ◌, ◌+◌, ◌+ℤ◌}
use Rattle.std.proofs.Common.{sym, ◌∙◌, subst, inl, inr, ⊎_elim, arith, get_or-set_same, get_or-set_other, ltb-true}
use Rattle.std.proofs.Math.Decide.{dec_lt}
use Rattle.std.specs.Int.Signed.{lt_z}
use Rattle.exact.specs.Abs.{abs_is_self, abs-lo}
use Rattle.exact.specs.Order.{zomega, sq, ≤-of-≡, pos-<}
use Rattle.exact.specs.Tests.{lt_t, lt_f}
use Rattle.seq.specs.Seq.{Bool, true, false, cond, List, ℕ, ltb, length, get_or, ℤ, pos, neg_ℤ, nat_abs}
use Rattle.seq.specs.Tests.{or_cases}
use Rattle.paper.specs.Limits.{reach}
use Rattle.paper.specs.Plane.{Seg, head, clash}
use Rattle.laws_plane.specs.Cone.{UpV}
use Rattle.laws_plane.specs.Disjoint.{disjoint_swap, disjoint_clash}
use Rattle.laws_fast.specs.Below.{Box, aside_disjoint}
use Rattle.plane.specs.Bounds.{Edge}
use Rattle.map_check.specs.Near.{west_of, east_of, from_west, beside_of, carrier_in, Listed, Picked}

-- ── boxes ──

box_by : (s : Seg) (c : Bool) → lt_z s.up.x (pos 0) ≡ c → Box s (cond c (head s).x s.foot.x) (cond c s.foot.x (head s).x)
box_by s true e =
    let l = lt_t {a = s.up.x} {b = pos 0} e in
    record {
      foot-west = zomega (s.foot.x ∷ s.up.x ∷ []) {A = s.up.x <ℤ pos 0 → (s.foot.x +ℤ s.up.x) ≤ℤ s.foot.x} (search sq depth 20) (omega arith) l;
      foot-east = ≤-of-≡ refl;
      head-west = ≤-of-≡ refl;
      head-east = zomega (s.foot.x ∷ s.up.x ∷ []) {A = s.up.x <ℤ pos 0 → (s.foot.x +ℤ s.up.x) ≤ℤ s.foot.x} (search sq depth 20) (omega arith) l;
    }
box_by s false e =
    let l = lt_f s.up.x (pos 0) e in
    record {
      foot-west = ≤-of-≡ refl;
      foot-east = zomega (s.foot.x ∷ s.up.x ∷ []) {A = pos 0 ≤ℤ s.up.x → s.foot.x ≤ℤ (s.foot.x +ℤ s.up.x)} (search sq depth 20) (omega arith) l;
      head-west = zomega (s.foot.x ∷ s.up.x ∷ []) {A = pos 0 ≤ℤ s.up.x → s.foot.x ≤ℤ (s.foot.x +ℤ s.up.x)} (search sq depth 20) (omega arith) l;
      head-east = ≤-of-≡ refl;
    }

box_of : (s : Seg) → Box s (west_of s) (east_of s)
box_of s = box_by s (lt_z s.up.x (pos 0)) refl

-- from the west in the order of x
from_west_lem : (x : ℤ) → nat_abs x ≤ reach → pos (from_west x) ≡ x +ℤ pos reach
from_west_lem x h = abs_is_self (x +ℤ pos reach) (zomega (x ∷ []) {A = neg_ℤ (pos reach) ≤ℤ x → pos 0 ≤ℤ (x +ℤ pos reach)} (search sq depth 20) (omega arith) (abs-lo x reach h))

west_less : (x y : ℤ) → nat_abs x ≤ reach → nat_abs y ≤ reach → ltb (from_west x) (from_west y) ≡ true → x <ℤ y
west_less x y hx hy e =
    zomega (x ∷ y ∷ []) {A = (x +ℤ pos reach) <ℤ (y +ℤ pos reach) → x <ℤ y} (search sq depth 20) (omega arith)
    (subst (λ (z : ℤ). z <ℤ (y +ℤ pos reach)) (from_west_lem x hx) (subst (λ (z : ℤ). pos (from_west x) <ℤ z) (from_west_lem y hy) (pos-< (from_west x) (from_west y) (ltb-true (from_west x) (from_west y) e))))

either : (P : ℤ → Type 0) (c : Bool) (x y : ℤ) → P x → P y → P (cond c x y)
either P true x y p q = p
either P false x y p q = q

west-near : (s : Seg) → Edge s → nat_abs (west_of s) ≤ reach
west-near s E = either (λ x. nat_abs x ≤ reach) (lt_z s.up.x (pos 0)) (head s).x s.foot.x E.head_is.x_is E.foot_is.x_is

east-near : (s : Seg) → Edge s → nat_abs (east_of s) ≤ reach
east-near s E = either (λ x. nat_abs x ≤ reach) (lt_z s.up.x (pos 0)) s.foot.x (head s).x E.foot_is.x_is E.head_is.x_is

pub beside-clear : (s t : Seg) → Edge s → Edge t → UpV s.up → UpV t.up → (w e v f : ℕ) → w ≡ from_west (west_of s) → e ≡ from_west (east_of s) → v ≡ from_west (west_of t) → f ≡ from_west (east_of t) →
    beside_of w e v f ≡ true → clash s t ≡ false
beside-clear s t E F us ut w e v f qw qe qv qf h =
    disjoint_clash s t us ut
    (⊎_elim
    (λ z. aside_disjoint s t us ut (west_of s) (east_of s) (west_of t) (east_of t) (box_of s) (box_of t) (west_less (east_of s) (west_of t) (east-near s E) (west-near t F) ((λ i. ltb (sym qe i) (sym qv i)) ∙ z)))
    (λ z. disjoint_swap t s
    (aside_disjoint t s ut us (west_of t) (east_of t) (west_of s) (east_of s) (box_of t) (box_of s) (west_less (east_of t) (west_of s) (east-near t F) (west-near s E) ((λ i. ltb (sym qf i) (sym qw i)) ∙ z))))
    (or_cases (ltb e v) (ltb f w) h))

-- ── the list ──

module _ {cs : List ℤ} {ds : List ℕ} {e i : ℕ} where
  pub pick_starts : (ns : List ℕ) → Picked cs ds e i (i + 1) ns 0
  pick_starts ns = record { few = omega arith; named = λ q l. absurd (omega arith); rest = λ k l h. absurd (omega arith) }

  module _ {j : ℕ} {ns : List ℕ} {c : ℕ} (P : Picked cs ds e i j ns c) (l : j < e) (room : c < length ns) where
    same : (q : ℕ) → q < c → get_or (set ns c j) q 0 ≡ get_or ns q 0
    same q h = get_or-set_other ns c q j 0 (λ z. omega arith)

    listed : (d k : ℕ) → c ≤ d → Listed ns c k → Listed (set ns c j) d k
    listed d k h (q, b, z) = (q, omega arith, same q b ∙ z)

    before : (d k : ℕ) → c ≤ d → i < k → k < j → (clash (carrier_in cs ds i) (carrier_in cs ds k) ≡ false) ⊎ Listed (set ns c j) d k
    before d k h a b = ⊎_elim (λ z. inl z) (λ z. inr (listed d k h z)) (P.rest k a b)

    skip : clash (carrier_in cs ds i) (carrier_in cs ds j) ≡ false → Picked cs ds e i (j + 1) (set ns c j) (c + 0)
    skip f = record {
      few = omega (arith, P.few);
      named = λ q b. subst (λ (x : ℕ). x < e) (sym (same q (omega arith))) (P.named q (omega arith));
      rest = λ k a b. elim (dec_lt k j) [
        | yes m ↦ before (c + 0) k (omega arith) a m
        | no m ↦ let z : j ≡ k = omega arith in inl (subst (λ (x : ℕ). clash (carrier_in cs ds i) (carrier_in cs ds x) ≡ false) z f)
      ];
    }

    take : Picked cs ds e i (j + 1) (set ns c j) (c + 1)
    take = record {
      few = omega (arith, P.few);
      named = λ q b. elim (dec_lt q c) [
        | yes m ↦ subst (λ (x : ℕ). x < e) (sym (same q m)) (P.named q m)
        | no m ↦ let z : c ≡ q = omega arith in subst (λ (x : ℕ). get_or (set ns c j) x 0 < e) z (subst (λ (x : ℕ). x < e) (sym (get_or-set_same ns c j 0 room)) l)
      ];
      rest = λ k a b. elim (dec_lt k j) [
        | yes m ↦ before (c + 1) k (omega arith) a m
        | no m ↦ let z : j ≡ k = omega arith in inr (c, omega arith, get_or-set_same ns c j 0 room ∙ z)
      ];
    }

    turn : (b : Bool) → (b ≡ true → clash (carrier_in cs ds i) (carrier_in cs ds j) ≡ false) → Picked cs ds e i (j + 1) (set ns c j) (c + cond b 0 1)
    turn true f = skip (f refl)
    turn false f = take

    pub pick_turns : {r : ℕ} (b : Bool) → r ≡ cond b 0 1 → (b ≡ true → clash (carrier_in cs ds i) (carrier_in cs ds j) ≡ false) → Picked cs ds e i (j + 1) (set ns c j) (c + r)
    pick_turns {r} b q f = subst (λ (x : ℕ). Picked cs ds e i (j + 1) (set ns c j) (c + x)) (sym q) (turn b f)

  -- those from cell j on do not clash
  pub pick_ends : {j c : ℕ} {ns : List ℕ} → Picked cs ds e i j ns c → j ≤ e → ((k : ℕ) → j ≤ k → k < e → clash (carrier_in cs ds i) (carrier_in cs ds k) ≡ false) → Picked cs ds e i e ns c
  pick_ends {j} {c} {ns} P l f = record {
    few = omega (arith, P.few);
    named = P.named;
    rest = λ k a b. elim (dec_lt k j) [
      | yes m ↦ P.rest k a m
      | no m ↦ inl (f k (omega arith) b)
    ];
  }

  -- where none that is listed clashes, none does
  pub pick-clear : {c : ℕ} {ns : List ℕ} → Picked cs ds e i e ns c → ((q : ℕ) → q < c → clash (carrier_in cs ds i) (carrier_in cs ds (get_or ns q 0)) ≡ false) →
      (k : ℕ) → i < k → k < e → clash (carrier_in cs ds i) (carrier_in cs ds k) ≡ false
  pick-clear P f k a b =
      ⊎_elim (λ z. z) (λ z. let (q, h, w) = z in subst (λ (x : ℕ). clash (carrier_in cs ds i) (carrier_in cs ds x) ≡ false) w (f q h)) (P.rest k a b)
