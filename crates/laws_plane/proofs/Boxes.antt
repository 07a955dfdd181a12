-- Of Boxes of specs/, what rests on its definitions.
use Rattle.std.specs.Prelude.{◌≡◌, refl, [], ◌∷◌, ◌⊎◌, ◌≤ℤ◌, ◌<ℤ◌, ◌&&◌, ◌||◌, ◌+ℤ◌}
use Rattle.std.proofs.Common.{inl, inr, arith}
use Rattle.std.specs.Int.Signed.{lt_z}
use Rattle.exact.specs.Order.{zomega, sq, <→≤, ≤-or-<, ≤-of-≡}
use Rattle.exact.specs.Tests.{lt_t}
use Rattle.seq.specs.Seq.{true, false, none, ℤ, pos}
use Rattle.seq.specs.Tests.{or_cases, and_parts}
use Rattle.paper.specs.Plane.{Seg, head, crossing, clash}
use Rattle.laws_plane.specs.Cone.{UpV}
use Rattle.laws_plane.specs.Extent.{on_west, on_east, on_south, on_north, no_room}
use Rattle.laws_plane.specs.Disjoint.{Disjoint, disjoint_clash, disjoint_crossing}
use Rattle.laws_plane.specs.Boxes.{Parted, by_x, by_y, BoxesApart, lesser, under, west, boxes_apart}

-- ── boxes apart ──

next : (M a : ℤ) → M <ℤ a → (M +ℤ pos 1) ≤ℤ a
next M a = zomega (M ∷ a ∷ []) (search sq depth 20) (omega arith)

module _ (s t : Seg) (us : UpV s.up) (ut : UpV t.up) where
  parted-point : Parted s t → Disjoint s t
  parted-point (by_x M a b c d) p h os ot =
      no_room M p.X p.D h (on_west s us p h os M a b) (on_east t ut p h ot (M +ℤ pos 1) (next M t.foot.x c) (next M (head t).x d))
  parted-point (by_y M a b c d) p h os ot =
      no_room M p.Y p.D h (on_south s us p h os M a b) (on_north t ut p h ot (M +ℤ pos 1) (next M t.foot.y c) (next M (head t).y d))

module _ (s t : Seg) (us : UpV s.up) (ut : UpV t.up) where
  pub boxes-point : BoxesApart s t → Disjoint s t
  boxes-point (inl a) p h os ot = parted-point s t us ut a p h os ot
  boxes-point (inr a) p h os ot = parted-point t s ut us a p h ot os

  pub boxes-crossing : BoxesApart s t → crossing s t ≡ none
  boxes-crossing a = disjoint_crossing s t us ut (boxes-point a)

  pub boxes-clear : BoxesApart s t → clash s t ≡ false
  boxes-clear a = disjoint_clash s t us ut (boxes-point a)

-- ── the tests ──

-- the greater of the first two is less than both others
lesser_is : (a b c d : ℤ) → lesser a b c d ≡ true → (M : ℤ) × (a ≤ℤ M) × (b ≤ℤ M) × (M <ℤ c) × (M <ℤ d)
lesser_is a b c d e =
    let r = and_parts (lt_z a c && lt_z a d) (lt_z b c && lt_z b d) e in
    let f = and_parts (lt_z a c) (lt_z a d) r.0 in
    let h = and_parts (lt_z b c) (lt_z b d) r.1 in
    go (lt_t {a = a} {b = c} f.0) (lt_t {a = a} {b = d} f.1) (lt_t {a = b} {b = c} h.0) (lt_t {a = b} {b = d} h.1) (≤-or-< a b)
  where
    go : a <ℤ c → a <ℤ d → b <ℤ c → b <ℤ d → (a ≤ℤ b) ⊎ (b <ℤ a) → (M : ℤ) × (a ≤ℤ M) × (b ≤ℤ M) × (M <ℤ c) × (M <ℤ d)
    go ac ad bc bd (inl l) = (b, l, ≤-of-≡ refl, bc, bd)
    go ac ad bc bd (inr l) = (a, ≤-of-≡ refl, <→≤ l, ac, ad)

under_parted : (s t : Seg) → under s t ≡ true → Parted s t
under_parted s t e = let (M, a, b, c, d) = lesser_is s.foot.y (head s).y t.foot.y (head t).y e in by_y M a b c d

west-parted : (s t : Seg) → west s t ≡ true → Parted s t
west-parted s t e = let (M, a, b, c, d) = lesser_is s.foot.x (head s).x t.foot.x (head t).x e in by_x M a b c d

pub boxes-apart : (s t : Seg) → boxes_apart s t ≡ true → BoxesApart s t
boxes-apart s t e = go (or_cases (under s t || under t s) (west s t || west t s) e)
  where
    ys : (under s t ≡ true) ⊎ (under t s ≡ true) → BoxesApart s t
    ys (inl f) = inl (under_parted s t f)
    ys (inr f) = inr (under_parted t s f)

    xs : (west s t ≡ true) ⊎ (west t s ≡ true) → BoxesApart s t
    xs (inl f) = inl (west-parted s t f)
    xs (inr f) = inr (west-parted t s f)

    go : ((under s t || under t s) ≡ true) ⊎ ((west s t || west t s) ≡ true) → BoxesApart s t
    go (inl f) = ys (or_cases (under s t) (under t s) f)
    go (inr f) = xs (or_cases (west s t) (west t s) f)
