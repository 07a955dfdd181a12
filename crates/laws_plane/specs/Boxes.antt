-- Edges whose boxes are apart, by height or by width, have no point in common: so they do not cross, and do not clash. The tests: with numbers that bound the boxes; of the four ends; and, as edges go up, of one head against one foot. Assumes nothing.
use Rattle.std.specs.Prelude.{◌≡◌, refl, [], ◌∷◌, ◌⊎◌, ◌≤ℤ◌, ◌<ℤ◌, ◌&&◌, ◌||◌, ◌+ℤ◌}
use Rattle.std.proofs.Common.{inl, arith}
use Rattle.std.specs.Int.Signed.{lt_z}
use Rattle.exact.specs.Order.{zomega, sq, ≤-of-≡, <-≤-trans}
use Rattle.seq.specs.Seq.{Bool, ℤ, pos}
use Rattle.paper.specs.Plane.{Seg, head}
use Rattle.laws_plane.specs.Cone.{UpV, above, level}

-- ── boxes apart ──

-- a number between: the ends of s are at most M, those of t more, in x or in y
pub data Parted (s t : Seg) : Type 0 where
  by_x : (M : ℤ) → s.foot.x ≤ℤ M → (head s).x ≤ℤ M → M <ℤ t.foot.x → M <ℤ (head t).x → Parted s t
  by_y : (M : ℤ) → s.foot.y ≤ℤ M → (head s).y ≤ℤ M → M <ℤ t.foot.y → M <ℤ (head t).y → Parted s t

-- one box lies before the other, whichever
abbrev pub BoxesApart : Seg → Seg → Type 0
BoxesApart s t = Parted s t ⊎ Parted t s

-- ── the tests ──

-- a and b are both less than c and d
abbrev pub lesser : ℤ → ℤ → ℤ → ℤ → Bool
lesser a b c d = (lt_z a c && lt_z a d) && (lt_z b c && lt_z b d)

-- wholly below, wholly west
abbrev pub under : Seg → Seg → Bool
under s t = lesser s.foot.y (head s).y t.foot.y (head t).y

abbrev pub west : Seg → Seg → Bool
west s t = lesser s.foot.x (head s).x t.foot.x (head t).x

abbrev pub boxes_apart : Seg → Seg → Bool
boxes_apart s t = (under s t || under t s) || (west s t || west t s)

-- an edge that goes up has its greatest height at its head
head-higher : (s : Seg) → UpV s.up → s.foot.y ≤ℤ (head s).y
head-higher s (above h) = go s.foot.y s.up.y h
  where
    go : (f u : ℤ) → pos 0 <ℤ u → f ≤ℤ (f +ℤ u)
    go f u = zomega (f ∷ u ∷ []) (search sq depth 20) (omega arith)
head-higher s (level e h) = go s.foot.y s.up.y e
  where
    go : (f u : ℤ) → u ≡ pos 0 → f ≤ℤ (f +ℤ u)
    go f u = zomega (f ∷ u ∷ []) (search sq depth 20) (omega arith)

-- so one test of heights is enough
pub heights-apart : (s t : Seg) → UpV s.up → UpV t.up → (head s).y <ℤ t.foot.y → BoxesApart s t
heights-apart s t us ut l =
    inl (by_y (head s).y (head-higher s us) (≤-of-≡ {a = (head s).y} refl) l (<-≤-trans {a = (head s).y} {b = t.foot.y} {c = (head t).y} l (head-higher t ut)))
