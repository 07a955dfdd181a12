-- Laws of the definition of a crossing that the code's proofs cite: which way it turns, by the sign of the denominator; lowest terms keep the bounds of a
-- point. Assumes nothing.
use mathlib.Core.Path.{◌≡◌, refl, sym}
use Prim.Native.Nat.{zero, suc, ◌≤◌}
use native.Mathlib.Nat.{le_trans, le_of_eq}
use lib.IntN.{ℤ, pos, negsuc, neg_ℤ, nat_abs}
use lib.Signed.{◌<ℤ◌}
use Rattle.exact.specs.Parts.{pos≮0}
use Rattle.exact.specs.Mach.{abs_neg}
use Rattle.exact.specs.Lowest.{lowest_is, lowest_x-le, lowest_y-le, lowest_d-le}
use Rattle.exact.specs.Order.{0<-neg}
use Rattle.paper.specs.Limits.{denominators}
use Rattle.paper.specs.Plane.{Pt, Seg, lowest, cross_at, cross_by}
use Rattle.seq.specs.Seq.{none}
use Rattle.plane.specs.Bounds.{Near, Over}

module _ (s : Seg) (n m : ℤ) where
  pub by_neg : (d : ℤ) → d <ℤ pos 0 → cross_at s (neg_ℤ n) (neg_ℤ m) (neg_ℤ d) ≡ cross_by s n m d
  by_neg (pos d) h = absurd (pos≮0 d h)
  by_neg (negsuc d) h = refl

  pub by_plus : (d : ℤ) → pos 0 <ℤ d → cross_at s n m d ≡ cross_by s n m d
  by_plus (pos zero) h = absurd (pos≮0 0 h)
  by_plus (pos (suc d)) h = refl
  by_plus (negsuc d) h = absurd h.lt

  pub by_zer : (d : ℤ) → d ≡ pos 0 → none ≡ cross_by s n m d
  by_zer d e = λ i. cross_by s n m (sym e i)

-- a parameter turned
pub turned : (n d : ℤ) → nat_abs n ≤ denominators → nat_abs d ≤ denominators → d <ℤ pos 0 → Over (neg_ℤ n) (neg_ℤ d)
turned n d f g h = record { positive = 0<-neg d h; n_is = le_trans (le_of_eq (abs_neg n)) f; d_is = le_trans (le_of_eq (abs_neg d)) g }

-- the same point in lowest terms
abbrev pub lowest_of : Pt → Pt
lowest_of p = lowest p.X p.Y p.D

pub near-lowest : (p : Pt) → Near p → Near (lowest_of p)
near-lowest p h =
    record {
      positive = (lowest_is p.X p.Y p.D h.positive).positive;
      X-is = le_trans (lowest_x-le p.X p.Y p.D) h.X-is;
      Y-is = le_trans (lowest_y-le p.X p.Y p.D) h.Y-is;
      D-is = le_trans (lowest_d-le p.X p.Y p.D) h.D-is;
    }
