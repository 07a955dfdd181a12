-- The vertices on an edge stand between its ends: in a table of points in strict order, with an edge's lower end in row a and its upper end in row z, none before row a is on it (`below_off`), none past row z
-- (`along-upto`), and between them those that lie on its line (`within_on`). The rows of the overlay's vertices rise (`vertices-rise`). Assumes nothing.
use Rattle.std.specs.Prelude.{◌≡◌, refl, ◌≤◌, ◌<◌, ◌&&◌}
use Rattle.std.proofs.Common.{sym, subst, arith}
use Rattle.std.proofs.Math.Decide.{dec_lt}
use Rattle.exact.specs.Sign.{sgn, is_zer}
use Rattle.seq.specs.Seq.{Bool, true, false, not, List, ℕ, suc, select, table}
use Rattle.seq.specs.Terms.{Rising}
use Rattle.seq.specs.Tests.{clash, not-true}
use Rattle.paper.specs.Plane.{Pt, Seg, whole, head, before, the_left_by, on_seg}
use Rattle.paper.specs.Map.{Map}
use Rattle.paper.specs.Pieces.{vertices_of}
use Rattle.laws_plane.specs.Points.{before_irr, before_asym}
use Rattle.laws_plane.specs.Edges.{on_is}
use Rattle.laws_overlay.specs.Maps.{AllKeep}
use Rattle.laws_overlay.specs.Vertices.{vertices-rising}
use Rattle.seq.specs.Halves.{Rises, rising-rises}
use Rattle.seq.specs.Range.{select-upto}

-- p lies on the line of s
abbrev pub the_on_line : Seg → Pt → Bool
the_on_line s p = is_zer (sgn (the_left_by s p))

-- ── an edge whose ends stand in rows a and z ──

module _ (f : ℕ → Pt) (n : ℕ) (R : Rises before f n) (s : Seg) (a z : ℕ) (la : a < n) (lz : z < n) (fa : f a ≡ whole s.foot) (fz : f z ≡ whole (head s)) where
  -- a row before the lower end is not on it
  pub below_off : (v : ℕ) → v < a → on_seg s (f v) ≡ false
  below_off v l = not-true (on_seg s (f v)) (λ e. clash (subst (λ (q : Pt). before (f v) q ≡ true) fa (R v a l la)) (on_is s (f v) e).low)

  -- nor one past the upper end
  pub past_off : (v : ℕ) → z < v → v < n → on_seg s (f v) ≡ false
  past_off v l k = not-true (on_seg s (f v)) (λ e. clash (subst (λ (q : Pt). before q (f v) ≡ true) fz (R z v l k)) (on_is s (f v) e).high)

  -- a row does not come before one of lesser number
  not_before : (u v : ℕ) → u ≤ v → v < n → before (f v) (f u) ≡ false
  not_before u v l k =
      elim (dec_lt u v) [
        | yes q ↦ before_asym (f u) (f v) (R u v q k)
        | no q ↦ let e : v ≡ u = omega arith in subst (λ (w : ℕ). before (f v) (f w) ≡ false) e (before_irr (f v))
      ]

  -- in between only the line is left to test
  pub within_on : (v : ℕ) → a ≤ v → v ≤ z → on_seg s (f v) ≡ the_on_line s (f v)
  within_on v l k = go (the_on_line s (f v)) (before (f v) (whole s.foot)) (before (whole (head s)) (f v)) low high
    where
      low : before (f v) (whole s.foot) ≡ false
      low = subst (λ (q : Pt). before (f v) q ≡ false) fa (not_before a v l (omega arith))

      high : before (whole (head s)) (f v) ≡ false
      high = subst (λ (q : Pt). before q (f v) ≡ false) fz (not_before v z k lz)

      go : (c d e : Bool) → d ≡ false → e ≡ false → (c && (not d && not e)) ≡ c
      go true d e p q = rw (p, q)
      go false d e p q = refl

  -- none past the upper end
  pub along-upto : select (λ v. on_seg s (f v)) n ≡ select (λ v. on_seg s (f v)) (suc z)
  along-upto = select-upto (λ v. on_seg s (f v)) (suc z) n (omega arith) (λ v h k. past_off v (omega arith) k)

-- ── the vertices of the overlay in a table ──

module _ (ms : List Map) (K : AllKeep ms) (f : ℕ → Pt) (n : ℕ) (are : table f n ≡ vertices_of ms) where
  pub vertices-rise : Rises before f n
  vertices-rise = rising-rises before f n (subst (Rising before) (sym are) (vertices-rising ms K))
