-- Edges whose boxes lie side by side: from which x to which an edge reaches (`Box`), and that two of which the one ends west of where the other starts have no common point (`aside_disjoint`). Assumes nothing.
use Rattle.std.specs.Prelude.{[], ◌∷◌, ◌≤◌, ◌<◌, ◌≤ℤ◌, ◌<ℤ◌, ◌+ℤ◌}
use Rattle.std.proofs.Common.{arith}
use Rattle.exact.specs.Order.{zomega, sq}
use Rattle.seq.specs.Seq.{ℤ, pos}
use Rattle.paper.specs.Plane.{Seg, head}
use Rattle.laws_plane.specs.Cone.{UpV}
use Rattle.laws_plane.specs.Extent.{on_west, on_east, no_room}
use Rattle.laws_plane.specs.Disjoint.{Disjoint}

-- both ends of s have an x from w to e
pub record Box (s : Seg) (w e : ℤ) : Type 0 where
  pub foot-west : w ≤ℤ s.foot.x
  pub foot-east : s.foot.x ≤ℤ e
  pub head-west : w ≤ℤ (head s).x
  pub head-east : (head s).x ≤ℤ e

-- the box of s lies west of the box of t
pub aside_disjoint : (s t : Seg) → UpV s.up → UpV t.up → (w e v f : ℤ) → Box s w e → Box t v f → e <ℤ v → Disjoint s t
aside_disjoint s t us ut w e v f A B l p h a b =
    no_room e p.X p.D h (on_west s us p h a e A.foot-east A.head-east)
    (on_east t ut p h b (e +ℤ pos 1) (past_east e v t.foot.x l B.foot-west) (past_east e v (head t).x l B.head-west))
  where
    past_east : (e v x : ℤ) → e <ℤ v → v ≤ℤ x → (e +ℤ pos 1) ≤ℤ x
    past_east e v x = zomega (e ∷ v ∷ x ∷ []) {A = e <ℤ v → v ≤ℤ x → (e +ℤ pos 1) ≤ℤ x} (search sq depth 20) (omega arith)
