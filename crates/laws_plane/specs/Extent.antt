-- A point on an edge lies between its ends in both coordinates, whatever the edge's direction: west of a bound of both ends (`on_west`), east of one (`on_east`), south and north. No point is both
-- west of M and east of M + 1 (`no_room`). Assumes nothing.
use Rattle.std.specs.Prelude.{[], ◌∷◌, ℤ, pos, ◌+ℤ◌, ◌*ℤ◌, ◌≤ℤ◌, ◌<ℤ◌}
use Rattle.std.proofs.Common.{arith}
use Rattle.exact.specs.Order.{zomega, sq}
use Rattle.exact.specs.Mean.{mean-most, mean-least}
use Rattle.exact.specs.Lowest.{Pt}
use Rattle.paper.specs.Plane.{Seg, head}
use Rattle.laws_plane.specs.Cone.{UpV}
use Rattle.laws_plane.specs.Edges.{On}
use Rattle.laws_plane.specs.Lines.{numer, denom, denom-pos, line-part, on_part}

module _ (s : Seg) (u : UpV s.up) (p : Pt) (hp : pos 0 <ℤ p.D) (o : On s p) where
  pub on_west : (M : ℤ) → s.foot.x ≤ℤ M → (head s).x ≤ℤ M → p.X ≤ℤ (M *ℤ p.D)
  on_west M f h =
      let a = line-part s p o.line in
      let d = denom-pos s p u hp in
      let w = on_part s u p hp (numer s p) (denom s p) d a o in
      mean-most s.foot.x s.up.x (numer s p) (denom s p) p.X p.D M a.at_x f h w.0 w.1 d hp

  pub on_east : (M : ℤ) → M ≤ℤ s.foot.x → M ≤ℤ (head s).x → (M *ℤ p.D) ≤ℤ p.X
  on_east M f h =
      let a = line-part s p o.line in
      let d = denom-pos s p u hp in
      let w = on_part s u p hp (numer s p) (denom s p) d a o in
      mean-least s.foot.x s.up.x (numer s p) (denom s p) p.X p.D M a.at_x f h w.0 w.1 d hp

  pub on_south : (M : ℤ) → s.foot.y ≤ℤ M → (head s).y ≤ℤ M → p.Y ≤ℤ (M *ℤ p.D)
  on_south M f h =
      let a = line-part s p o.line in
      let d = denom-pos s p u hp in
      let w = on_part s u p hp (numer s p) (denom s p) d a o in
      mean-most s.foot.y s.up.y (numer s p) (denom s p) p.Y p.D M a.at_y f h w.0 w.1 d hp

  pub on_north : (M : ℤ) → M ≤ℤ s.foot.y → M ≤ℤ (head s).y → (M *ℤ p.D) ≤ℤ p.Y
  on_north M f h =
      let a = line-part s p o.line in
      let d = denom-pos s p u hp in
      let w = on_part s u p hp (numer s p) (denom s p) d a o in
      mean-least s.foot.y s.up.y (numer s p) (denom s p) p.Y p.D M a.at_y f h w.0 w.1 d hp

-- no multiple lies between
pub no_room : (M x c : ℤ) → pos 0 <ℤ c → x ≤ℤ (M *ℤ c) → ((M +ℤ pos 1) *ℤ c) ≤ℤ x → ⊥
no_room M x c = zomega (M ∷ x ∷ c ∷ []) {A = pos 0 <ℤ c → x ≤ℤ (M *ℤ c) → ((M +ℤ pos 1) *ℤ c) ≤ℤ x → ⊥} (search sq depth 20) (omega arith)
