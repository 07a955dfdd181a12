-- `map_check::parts::lies_on` meets its contract: two corners are one point where both coordinates are equal. Assumes nothing.
use mathlib.Core.Path.{◌≡◌, ◌∙◌, ap, subst}
use Rattle.std.specs.Prelude.{T, true, ◌&&◌}
use Rattle.std.specs.Ordering.{int_eq}
use Rattle.std.specs.Cmp.{signed_Decides}
use Rattle.exact.specs.Tests.{bool_iff, T_true, true_T, and_parts, and_both}
use Rattle.paper.specs.Plane.{Vec, vec, whole, same}
use Rattle.laws_plane.specs.Points.{same_self}
use Rattle.laws_plane.specs.Ends.{corner_same}
use Rattle.plane.specs.Values.{vec_of}
use Rattle.map_check.proofs.parts.lies_on.Goals as goal

module _ (a b : Vec) where
  alike : (int_eq a.x b.x && int_eq a.y b.y) ≡ same (whole a) (whole b)
  alike =
      bool_iff (int_eq a.x b.x && int_eq a.y b.y) (same (whole a) (whole b))
      (λ t. let p = and_parts (int_eq a.x b.x) (int_eq a.y b.y) (T_true _ t) in one ((signed_Decides a.x b.x).0 p.0) ((signed_Decides a.y b.y).0 p.1))
      (λ t. let e = corner_same a b (T_true _ t) in true_T (and_both ((signed_Decides a.x b.x).1 (ap (λ (v : Vec). v.x) e)) ((signed_Decides a.y b.y).1 (ap (λ (v : Vec). v.y) e))))
    where
      one : a.x ≡ b.x → a.y ≡ b.y → T (same (whole a) (whole b))
      one p q = true_T (subst (λ (v : Vec). same (whole a) (whole v) ≡ true) (λ i. vec (p i) (q i)) (same_self (whole a)))

pub returns : goal.returns
returns c =
    c.eq.ensures ∙ alike (vec_of c.corner.result) (vec_of c.corner-2.result) ∙ (λ i. same (whole (c.corner.ensures i)) (whole (c.corner-2.ensures i)))
