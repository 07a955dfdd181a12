-- Of OneLine of specs/, what rests on its definitions.
use Rattle.std.specs.Prelude.{◌≡◌, ◌<◌}
use Rattle.std.proofs.Common.{subst, arith}
use Rattle.seq.specs.Seq.{List, ℕ, pos}
use Rattle.paper.specs.Plane.{Pt, Seg, cross, the_left_by}
use Rattle.paper.specs.Graph.{point_in}
use Rattle.laws_plane.specs.Cone.{UpV}
use Rattle.laws_plane.specs.Angles.{cross-swap_0}
use Rattle.laws_plane.specs.Lines.{one_line}
use Rattle.laws_overlay.specs.Places.{Places, at_real}
use Rattle.laws_overlay.specs.Links.{Neighbours}
use Rattle.laws_overlay.specs.OneLine.{none_between}

module _ (vs : List Pt) (O : Places vs) where
  module _ (s t : Seg) (us : UpV s.up) (par : cross s.up t.up ≡ pos 0) where
    -- a vertex on the line of s is on that of t, where they have a vertex in common
    other_line : (v q : ℕ) → the_left_by s (point_in vs v) ≡ pos 0 → the_left_by t (point_in vs v) ≡ pos 0 → the_left_by s (point_in vs q) ≡ pos 0 → the_left_by t (point_in vs q) ≡ pos 0
    other_line v q a b c = one_line s t (point_in vs v) (point_in vs q) us (at_real vs O v) (cross-swap_0 s.up t.up par) a b c

    no_shorter : (v q r : ℕ) → Neighbours vs s v q → Neighbours vs t v r → q < r → ⊥
    no_shorter v q r m n l = none_between vs O t v q r n (other_line v q m.on_lo.line n.on_lo.line m.on_hi.line) m.rises l

    no_later : (v q r : ℕ) → Neighbours vs s q v → Neighbours vs t r v → r < q → ⊥
    no_later v q r m n l = none_between vs O t r q v n (other_line v q m.on_hi.line n.on_hi.line m.on_lo.line) l m.rises

  module _ (s t : Seg) (us : UpV s.up) (ut : UpV t.up) (par : cross s.up t.up ≡ pos 0) where
    rap : cross t.up s.up ≡ pos 0
    rap = cross-swap_0 s.up t.up par

    pub same_upper : (v q r : ℕ) → Neighbours vs s v q → Neighbours vs t v r → q ≡ r
    same_upper v q r m n =
        let a : q < r → ⊥ = no_shorter s t us par v q r m n in
        let b : r < q → ⊥ = no_shorter t s ut rap v r q n m in
        omega arith

    pub same_lower : (v q r : ℕ) → Neighbours vs s q v → Neighbours vs t r v → q ≡ r
    same_lower v q r m n =
        let a : r < q → ⊥ = no_later s t us par v q r m n in
        let b : q < r → ⊥ = no_later t s ut rap v r q n m in
        omega arith

    -- each starts before the other ends, on one line
    pub overlap : (a b c d : ℕ) → Neighbours vs s a b → Neighbours vs t c d → the_left_by s (point_in vs c) ≡ pos 0 → a < d → c < b → (a ≡ c) × (b ≡ d)
    overlap a b c d m n l x y =
        let p : a < c → ⊥ = λ h. (none_between vs O) s a c b m l h y in
        let q : c < a → ⊥ = λ h. (none_between vs O) t c a d n (other_line s t us par c a l n.on_lo.line m.on_lo.line) h x in
        let e : a ≡ c = omega arith in
        (e, same_upper c b d (subst (λ (v : ℕ). Neighbours vs s v b) e m) n)
