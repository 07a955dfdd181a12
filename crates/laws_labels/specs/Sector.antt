-- Round a point p: what lies just clockwise of a half-edge t that leaves p has the potential of what lies just counter-clockwise of the next one clockwise, r, if
-- no edge of the map leaves p into the sector between. p need not be a vertex of the map, and t and r need not be its half-edges: they are directions that
-- rise, each taken up (true) or down (false). Angles run from 0 (east) to under 360 degrees, so that all that go up come before all that go down.
-- Six cases; where the circle closes (t is the first, r the last), p is passed by the move `pot-through`. Assumes nothing.
use Rattle.std.specs.Prelude.{◌≡◌, Bool, true, false, cond, not, ℕ, ◌<◌, ℤ, ◌<ℤ◌}
use Rattle.std.proofs.Common.{◌∙◌, ap}
use Rattle.exact.specs.Sign.{sgn, is_plus}
use Rattle.paper.specs.Plane.{Pt, Vec, opposite, cross, rises, less_angle}
use Rattle.paper.specs.Map.{Map}
use Rattle.laws_plane.specs.Cone.{UpV, up_rises, rises-opposite, up_nonzero}
use Rattle.laws_plane.specs.Angles.{cross-opposite, angle_test}
use Rattle.laws_map.specs.Keeps.{seg, edges}
use Rattle.laws_labels.specs.Spans.{span}
use Rattle.laws_labels.specs.Cuts.{Leaves}
use Rattle.laws_labels.specs.Pot.{Jumps}

-- ── angles ──

-- along u, or against it
abbrev pub arrow : Bool → Vec → Vec
arrow b u = cond b u (opposite u)

-- the test by the two ways, and whether the first direction has the second on its left
abbrev pub less_by : Bool → Bool → Bool → Bool
less_by true true s = s
less_by true false s = true
less_by false true s = false
less_by false false s = s

falls : (u : Vec) → UpV u → rises (opposite u) ≡ false
falls u h = rises-opposite u (up_nonzero u h) ∙ ap not (up_rises u h)

pub angle_is : (u v : Vec) → UpV u → UpV v → (b c : Bool) → less_angle (arrow b u) (arrow c v) ≡ less_by b c (is_plus (sgn (cross u v)))
angle_is u v hu hv true true = λ i. angle_test (up_rises u hu i) (up_rises v hv i) (is_plus (sgn (cross u v)))
angle_is u v hu hv true false = λ i. angle_test (up_rises u hu i) (falls v hv i) (is_plus (sgn (cross u (opposite v))))
angle_is u v hu hv false true = λ i. angle_test (falls u hu i) (up_rises v hv i) (is_plus (sgn (cross (opposite u) v)))
angle_is u v hu hv false false =
    (λ i. angle_test (falls u hu i) (falls v hv i) (is_plus (sgn (cross (opposite u) (opposite v))))) ∙ ap (λ (z : ℤ). is_plus (sgn z)) (cross-opposite u v)

-- ── the sector ──

-- no edge of the map leaves p with an angle less than t's; none with an angle greater than r's; none between
abbrev pub First : Map → Pt → Bool → Vec → Type 0
First m p bt t = (k : ℕ) → k < edges m → Jumps m k → (b : Bool) → Leaves p b (span m k) → less_angle (arrow b (seg m k).up) (arrow bt t) ≡ true → ⊥

abbrev pub Last : Map → Pt → Bool → Vec → Type 0
Last m p br r = (k : ℕ) → k < edges m → Jumps m k → (b : Bool) → Leaves p b (span m k) → less_angle (arrow br r) (arrow b (seg m k).up) ≡ true → ⊥

abbrev pub Between : Map → Pt → Bool → Vec → Bool → Vec → Type 0
Between m p bt t br r = (k : ℕ) → k < edges m → Jumps m k → (b : Bool) → Leaves p b (span m k) →
    less_angle (arrow br r) (arrow b (seg m k).up) ≡ true → less_angle (arrow b (seg m k).up) (arrow bt t) ≡ true → ⊥

-- r is the first clockwise from t, as far as the edges of the map see it
pub data Sector (m : Map) (p : Pt) (bt : Bool) (t : Vec) (br : Bool) (r : Vec) : Type 0 where
  inner : less_angle (arrow br r) (arrow bt t) ≡ true → Between m p bt t br r → Sector m p bt t br r
  wrap : (less_angle (arrow br r) (arrow bt t) ≡ true → ⊥) → First m p bt t → Last m p br r → Sector m p bt t br r
