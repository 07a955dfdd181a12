-- `map_check::edges::first_lonely_in` meets its contract: a vertex without an edge has no first outgoing half-edge. Assumes nothing.
use mathlib.Core.Path.{◌≡◌, refl, ap, ◌∙◌}
use Prim.Native.Nat.{◌≤◌}
use native.Mathlib.Omega.{arith}
use borrow.Author.Tests.{ltb-true, eq-eqb, ne_eqb}
use Rattle.seq.specs.Filled.{filled_at}
use Rattle.seq.specs.Least.{least-ext}
use Rattle.seq.proofs.Least.{least-le}
use Rattle.seq.specs.Seq.{Bool, true, false, cond, not, List, ℕ, eqb, ltb, get_or, least, filled}
use Rattle.graph.specs.Places.{first_place}
use Rattle.map_check.specs.Net.{starts_at, lonely_at}
use Rattle.map_check.proofs.edges.first_lonely_in.Goals as goal

-- a place up to m, or m where there is none
place : (h m : ℕ) → h ≤ m → eqb (cond (ltb h m) h m) m ≡ not (ltb h m)
place h m l = go (ltb h m) refl
  where
    go : (b : Bool) → ltb h m ≡ b → eqb (cond b h m) m ≡ not b
    go true e = ne_eqb h m (λ q. omega (arith, ltb-true h m e))
    go false e = eq-eqb m m refl

lonely-least : (os fs d : List ℕ) (m n : ℕ) → fs ≡ filled n (first_place os m m) d → least (starts_at fs m) n ≡ least (lonely_at os m) n
lonely-least os fs d m n e =
    least-ext (starts_at fs m) (lonely_at os m) n
    (λ v l. ap (λ (x : ℕ). eqb x m) (ap (λ (t : List ℕ). get_or t v 0) e ∙ filled_at (first_place os m m) n v d 0 l) ∙ place (least (starts_at os v) m) m (least-le (starts_at os v) m))

pub returns : goal.returns
returns c =
    let a = c.args in
    c.first_holding.ensures ∙ lonely-least a.origins.now _ _ a.m a.n c.first_places.ensures
