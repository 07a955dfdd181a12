-- Ask 3's look: the look of 01 along east. "look west with edges through p counted as west": along east a candidate is an edge at the height of p that has p on its right or on it
-- (`east-candidate`); "nearest by greatest x, then smallest upward angle" is `nearer` as it stands. Assumes nothing.
use Rattle.std.specs.Prelude.{◌≡◌, refl, ◌<◌, ◌<ℤ◌, ◌&&◌, ◌∷◌, ◌-ℤ◌, ◌*ℤ◌}
use Rattle.std.proofs.Common.{◌∙◌, ap}
use Rattle.exact.specs.Sign.{Sign, neg, zer, plus, sgn, is_plus, neg_s, pick, sgn-negℤ, sgn-plus}
use Rattle.exact.specs.Solve.{ring, reify}
use Rattle.seq.specs.Seq.{Bool, true, false, not, ℕ, ℤ, pos, []}
use Rattle.paper.specs.Plane.{Pt, Vec, cross}
use Rattle.paper.specs.Graph.{Graph, edge_count, upward, at_height, left_of, westward}
use Rattle.paper.specs.Soundings.{east}
use Rattle.laws_graph.specs.Plane.{Plane}
use Rattle.laws_graph.specs.West.{candidate, height-steep}

turn-east : (u : Vec) → cross east u ≡ u.y
turn-east u = law u.x u.y
  where
    law : (x y : ℤ) → pos 1 *ℤ y -ℤ pos 0 *ℤ x ≡ y
    law x y = ring (x ∷ y ∷ []) (search reify depth 20) tt

signs : (s : Sign) → is_plus (pick (neg_s s) plus) ≡ not (is_plus s)
signs neg = refl
signs zer = refl
signs plus = refl

module _ (g : Graph) (P : Plane g) (p : Pt) (hp : pos 0 <ℤ p.D) (k : ℕ) (l : k < edge_count g) where
  by_height : (c : Bool) → at_height g p k ≡ c → (c && westward g p east k) ≡ (c && not (is_plus (sgn (left_of g p k))))
  by_height false e = refl
  by_height true e =
      (λ i. is_plus (pick (sgn-negℤ (left_of g p k) i) ((ap sgn (turn-east (upward g k)) ∙ sgn-plus (height-steep g P p hp k l e)) i))) ∙ signs (sgn (left_of g p k))

  pub east-candidate : candidate g p east k ≡ (at_height g p k && not (is_plus (sgn (left_of g p k))))
  east-candidate = by_height (at_height g p k) refl
