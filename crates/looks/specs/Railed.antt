-- A graph whose edges are laid for looks (`Railed`): by lower end, as rows from lower to upper end, with the labels on their east sides. A look in the rows sees what the look of 01 sees, so that its label is
-- the one that 01's look gives (`railed-label`), and reads the edges whose lower y is not above the corner's (`railed-read`), no more than there are (`reads_few`). Assumes nothing.
use Rattle.std.specs.Prelude.{◌≡◌, refl, ◌≤◌, ◌<◌, ◌&&◌}
use Rattle.std.proofs.Common.{sym, ◌∙◌, ap, arith}
use Rattle.seq.specs.Seq.{Bool, true, false, not, List, Option, none, some, Option·map, ℕ, length, get_or, ℤ, least, best, or_zero}
use Rattle.seq.specs.Least.{least-ext}
use Rattle.seq.proofs.Least.{least_min, least-le}
use Rattle.seq.specs.Best.{best_has}
use Rattle.seq.specs.BestLoop.{best-ext}
use Rattle.seq.specs.Count.{count-le}
use Rattle.paper.specs.Plane.{Pt, Vec, Seg, whole, head, below}
use Rattle.paper.specs.Graph.{Graph, edge_count, edge, low, high, east_side, at_height, nearer, west}
use Rattle.paper.specs.Reads.{edges_read}
use Rattle.paper.specs.Soundings.{east}
use Rattle.laws_plane.specs.Ends.{0<1}
use Rattle.laws_graph.specs.Plane.{Plane}
use Rattle.laws_graph.specs.Nearest.{Clear}
use Rattle.laws_graph.specs.West.{candidate}
use Rattle.laws_looks.specs.Ordered.{InOrder, reads, reads-are}
use Rattle.laws_looks.proofs.Ordered.{ordered-look}
use Rattle.graph.specs.Flat.{carrier_at, Carriers}
use Rattle.graph.specs.Look.{westward_of}
use Rattle.looks.specs.Rails.{above, passes, closer, above_at, passes_at, closer_at, rails_read, rail_seen, rail_label}

-- lab has the labels of half-edges
pub record Railed (g : Graph) (lab : ℕ → ℕ) (e : ℕ) (rs : List ℤ) (es : List ℕ) : Type 0 where
  pub plane : Plane g
  pub clear : Clear g
  pub many : edge_count g ≡ e
  pub order : ℕ → ℕ
  pub in_order : InOrder g order
  pub rows : (i : ℕ) → i < e → carrier_at rs i ≡ (edge g (order i)).carrier
  pub feet : (k : ℕ) → k < e → whole (edge g k).carrier.foot ≡ low g k
  pub heads : (k : ℕ) → k < e → whole (head (edge g k).carrier) ≡ high g k
  pub easts : (i : ℕ) → i < e → get_or es i 0 ≡ lab (east_side g (order i))
  pub carriers : Carriers rs e
  pub labelled : e ≤ length es

module _ (g : Graph) (lab : ℕ → ℕ) (e : ℕ) (rs : List ℤ) (es : List ℕ) (R : Railed g lab e rs es) (c : Vec) where
  abbrev f : ℕ → ℕ
  f = R.order

  abbrev p : Pt
  p = whole c

  named : (i : ℕ) → i < e → f i < e
  named i l = omega (arith, R.many, R.in_order.each.into i (omega (arith, R.many)))

  above_is : (i : ℕ) → i < e → above_at rs c i ≡ below p (low g (f i))
  above_is i l = ap (above c) (R.rows i l) ∙ ap (below p) (R.feet (f i) (named i l))

  reads_is : rails_read rs e c ≡ reads g f p
  reads_is = least-ext (above_at rs c) (λ i. below p (low g (f i))) e above_is ∙ ap (least (λ i. below p (low g (f i)))) (sym R.many)

  pub railed-read : rails_read rs e c ≡ edges_read g (whole c)
  railed-read = reads_is ∙ reads-are g R.plane f R.in_order p 0<1

  -- an edge that is read does not start above
  passes_is : (i : ℕ) → i < rails_read rs e c → passes_at rs c i ≡ candidate g p east (f i)
  passes_is i l =
      let h : i < e = omega (arith, least-le (above_at rs c) e) in
      ap (passes c) (R.rows i h)
      ∙ (λ t. below p (R.heads (f i) (named i h) t) && westward_of (edge g (f i)).carrier p east)
      ∙ ap (λ (b : Bool). (not b && below p (high g (f i))) && westward_of (edge g (f i)).carrier p east) (sym (sym (above_is i h) ∙ least_min (above_at rs c) e i l))

  closer_is : (i j : ℕ) → i < rails_read rs e c → j < rails_read rs e c → closer_at rs c i j ≡ nearer g p (f i) (f j)
  closer_is i j l m =
      let h = least-le (above_at rs c) e in
      λ t. closer c (R.rows i (omega (arith, h)) t) (R.rows j (omega (arith, h)) t)

  seen_is : Option·map f (rail_seen rs e c) ≡ best (candidate g p east) (nearer g p) (edge_count g)
  seen_is =
      ap (Option·map f) (best-ext (passes_at rs c) (λ i. candidate g p east (f i)) (closer_at rs c) (λ i j. nearer g p (f i) (f j)) (rails_read rs e c) passes_is closer_is
      ∙ ap (best (λ i. candidate g p east (f i)) (λ i j. nearer g p (f i) (f j))) reads_is)
      ∙ ordered-look g R.plane f R.in_order p 0<1 R.clear east

  label_by_lem : (o : Option ℕ) → rail_seen rs e c ≡ o → or_zero (λ i. get_or es i 0) o ≡ or_zero lab (Option·map (east_side g) (Option·map f o))
  label_by_lem none q = refl
  label_by_lem (some i) q = R.easts i (omega (arith, (best_has (passes_at rs c) (closer_at rs c) (rails_read rs e c) i q).below, least-le (above_at rs c) e))

  pub railed-label : rail_label rs es e c ≡ or_zero lab (west g (whole c) east)
  railed-label = label_by_lem (rail_seen rs e c) refl ∙ ap (λ (o : Option ℕ). or_zero lab (Option·map (east_side g) o)) seen_is

-- "and is never more than the map's edges"
pub reads_few : (g : Graph) (p : Pt) → edges_read g p ≤ edge_count g
reads_few g p = count-le (λ k. not (below p (low g k))) (edge_count g)
