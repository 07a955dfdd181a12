-- A plane graph in which the edges of a map are drawn (`Covers`): each edge of the map is made of pieces of the graph, which may have other edges besides. A map's own graph is
-- one (`self-covers`), and the overlay's graph is one for each of its maps. Then: an edge of the map that leaves a vertex of the graph leaves it along a half-edge
-- (`left_along`). Assumes nothing.
use Rattle.std.specs.Prelude.{◌≡◌, refl, Bool, true, false, not, ◌&&◌, ℕ, ◌<◌, pos, ◌<ℤ◌}
use Rattle.std.proofs.Common.{sym, ◌∙◌, ap}
use Rattle.exact.specs.Sign.{is_zer}
use Rattle.exact.specs.Signs.{zero_is}
use Rattle.seq.specs.Seq.{length}
use Rattle.paper.specs.Plane.{Pt, Vec, Seg, cross, before, the_left_by}
use Rattle.paper.specs.Graph.{Graph, edge_count, the_half_count, point, edge, origin, low, high, upward, heading}
use Rattle.paper.specs.Map.{Map}
use Rattle.laws_plane.specs.Angles.{cross-self, SameWay}
use Rattle.laws_graph.specs.Plane.{Plane}
use Rattle.laws_map.specs.Keeps.{seg, edges}
use Rattle.laws_labels.specs.Lawful.{Lawful}
use Rattle.laws_labels.specs.Spans.{Span, span}
use Rattle.laws_labels.specs.Cuts.{lo, hi, reach, Leaves}
use Rattle.laws_labels.specs.Clear.{Within, Clear}
use Rattle.laws_labels.specs.Edges.{clear, no_through}
use Rattle.laws_labels.specs.Pot.{Jumps}

-- q lies from a up to b, b not included (true), or a not included (false)
abbrev pub spans : Bool → Pt → Pt → Pt → Bool
spans true q a b = not (before q a) && before q b
spans false q a b = before a q && not (before b q)

-- a piece along s that leaves q up (true) or down (false)
pub record PieceAt (O : Graph) (s : Seg) (q : Pt) (b : Bool) : Type 0 where
  pub piece : ℕ
  pub below : piece < edge_count O
  pub parallel : cross (upward O piece) s.up ≡ pos 0
  pub on : the_left_by (edge O piece).carrier q ≡ pos 0
  pub reaches : spans b q (low O piece) (high O piece) ≡ true

pub record Covers (O : Graph) (m : Map) : Type 0 where
  pub plane : Plane O
  -- a piece is a part of its carrier, with no vertex inside
  pub within : (k : ℕ) → k < edge_count O → Within (edge O k).carrier (low O k) (high O k)
  pub no_inside : (z k : ℕ) → z < length O.points → k < edge_count O → the_left_by (edge O k).carrier (point O z) ≡ pos 0 → before (low O k) (point O z) ≡ true → before (point O z) (high O k) ≡ true → ⊥
  -- the map's edges stay clear of its inside
  pub clear : (k j : ℕ) → k < edge_count O → j < edges m → Clear (edge O k).carrier (low O k) (high O k) (span m j)
  -- where an edge of the map leaves a point, a piece does, if the labels on its two sides differ
  pub piece_at_lem : (j : ℕ) → j < edges m → Jumps m j → (q : Pt) → pos 0 <ℤ q.D → (b : Bool) → Leaves q b (span m j) → PieceAt O (seg m j) q b

-- ── a map covers itself ──

reach-spans : (b : Bool) (q : Pt) (e : Span) → reach q b e ≡ spans b q (lo e) (hi e)
reach-spans true q e = refl
reach-spans false q e = refl

module _ (m : Map) (K : Lawful m) where
  abbrev g : Graph
  g = m.graph

  self-piece : (j : ℕ) → j < edges m → (q : Pt) (b : Bool) → Leaves q b (span m j) → PieceAt g (seg m j) q b
  self-piece j l q b o = record {
    piece = j;
    below = l;
    parallel = cross-self (seg m j).up;
    on = zero_is (the_left_by (seg m j) q) (ap is_zer o.on);
    reaches = sym (reach-spans b q (span m j)) ∙ o.reaches;
  }

  pub self-covers : Covers g m
  self-covers = record {
    plane = K.plane;
    within = K.within;
    no_inside = λ z k lz l o a b. no_through m K z k lz l (record { line = o; low = a; high = b });
    clear = λ k j l i. clear m K k j l i;
    piece_at_lem = λ j l w q h b o. self-piece j l q b o;
  }

-- ── an edge that leaves a vertex leaves it along a half-edge ──

-- a half-edge that leaves z the way of u
pub record Out (O : Graph) (z : ℕ) (u : Vec) : Type 0 where
  pub half : ℕ
  pub below : half < the_half_count O
  pub leaves : origin O half ≡ z
  pub along : SameWay (heading O half) u
