-- Of Ordered of specs/, what rests on its definitions.
use Rattle.std.specs.Prelude.{◌≡◌, refl, ◌<◌, ◌≤◌, ◌<ℤ◌}
use Rattle.std.proofs.Common.{sym, ◌∙◌, ap, subst}
use Rattle.seq.specs.Seq.{Bool, true, false, Option·map, ℕ, pos, best}
use Rattle.seq.specs.Terms.{Has}
use Rattle.seq.specs.Tests.{clash, and_parts, not-true}
use Rattle.seq.proofs.Halves.{from_least}
use Rattle.seq.proofs.Early.{some_best}
use Rattle.exact.specs.Sign.{sgn, is_zer}
use Rattle.exact.specs.Signs.{zero_is}
use Rattle.paper.specs.Plane.{Pt, Vec, before, below}
use Rattle.paper.specs.Graph.{Graph, edge_count, edge, low, high, left_of, at_height, westward, nearer}
use Rattle.paper.specs.Map.{Map}
use Rattle.laws_plane.specs.Points.{neither}
use Rattle.laws_graph.specs.Plane.{Plane, ends_real, ends_on, upward_up}
use Rattle.laws_graph.specs.Nearest.{Clear, nearer-order}
use Rattle.laws_graph.specs.West.{candidate, nearer-strict, height_is}
use Rattle.laws_map.specs.Keeps.{Keeps}
use Rattle.laws_labels.specs.Spans.{span, InsideSpan}
use Rattle.laws_labels.specs.Lawful.{Lawful, keeps-lawful}
use Rattle.laws_labels.specs.Pot.{low_end}
use Rattle.laws_labels.specs.Edges.{at_low, no_through, one_start}
use Rattle.laws_plane.specs.Parallel.{same_side}
use Rattle.laws_graph.specs.East.{west_side, west_below}
use Rattle.laws_looks.specs.Ordered.{reads, n, higher, reads-most, InOrder}

module _ (g : Graph) (P : Plane g) (f : ℕ → ℕ) (I : InOrder g f) (p : Pt) (hp : pos 0 <ℤ p.D) where
  abbrev r : ℕ
  r = reads g f p

  module _ (C : Clear g) (d : Vec) where
    asym : (x y : ℕ) → Has (candidate g p d) (n g P f I p hp) x → Has (candidate g p d) (n g P f I p hp) y → nearer g p x y ≡ true → nearer g p y x ≡ false
    asym x y hx hy e = not-true (nearer g p y x) (λ q. let s = nearer-strict g P p hp d in clash (s.trans x y x hx hy hx e q) (s.irr x hx))

    -- an edge that is not read starts above, and is no candidate
    unread : (i : ℕ) → r ≤ i → i < n g P f I p hp → candidate g p d (f i) ≡ false
    unread i h l =
        not-true (candidate g p d (f i)) (λ c. clash (from_least (λ x. below p (low g (f x))) (n g P f I p hp) (higher g P f I p hp) i h l)
        (height_is g p (f i) (and_parts (at_height g p (f i)) (westward g p d (f i)) c).0).0)

    -- the answer is the same
    pub ordered-look : Option·map f (best (λ i. candidate g p d (f i)) (λ i j. nearer g p (f i) (f j)) (reads g f p)) ≡ best (candidate g p d) (nearer g p) (edge_count g)
    ordered-look = some_best (candidate g p d) (nearer g p) (n g P f I p hp) (nearer-order g P p hp C d) asym f I.each r (reads-most g P f I p hp) unread

-- ── no two edges of a map share a stretch ──

module _ (m : Map) (K : Keeps m) where
  abbrev gm : Graph
  gm = m.graph

  L : Lawful m
  L = keeps-lawful m K

  -- no vertex lies inside an edge
  off : (k r : ℕ) → k < edge_count gm → r < edge_count gm → left_of gm (low gm r) k ≡ pos 0 → before (low gm k) (low gm r) ≡ true → before (low gm r) (high gm k) ≡ true → ⊥
  off k r lk lr o a b =
      no_through m L (low_end m r) k (K.plane.starts (west_side gm r) (west_below gm r lr)) lk
      (subst (InsideSpan (span m k)) (sym (at_low m L r lr)) (record { line = o; low = a; high = b }))

  pub keeps-clear : Clear m.graph
  keeps-clear k r lk lr z o a b = go (before (low gm k) (low gm r)) (before (low gm r) (low gm k)) refl refl
    where
      back : left_of gm (low gm k) r ≡ pos 0
      back =
          let P = K.plane in
          let S = same_side (edge gm k).carrier (edge gm r).carrier (upward_up gm P k lk) (upward_up gm P r lr) z (low gm r) (ends_real gm P r).0 o (ends_on gm P r lr).0 in
          zero_is (left_of gm (low gm k) r) (ap is_zer (sym (S (low gm k)) ∙ ap sgn (ends_on gm P k lk).0))

      go : (x y : Bool) → before (low gm k) (low gm r) ≡ x → before (low gm r) (low gm k) ≡ y → k ≡ r
      go true y e f = absurd (off k r lk lr o e b)
      go false true e f = absurd (off r k lr lk back f a)
      go false false e f = one_start m L k r lk lr (neither (low gm k) (low gm r) e f) z
