-- The look of a file's map in the order of lower ends. Of a file that passes, a look that reads the map's edges in that order answers what the look of 01 answers (`file-look`), and the number that it reads is the
-- number of edges whose lower y is not above the point's (`file-reads`). Assumes nothing.
use Rattle.std.specs.Prelude.{◌≡◌, refl, ◌<ℤ◌}
use Rattle.std.proofs.Common.{◌∙◌, ap}
use Rattle.seq.specs.Seq.{not, List, Option, none, some, Option·map, ℕ, count, best, pos}
use Rattle.paper.specs.Plane.{Pt, Vec, below}
use Rattle.paper.specs.Graph.{Graph, edge_count, low, east_side, west, nearer}
use Rattle.paper.specs.Map.{fault, map_of}
use Rattle.laws_graph.specs.Corners.{corners-clear}
use Rattle.laws_graph.specs.West.{candidate}
use Rattle.laws_map.specs.Passes.{passes-rules}
use Rattle.laws_map.specs.Files.{file-corners}
use Rattle.laws_map.proofs.Files.{passes-keeps}
use Rattle.laws_looks.specs.Ordered.{InOrder, reads, reads-are}
use Rattle.laws_looks.proofs.Ordered.{ordered-look}

module _ (s : List ℕ) (ok : fault s ≡ none) (f : ℕ → ℕ) (I : InOrder (map_of s).graph f) (p : Pt) (hp : pos 0 <ℤ p.D) where
  abbrev g : Graph
  g = (map_of s).graph

  pub file-reads : reads (map_of s).graph f p ≡ count (λ k. not (below p (low (map_of s).graph k))) (edge_count (map_of s).graph)
  file-reads = reads-are g (passes-keeps s ok).plane f I p hp

  pub file-look : (d : Vec) →
      Option·map (λ i. east_side (map_of s).graph (f i)) (best (λ i. candidate (map_of s).graph p d (f i)) (λ i j. nearer (map_of s).graph p (f i) (f j)) (reads (map_of s).graph f p)) ≡ west (map_of s).graph p d
  file-look d = both (best (λ i. candidate g p d (f i)) (λ i j. nearer g p (f i) (f j)) (reads g f p)) ∙ ap (Option·map (east_side g)) (ordered-look g (passes-keeps s ok).plane f I p hp (corners-clear g (file-corners s (passes-rules s ok))) d)
    where
      both : (o : Option ℕ) → Option·map (λ i. east_side g (f i)) o ≡ Option·map (east_side g) (Option·map f o)
      both none = refl
      both (some i) = refl
