-- The graph of the overlay is a plane graph (`net-plane`), in which no two edges share a stretch (`net-clear`): no two half-edges with one origin have the same angle, as two
-- pieces on one line with one end in common have the other in common, and pieces with the same ends stand once. So all laws of `laws_graph` hold of the overlay:
-- followers are a permutation, walks close, faces obey their recursion. Assumes nothing.
use Rattle.std.specs.Prelude.{◌≡◌, ◌<◌, ◌/◌}
use Rattle.std.proofs.Common.{sym, ◌∙◌, subst}
use Rattle.seq.specs.Seq.{List, ℕ}
use Rattle.paper.specs.Plane.{Pt}
use Rattle.paper.specs.Graph.{Graph, edge_count, the_half_count, edge}
use Rattle.paper.specs.Map.{Map}
use Rattle.laws_graph.specs.Halves.{half_below}
use Rattle.laws_overlay.specs.Maps.{AllKeep}
use Rattle.laws_overlay.specs.Places.{Places}
use Rattle.laws_overlay.specs.Pieces.{ends_once}
use Rattle.laws_overlay.specs.Net.{net_of, net-edges, from_is, to_is}

module _ (ms : List Map) (K : AllKeep ms) (vs : List Pt) (O : Places vs) where
  abbrev pub g : Graph
  g = net_of ms vs

  -- edges with the same ends are one
  pub edge-number : (k r : ℕ) → k < edge_count (net_of ms vs) → r < edge_count (net_of ms vs) → (edge (net_of ms vs) k).from ≡ (edge (net_of ms vs) r).from → (edge (net_of ms vs) k).to ≡ (edge (net_of ms vs) r).to → k ≡ r
  edge-number k r lk lr e f =
      ends_once ms vs k r (subst (λ (x : ℕ). k < x) (net-edges ms vs) lk) (subst (λ (x : ℕ). r < x) (net-edges ms vs) lr)
      (record { low = sym (from_is ms vs k) ∙ e ∙ from_is ms vs r; high = sym (to_is ms vs k) ∙ f ∙ to_is ms vs r })

  -- ── a half-edge ──

  module _ (h : ℕ) (l : h < the_half_count (net_of ms vs)) where
    abbrev pub k : ℕ
    k = h / 2

    pub lk : k < edge_count g
    lk = half_below g h l
