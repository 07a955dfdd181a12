-- Of Parts of specs/, what rests on its definitions.
use Rattle.std.specs.Prelude.{◌≡◌, ◌<◌}
use Rattle.std.proofs.Common.{◌∙◌, ap, subst, arith}
use Rattle.seq.specs.Seq.{List, ℕ, length}
use Rattle.paper.specs.Graph.{the_half_count, follower}
use Rattle.paper.specs.Map.{Map}
use Rattle.paper.specs.Pieces.{vertices_of}
use Rattle.paper.specs.Faces.{overlay_of, sources_of}
use Rattle.paper.specs.Tables.{follower_of, counts_of}
use Rattle.laws_graph.specs.Follow.{followers_at}
use Rattle.laws_overlay.specs.Maps.{AllKeep}
use Rattle.laws_overlay.specs.Places.{places}
use Rattle.laws_overlay.proofs.Net.{sourced}
use Rattle.laws_overlay.proofs.NetPlane.{net-plane}
use Rattle.laws_overlay.specs.Inside.{overlaid}
use Rattle.laws_overlay.specs.Cells.{half-cell}
use Rattle.laws_overlay.specs.Parts.{sources-are, edge-count, made, counted}

module _ (ms : List Map) where
  -- ── the counts ──

  -- a row of sources has a cell for each map
  pub sources-wide : AllKeep ms → (k : ℕ) → k < (counts_of (overlay_of ms)).edges → length (sources_of (overlay_of ms) k) ≡ length ms
  sources-wide K k l = ap length (sources-are ms k) ∙ (sourced ms K (vertices_of ms) (places ms K) k (subst (λ (n : ℕ). k < n) (edge-count ms) l)).width

  -- ── the row of half-edge h ──

  module _ (h : ℕ) (l : h < the_half_count (overlaid ms)) where
    pub follower_is : AllKeep ms → follower_of (made ms) h ≡ follower (overlaid ms) h
    unfolding overlay_of
    follower_is K = half-cell ms (overlay_of ms) h 2 (counted ms h l) (omega arith) ∙ followers_at (overlaid ms) (net-plane ms K (vertices_of ms) (places ms K)) h l
