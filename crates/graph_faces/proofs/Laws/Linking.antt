-- Of Laws.Linking of specs/, what rests on its definitions.
use Rattle.std.specs.Prelude.{◌≡◌, ◌≤◌, ◌<◌, ◌*◌}
use Rattle.std.proofs.Common.{◌∙◌}
use Rattle.seq.specs.Seq.{List, Option·getD, ℕ, get_or, filled, ℤ}
use Rattle.seq.specs.Filled.{filled-ext, Holds}
use Rattle.paper.specs.Limits.{absent}
use Rattle.paper.specs.Graph.{greatest_out}
use Rattle.paper.specs.Faces.{walks_of, lead_at}
use Rattle.laws_graph.specs.Plane.{Plane}
use Rattle.graph.specs.Flat.{flat_graph, Flat}
use Rattle.graph_faces.specs.Turns.{low_at, top_at}
use Rattle.graph_faces.specs.Walked.{top_of}
use Rattle.graph_faces.proofs.Walked.{flat-top, low_cell}
use Rattle.graph_faces.specs.Laws.Linking.{g}

module _ (ps : List ℤ) (os : List ℕ) (cs : List ℤ) (n e : ℕ) (F : Flat ps os cs n e) (P : Plane (flat_graph ps os cs n e)) where
  -- ── smallest vertices ──

  module _ (lead low : List ℕ) (L : Holds (lead_at (walks_of (g ps os cs n e F P))) lead (2 * e)) (O : Holds (low_at ps os lead (2 * e)) low (2 * e)) where
    pub low_cells : (h : ℕ) → h < 2 * e → get_or low (get_or lead h 0) 0 < 2 * e
    low_cells h l = low_cell ps os cs n e F P lead L h l low O

    pub top-filled : (out : List ℕ) → Holds (λ v. Option·getD (greatest_out (g ps os cs n e F P) v) absent) out n → (d top : List ℕ) → top ≡ filled (2 * e) (top_at os lead low out) d → top ≡ filled (2 * e) (top_of (g ps os cs n e F P)) d
    top-filled out G d top is =
        is ∙ filled-ext (top_at os lead low out) (top_of (g ps os cs n e F P)) (2 * e) d (λ h l. flat-top ps os cs n e F P lead L h l low out O G)
