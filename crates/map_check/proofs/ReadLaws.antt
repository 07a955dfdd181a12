-- The map of a file that is read into tables, with n vertices and e edges: rules 5 to 7 of the tables are those of the map; where they find nothing the carriers
-- can be made, are the map's, and the tables hold the map. Then the chain of all rules. Assumes nothing.
use Rattle.std.specs.Prelude.{◌∷◌, ◌++◌, ◌+◌, ◌*◌}
use mathlib.Core.Path.{◌≡◌, sym, ap, ◌∙◌, subst}
use Prim.Native.Nat.{◌≤◌, ◌<◌}
use native.Mathlib.Omega.{arith}
use Rattle.seq.specs.Laid.{laid-ext}
use Rattle.seq.specs.Seq.{none, some, List, [], ℕ, length, take, ℤ, laid}
use Rattle.paper.specs.Plane.{Seg, between}
use Rattle.paper.specs.Refusal.{Refusal, first_of}
use Rattle.paper.specs.Graph.{Graph, edge}
use Rattle.paper.specs.Map.{vertex_count, edges_in, corner_at, map_of, form_faults, part_faults, net_faults, fault}
use Rattle.paper.specs.Map as Map
use Rattle.plane.specs.Bounds.{Corner}
use Rattle.laws_refusals.specs.Refusals.{first_none, first_some}
use Rattle.laws_graph.specs.Laid.{Laid}
use Rattle.laws_graph.specs.Reading.{carrier_at_lem, origin_at_lem}
use Rattle.graph.specs.Flat.{origin_at, flat_graph, Flat, Origins}
use Rattle.map_file.specs.Rows.{carrier_row}
use Rattle.map_check.specs.Parts.{corner_in, part_faults_at, Corners, carrier_by, carrier_row_by}
use Rattle.map_check.specs.Held.{flat_map, MapRead}
use Rattle.map_check.specs.Laws.Kept.{Kept}
use Rattle.map_check.proofs.KeptLaws.{kept, laid_in_corners}
use Rattle.map_check.proofs.GraphLaws.{origin-named}
use Rattle.map_check.proofs.PartsLaws.{corner-read, parts-read}
use Rattle.map_check.proofs.LoadedLaws.{carrier-held, carriers_long, graph-held, held-flat}

-- ── the chain ──

module _ (s : List ℕ) (form : first_of (form_faults s) ≡ none) where
  pub parts_some : {r : Refusal} → first_of (part_faults (map_of s).graph) ≡ some r → fault s ≡ some r
  unfolding fault
  parts_some e =
      first_none (form_faults s) (part_faults (map_of s).graph ++ net_faults (map_of s)) form ∙ first_some (part_faults (map_of s).graph) (net_faults (map_of s)) e

  pub parts_none : first_of (part_faults (map_of s).graph) ≡ none → fault s ≡ first_of (net_faults (map_of s))
  unfolding fault
  parts_none e =
      first_none (form_faults s) (part_faults (map_of s).graph ++ net_faults (map_of s)) form ∙ first_none (part_faults (map_of s).graph) (net_faults (map_of s)) e

pub form_some : (s : List ℕ) {r : Refusal} → first_of (form_faults s) ≡ some r → fault s ≡ some r
unfolding fault
form_some s e = first_some (form_faults s) (part_faults (map_of s).graph ++ net_faults (map_of s)) e

-- ── the tables ──

module _ {s : List ℕ} {ps : List ℤ} {os ls : List ℕ} (R : MapRead s ps os ls) {n e : ℕ} (vertices : n ≡ vertex_count s) (edges : e ≡ edges_in s) where
  abbrev g : Graph
  g = (map_of s).graph

  pub part-faults : first_of (part_faults_at ps os n e) ≡ first_of (part_faults (map_of s).graph)
  part-faults = (λ i. first_of (part_faults_at ps os (vertices i) (edges i))) ∙ ap first_of (parts-read R)

  module _ (form : first_of (form_faults s) ≡ none) (parts : first_of (part_faults (map_of s).graph) ≡ none) where
    k : Kept s
    k = kept s form parts

    pub corners-read : Corners ps n
    corners-read =
        let C : Corners ps (vertex_count s) = record { long = R.points_long; near = λ v l. subst Corner (sym (corner-read R v l)) (k.near v l) } in
        subst (Corners ps) (sym vertices) C

    pub origins-read : Origins os (2 * e) n
    origins-read =
        let O : Origins os (2 * edges_in s) (vertex_count s) = record { long = R.origins_long; named = λ h l. subst (λ (v : ℕ). v < vertex_count s) (sym (R.origin_is h l)) (origin-named s k h l) } in
        subst (λ (m : ℕ). Origins os (2 * m) n) (sym edges) (subst (λ (m : ℕ). Origins os (2 * edges_in s) m) (sym vertices) O)

    -- an end, and the corner there
    end_read : (h : ℕ) → h < 2 * edges_in s → Map.origin_at s h < vertex_count s → corner_in ps (origin_at os h) ≡ corner_at s (Map.origin_at s h)
    end_read h l b = ap (corner_in ps) (R.origin_is h l ∙ origin_at_lem s h l) ∙ corner-read R (Map.origin_at s h) b

    carrier-read : (j : ℕ) → j < edges_in s → carrier_by ps os j ≡ (edge g j).carrier
    carrier-read j l =
        let a = end_read (2 * j) (omega arith) (k.from j l) in
        let b = end_read (2 * j + 1) (omega arith) (k.to j l) in
        (λ i. between (a i) (b i)) ∙ sym (carrier_at_lem s j l (k.from j l) (k.to j l))

    pub carriers-read : (d : List ℤ) → laid e (carrier_row_by ps os) d ≡ laid (edges_in s) (carrier_row (map_of s).graph) d
    carriers-read d =
        ap (λ (m : ℕ). laid m (carrier_row_by ps os) d) edges
        ∙ laid-ext (carrier_row_by ps os) (carrier_row g) (edges_in s) d (λ j l. ap (λ (c : Seg). c.foot.x ∷ c.foot.y ∷ c.up.x ∷ c.up.y ∷ []) (carrier-read j l))

    module _ (cs d : List ℤ) (room : 4 * edges_in s ≤ length d) (is : cs ≡ laid (edges_in s) (carrier_row (map_of s).graph) d) where
      graph-read : flat_graph ps os cs n e ≡ g
      graph-read = (λ i. flat_graph ps os cs (vertices i) (edges i)) ∙ graph-held s ps os cs R.point_is R.origin_is (carrier-held s cs d room is)

      pub flat-read : Flat ps os cs n e
      flat-read =
          let F = held-flat s ps os cs R.point_is R.origin_is (carrier-held s cs d room is) k R.points_long R.origins_long (carriers_long s cs d room is) in
          subst (λ (m : ℕ). Flat ps os cs n m) (sym edges) (subst (λ (m : ℕ). Flat ps os cs m (edges_in s)) (sym vertices) F)

      pub laid-read : Laid (flat_graph ps os cs n e)
      laid-read = subst Laid (sym graph-read) (laid_in_corners s form parts)

      pub map_read : flat_map ps os cs (take (2 * e) ls) n e ≡ map_of s
      map_read = let q = ap (λ (m : ℕ). take (2 * m) ls) edges ∙ R.labels-are in λ i. record { graph = graph-read i; labels = q i }
