-- The map of a file that passes the check stands in tables of its own (`Laid`), and from there its edges in the order of lower ends, laid for looks (`Ready`). Assumes nothing.
use Rattle.std.specs.Prelude.{◌≡◌, refl, ◌≤◌, ◌∷◌, ◌++◌, ◌*◌}
use Rattle.std.proofs.Common.{sym, ◌∙◌, ap, subst, arith}
use Rattle.seq.specs.Seq.{List, [], Option, none, some, ℕ, length, get_or, take, ℤ, filled, laid}
use Rattle.paper.specs.Limits.{map_vertices, map_edges}
use Rattle.paper.specs.Refusal.{Refusal, Answer, done, refused, answer, first_of, the_of_map}
use Rattle.paper.specs.Map.{label, vertex_count, edges_in, map_of, fault, form_faults, part_faults, net_faults}
use Rattle.laws_refusals.specs.Refusals.{nothing, of_none, first_none}
use Rattle.graph.specs.Flat.{Flat, flat_graph, carrier_at}
use Rattle.graph.specs.Look.{east_at}
use Rattle.looks.specs.Ordering.{the_edge_in, ByLowerEnds}
use Rattle.looks.specs.Rails.{seg_row}
use Rattle.looks.specs.Railed.{Railed}
use Rattle.looks.specs.Files.{file-railed}
use Rattle.map_check.specs.Held.{MapRoom, MapLaid}
use Rattle.map_check.specs.Laws.Kept.{Kept}
use Rattle.map_check.proofs.KeptLaws.{kept}
use Rattle.map_check.proofs.LoadedLaws.{is_read, carrier-held, carriers_long, graph-held, held-flat}

pub record Laid (s : List ℕ) (ps : List ℤ) (os : List ℕ) (cs : List ℤ) (ls : List ℕ) : Type 0 where
  pub passes : fault s ≡ none
  pub few : edges_in s ≤ map_edges
  pub flat : Flat ps os cs (vertex_count s) (edges_in s)
  pub labels_long : 2 * edges_in s ≤ length ls
  pub graph_is : flat_graph ps os cs (vertex_count s) (edges_in s) ≡ (map_of s).graph
  pub labels-are : take (2 * edges_in s) ls ≡ (map_of s).labels

-- ── from what the check lays ──

-- the refusal that an answer gives, if it gives one
abbrev pub refused_in : {A : Type 0} → Answer A → Option Refusal
refused_in (done a) = none
refused_in (refused r) = some r

pub refused_with_lem : {A : Type 0} (a : A) (o : Option Refusal) → refused_in (answer a o) ≡ o
refused_with_lem a none = refl
refused_with_lem a (some r) = refl

-- a chain that gives none has a first part that gives none
front_none : (xs ys : List (Option Refusal)) → first_of (xs ++ ys) ≡ none → first_of xs ≡ none
front_none [] ys e = refl
front_none (none ∷ xs) ys e = front_none xs ys e
front_none (some r ∷ xs) ys e = e

module _ (s : List ℕ) (e : fault s ≡ none) where
  form-passes : first_of (form_faults s) ≡ none
  unfolding fault
  form-passes = front_none (form_faults s) (part_faults (map_of s).graph ++ net_faults (map_of s)) e

  parts-pass : first_of (part_faults (map_of s).graph) ≡ none
  unfolding fault
  parts-pass = front_none (part_faults (map_of s).graph) (net_faults (map_of s)) (sym (first_none (form_faults s) (part_faults (map_of s).graph ++ net_faults (map_of s)) form-passes) ∙ e)

  passes_kept : Kept s
  passes_kept = kept s form-passes parts-pass

  pub is_laid : (dps : List ℤ) (dos : List ℕ) (dcs : List ℤ) (dls : List ℕ) (ps : List ℤ) (os : List ℕ) (cs : List ℤ) (ls : List ℕ) → MapRoom map_vertices map_edges dps dos dcs dls → MapLaid s dps dos dcs dls ps os cs ls → Laid s ps os cs ls
  is_laid dps dos dcs dls ps os cs ls R L =
      let k = passes_kept in
      let rp : 4 * vertex_count s ≤ length dps = omega (arith, R.corners, k.few_vertices) in
      let ro : 2 * edges_in s ≤ length dos = omega (arith, R.origins, k.few_edges) in
      let rc : 4 * edges_in s ≤ length dcs = omega (arith, R.carriers, k.few_edges) in
      let rl : 2 * edges_in s ≤ length dls = omega (arith, R.labels, k.few_edges) in
      let r = is_read s ps dps os dos ls dls rp ro rl L.corners-are L.origins-are L.labels-are in
      let c = carrier-held s cs dcs rc L.carriers-are in
      record {
        passes = e;
        few = k.few_edges;
        flat = held-flat s ps os cs r.point_is r.origin_is c k r.points_long r.origins_long (carriers_long s cs dcs rc L.carriers-are);
        labels_long = r.labels_long;
        graph_is = graph-held s ps os cs r.point_is r.origin_is c;
        labels-are = r.labels-are;
      }

-- of two maps neither is refused
pub both_none : (a b : Option Refusal) → first_of (the_of_map 1 a ∷ the_of_map 2 b ∷ []) ≡ none → (a ≡ none) × (b ≡ none)
both_none a b e =
    let n = nothing (the_of_map 1 a ∷ the_of_map 2 b ∷ []) e in
    (of_none 1 a n.0, of_none 2 b n.1.0)

-- ── with its edges in order ──

-- the rows of all edges of a map
pub record RailRoom (rs : List ℤ) (es : List ℕ) : Type 0 where
  pub rows : 4 * map_edges ≤ length rs
  pub labels : map_edges ≤ length es

-- the map of a file stands in the tables as looks ask for it
pub record Ready (s : List ℕ) (rs : List ℤ) (es : List ℕ) : Type 0 where
  pub few : edges_in s ≤ map_edges
  pub railed : Railed (map_of s).graph (label (map_of s)) (edges_in s) rs es

pub is_ready : {s : List ℕ} {ps : List ℤ} {os : List ℕ} {cs : List ℤ} {ls xs : List ℕ} {rs₀ rs : List ℤ} {es₀ es : List ℕ} → Laid s ps os cs ls → ByLowerEnds ps os (edges_in s) xs → RailRoom rs₀ es₀
    → rs ≡ laid (edges_in s) (λ i. seg_row (carrier_at cs (the_edge_in xs i))) rs₀ → es ≡ filled (edges_in s) (λ i. get_or ls (east_at ps os (the_edge_in xs i)) 0) es₀ → Ready s rs es
is_ready {s} {ps} {os} {cs} {ls} {xs} {rs₀} {rs} {es₀} {es} L B R p q = record {
  few = L.few;
  railed = file-railed s L.passes ps os cs ls xs L.flat L.graph_is L.labels-are B rs₀ rs es₀ es (omega (arith, R.rows, L.few)) (omega (arith, R.labels, L.few)) p q;
}

-- by a count that was read
pub is_ready_by : {s : List ℕ} {ps : List ℤ} {os : List ℕ} {cs : List ℤ} {ls xs : List ℕ} {rs₀ rs : List ℤ} {es₀ es : List ℕ} {e : ℕ} → e ≡ edges_in s → Laid s ps os cs ls → ByLowerEnds ps os e xs → RailRoom rs₀ es₀
    → rs ≡ laid e (λ i. seg_row (carrier_at cs (the_edge_in xs i))) rs₀ → es ≡ filled e (λ i. get_or ls (east_at ps os (the_edge_in xs i)) 0) es₀ → Ready s rs es
is_ready_by {s} {ps} {os} {cs} {ls} {xs} {rs₀} {rs} {es₀} {es} w L B R p q =
    is_ready L (subst (λ (k : ℕ). ByLowerEnds ps os k xs) w B) R (p ∙ ap (λ (k : ℕ). laid k (λ i. seg_row (carrier_at cs (the_edge_in xs i))) rs₀) w) (q ∙ ap (λ (k : ℕ). filled k (λ i. get_or ls (east_at ps os (the_edge_in xs i)) 0) es₀) w)
