-- From one table to the next: what each stage of linking makes, as the definition's. Each stage takes the equation that its function promises. Assumes nothing.
use Rattle.std.specs.Prelude.{◌≡◌, ◌≤◌, ◌<◌, ◌*◌}
use Rattle.std.proofs.Common.{sym, ◌∙◌, ap, subst, arith}
use Rattle.std.proofs.lemmas.List.{length-replicate}
use Rattle.seq.specs.Seq.{List, Option·getD, ℕ, length, take, replicate, table, leader, filled, laid, over, ℤ}
use Rattle.seq.specs.Table.{table-ext}
use Rattle.seq.specs.Filled.{filled-ext, Holds, filled-holds, holds-ext}
use Rattle.paper.specs.Limits.{absent}
use Rattle.paper.specs.Graph.{Graph, the_half_count, follower, followers, heading, greatest_out}
use Rattle.paper.specs.Faces.{walks_of, lead_at}
use Rattle.laws_graph.specs.Plane.{Plane}
use Rattle.laws_graph.specs.Walks.{lead_is, lead_below}
use Rattle.graph.specs.Flat.{flat_graph, Flat, Numbers}
use Rattle.graph.specs.Laws.Decode.{flat-halves}
use Rattle.graph.specs.Heading.{row}
use Rattle.graph.specs.Follow.{Headings, Heads, follower_at, heads-laid, headings-laid, followers-flat}
use Rattle.graph_faces.specs.Lead.{Permutes}
use Rattle.graph.specs.Stars.{greatest_at, Apart, flat-apart}
use Rattle.graph_faces.specs.Turns.{low_at}
use Rattle.graph_faces.specs.Linked.{Linked, Led}
use Rattle.graph_faces.specs.Walked.{top_of, next_permutes, front-leader, flat-greatest}

module _ (ps : List ℤ) (os : List ℕ) (cs : List ℤ) (n e : ℕ) (F : Flat ps os cs n e) (P : Plane (flat_graph ps os cs n e)) where
  abbrev pub g : Graph
  g = flat_graph ps os cs n e

  -- by the definition's own count
  halves : 2 * e ≡ the_half_count g
  halves = sym (flat-halves ps os cs n e)

  of_count : {f : ℕ → ℕ} {t : List ℕ} → Holds f t (2 * e) → Holds f t (the_half_count g)
  of_count {f} {t} h = subst (Holds f t) halves h

  -- ── headings ──

  module _ (d : List ℤ) (wide : 2 * (2 * e) ≤ length d) (ways : List ℤ) (is : ways ≡ laid (2 * e) (λ h. row (heading g h)) d) where
    pub ways-heads : Heads ps os cs n e ways
    ways-heads = heads-laid ps os cs n e ways d wide is

    pub ways-near : Headings ways (2 * e)
    ways-near = headings-laid ps os cs n e ways d wide is F

    pub ways-apart : Apart os ways (2 * e)
    ways-apart = flat-apart ps os cs n e P ways ways-heads

  -- what a loop over m cells fills holds
  pub made : (f : ℕ → ℕ) (m k : ℕ) (t : List ℕ) → m ≤ k → t ≡ filled m f (replicate k 0) → Holds f t m
  made f m k t room is = filled-holds f t (replicate k 0) m (rw (length-replicate {A = ℕ} k 0) room) is

  -- ── followers ──

  module _ (ways : List ℤ) (H : Heads ps os cs n e ways) (d : List ℕ) (room : 2 * e ≤ length d) (next : List ℕ) (is : next ≡ filled (2 * e) (follower_at os ways (2 * e)) d) where
    pub next_filled : next ≡ filled (2 * e) (follower g) d
    next_filled = is ∙ followers-flat ps os cs n e ways H d

    pub next_holds : Holds (follower g) next (2 * e)
    next_holds = filled-holds (follower g) next d (2 * e) room next_filled

  pub next_permuted : (next : List ℕ) → Holds (follower g) next (2 * e) → Permutes next (2 * e)
  next_permuted next h = subst (Permutes next) (sym halves) (next_permutes g P next (of_count h))

  -- ── least half-edges ──

  module _ (next : List ℕ) (N : Holds (follower g) next (2 * e)) (d : List ℕ) (room : 2 * e ≤ length d) (lead : List ℕ) (is : lead ≡ filled (2 * e) (leader (take (2 * e) next)) d) where
    leader_is : (h : ℕ) → h < 2 * e → leader (take (2 * e) next) h ≡ lead_at (walks_of g) h
    leader_is h l = ap (λ (k : ℕ). leader (take k next) h) halves ∙ front-leader g P next (of_count N) h (omega (arith, halves))

    pub lead-filled : lead ≡ filled (2 * e) (lead_at (walks_of g)) d
    lead-filled = is ∙ filled-ext (leader (take (2 * e) next)) (lead_at (walks_of g)) (2 * e) d leader_is

    pub lead-holds : Holds (lead_at (walks_of g)) lead (2 * e)
    lead-holds = filled-holds (lead_at (walks_of g)) lead d (2 * e) room lead-filled

  pub lead-numbers : (lead : List ℕ) → Holds (lead_at (walks_of g)) lead (2 * e) → Numbers lead (2 * e) (2 * e)
  lead-numbers lead h = record { long = h.long; named = λ i l. omega (arith, halves, h.at i l, lead_below g P i (omega (arith, halves))) }

  -- ── greatest angles ──

  pub greatest-holds : (ways : List ℤ) → Heads ps os cs n e ways → (d : List ℕ) → n ≤ length d → (out : List ℕ) → out ≡ filled n (greatest_at os ways (2 * e)) d → Holds (λ v. Option·getD (greatest_out g v) absent) out n
  greatest-holds ways H d room out is =
      holds-ext (greatest_at os ways (2 * e)) (λ v. Option·getD (greatest_out g v) absent) out n (λ v l. flat-greatest ps os cs n e F ways H v) (filled-holds (greatest_at os ways (2 * e)) out d n room is)

  -- ── smallest vertices ──

  pub low_holds : (lead : List ℕ) (k : ℕ) → 2 * e ≤ k → (low : List ℕ) → low ≡ filled (2 * e) (low_at ps os lead (2 * e)) (replicate k 0) → Holds (low_at ps os lead (2 * e)) low (2 * e)
  low_holds lead k room low is = made (low_at ps os lead (2 * e)) (2 * e) k low room is

  -- ── the tables that are handed on ──

  -- by the definition's own count
  pub over_is : (f : ℕ → ℕ) (d t : List ℕ) → t ≡ filled (2 * e) f d → t ≡ over (table f (the_half_count g)) d
  over_is f d t is = is ∙ ap (λ (j : ℕ). filled j f d) halves

  leads-table : table (lead_at (walks_of g)) (the_half_count g) ≡ (walks_of g).lead
  leads-table = table-ext (lead_at (walks_of g)) (leader (followers g)) (the_half_count g) (lead_is g P)

  pub leads_over : (d t : List ℕ) → t ≡ filled (2 * e) (lead_at (walks_of g)) d → t ≡ over (walks_of g).lead d
  leads_over d t is = over_is (lead_at (walks_of g)) d t is ∙ ap (λ (l : List ℕ). over l d) leads-table

  -- what they hold
  pub linked-led : {next₀ lead₀ top₀ : List ℕ} (next lead top : List ℕ) → Linked g next₀ lead₀ top₀ next lead top → 2 * e ≤ length lead₀ → 2 * e ≤ length top₀ → Led g lead top
  linked-led {next₀} {lead₀} {top₀} next lead top A long-lead long-top = record {
    leads = filled-holds (lead_at (walks_of g)) lead lead₀ (the_half_count g) (omega (arith, halves, long-lead)) (A.lead_is ∙ ap (λ (l : List ℕ). over l lead₀) (sym leads-table));
    tops = filled-holds (top_of g) top top₀ (the_half_count g) (omega (arith, halves, long-top)) A.top_is;
  }

  module _ (lead top : List ℕ) (A : Led g lead top) where
    pub led-lead : Holds (lead_at (walks_of g)) lead (2 * e)
    led-lead = subst (Holds (lead_at (walks_of g)) lead) (sym halves) A.leads

    pub led-top : Holds (top_of g) top (2 * e)
    led-top = subst (Holds (top_of g) top) (sym halves) A.tops
