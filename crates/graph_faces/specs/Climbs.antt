-- Edges in the order of their lower ends, each from its lower end: then the smallest vertex of a walk is the lower end of the edge of its least half-edge (`climb-smallest`), and no search for it is needed. In order: the words
-- of the contracts, the loop that finds out, the smallest vertex. Assumes nothing.
use Rattle.std.specs.Prelude.{◌≡◌, ◌≤◌, ◌<◌, ◌+◌, ◌*◌, ◌/◌}
use Rattle.std.proofs.Common.{sym, ◌∙◌, ap, subst, arith, le-ltb}
use Rattle.std.proofs.Math.Decide.{ℕ_discrete}
use Rattle.seq.specs.Seq.{false, List, Option·getD, ℕ, get_or, ℤ}
use Rattle.seq.specs.Filled.{Holds}
use Rattle.paper.specs.Limits.{absent}
use Rattle.paper.specs.Plane.{before}
use Rattle.paper.specs.Graph.{Graph, the_half_count, twin, origin, follower, followers, smallest, start, greatest_out}
use Rattle.paper.specs.Faces.{walks_of, lead_at}
use Rattle.laws_graph.specs.Plane.{Plane}
use Rattle.laws_graph.specs.Halves.{Which, which, twin-second}
use Rattle.laws_graph.specs.Follow.{follower-origin, follower_below}
use Rattle.laws_graph.specs.Walks.{Along, along-step, along-trans, along_below, lead-along, lead_below, lead-least}
use Rattle.laws_graph.specs.Holes.{smallest_is, smallest_below}
use Rattle.graph.specs.Flat.{origin_at, flat_graph, Flat}
use Rattle.graph.specs.Laws.Decode.{flat-points, flat-halves, flat_origin, flat_start}
use Rattle.graph.specs.Rising.{Rises, number_before}
use Rattle.graph_faces.specs.Walked.{top_of}

-- of e edges each starts at no smaller vertex than one before it, and ends at none smaller than it starts at
pub record Climbs (os : List ℕ) (e : ℕ) : Type 0 where
  pub order : (i k : ℕ) → i ≤ k → k < e → origin_at os (2 * i) ≤ origin_at os (2 * k)
  pub ends : (k : ℕ) → k < e → origin_at os (2 * k) ≤ origin_at os (2 * k + 1)

-- the half-edge of greatest angle out of the lower end of the edge of h's leader
abbrev pub top_by_lead : List ℕ → List ℕ → List ℕ → ℕ → ℕ
top_by_lead os ls gs h = get_or gs (origin_at os (2 * (get_or ls h 0 / 2))) 0

-- ── the loop ──

-- so far; the last of them starts at `last`
pub record Climbing (os : List ℕ) (k last : ℕ) : Type 0 where
  pub so_far : Climbs os k
  pub under : (i : ℕ) → i < k → origin_at os (2 * i) ≤ last

pub climb_starts : (os : List ℕ) (last : ℕ) → Climbing os 0 last
climb_starts os last = record { so_far = record { order = λ i k l b. absurd (omega arith); ends = λ k b. absurd (omega arith) }; under = λ i b. absurd (omega arith) }

pub climb_turns : (os : List ℕ) (k last : ℕ) → Climbing os k last → last ≤ origin_at os (2 * k) → origin_at os (2 * k) ≤ origin_at os (2 * k + 1) → Climbing os (k + 1) (origin_at os (2 * k))
climb_turns os k last C l m = record {
  so_far = record {
    order = λ i j b d. elim (ℕ_discrete j k) [
      | yes q ↦ subst (λ (z : ℕ). origin_at os (2 * i) ≤ origin_at os (2 * z)) (sym q) (up i (omega arith))
      | no q ↦ C.so_far.order i j b (omega arith)
    ];
    ends = λ j d. elim (ℕ_discrete j k) [
      | yes q ↦ subst (λ (z : ℕ). origin_at os (2 * z) ≤ origin_at os (2 * z + 1)) (sym q) m
      | no q ↦ C.so_far.ends j (omega arith)
    ];
  };
  under = λ i d. up i (omega arith);
}
  where
    up : (i : ℕ) → i ≤ k → origin_at os (2 * i) ≤ origin_at os (2 * k)
    up i b = elim (ℕ_discrete i k) [
      | yes q ↦ subst (λ (z : ℕ). origin_at os (2 * z) ≤ origin_at os (2 * k)) (sym q) (omega arith)
      | no q ↦ omega (arith, C.under i (omega arith), l)
    ]

pub climb_ends : (os : List ℕ) (k last e : ℕ) → Climbing os k last → e ≤ k → Climbs os e
climb_ends os k last e C l = record { order = λ i j b d. C.so_far.order i j b (omega arith); ends = λ j d. C.so_far.ends j (omega arith) }

-- ── the smallest vertex of a walk ──

module _ (ps : List ℤ) (os : List ℕ) (cs : List ℤ) (n e : ℕ) (F : Flat ps os cs n e) (P : Plane (flat_graph ps os cs n e)) (R : Rises ps n) (C : Climbs os e) where
  abbrev g : Graph
  g = flat_graph ps os cs n e

  halves : the_half_count (flat_graph ps os cs n e) ≡ 2 * e
  halves = flat-halves ps os cs n e

  -- no half-edge of an edge from k on starts lower than edge k does
  from_on : (k j : ℕ) → j < 2 * e → k ≤ j / 2 → origin_at os (2 * k) ≤ origin_at os j
  from_on k j l b = by (which j)
    where
      i : ℕ
      i = j / 2

      low : origin_at os (2 * k) ≤ origin_at os (2 * (j / 2))
      low = C.order k (j / 2) b (omega arith)

      by : Which j → origin_at os (2 * k) ≤ origin_at os j
      by w = elim (ℕ_discrete j (2 * (j / 2))) [
        | yes q ↦ subst (λ (z : ℕ). origin_at os (2 * k) ≤ origin_at os z) (sym q) low
        | no q ↦
            let r : j ≡ 2 * (j / 2) + 1 = omega arith in
            subst (λ (z : ℕ). origin_at os (2 * k) ≤ origin_at os z) (sym r) (omega (arith, low, C.ends (j / 2) (omega arith)))
      ]

  module _ (h : ℕ) (l : h < 2 * e) where
    below : h < the_half_count (flat_graph ps os cs n e)
    below = omega (arith, halves)

    abbrev lead : ℕ
    lead = lead_at (walks_of (flat_graph ps os cs n e)) h

    lead_under : lead_at (walks_of (flat_graph ps os cs n e)) h < 2 * e
    lead_under = omega (arith, halves, lead_below g P h below)

    -- a half-edge x of the walk that starts at the lower end of the leader's edge starts at the smallest vertex
    low_start : (x : ℕ) → Along (flat_graph ps os cs n e) h x → origin_at os x ≡ origin_at os (2 * (lead / 2)) → smallest g (followers g) h ≡ origin_at os (2 * (lead / 2))
    low_start x a q = smallest_is g P h below x a none_lower ∙ flat_origin ps os cs n e x lx ∙ q
      where
        lx : x < 2 * e
        lx = omega (arith, halves, along_below g P below a)

        none_lower : (j : ℕ) → Along (flat_graph ps os cs n e) h j → before (start g j) (start g x) ≡ false
        none_lower j b =
            let lj : j < 2 * e = omega (arith, halves, along_below g P below b) in
            let w : origin_at os (2 * (lead / 2)) ≤ origin_at os j = from_on (lead / 2) j lj (omega (arith, lead-least g P h j below b)) in
            (λ i. before (flat_start ps os cs n e F.origins j lj i) (flat_start ps os cs n e F.origins x lx i))
            ∙ sym (number_before ps n R (origin_at os j) (origin_at os x) (F.origins.named j lj) (F.origins.named x lx))
            ∙ le-ltb (origin_at os j) (origin_at os x) (omega (arith, w, q))

    -- the leader, or what follows it
    pub climb-smallest : smallest (flat_graph ps os cs n e) (followers (flat_graph ps os cs n e)) h ≡ origin_at os (2 * (lead_at (walks_of (flat_graph ps os cs n e)) h / 2))
    climb-smallest =
        let a = lead-along g P h below in
        elim (ℕ_discrete lead (2 * (lead / 2))) [
          | yes q ↦ low_start lead a (ap (origin_at os) q)
          | no q ↦
              let r : lead ≡ 2 * (lead / 2) + 1 = omega arith in
              let k : lead < the_half_count g = lead_below g P h below in
              let x = follower g lead in
              let lx : x < 2 * e = omega (arith, halves, follower_below g P lead k) in
              let lt : 2 * (lead / 2) < 2 * e = omega (arith, lead_under) in
              low_start x (along-trans g P a (along-step g P lead k))
              (sym (flat_origin ps os cs n e x lx) ∙ follower-origin g P lead ∙ ap (origin g) (ap twin r ∙ twin-second (lead / 2)) ∙ flat_origin ps os cs n e (2 * (lead / 2)) lt)
        ]

    -- so the tables give the half-edge of greatest angle out of it
    pub climb-top : (ls gs : List ℕ) → Holds (lead_at (walks_of (flat_graph ps os cs n e))) ls (2 * e) → Holds (λ v. Option·getD (greatest_out (flat_graph ps os cs n e) v) absent) gs n → top_by_lead os ls gs h ≡ top_of (flat_graph ps os cs n e) h
    climb-top ls gs L G =
        ap (λ (x : ℕ). get_or gs (origin_at os (2 * (x / 2))) 0) (L.at h l) ∙ ap (λ (v : ℕ). get_or gs v 0) (sym climb-smallest)
        ∙ G.at (smallest g (followers g) h) (omega (arith, smallest_below g P h below, flat-points ps os cs n e))
