-- `graph_faces::links::link_in` meets its contract. First what is known from the start and of each table as it is made; then the needs, call by call. Assumes nothing.
use Rattle.std.specs.Prelude.{◌*◌}
use mathlib.Core.Path.{◌≡◌}
use Prim.Native.Nat.{◌≤◌}
use native.Mathlib.Omega.{arith}
use Rattle.seq.specs.Seq.{List, Option·getD, ℕ, take, leader, length, filled, laid, ℤ}
use Rattle.seq.specs.Filled.{Holds}
use Rattle.paper.specs.Limits.{overlay_edges, absent}
use Rattle.paper.specs.Graph.{Graph, follower, heading, greatest_out}
use Rattle.paper.specs.Faces.{walks_of, lead_at}
use Rattle.laws_graph.specs.Plane.{Plane}
use Rattle.graph.specs.Flat.{flat_graph, Flat}
use Rattle.graph.specs.Heading.{row}
use Rattle.graph.specs.Follow.{Headings, Heads, follower_at}
use Rattle.graph.specs.Stars.{greatest_at, Roomy}
use Rattle.graph_faces.specs.Laws.Linking.{ways-heads, ways-near, ways-apart, next_filled, next_holds, next_permuted, lead-filled, lead-holds, greatest-holds, over_is, leads_over}
use Rattle.graph_faces.specs.Walked.{top_of}
use Rattle.graph_faces.proofs.links.link_in.Goals as goal
use Rattle.graph_faces.proofs.links.link_in.Goals.{After-follow_stars, After-headings_by, After-leads, After-rise-rising, After-tops_of, Start}

-- ── what is known ──
module _ (s : Start) where
  abbrev ps : List ℤ
  ps = s.args.g.points.now

  abbrev os : List ℕ
  os = s.args.g.origins.now

  abbrev cs : List ℤ
  cs = s.args.g.carriers.now

  abbrev n : ℕ
  n = s.args.g.vertices

  abbrev e : ℕ
  e = s.args.g.edges

  abbrev ways₀ : List ℤ
  ways₀ = s.args.ways.now

  abbrev out₀ : List ℕ
  out₀ = s.args.out.now

  abbrev next₀ : List ℕ
  next₀ = s.args.next.now

  abbrev lead₀ : List ℕ
  lead₀ = s.args.lead.now

  abbrev top₀ : List ℕ
  top₀ = s.args.top.now

  abbrev g : Graph
  g = flat_graph ps os cs n e

  abbrev F : Flat ps os cs n e
  F = s.requires.fact_1

  small : e ≤ overlay_edges
  small = s.requires.fact_2

  abbrev P : Plane g
  P = s.requires.fact_3

  abbrev wide : 2 * (2 * e) ≤ length ways₀
  wide = s.requires.fact_4.0

  abbrev long : 2 * e ≤ length next₀
  long = s.requires.fact_5.0

  big : 2 * e ≤ absent
  big = omega (arith, small)

  module _ (ways : List ℤ) (W : ways ≡ laid (2 * e) (λ h. row (heading g h)) ways₀) where
    heads : Heads ps os cs n e ways
    heads = ways-heads ps os cs n e F P ways₀ wide ways W

    near : Headings ways (2 * e)
    near = ways-near ps os cs n e F P ways₀ wide ways W

    roomy : Roomy os ways e n out₀ next₀
    roomy = record {
      origins = F.origins;
      headings = near;
      apart = ways-apart ps os cs n e F P ways₀ wide ways W;
      small = big;
      long_heads = s.requires.fact_4.1;
      long_next = long;
    }

    outs : (out : List ℕ) → out ≡ filled n (greatest_at os ways (2 * e)) out₀ → Holds (λ v. Option·getD (greatest_out g v) absent) out n
    outs out O = greatest-holds ps os cs n e F P ways heads out₀ s.requires.fact_4.1 out O

    module _ (next : List ℕ) (N : next ≡ filled (2 * e) (follower_at os ways (2 * e)) next₀) where
      next_at : next ≡ filled (2 * e) (follower g) next₀
      next_at = next_filled ps os cs n e F P ways heads next₀ long next N

      nexts : Holds (follower g) next (2 * e)
      nexts = next_holds ps os cs n e F P ways heads next₀ long next N

      module _ (lead : List ℕ) (L : lead ≡ filled (2 * e) (leader (take (2 * e) next)) lead₀) where
        lead_at_lem : lead ≡ filled (2 * e) (lead_at (walks_of g)) lead₀
        lead_at_lem = lead-filled ps os cs n e F P next nexts lead₀ s.requires.fact_5.1 lead L

        leads : Holds (lead_at (walks_of g)) lead (2 * e)
        leads = lead-holds ps os cs n e F P next nexts lead₀ s.requires.fact_5.1 lead L

pub follow_stars-requires : goal.follow_stars-requires
follow_stars-requires c =
    let W = c.headings_by in
    roomy (goal.at.follow_stars-requires c).Start W.new.out W.ensures

pub leads-requires : goal.leads-requires
leads-requires c =
    let W = c.headings_by in
    let N = c.follow_stars in
    let next = N.new.next in
    record {
      fact_1 = next_permuted (ps (goal.at.leads-requires c).Start) (os (goal.at.leads-requires c).Start) (cs (goal.at.leads-requires c).Start) (n (goal.at.leads-requires c).Start) (e (goal.at.leads-requires c).Start) (F (goal.at.leads-requires c).Start) (P (goal.at.leads-requires c).Start) next (nexts (goal.at.leads-requires c).Start W.new.out W.ensures next N.ensures.next);
      fact_2 = big (goal.at.leads-requires c).Start;
      fact_3 = c.requires.fact_5.1;
    }

pub tops_of-requires : goal.tops_of-requires
tops_of-requires c =
    let s = (goal.at.tops_of-requires c).Start in
    let W = c.headings_by in
    let N = c.follow_stars in
    let L = c.leads in
    let ways = W.new.out in
    let led = leads s ways W.ensures N.new.next N.ensures.next L.new.lead L.ensures in
    let out = outs s ways W.ensures N.new.heads N.ensures.greatest in
    record { fact_1 = F s; fact_2 = (small s, s.requires.fact_5.2); fact_3 = P s; fact_4 = c.rise-rising.ensures.rises; fact_5 = (led, out) }

pub returns : goal.returns
returns c =
    let s = (goal.at.returns c).Start in
    let W = c.headings_by in
    let N = c.follow_stars in
    let L = c.leads in
    let ways = W.new.out in
    let next = N.new.next in
    let lead = L.new.lead in
    let top = c.tops_of.new.top in
    record {
      next_is = over_is (ps s) (os s) (cs s) (n s) (e s) (F s) (P s) (follower (g s)) (next₀ s) next (next_at s ways W.ensures next N.ensures.next);
      lead_is = leads_over (ps s) (os s) (cs s) (n s) (e s) (F s) (P s) (lead₀ s) lead (lead_at_lem s ways W.ensures next N.ensures.next lead L.ensures);
      top_is = over_is (ps s) (os s) (cs s) (n s) (e s) (F s) (P s) (top_of (g s)) (top₀ s) top c.tops_of.ensures;
    }
