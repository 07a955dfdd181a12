-- `graph_faces::links::tops_of` meets its contract: where the edges climb, and where they do not. Assumes nothing.
use Rattle.std.specs.Prelude.{◌*◌}
use mathlib.Core.Path.{◌≡◌, ◌∙◌}
use Prim.Native.Nat.{◌≤◌}
use native.Mathlib.Omega.{arith}
use Rattle.seq.specs.Seq.{List, Option·getD, ℕ, length, replicate, filled, ℤ}
use Rattle.seq.specs.Filled.{Holds, filled-ext}
use Rattle.paper.specs.Limits.{absent}
use Rattle.paper.specs.Graph.{greatest_out}
use Rattle.paper.specs.Faces.{walks_of, lead_at}
use Rattle.laws_graph.specs.Plane.{Plane}
use Rattle.graph.specs.Flat.{flat_graph, Flat, Numbers}
use Rattle.graph.specs.Heading.{flat_starts}
use Rattle.graph_faces.specs.Climbs.{top_by_lead, climb-top}
use Rattle.graph_faces.specs.Turns.{low_at}
use Rattle.graph_faces.specs.Walked.{top_of}
use Rattle.graph_faces.specs.Laws.Linking.{lead-numbers, low_holds}
use Rattle.graph_faces.proofs.Laws.Linking.{low_cells, top-filled}
use Rattle.graph_faces.proofs.links.tops_of.Goals as goal
use Rattle.graph_faces.proofs.links.tops_of.Goals.{Start}

-- ── what is known ──
module _ (s : Start) where
  abbrev ps : List ℤ
  ps = s.args.g.points.now

  abbrev os : List ℕ
  os = s.args.g.origins.now

  abbrev cs : List ℤ
  cs = s.args.g.carriers.now

  abbrev n : ℕ
  n = s.args.g.vertices

  abbrev e : ℕ
  e = s.args.g.edges

  abbrev lead : List ℕ
  lead = s.args.lead.now

  abbrev greatest : List ℕ
  greatest = s.args.greatest.now

  abbrev F : Flat s.args.g.points.now s.args.g.origins.now s.args.g.carriers.now s.args.g.vertices s.args.g.edges
  F = s.requires.fact_1

  abbrev P : Plane (flat_graph s.args.g.points.now s.args.g.origins.now s.args.g.carriers.now s.args.g.vertices s.args.g.edges)
  P = s.requires.fact_3

  abbrev L : Holds (lead_at (walks_of (flat_graph s.args.g.points.now s.args.g.origins.now s.args.g.carriers.now s.args.g.vertices s.args.g.edges))) s.args.lead.now (2 * s.args.g.edges)
  L = s.requires.fact_5.0

  abbrev G : Holds (λ v. Option·getD (greatest_out (flat_graph s.args.g.points.now s.args.g.origins.now s.args.g.carriers.now s.args.g.vertices s.args.g.edges) v) absent) s.args.greatest.now s.args.g.vertices
  G = s.requires.fact_5.1

  big : 2 * s.args.g.edges ≤ absent
  big = omega (arith, s.requires.fact_2.0)

  leaders : Numbers s.args.lead.now (2 * s.args.g.edges) (2 * s.args.g.edges)
  leaders = lead-numbers ps os cs n e F P lead L

  starts : Numbers s.args.g.origins.now (2 * s.args.g.edges) (length s.args.greatest.now)
  starts = record { long = F.origins.long; named = λ i l. omega (arith, F.origins.named i l, G.long) }

  lows : (low : List ℕ) → low ≡ filled (2 * s.args.g.edges) (low_at s.args.g.points.now s.args.g.origins.now s.args.lead.now (2 * s.args.g.edges)) (replicate 4000 0) → Holds (low_at s.args.g.points.now s.args.g.origins.now s.args.lead.now (2 * s.args.g.edges)) low (2 * s.args.g.edges)
  lows low O = low_holds ps os cs n e F P lead 4000 (omega (arith, s.requires.fact_2.0)) low O

-- ── the needs ──
pub tops_by_leads-requires : goal.tops_by_leads-requires
tops_by_leads-requires c =
    record {
      fact_1 = leaders (goal.at.tops_by_leads-requires c).Start;
      fact_2 = big (goal.at.tops_by_leads-requires c).Start;
      fact_3 = starts (goal.at.tops_by_leads-requires c).Start;
      fact_4 = c.requires.fact_2.1;
    }

pub lows-requires : goal.lows-requires
lows-requires c =
    record {
      fact_1 = flat_starts (ps (goal.at.lows-requires c).Start) (os (goal.at.lows-requires c).Start) (cs (goal.at.lows-requires c).Start) (n (goal.at.lows-requires c).Start) (e (goal.at.lows-requires c).Start) (F (goal.at.lows-requires c).Start);
      fact_2 = leaders (goal.at.lows-requires c).Start;
      fact_3 = big (goal.at.lows-requires c).Start;
      fact_4 = omega (arith, c.requires.fact_2.0);
      fact_5 = (c.requires.fact_4, (F (goal.at.lows-requires c).Start).origins);
    }

pub tops-requires : goal.tops-requires
tops-requires c =
    let B = c.lows in
    let low = B.new.out in
    let O = lows (goal.at.tops-requires c).Start low B.ensures in
    record {
      fact_1 = leaders (goal.at.tops-requires c).Start;
      fact_2 = O.long;
      fact_3 = low_cells (ps (goal.at.tops-requires c).Start) (os (goal.at.tops-requires c).Start) (cs (goal.at.tops-requires c).Start) (n (goal.at.tops-requires c).Start) (e (goal.at.tops-requires c).Start) (F (goal.at.tops-requires c).Start) (P (goal.at.tops-requires c).Start) (lead (goal.at.tops-requires c).Start) low (L (goal.at.tops-requires c).Start) O;
      fact_4 = starts (goal.at.tops-requires c).Start;
      fact_5 = c.requires.fact_2.1;
    }

pub returns-then-climb : goal.returns-then-climb
returns-then-climb c =
    let C = c.climb.ensures c.if-climb.true in
    c.tops_by_leads.ensures
    ∙ filled-ext (top_by_lead (os (goal.at.returns-then-climb c).Start) (lead (goal.at.returns-then-climb c).Start) (greatest (goal.at.returns-then-climb c).Start)) (top_of (flat_graph (ps (goal.at.returns-then-climb c).Start) (os (goal.at.returns-then-climb c).Start) (cs (goal.at.returns-then-climb c).Start) (n (goal.at.returns-then-climb c).Start) (e (goal.at.returns-then-climb c).Start))) (2 * e (goal.at.returns-then-climb c).Start) c.args.top.now
    (λ h l. climb-top (ps (goal.at.returns-then-climb c).Start) (os (goal.at.returns-then-climb c).Start) (cs (goal.at.returns-then-climb c).Start) (n (goal.at.returns-then-climb c).Start) (e (goal.at.returns-then-climb c).Start) (F (goal.at.returns-then-climb c).Start) (P (goal.at.returns-then-climb c).Start) (c.requires.fact_4 C.0) C.1 h l (lead (goal.at.returns-then-climb c).Start) (greatest (goal.at.returns-then-climb c).Start) (L (goal.at.returns-then-climb c).Start) (G (goal.at.returns-then-climb c).Start))

pub returns-else-climb : goal.returns-else-climb
returns-else-climb c =
    let B = c.lows in
    let low = B.new.out in
    top-filled (ps (goal.at.returns-else-climb c).Start) (os (goal.at.returns-else-climb c).Start) (cs (goal.at.returns-else-climb c).Start) (n (goal.at.returns-else-climb c).Start) (e (goal.at.returns-else-climb c).Start) (F (goal.at.returns-else-climb c).Start) (P (goal.at.returns-else-climb c).Start) (lead (goal.at.returns-else-climb c).Start) low (L (goal.at.returns-else-climb c).Start) (lows (goal.at.returns-else-climb c).Start low B.ensures) (greatest (goal.at.returns-else-climb c).Start) (G (goal.at.returns-else-climb c).Start) c.args.top.now _ c.tops.ensures
