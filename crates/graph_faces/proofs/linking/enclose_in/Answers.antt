-- `graph_faces::linking::enclose_in` meets its contract. First what is known from the start and of the table of what is known of each walk; then the needs, call by call. Assumes nothing.
use Rattle.std.specs.Prelude.{◌+◌, ◌*◌}
use mathlib.Core.Path.{◌≡◌}
use Prim.Native.Nat.{◌≤◌, ◌<◌}
use native.Mathlib.Omega.{arith}
use Rattle.seq.specs.Count.{count-le}
use Rattle.seq.specs.Seq.{Bool, List, ℕ, length, count, filled, ℤ}
use Rattle.seq.specs.Filled.{Holds}
use Rattle.paper.specs.Limits.{overlay_edges, absent}
use Rattle.paper.specs.Graph.{Graph}
use Rattle.paper.specs.Faces.{walks_of, lead_at, face_in}
use Rattle.laws_graph.specs.Plane.{Plane}
use Rattle.graph.specs.Flat.{flat_graph, Flat, Numbers}
use Rattle.graph.specs.Rising.{RisesIf}
use Rattle.graph_faces.specs.Sides.{Sighted}
use Rattle.graph_faces.specs.Kinds.{Known, Faced, outer_lead, known_by, face_from}
use Rattle.graph_faces.specs.Linked.{Led}
use Rattle.graph_faces.specs.Laws.Linking.{over_is, lead-numbers, led-lead, led-top}
use Rattle.graph_faces.specs.Laws.Numbered.{tops-numbers, faced, face-filled, face_under, count-flat, outers-flat, holes-filled}
use Rattle.graph_faces.specs.Walked.{top_of}
use Rattle.graph_faces.proofs.linking.enclose_in.Goals as goal
use Rattle.graph_faces.proofs.linking.enclose_in.Goals.{Start}

-- ── what is known ──
module _ (s : Start) where
  abbrev ps : List ℤ
  ps = s.args.g.points.now

  abbrev os : List ℕ
  os = s.args.g.origins.now

  abbrev cs : List ℤ
  cs = s.args.g.carriers.now

  abbrev n : ℕ
  n = s.args.g.vertices

  abbrev e : ℕ
  e = s.args.g.edges

  abbrev lead : List ℕ
  lead = s.args.lead.now

  abbrev top : List ℕ
  top = s.args.top.now

  abbrev face₀ : List ℕ
  face₀ = s.args.face.now

  abbrev g : Graph
  g = flat_graph ps os cs n e

  abbrev F : Flat ps os cs n e
  F = s.requires.fact_1

  small : e ≤ overlay_edges
  small = s.requires.fact_2

  abbrev P : Plane g
  P = s.requires.fact_3

  abbrev A : Led g lead top
  A = s.requires.fact_4

  big : 2 * e ≤ absent
  big = omega (arith, small)

  L : Holds (lead_at (walks_of g)) lead (2 * e)
  L = led-lead ps os cs n e F P lead top A

  T : Holds (top_of g) top (2 * e)
  T = led-top ps os cs n e F P lead top A

  leads : Numbers lead (2 * e) (2 * e)
  leads = lead-numbers ps os cs n e F P lead L

  sighted : (c : Bool) → RisesIf c ps n → Sighted ps os cs n e c
  sighted c r = record { flat = F; small = big; plane = P; rises = r }

  -- with what is known of each walk
  module _ (known : List ℕ) (K : Known (known_by ps os cs n e lead top) lead known (2 * e)) where
    all-faced : Faced lead top known (2 * e)
    all-faced = faced ps os cs n e F P big lead top L T known K leads

    below : (r : ℕ) → r ≡ count (outer_lead lead top) (2 * e) → (h : ℕ) → h < 2 * e → face_from lead top known n h < r + 1
    below r q h l = omega (arith, face_under ps os cs n e F P big lead top L T known K h l, q)

    face_at_lem : (face : List ℕ) → face ≡ filled (2 * e) (face_from lead top known n) face₀ → face ≡ filled (2 * e) (face_in (walks_of g) (length g.points)) face₀
    face_at_lem face = face-filled ps os cs n e F P big lead top L T known K face₀ face

-- ── the needs ──
pub tell-count-requires : goal.tell-count-requires
tell-count-requires c =
    record {
      fact_1 = sighted (goal.at.tell-count-requires c).Start c.rise-rising.result c.rise-rising.ensures.rises;
      fact_2 = (leads (goal.at.tell-count-requires c).Start, tops-numbers (ps (goal.at.tell-count-requires c).Start) (os (goal.at.tell-count-requires c).Start) (cs (goal.at.tell-count-requires c).Start) (n (goal.at.tell-count-requires c).Start) (e (goal.at.tell-count-requires c).Start) (F (goal.at.tell-count-requires c).Start) (P (goal.at.tell-count-requires c).Start) (big (goal.at.tell-count-requires c).Start) (lead (goal.at.tell-count-requires c).Start) (top (goal.at.tell-count-requires c).Start) (L (goal.at.tell-count-requires c).Start) (T (goal.at.tell-count-requires c).Start));
      fact_3 = (c.requires.fact_5.0, c.requires.fact_5.2);
    }

pub overflow_add-count : goal.overflow_add-count
overflow_add-count c =
    omega (arith, small (goal.at.overflow_add-count c).Start, c.tell-count.ensures.counted, count-le (outer_lead (lead (goal.at.overflow_add-count c).Start) (top (goal.at.overflow_add-count c).Start)) (2 * e (goal.at.overflow_add-count c).Start))

pub settle-requires : goal.settle-requires
settle-requires c =
    let known = c.tell-count.new.known in
    let K = c.tell-count.ensures.known in
    let r = c.tell-count.ensures.counted in
    record {
      fact_1 = all-faced (goal.at.settle-requires c).Start known K;
      fact_2 = big (goal.at.settle-requires c).Start;
      fact_3 = below (goal.at.settle-requires c).Start known K c.tell-count.result r;
      fact_4 = (c.requires.fact_5.1, omega (arith, c.requires.fact_5.3, r, count-le (outer_lead (lead (goal.at.settle-requires c).Start) (top (goal.at.settle-requires c).Start)) (2 * e (goal.at.settle-requires c).Start)));
    }

pub returns : goal.returns
returns c =
    let known = c.tell-count.new.known in
    let K = c.tell-count.ensures.known in
    let face = c.settle.new.faces in
    record {
      face_is = over_is (ps (goal.at.returns c).Start) (os (goal.at.returns c).Start) (cs (goal.at.returns c).Start) (n (goal.at.returns c).Start) (e (goal.at.returns c).Start) (F (goal.at.returns c).Start) (P (goal.at.returns c).Start) (face_in (walks_of (g (goal.at.returns c).Start)) (length (g (goal.at.returns c).Start).points)) (face₀ (goal.at.returns c).Start) face (face_at_lem (goal.at.returns c).Start known K face c.settle.ensures.faces);
      outers_is = outers-flat (ps (goal.at.returns c).Start) (os (goal.at.returns c).Start) (cs (goal.at.returns c).Start) (n (goal.at.returns c).Start) (e (goal.at.returns c).Start) (F (goal.at.returns c).Start) (P (goal.at.returns c).Start) (big (goal.at.returns c).Start) (lead (goal.at.returns c).Start) (top (goal.at.returns c).Start) (L (goal.at.returns c).Start) (T (goal.at.returns c).Start) c.args.leaders.now c.tell-count.new.leaders c.tell-count.ensures.leaders;
      count_is = count-flat (ps (goal.at.returns c).Start) (os (goal.at.returns c).Start) (cs (goal.at.returns c).Start) (n (goal.at.returns c).Start) (e (goal.at.returns c).Start) (F (goal.at.returns c).Start) (P (goal.at.returns c).Start) (big (goal.at.returns c).Start) (lead (goal.at.returns c).Start) (top (goal.at.returns c).Start) (L (goal.at.returns c).Start) (T (goal.at.returns c).Start) c.tell-count.result c.tell-count.ensures.counted;
      holes_is = holes-filled (ps (goal.at.returns c).Start) (os (goal.at.returns c).Start) (cs (goal.at.returns c).Start) (n (goal.at.returns c).Start) (e (goal.at.returns c).Start) (F (goal.at.returns c).Start) (P (goal.at.returns c).Start) (big (goal.at.returns c).Start) (lead (goal.at.returns c).Start) (top (goal.at.returns c).Start) (L (goal.at.returns c).Start) (T (goal.at.returns c).Start) known K c.tell-count.result c.args.inside.now c.settle.new.inside c.settle.ensures.inside;
    }
