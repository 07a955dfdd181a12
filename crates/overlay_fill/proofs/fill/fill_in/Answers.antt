-- `overlay_fill::fill::fill_in` meets its contract. In order: the records of the tables, what each call asks, what is stored. Assumes nothing.
use mathlib.Core.Path.{◌≡◌, ◌∙◌, ap}
use Prim.Native.Nat.{ℕ, ◌≤◌}
use native.Mathlib.Omega.{arith}
use lib.ListN.{length, replicate, length-replicate}
use Rattle.paper.specs.Limits.{overlay_vertices, overlay_edges}
use Rattle.paper.specs.Refusal.{done}
use Rattle.paper.specs.Lent.{Lengths, lengths_of, padded_tables}
use Rattle.tables.specs.Values.{tables_by}
use Rattle.overlay_maps.specs.Layers.{Layers}
use Rattle.overlay_maps.specs.Given.{the_layers}
use Rattle.overlay_maps.specs.Held.{held_maps}
use Rattle.overlay_graph.specs.Cut.{Cut, overlay_in}
use Rattle.overlay_graph.specs.Given.{the_cut}
use Rattle.overlay_graph.specs.Traced.{Traced, traced_by, TracedOf, PrevBy, LeastBy}
use Rattle.overlay_graph.specs.Laws.Backwards.{next_named, prev_by, least_by, face_long}
use Rattle.overlay_pairs.specs.Pairs.{Whole}
use Rattle.overlay_fill.proofs.StoredLaws.{counts-are, stored_is}
use Rattle.overlay_fill.proofs.fill.fill_in.Given.{Over}
use Rattle.overlay_fill.proofs.fill.fill_in.Goals as goal
use Rattle.overlay_fill.proofs.fill.fill_in.Goals.{After-rows_in, Start}

-- ── the records ──
module _ (g : Over) (s : Start g) where
  abbrev L : Layers
  L = the_layers s.args.layers

  abbrev C : Cut
  C = the_cut s.args.cut

  abbrev lent : Lengths
  lent = let a = s.args in lengths_of (tables_by a.vertices.now a.halves.now a.sources.now a.faces.now)

  few : s.args.cut.vertices ≤ overlay_vertices
  few = s.requires.ready.drawable.few_vertices

  short : s.args.cut.edges ≤ overlay_edges
  short = s.requires.ready.drawable.few_edges

  whole : Whole L C s.args.net.ends.now s.args.net.lines.now s.args.net.next.now s.args.net.outers.now s.args.net.holes.now s.args.net.count
  whole =
      let F = s.requires.traced.1 in
      record {
        outlined = record { held = s.requires.ready.held; cut = s.requires.ready.drawable; net_by = s.requires.traced.0; next_is = F.next_is; outers_is = F.outers_is; count_is = F.count_is };
        holes_is = F.holes_is;
      }

-- a table of n cells
long : (n : ℕ) → length {A = ℕ} (replicate n 0) ≡ n
long n = length-replicate {A = ℕ} n 0

-- ── what each call asks ──
pub overflow_mul-cut : goal.overflow_mul-cut
overflow_mul-cut g c = omega (arith, short g (goal.at.overflow_mul-cut g c).Start)

pub overflow_mul-cut-2 : goal.overflow_mul-cut-2
overflow_mul-cut-2 g c = omega (arith, short g (goal.at.overflow_mul-cut-2 g c).Start)

pub first_places-requires : goal.first_places-requires
first_places-requires g c =
    let s = (goal.at.first_places-requires g c).Start in
    let n = c.args.net in record {
      fact_1 = next_named (held_maps (L g s)) (C g s) c.requires.ready.drawable n.ends.now n.lines.now c.requires.traced.0 n.next.now n.face.now n.outers.now n.holes.now n.count c.requires.traced.1;
      fact_2 = omega (arith, short g s);
      fact_3 = omega (arith, c.requires.rooms.1, long g.row.H);
    }

pub overflow_mul-cut-3 : goal.overflow_mul-cut-3
overflow_mul-cut-3 g c = omega (arith, short g (goal.at.overflow_mul-cut-3 g c).Start)

pub first_places-requires-2 : goal.first_places-requires-2
first_places-requires-2 g c =
    record { fact_1 = c.requires.traced.0.flat.origins; fact_2 = omega (arith, short g (goal.at.first_places-requires-2 g c).Start); fact_3 = omega (arith, c.requires.rooms.2, long g.row.V) }

pub rows_in-requires : goal.rows_in-requires
rows_in-requires g c =
    let r = c.requires.rooms in
    record { fact_1 = whole g (goal.at.rows_in-requires g c).Start; fact_2 = (omega (arith, r.3, long g.row.L), omega (arith, r.4, long g.row.F), omega (arith, r.4, long g.row.F)) }

pub overflow_cast-v : goal.overflow_cast-v
overflow_cast-v g c = omega (arith, few g (goal.at.overflow_cast-v g c).Start)

pub overflow_cast-e : goal.overflow_cast-e
overflow_cast-e g c = omega (arith, short g (goal.at.overflow_cast-e g c).Start)

pub overflow_add-f : goal.overflow_add-f
overflow_add-f g c = omega (arith, c.requires.rooms.0)

pub overflow_cast-f : goal.overflow_cast-f
overflow_cast-f g c = omega (arith, c.requires.rooms.0)

pub store_vertices-requires : goal.store_vertices-requires
store_vertices-requires g c =
    (omega (arith, c.requires.ready.within.vertices), c.requires.traced.0.flat.points.long, omega (arith, c.requires.rooms.2, c.first_places-2.auto.out, long g.row.V))

pub store_halves-requires : goal.store_halves-requires
store_halves-requires g c =
    let s = (goal.at.store_halves-requires g c).Start in
    let n = s.args.net in
    let N = s.requires.traced.0 in
    let F = s.requires.traced.1 in (
      short g s,
      omega (arith, s.requires.ready.within.edges),
      N.flat.origins.long,
      (next_named (held_maps (L g s)) (C g s) s.requires.ready.drawable n.ends.now n.lines.now N n.next.now n.face.now n.outers.now n.holes.now n.count F).long,
      omega (arith, s.requires.rooms.1, c.first_places.auto.out, long g.row.H),
      face_long (held_maps (L g s)) (C g s) s.requires.ready.drawable n.ends.now n.lines.now N n.next.now n.face.now n.outers.now n.holes.now n.count F,
    )

pub store_sources-requires : goal.store_sources-requires
store_sources-requires g c = (omega (arith, c.requires.ready.within.edges), c.requires.ready.drawable.pieces_long)

pub store_faces-requires : goal.store_faces-requires
store_faces-requires g c =
    let r = c.requires.rooms in
    let kept = c.rows_in.auto in
    (omega (arith, r.0), omega (arith, r.3, kept.triples, long g.row.L), omega (arith, r.4, kept.outer, long g.row.F), omega (arith, r.4, kept.counts, long g.row.F))

-- ── what is stored ──
module _ (g : Over) (c : After-rows_in g) (s : Start g) (prev : PrevBy (overlay_in (held_maps (L g s)) (C g s)) (C g s) c.first_places.new.out) (least : LeastBy (overlay_in (held_maps (L g s)) (C g s)) (C g s) c.first_places-2.new.out) where
  abbrev T : Traced
  T = let n = s.args.net in traced_by n.ends.now n.lines.now n.next.now c.first_places.new.out c.first_places-2.new.out n.face.now n.outers.now n.holes.now n.count

  traced : TracedOf (held_maps (L g s)) (C g s) T
  traced = record { net_by = s.requires.traced.0; faces_by = s.requires.traced.1; prev_is = prev; least_is = least }

pub returns : goal.returns
returns g c =
    let s = (goal.at.returns g c).Start in
    let r : After-rows_in g = (goal.at.returns g c).After-rows_in in
    let n = s.args.net in
    let N = s.requires.traced.0 in
    let F = s.requires.traced.1 in
    let x = r.rows_in.new in
    let ms = held_maps (L g s) in
    let P = prev_by ms (C g s) s.requires.ready.drawable n.ends.now n.lines.now N n.next.now n.face.now n.outers.now n.holes.now n.count F _ _ c.first_places.ensures in
    let Q = least_by ms (C g s) s.requires.ready.drawable n.ends.now n.lines.now N _ _ c.first_places-2.ensures in
    let counted = counts-are ms (C g s) (T g r s P Q) (traced g r s P Q) x.triples x.outer x.counts r.rows_in.ensures in
    let stored = stored_is ms (C g s) (T g r s P Q) (traced g r s P Q) x.triples x.outer x.counts r.rows_in.ensures in
    λ i. record {
      answer = done (counted i);
      tables = ((λ j. tables_by (c.store_vertices.ensures j) (c.store_halves.ensures j) (c.store_sources.ensures j) (c.store_faces.ensures j)) ∙ ap (padded_tables (lent g s)) stored) i;
    }
