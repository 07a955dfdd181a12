-- `melt::left::melt_faces` meets its contract. First the records of the tables and what is known of the labels; then the needs, call by call. Assumes nothing.
use mathlib.Core.Path.{◌∙◌, ap}
use native.Mathlib.Omega.{arith}
use lib.ListN.{length-replicate}
use Rattle.seq.specs.Seq.{List, ℕ, ℤ, pos}
use Rattle.paper.specs.Map.{Map}
use Rattle.paper.specs.Faces.{Overlay}
use Rattle.paper.specs.Lent.{Lengths, lengths_of}
use Rattle.tables.specs.Values.{tables_by}
use Rattle.overlay_maps.specs.Layers.{Layers}
use Rattle.overlay_maps.specs.Given.{the_layers}
use Rattle.overlay_maps.specs.Held.{held_maps}
use Rattle.overlay_graph.specs.Cut.{Cut, cut_by}
use Rattle.overlay_graph.specs.Given.{the_cut}
use Rattle.overlay_graph.specs.Laws.Standing.{keep}
use Rattle.overlay_pairs.specs.Pairs.{Outlined, readable}
use Rattle.thin.specs.Laws.Melted.{thinnable}
use Rattle.overlay_fill.specs.Judged.{laid_out}
use Rattle.melt.specs.Laws.Left.{faces-are, face_long, labelled, left_melted, left_drawable, left_within}
use Rattle.melt.specs.Laws.Judged.{melted_room, faces-fit}
use Rattle.melt.proofs.left.melt_faces.Given.{Over}
use Rattle.melt.proofs.left.melt_faces.Goals as goal
use Rattle.melt.proofs.left.melt_faces.Goals.{Start}

-- ── what is known ──
module _ (g : Over) (s : Start g) where
  abbrev L : Layers
  L = the_layers s.args.layers

  abbrev ms : List Map
  ms = held_maps L

  abbrev C : Cut
  C = the_cut s.args.cut

  abbrev lent : Lengths
  lent = let a = s.args in lengths_of (tables_by a.vertices.now a.halves.now a.sources.now a.faces.now)

  abbrev O : Outlined L C s.args.net.ends.now s.args.net.lines.now s.args.net.next.now s.args.net.outers.now s.args.net.count
  O = s.requires.fact_2

-- ── the needs ──
pub overflow_add-net : goal.overflow_add-net
overflow_add-net g c = omega (arith, c.requires.fact_5.0)

pub lay_labels-requires : goal.lay_labels-requires
lay_labels-requires g c =
    let s = (goal.at.lay_labels-requires g c).Start in
    let n = c.args.net in
    record {
      fact_1 = (O g s).held;
      fact_2 = readable (L g s) (C g s) n.ends.now n.lines.now n.next.now n.outers.now n.count (O g s);
      fact_3 = omega (arith, c.requires.fact_5.1, length-replicate {A = ℕ} g.row.L 0);
    }

pub thin-kept-requires : goal.thin-kept-requires
thin-kept-requires g c =
    let s = (goal.at.thin-kept-requires g c).Start in
    let n = s.args.net in
    let D = (O g s).cut in
    let long = s.requires.fact_5 in
    let faces = faces-are (L g s) (C g s) s.requires.fact_1 n.ends.now n.lines.now n.next.now n.outers.now n.count (O g s) n.face.now s.requires.fact_3 in
    let faced = face_long (L g s) (C g s) s.requires.fact_1 n.ends.now n.lines.now n.next.now n.outers.now n.count (O g s) n.face.now s.requires.fact_3 in
    let known = labelled (L g s) (C g s) s.requires.fact_1 n.ends.now n.lines.now n.next.now n.outers.now n.count (O g s) n.face.now s.requires.fact_3 c.lay_labels.new.out _ c.lay_labels.ensures in
    record {
      fact_1 = thinnable (ms g s) (C g s) n.face.now c.lay_labels.new.out known D.points_long D.pieces_long faced (omega (arith, faces, c.lay_labels.auto.out, long.1, length-replicate {A = ℕ} g.row.L 0));
      fact_2 = (omega (arith, long.2, length-replicate {A = ℤ} g.row.P (pos 0)), omega (arith, long.3, length-replicate {A = ℕ} g.row.R 0));
    }

pub from_cut-requires : goal.from_cut-requires
from_cut-requires g c =
    let s = (goal.at.from_cut-requires g c).Start in
    let n = s.args.net in
    let t = c.thin-kept in
    let k = cut_by t.result.vertices t.new.newpoints t.result.edges t.new.newpieces in
    let long = s.requires.fact_5 in record {
      held = (O g s).held;
      drawable =
          left_drawable (L g s) (C g s) s.requires.fact_1 n.ends.now n.lines.now n.next.now n.outers.now n.count (O g s) n.face.now s.requires.fact_3 c.lay_labels.new.out _ c.lay_labels.ensures k t.ensures
          (omega (arith, long.2, t.auto.newpoints, length-replicate {A = ℤ} g.row.P (pos 0))) (omega (arith, long.3, t.auto.newpieces, length-replicate {A = ℕ} g.row.R 0));
      within = left_within (L g s) (C g s) s.requires.fact_1 n.ends.now n.lines.now n.next.now n.outers.now n.count (O g s) n.face.now s.requires.fact_3 c.lay_labels.new.out _ c.lay_labels.ensures k t.ensures (lent g s) s.requires.fact_4;
    }

pub returns : goal.returns
returns g c =
    let s = (goal.at.returns g c).Start in
    let n = s.args.net in
    let t = c.thin-kept in
    let k = cut_by t.result.vertices t.new.newpoints t.result.edges t.new.newpieces in
    let D = (O g s).cut in
    c.from_cut.ensures
    ∙ ap (λ (o : Overlay). laid_out (ms g s) o (lent g s)) (left_melted (L g s) (C g s) s.requires.fact_1 n.ends.now n.lines.now n.next.now n.outers.now n.count (O g s) n.face.now s.requires.fact_3 c.lay_labels.new.out _ c.lay_labels.ensures k t.ensures)
    ∙ melted_room (ms g s) (lent g s) (keep (L g s) (O g s).held)
    (faces-fit (ms g s) (C g s) s.requires.fact_1 D.few_vertices D.few_edges (lent g s) s.requires.fact_4 n.count (O g s).count_is s.requires.fact_5.0)
