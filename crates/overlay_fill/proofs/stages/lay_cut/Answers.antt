-- `overlay_fill::stages::lay_cut` meets its contract. First what is known from the start and what was judged; then the needs, call by call. Assumes nothing.
use Rattle.std.specs.Prelude.{◌∷◌}
use mathlib.Core.Path.{◌≡◌, sym, ◌∙◌, ap}
use native.Mathlib.Omega.{arith}
use Rattle.seq.specs.Seq.{List, [], Option, ltb}
use Rattle.paper.specs.Limits.{maps}
use Rattle.paper.specs.Refusal.{Refusal, given, first_of}
use Rattle.paper.specs.Map.{Map}
use Rattle.paper.specs.Tables.{Counts}
use Rattle.paper.specs.Lent.{Lengths, lengths_of, room_in}
use Rattle.map_file.specs.Verdict.{verdict}
use Rattle.tables.specs.Values.{tables_by}
use Rattle.overlay_maps.specs.Layers.{Layers}
use Rattle.overlay_maps.specs.Given.{the_layers}
use Rattle.overlay_maps.specs.Held.{held_maps}
use Rattle.overlay_graph.specs.Cut.{Cut}
use Rattle.overlay_graph.specs.Given.{the_cut}
use Rattle.overlay_graph.specs.Laws.Drawing.{cut-drawable}
use Rattle.overlay_fill.proofs.JudgeLaws.{cut_over, cut_within}
use Rattle.overlay_fill.proofs.stages.lay_cut.Given.{Over}
use Rattle.overlay_fill.proofs.stages.lay_cut.Goals as goal
use Rattle.overlay_fill.proofs.stages.lay_cut.Goals.{Start}

-- ── what is known ──
module _ (g : Over) (s : Start g) where
  abbrev l : Layers
  l = the_layers s.args.layers

  abbrev ms : List Map
  ms = held_maps l

  abbrev k : Cut
  k = the_cut s.args.cut

  abbrev lent : Lengths
  lent = let a = s.args in lengths_of (tables_by a.vertices.now a.halves.now a.sources.now a.faces.now)

  -- what is judged, by the room of the lent tables
  abbrev judging : Counts → Option Refusal
  judging room = first_of (given 11 1 (ltb room.vertices k.vertices) ∷ given 11 2 (ltb room.edges k.edges) ∷ [])

-- ── the needs ──
pub lay-requires : goal.lay-requires
lay-requires g c =
    let s = (goal.at.lay-requires g c).Start in
    let p = c.requires in
    let w = cut_within (ms g s) (k g s) p.fact_2 (lent g s) (sym (c.over_room-check.ensures ∙ ap (judging g s) c.room_in-room.ensures) ∙ ap verdict c.in-Ok.is) in
    record {
      ready =
          record {
            held = p.fact_1;
            drawable = cut-drawable (l g s) p.fact_1 (k g s) p.fact_2 (omega (arith, w.vertices)) (omega (arith, w.edges)) (p.fact_3.points (omega (arith, w.vertices))) (p.fact_3.pieces (omega (arith, w.edges)));
            within = w;
          };
      cut_of = p.fact_2;
    }

pub returns-in-Err : goal.returns-in-Err
returns-in-Err g c =
    let s = (goal.at.returns-in-Err g c).Start in
    c.refuse.ensures
    ∙ g.met.L.Layout.refuses (ms g s) (lent g s) _
    (cut_over (ms g s) (k g s) c.requires.fact_2 (lent g s) _ (sym (c.over_room-check.ensures ∙ ap (judging g s) c.room_in-room.ensures) ∙ ap verdict c.in-Err.is))
