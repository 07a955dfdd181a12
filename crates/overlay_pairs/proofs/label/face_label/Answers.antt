-- `overlay_pairs::label::face_label` meets its contract: face 0, a map with no edges, and another face, whose least outer half-edge has the label of the half-edge beside it that is read. Assumes
-- nothing.
use Rattle.std.specs.Prelude.{◌+◌}
use mathlib.Core.Path.{◌≡◌, sym, ◌∙◌, ap, subst}
use Prim.Native.Nat.{◌-◌, ◌<◌}
use native.Mathlib.Omega.{arith}
use lib.ListN.{length, get_or}
use Rattle.seq.specs.Seq.{ℕ}
use Rattle.overlay_maps.specs.Layers.{Layers}
use Rattle.overlay_maps.specs.Given.{the_layers}
use Rattle.overlay_maps.specs.Held.{held_map, edge_start}
use Rattle.overlay_pairs.specs.Labels.{half_label, Agreeing, outside-label, inner-label, inner, bare-map, bare-label}
use Rattle.overlay_pairs.proofs.label.face_label.Goals as goal
use Rattle.overlay_pairs.proofs.label.face_label.Goals.{Start}

abbrev L : Start → Layers
L s = the_layers s.args.layers

-- one label beside h in the map that is asked for
abbrev Agrees : Start → ℕ → Type 0
Agrees s h =
    let a = s.args in
    Agreeing (held_map (L s) a.m) a.cut.points.now a.net.ends.now a.net.lines.now a.cut.pieces.now a.net.next.now a.m (edge_start (L s) (a.m + 1) - edge_start (L s) a.m) h

-- what is read of a face that is not face 0
reads : (s : Start) → (s.args.f ≡ 0 → ⊥) → (s.args.f - 1 < length s.args.net.outers.now) × Agrees s (get_or s.args.net.outers.now (s.args.f - 1) 0)
reads s q =
    let a = s.args in
    inner a.cut.points.now a.net.ends.now a.net.lines.now a.cut.pieces.now a.m a.net.outers.now (held_map (L s) a.m) a.net.next.now (edge_start (L s) (a.m + 1) - edge_start (L s) a.m) a.f q s.requires.fact_3

-- beside its least outer half-edge
agrees : (s : Start) (h : ℕ) → (s.args.f ≡ 0 → ⊥) → h ≡ get_or s.args.net.outers.now (s.args.f - 1) 0 → Agrees s h
agrees s h q e = subst (Agrees s) (sym e) (reads s q).1

pub returns-then-f-eq0 : goal.returns-then-f-eq0
returns-then-f-eq0 c =
    let a = c.args in
    outside-label a.cut.points.now a.net.ends.now a.net.lines.now a.cut.pieces.now a.m a.net.outers.now (held_map (L (goal.at.returns-then-f-eq0 c).Start) a.m) a.f c.if-f-eq0.true

pub outer_of-h-requires : goal.outer_of-h-requires
outer_of-h-requires c =
    (omega (arith, c.if-f-eq0.false), omega (arith, c.if-f-eq0.false, (reads (goal.at.outer_of-h-requires c).Start c.if-f-eq0.false).0))

pub returns-then-layers-m : goal.returns-then-layers-m
returns-then-layers-m c =
    let a = c.args in
    bare-label (held_map (L (goal.at.returns-then-layers-m c).Start) a.m) a.cut.points.now a.net.ends.now a.net.lines.now a.cut.pieces.now a.net.next.now a.m (edge_start (L (goal.at.returns-then-layers-m c).Start) (a.m + 1) - edge_start (L (goal.at.returns-then-layers-m c).Start) a.m) a.net.outers.now a.f
    (bare-map (L (goal.at.returns-then-layers-m c).Start) a.m c.if-layers-m.true) (omega (arith, c.if-layers-m.true)) c.requires.fact_3

pub sourced_beside-x-requires : goal.sourced_beside-x-requires
sourced_beside-x-requires c =
    let g = agrees (goal.at.sourced_beside-x-requires c).Start c.outer_of-h.result c.if-f-eq0.false c.outer_of-h.ensures in
    record { fact_1 = c.requires.fact_2; fact_2 = g.few; fact_3 = (g.walked, g.behind) }

pub half_label-requires : goal.half_label-requires
half_label-requires c =
    record {
      fact_1 = c.requires.fact_1;
      fact_2 = (agrees (goal.at.half_label-requires c).Start c.outer_of-h.result c.if-f-eq0.false c.outer_of-h.ensures).labelled c.sourced_beside-x.result c.sourced_beside-x.ensures;
    }

pub returns : goal.returns
returns c =
    let a = c.args in
    let m = held_map (L (goal.at.returns c).Start) a.m in
    c.half_label.ensures ∙ (agrees (goal.at.returns c).Start c.outer_of-h.result c.if-f-eq0.false c.outer_of-h.ensures).same c.sourced_beside-x.result c.sourced_beside-x.ensures
    ∙ ap (half_label m a.cut.points.now a.net.ends.now a.net.lines.now a.cut.pieces.now a.m) c.outer_of-h.ensures
    ∙ inner-label a.cut.points.now a.net.ends.now a.net.lines.now a.cut.pieces.now a.m a.net.outers.now m a.f c.if-f-eq0.false
