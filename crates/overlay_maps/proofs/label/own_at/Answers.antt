-- `overlay_maps::label::own_at` meets its contract. Assumes nothing.
use mathlib.Core.Path.{sym, ◌∙◌, ap, subst}
use Prim.Native.Nat.{◌<◌}
use Rattle.overlay_maps.specs.Label.{own_label}
use Rattle.overlay_maps.specs.Given.{MapTables, the_layers, map_in, Legible, legible_part}
use Rattle.overlay_maps.proofs.label.own_at.Goals as goal

pub own_label-requires : goal.own_label-requires
own_label-requires c =
    let e = sym c.map_at.ensures in record {
      fact_1 = subst Legible e (legible_part (the_layers c.args.layers) c.args.part c.requires.fact_1);
      fact_2 = subst (λ (t : MapTables). c.args.k < t.edges) e c.requires.fact_2;
    }

pub returns : goal.returns
returns c = c.own_label.ensures ∙ ap (λ (t : MapTables). own_label (map_in t) c.args.h c.args.k) c.map_at.ensures
