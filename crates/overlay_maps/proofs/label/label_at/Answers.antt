-- `overlay_maps::label::label_at` meets its contract. Assumes nothing.
use mathlib.Core.Path.{sym, ◌∙◌, ap, subst}
use Prim.Native.Nat.{◌≤◌}
use Rattle.overlay_maps.specs.Place.{label_at}
use Rattle.overlay_maps.specs.Given.{MapTables, the_layers, map_in, Legible, legible_part}
use Rattle.overlay_maps.proofs.label.label_at.Goals as goal

pub label_in-requires : goal.label_in-requires
label_in-requires c =
    let e = sym c.map_at.ensures in record {
      fact_1 = subst Legible e (legible_part (the_layers c.args.layers) c.args.part c.requires.fact_1);
      fact_2 = subst (λ (t : MapTables). c.args.at.source ≤ t.edges) e c.requires.fact_2;
      fact_3 = c.requires.fact_3;
    }

pub returns : goal.returns
returns c = c.label_in.ensures ∙ ap (λ (t : MapTables). label_at (map_in t) c.args.at) c.map_at.ensures
