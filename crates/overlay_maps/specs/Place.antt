-- The label of a half-edge that lies at a place, and the part of the tables that a map stands in. Assumes nothing.
use Rattle.std.specs.Prelude.{◌+◌}
use Rattle.seq.specs.Seq.{List, ℕ, get_or}
use Rattle.paper.specs.Map.{Map}
use Rattle.plane.specs.Values.{pt_of, vec_of}
use Rattle.overlay_maps.specs.Label.{label_by}
use Rattle.overlay_maps.specs.declared.label.Place.{Place}
use Rattle.overlay_maps.specs.declared.label.Part.{Part}

abbrev pub label_at : Map → Place → ℕ
label_at m p = label_by m p.half (pt_of p.low) (vec_of p.up) p.source

-- of map i, by where each map's vertices and edges start
abbrev pub part_at : List ℕ → List ℕ → ℕ → Part
part_at vs es i = record { map = i; v = get_or vs i 0; w = get_or vs (i + 1) 0; a = get_or es i 0; b = get_or es (i + 1) 0 }
