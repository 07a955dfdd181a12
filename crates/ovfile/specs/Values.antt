-- What the code's structs are in the definitions, and what the reader and the writer take for granted: the tables of the edges alone, and the newest layout. Assumes nothing.
use Rattle.seq.specs.Seq.{List, [], ℕ}
use Rattle.paper.specs.Tables.{Tables}
use Rattle.paper.specs.Limits.{coordinate_bytes, maps}
use Rattle.paper.specs.Ovfile as paper
use Rattle.tables.specs.Values.{tables_by}
use Rattle.ovfile.specs.Known.{Known}
use Rattle.ovfile.specs.declared.layout.Layout.{Layout}

-- "overlay files get version 2 with six bytes each" (02, Ask 7); "version 3: a third source after the second and a third label after the second" (02, Ask 13)
abbrev pub layout_from : Layout → paper.Layout
layout_from l = record { coordinate = l.coordinate; maps = l.maps }

-- the newest layout, which the writer writes
abbrev pub layout : paper.Layout
layout = record { coordinate = coordinate_bytes; maps = maps }

-- the tables of the edges alone: soundness asks no other
abbrev pub edge_tables : List ℕ → List ℕ → Tables
edge_tables hs ss = tables_by [] hs ss []

-- no layout leaves 64 bits
pub known_of : (l : Layout) → Known (layout_from l)
known_of l = record { coordinate = l.few_bytes; maps = l.few_maps }
