-- What the code's vertices and edges are in the definitions, and when its net is that of an overlay. Assumes nothing.
use Rattle.paper.specs.Faces.{Overlay}
use Rattle.overlay_graph.specs.Cut.{Cut, cut_by}
use Rattle.overlay_graph.specs.Traced.{NetBy, FacesBy}
use Rattle.overlay_graph.specs.declared.cutting.Cut.{Cut as LentCut}
use Rattle.overlay_graph.specs.declared.tracing.Net.{Net as LentNet}

abbrev pub the_cut : LentCut → Cut
the_cut c = cut_by c.vertices c.points.now c.edges c.pieces.now

-- half-edges, walks and faces
abbrev pub NetOf : Overlay → Cut → LentNet → Type 0
NetOf o c n = NetBy o c n.ends.now n.lines.now × FacesBy o n.next.now n.face.now n.outers.now n.holes.now n.count
