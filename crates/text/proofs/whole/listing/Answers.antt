-- `text::whole::listing` meets its contract. Assumes nothing.
use mathlib.Core.Path.{ap}
use native.Mathlib.Omega.{arith}
use Rattle.paper.specs.Tables.{Counts}
use Rattle.text.specs.Lines.{gaps_text}
use Rattle.text.proofs.LineLaws.{put_as, put-behind, put-line, listing-parts}
use Rattle.text.proofs.whole.listing.Goals as goal

pub returns : goal.returns
returns c =
    let a = c.args in
    let counts : Counts = record { vertices = a.vertices; edges = a.edges; faces = a.count } in
    let last = put_as {n = 64} c.gaps_line.ensures (ap gaps_text c.gaps.ensures) (omega arith) in
    let parts = put-behind (put-behind c.counts_line-at.ensures c.put_faces-at.ensures) last in
    put-line {m = 85504} (put_as parts (listing-parts counts a.faces.now) (omega arith)) (omega arith) (omega arith)
