-- `looks::straying::strays_at` meets its contract: by the four cells of the row. Assumes nothing.
use mathlib.Core.Path.{◌≡◌, sym, ◌∙◌}
use Prim.Native.Nat.{◌+◌, ◌*◌}
use Rattle.graph.specs.Flat.{carrier_at}
use Rattle.graph.proofs.Rows.{wide, widened, widened_first}
use Rattle.looks.specs.Straying.{strays_by, strays_first, strays-second}
use Rattle.looks.proofs.straying.strays_at.Goals as goal

pub returns-else-strays_by : goal.returns-else-strays_by
returns-else-strays_by c =
    let rs = c.args.rails.now in
    let i = c.args.i in
    strays-second rs i _ _ (c.strays_by.ensures ∙ (λ j. strays_by (widened_first 4 rs i c.strays_by-arg-1.given j) (widened rs (4 * i + 2) c.strays_by-arg-2-1.given j))) c.if-strays_by.false
    (c.strays_by-else-strays_by.ensures ∙ (λ j. strays_by (widened rs (4 * i + 1) c.strays_by-arg-else-strays_by-1.given j) (widened rs (4 * i + 3) c.strays_by-arg-else-strays_by-2-1.given j)))
