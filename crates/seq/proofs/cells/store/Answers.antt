-- `store` meets its contract: the W cells from W * r on are the row's. Assumes nothing.
use Rattle.std.proofs.Common.{◌≡◌, ◌*◌, ◌+◌, ◌-◌, length, sym, ◌∙◌, ap, arith}
use Rattle.seq.proofs.Parts.{length-part, part_stored}
use Rattle.seq.proofs.cells.store.Goals as goal

pub returns : goal.returns
returns g c =
    let t = c.args.t.now in
    let at = g.row.W * c.args.r in
    let k = at + g.row.W - at in
    let wide : length c.args.row ≡ k = sym (ap length c.copy_from_slice.ensures.after) ∙ c.copy_from_slice.ensures.len ∙ length-part t at k (omega (arith, c.requires)) in
    let e : k ≡ g.row.W = omega arith in
    part_stored t at k c.args.row _ c.copy_from_slice.ensures.after wide (omega (arith, c.requires))
