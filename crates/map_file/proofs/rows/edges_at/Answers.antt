-- `map_file::rows::edges_at` meets its contract: below twice the counter the cells of both tables are those of the file, and the others as they were; the place is behind
-- the last edge read. Assumes nothing.
use Rattle.std.specs.Prelude.{◌+◌}
use mathlib.Core.Path.{◌∙◌, ap}
use native.Mathlib.Omega.{arith}
use borrow.Author.Rules.{rules}
use Rattle.seq.specs.Loops.Filling.{fill_starts}
use Rattle.seq.specs.Seq.{ℕ}
use Rattle.paper.specs.Bytes.{u16}
use Rattle.map_file.proofs.PlacesLaws.{from_is, to_is, left_is, right_is, fill_two}
use Rattle.map_file.proofs.rows.edges_at.Goals as goal
use Rattle.map_file.proofs.rows.edges_at.Goals.{After-u16_at, After-u16_at-in-loop-k, After-u16_at-in-loop-k-2, At-loop-k, Start}

pub loop-k-preserved : goal.loop-k-preserved
loop-k-preserved c =
    let s = c.args.file.now in
    let p = c.args.at in
    let k = c.loop-k.k in
    let here = c.loop-k.invariant.2 in (
      fill_two c.loop-k.invariant.0 (omega arith) (c.u16_at.ensures ∙ ap (u16 s) here ∙ from_is s p k) (c.u16_at-in-loop-k.ensures ∙ ap (λ (x : ℕ). u16 s (x + 2)) here ∙ to_is s p k),
      fill_two c.loop-k.invariant.1 (omega arith) (c.u16_at-in-loop-k-2.ensures ∙ ap (λ (x : ℕ). u16 s (x + 4)) here ∙ left_is s p k) (c.u16_at-in-loop-k-3.ensures ∙ ap (λ (x : ℕ). u16 s (x + 6)) here ∙ right_is s p k),
      omega arith,
    )

pub loop-k-init : goal.loop-k-init
loop-k-init c = (fill_starts (search rules), fill_starts (search rules), search rules)
