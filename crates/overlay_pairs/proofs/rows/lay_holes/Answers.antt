-- `overlay_pairs::rows::lay_holes` meets its contract. Assumes nothing.
use Rattle.std.proofs.Common.{◌∙◌, ◌++◌, List, ℕ, ap, drop}
use Rattle.seq.proofs.Ranges.{copied}
use Rattle.overlay_pairs.proofs.rows.lay_holes.Goals as goal

pub returns : goal.returns
returns c =
    ap (λ (xs : List ℕ). xs ++ drop c.args.n c.args.out.now) c.copy_from_slice.ensures.after
    ∙ copied 0 c.args.n c.args.holes.now c.args.out.now c.requires.fact_1
