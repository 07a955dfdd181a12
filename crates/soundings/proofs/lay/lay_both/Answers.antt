-- `soundings::lay::lay_both` meets its contract: the first refusal of the two, and where there is none both are laid. Assumes nothing.
use mathlib.Core.Path.{sym, ap, ◌∙◌}
use mathlib.Core.List.{[], ◌∷◌}
use Rattle.paper.specs.Refusal.{first_of, the_of_map}
use Rattle.paper.specs.Map.{fault}
use Rattle.map_file.specs.Verdict.{verdict}
use Rattle.laws_refusals.specs.Refusals.{of_none, first_one}
use Rattle.soundings.proofs.lay.lay_both.Goals as goal

pub returns : goal.returns
returns c =
    let a = fault c.args.zones.now in
    let b = fault c.args.blocks.now in
    let n = sym (ap verdict c.in_ok-first.was) ∙ c.lay_one-first.ensures.0 in
    let e = c.lay_one-second.ensures.0 in (
      e ∙ sym (first_one (the_of_map 2 b)) ∙ (λ i. first_of (n i ∷ the_of_map 2 b ∷ [])),
      λ q. c.lay_one-first.ensures.1 (of_none 1 a (sym n)),
      λ q. c.lay_one-second.ensures.1 (of_none 2 b (sym e ∙ q)),
    )
