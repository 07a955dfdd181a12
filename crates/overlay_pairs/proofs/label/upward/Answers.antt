-- `overlay_pairs::label::upward` meets its contract. Assumes nothing.
use mathlib.Core.Path.{sym, ◌∙◌, ap, subst}
use Rattle.paper.specs.Plane.{Seg}
use Rattle.plane.specs.Bounds.{Direction}
use Rattle.plane.proofs.Machine.{vec_back}
use Rattle.overlay_pairs.proofs.label.upward.Goals as goal

pub returns : goal.returns
returns c =
    let r = c.carrier_at-s in
    let b = vec_back r.result.u r.result.v r.ensures.near.up_is in
    record { is = b ∙ ap (λ (z : Seg). z.up) r.ensures.is; near = subst Direction (sym b) r.ensures.near.up_is }
