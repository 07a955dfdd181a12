-- `overlay_sweep::ahead::ahead_in` meets its contract. Assumes nothing.
use Rattle.std.specs.Prelude.{◌∷◌}
use mathlib.Core.Path.{sym, ◌∙◌, ap}
use mathlib.Core.Bool.{cond}
use Rattle.seq.specs.Seq.{Bool, []}
use Rattle.plane.specs.Values.{pt_of}
use Rattle.overlay_sweep.specs.Ahead.{room_lasts, queued_none, queued_one, requeued}
use Rattle.overlay_sweep.proofs.ahead.ahead_in.Goals as goal
use Rattle.overlay_sweep.proofs.ahead.ahead_in.Goals.{After-earlier, Start}

pub crossing_in-requires : goal.crossing_in-requires
crossing_in-requires c =
    let near = c.requires.fact_1.1 in
    record { fact_1 = c.requires.fact_2.points; fact_2 = near; fact_3 = room_lasts _ _ c.requires.fact_2 _ near; fact_4 = c.requires.fact_2.room }

pub returns-then-earlier : goal.returns-then-earlier
returns-then-earlier c =
    let a = c.args in
    let i = c.crossing_in in
    requeued (ap (λ (b : Bool). cond b (pt_of a.q ∷ []) []) (sym (sym c.earlier.ensures ∙ c.if-earlier.true)))
    (queued_one a.points.now i.new.points a.n i.result (pt_of a.q) c.requires.fact_2 c.requires.fact_1.1 i.auto.points i.ensures)

pub returns-else-earlier : goal.returns-else-earlier
returns-else-earlier c =
    let a = c.args in
    requeued (ap (λ (b : Bool). cond b (pt_of a.q ∷ []) []) (sym (sym c.earlier.ensures ∙ c.if-earlier.false))) (queued_none a.points.now a.n c.requires.fact_2)
