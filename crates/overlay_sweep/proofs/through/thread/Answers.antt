-- `overlay_sweep::through::thread` meets its contract. Assumes nothing.
use Rattle.overlay_cut.specs.Laws.Remembering.{remembered_both_if}
use Rattle.overlay_sweep.specs.Threading.{spools-kept}
use Rattle.overlay_sweep.proofs.through.thread.Goals as goal
use Rattle.overlay_sweep.proofs.through.thread.Goals.{After-remember_all, After-remember_all-u, Start}

pub remember_all-u-requires : goal.remember_all-u-requires
remember_all-u-requires c =
    let r = c.requires in
    record { fact_1 = r.fact_2; fact_2 = r.fact_3.spools; fact_3 = r.fact_3.chains; fact_4 = r.fact_3.within }

pub remember_all-requires : goal.remember_all-requires
remember_all-requires c =
    let r = c.requires in
    let f = c.remember_all-u in
    record { fact_1 = r.fact_1; fact_2 = spools-kept r.fact_3.spools f.auto.last f.auto.nodes; fact_3 = (λ q. (f.ensures.0.now q).chains); fact_4 = f.ensures.1 }

pub returns : goal.returns
returns c =
    (remembered_both_if c.remember_all-u.ensures.0 c.remember_all.ensures.0, c.remember_all.ensures.1)
