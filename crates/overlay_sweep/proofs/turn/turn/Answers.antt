-- `overlay_sweep::turn::turn` meets its contract. Assumes nothing.
use mathlib.Core.Path.{sym, subst}
use Rattle.seq.specs.Seq.{ℕ}
use Rattle.plane.specs.Values.{pt_of}
use Rattle.overlay_sweep.specs.Threading.{Threading}
use Rattle.overlay_sweep.specs.Turned.{numbers-fewer}
use Rattle.overlay_sweep.proofs.turn.turn.Goals as goal
use Rattle.overlay_sweep.proofs.turn.turn.Goals.{After-edges_through-at, After-exchange-x, After-thread-u, Start}

pub edges_through-at-requires : goal.edges_through-at-requires
edges_through-at-requires c =
    let r = c.requires.fact_1 in
    record { fact_1 = (r.waits, r.started); fact_2 = c.requires.fact_3; fact_3 = c.requires.fact_4 }

pub thread-u-requires : goal.thread-u-requires
thread-u-requires c =
    let r = c.requires.fact_1 in
    let m = c.edges_through-at.ensures in
    let t = c.requires.fact_5 in
    record { fact_1 = (numbers-fewer r.waits m.starts.scan.within, m.starts.scan.low); fact_2 = (numbers-fewer r.named m.through.scan.within, m.through.scan.low); fact_3 = t }

pub exchange-x-requires : goal.exchange-x-requires
exchange-x-requires c =
    record { fact_1 = c.requires.fact_1; fact_2 = c.requires.fact_2; fact_3 = c.requires.fact_3; fact_4 = c.edges_through-at.ensures }

pub returns : goal.returns
returns c =
    let a = c.args in
    let at = c.edges_through-at in
    let t = c.thread-u in
    let x = c.exchange-x.ensures in
    record {
      turned = x.turned;
      threads = subst (λ (s : ℕ). Threading a.sheet.carriers.now a.sheet.e a.room a.v a.waits.now a.status.now (pt_of a.p) a.line.cut a.line.started s a.last.now a.nodes.now a.line.nodes t.new.last t.new.nodes t.result) (sym x.same.0)
          (record { from = at.result.from; to = at.result.to; meets = at.ensures; remembered = t.ensures.0; within = t.ensures.1 });
    }
