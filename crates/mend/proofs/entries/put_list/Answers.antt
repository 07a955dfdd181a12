-- `mend::entries::put_list` meets its contract: the four steps one behind the other. Assumes nothing.
use native.Mathlib.Omega.{arith}
use Rattle.mend.proofs.ListLaws.{list_put}
use Rattle.mend.proofs.entries.put_list.Goals as goal

pub put_step-b-requires : goal.put_step-b-requires
put_step-b-requires c = (c.requires.1, omega (arith, c.requires.2, c.put_step-a.auto, c.put_step-a.ensures.at))

pub put_step-c-requires : goal.put_step-c-requires
put_step-c-requires c = (c.requires.1, omega (arith, c.requires.2, c.put_step-a.auto, c.put_step-a.ensures.at, c.put_step-b.auto, c.put_step-b.ensures.at))

pub put_step-d-requires : goal.put_step-d-requires
put_step-d-requires c = (c.requires.0, omega (arith, c.requires.2, c.put_step-a.auto, c.put_step-a.ensures.at, c.put_step-b.auto, c.put_step-b.ensures.at, c.put_step-c.auto, c.put_step-c.ensures.at))

pub wipe_from-requires : goal.wipe_from-requires
wipe_from-requires c = omega (arith, c.requires.2, c.put_step-a.auto, c.put_step-a.ensures.at, c.put_step-b.auto, c.put_step-b.ensures.at, c.put_step-c.auto, c.put_step-c.ensures.at, c.put_step-d.auto, c.put_step-d.ensures.at)

pub returns : goal.returns
returns c =
    let a = c.args in
    list_put a.vertices.now a.edges.now a.n a.e a.list.now c.requires.2 _ _ _ _ _ _ _ _ _
    (c.put_step-a.ensures.list, c.put_step-a.ensures.at) (c.put_step-b.ensures.list, c.put_step-b.ensures.at) (c.put_step-c.ensures.list, c.put_step-c.ensures.at) (c.put_step-d.ensures.list, c.put_step-d.ensures.at) c.wipe_from.ensures

pub put_step-a-requires : goal.put_step-a-requires
put_step-a-requires c = (c.requires.0, omega (arith, c.requires.2))
