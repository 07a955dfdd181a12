-- `ovfile::bytes::put_fields` meets its contract: the fields are rows of two bytes. Assumes nothing.
use mathlib.Core.Path.{◌≡◌, ap, ◌∙◌}
use native.Mathlib.Omega.{arith}
use Rattle.seq.specs.Seq.{List, ℕ, length, get_or, sets}
use Rattle.paper.specs.Bytes.{le}
use Rattle.laws_file.specs.Bytes.{length-le}
use Rattle.seq.specs.Loops.Storing.{store_starts, store_turns, store_ends}
use Rattle.seq.specs.Rows.{gather-rows}
use Rattle.ovfile.proofs.bytes.put_fields.Goals as goal
use Rattle.ovfile.proofs.bytes.put_fields.Goals.{At-loop-i, In-loop-i, Start}
use Rattle.ovfile.proofs.bytes.put_fields.Invariants.{field}

two : (fields : List ℕ) (i : ℕ) → length (field fields i) ≡ 2
two fields i = length-le 2 (get_or fields i 0)

pub overflow_cast-fields : goal.overflow_cast-fields
overflow_cast-fields c =
    omega (arith, c.shared_slice_known-in-loop-i-1.given c.loop-i.i)

pub put-requires : goal.put-requires
put-requires c =
    omega (arith, c.loop-i.invariant.room, c.loop-i.invariant.kept)

pub loop-i-preserved : goal.loop-i-preserved
loop-i-preserved c =
    let fields = c.args.fields.now in
    store_turns c.loop-i.invariant (two fields) c.loop-i-test.true c.put.ensures

pub returns : goal.returns
returns c =
    let a = c.args in
    store_ends c.loop-i.invariant c.loop-i-test.false
    ∙ ap (sets a.buffer.now a.at) (gather-rows (le 2) a.fields.now)

pub loop-i-init : goal.loop-i-init
loop-i-init c = store_starts (omega arith)
