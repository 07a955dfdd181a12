-- `soundings::closing::lay_pairs` meets its contract. Assumes nothing.
use mathlib.Core.Path.{◌∙◌}
use native.Mathlib.Omega.{arith}
use Rattle.std.proofs.Common.{◌++◌, ◌*◌, List, ℕ, ap, drop, length, get_or}
use Rattle.seq.specs.Seq.{none}
use Rattle.seq.proofs.Ranges.{copied}
use Rattle.seq.specs.Filled.{length-filled}
use Rattle.paper.specs.Soundings.{counted}
use Rattle.laws_soundings.specs.Run.{cells_by}
use Rattle.soundings.specs.Answer.{room_by}
use Rattle.soundings.specs.Closing.{laid-entries}
use Rattle.soundings.proofs.closing.lay_pairs.Goals as goal

pub returns : goal.returns
returns c =
    let a = c.args in
    let p = a.p in
    let x = c.copy_from_slice in
    let y = c.copy_from_slice-2 in
    let n = 2 * p.entries in
    let e = ap (λ (xs : List ℕ). xs ++ drop n a.labels.now) x.ensures.after ∙ copied 0 n a.own.now a.labels.now (omega arith) in
    let f = ap (λ (xs : List ℕ). xs ++ drop p.entries a.counts.now) y.ensures.after ∙ copied 0 p.entries a.times.now a.counts.now (omega arith) in
    let u = ap length e ∙ length-filled (λ i. get_or a.own.now i 0) n a.labels.now (omega arith) in
    let v = ap length f ∙ length-filled (λ i. get_or a.times.now i 0) p.entries a.counts.now (omega arith) in
    c.finish.ensures
    ∙ (λ i. counted (room_by (u i) (v i)) (cells_by p.entries p.soundings p.read) (laid-entries a.own.now a.times.now a.labels.now a.counts.now _ _ p.entries e f i) none)
