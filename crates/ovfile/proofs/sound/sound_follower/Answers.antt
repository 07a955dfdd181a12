-- `ovfile::sound::sound_follower` meets its contract. Assumes nothing.
use Rattle.std.specs.Prelude.{◌&&◌, ◌*◌}
use mathlib.Core.Path.{sym, ap, ◌∙◌}
use borrow.Author.Tests.{lt-ltb, le-ltb}
use Rattle.std.proofs.lemmas.Bool.{false≢true}
use Rattle.seq.specs.Seq.{ℕ, ltb, eqb, get_or}
use Rattle.paper.specs.Graph.{twin}
use Rattle.ovfile.specs.Firsts.{column}
use Rattle.ovfile.proofs.SoundLaws.{follower-test, last_decides}
use Rattle.ovfile.proofs.sound.sound_follower.Goals as goal
use Rattle.ovfile.proofs.sound.sound_follower.Goals.{then-f-edges, else-f-edges}

pub returns-then-half_cell : goal.returns-then-half_cell
returns-then-half_cell c =
    let a = c.args in
    let hs = a.halves.now in
    let n = 2 * a.edges in
    let follower = c.half_cell-f.ensures in
    let first = c.at_or.ensures ∙ ap (λ (f : ℕ). get_or a.first.now f 0) follower in
    elim c.if-f-edges.branch [
      | then-f-edges w ↦
          let starts = w.half_cell.ensures ∙ ap (λ (f : ℕ). column hs 0 f) follower in
          let ends = w.half_cell-then-f-edges.ensures ∙ ap (column hs 0) w.twin.ensures in
          last_decides (ltb c.half_cell-f.result n) (eqb w.half_cell.result w.half_cell-then-f-edges.result) (eqb c.at_or.result a.h)
          (lt-ltb c.half_cell-f.result n w.if-f-edges.true) (sym w.value-is ∙ c.if-half_cell.true)
          ∙ (λ i. ltb (follower i) n && (eqb (starts i) (ends i) && eqb (first i) a.h))
          ∙ follower-test hs a.first.now n a.h (eqb (column hs 0 (column hs 2 a.h)) (column hs 0 (twin a.h))) c.requires.0 c.requires.1
      | else-f-edges w ↦ absurd (false≢true (sym (le-ltb c.half_cell-f.result n w.if-f-edges.false) ∙ sym w.value-is ∙ c.if-half_cell.true))
    ]
