-- `overlay_maps::stack::lay_starts` meets its contract. Assumes nothing.
use Rattle.std.specs.Prelude.{◌+◌}
use mathlib.Core.Path.{sym, ◌∙◌}
use mathlib.Core.List.{[], ◌∷◌}
use native.Mathlib.Nat.{zero-add}
use native.Mathlib.Omega.{arith}
use lib.ListN.{length-set}
use Rattle.seq.specs.Seq.{sets}
use Rattle.seq.specs.Over.{stored_first}
use Rattle.overlay_maps.proofs.stack.lay_starts.Goals as goal

pub bounds-vertices-1 : goal.bounds-vertices-1
bounds-vertices-1 c = simp length-set (omega (arith, c.requires.0))

pub bounds-vertices-2 : goal.bounds-vertices-2
bounds-vertices-2 c = simp length-set (omega (arith, c.requires.0))

pub bounds-edges-1 : goal.bounds-edges-1
bounds-edges-1 c = simp length-set (omega (arith, c.requires.1))

pub bounds-edges-2 : goal.bounds-edges-2
bounds-edges-2 c = simp length-set (omega (arith, c.requires.1))

pub returns : goal.returns
returns c =
    let v = c.vertex_count-v.ensures ∙ sym (zero-add _) in
    let w = c.vertex_count.ensures in
    let x = c.vertex_count-2.ensures in
    let e = c.edge_count-e.ensures ∙ sym (zero-add _) in
    let f = c.edge_count.ensures in
    let g = c.edge_count-2.ensures in (
      (λ i. sets c.args.vertices.now 0 (0 ∷ v i ∷ (v i + w i) ∷ (v i + w i + x i) ∷ [])) ∙ stored_first c.args.vertices.now _ (omega (arith, c.requires.0)),
      (λ i. sets c.args.edges.now 0 (0 ∷ e i ∷ (e i + f i) ∷ (e i + f i + g i) ∷ [])) ∙ stored_first c.args.edges.now _ (omega (arith, c.requires.1)),
    )
