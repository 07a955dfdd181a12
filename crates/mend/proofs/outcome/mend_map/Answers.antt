-- `mend::outcome::mend_map` meets its contract: table after table is what the next asks. Assumes nothing.
use mathlib.Core.Path.{sym, ap}
use native.Mathlib.Omega.{arith}
use Rattle.map_file.specs.declared.reader.Header.{Header}
use Rattle.map_check.specs.Parts.{Corners}
use Rattle.mend.proofs.OutcomeLaws.{corners-near, is_ready}
use Rattle.mend.proofs.TableLaws.{can-mend}
use Rattle.mend.proofs.outcome.mend_map.Goals as goal

pub merge-requires : goal.merge-requires
merge-requires c =
    let v = ap (λ (h : Header). h.vertices) c.requires.fact_1 in
    let e = ap (λ (h : Header). h.edges) c.requires.fact_1 in
    let f = (can-mend c.args.file.now c.requires.fact_2).form in
    (coe 0 1 (i. Corners c.args.points.now (sym v i)) (corners-near c.requires.fact_3 c.requires.fact_2), omega (arith, v, f.few_vertices), omega (arith, v, f.few_vertices))

pub move_ends-requires : goal.move_ends-requires
move_ends-requires c =
    let v = ap (λ (h : Header). h.vertices) c.requires.fact_1 in
    let e = ap (λ (h : Header). h.edges) c.requires.fact_1 in
    let f = (can-mend c.args.file.now c.requires.fact_2).form in
    omega (arith, e, f.few_edges)

pub edge_steps-requires : goal.edge_steps-requires
edge_steps-requires c =
    let v = ap (λ (h : Header). h.vertices) c.requires.fact_1 in
    let e = ap (λ (h : Header). h.edges) c.requires.fact_1 in
    let f = (can-mend c.args.file.now c.requires.fact_2).form in
    (omega (arith, e, f.few_edges), omega (arith, e, f.few_edges))

pub vertex_steps-requires : goal.vertex_steps-requires
vertex_steps-requires c =
    let v = ap (λ (h : Header). h.vertices) c.requires.fact_1 in
    let e = ap (λ (h : Header). h.edges) c.requires.fact_1 in
    let f = (can-mend c.args.file.now c.requires.fact_2).form in
    (omega (arith, e, f.few_edges, c.edge_steps.auto), omega (arith, v, f.few_vertices))

pub count_kept-edges-requires : goal.count_kept-edges-requires
count_kept-edges-requires c =
    let v = ap (λ (h : Header). h.vertices) c.requires.fact_1 in
    let e = ap (λ (h : Header). h.edges) c.requires.fact_1 in
    let f = (can-mend c.args.file.now c.requires.fact_2).form in
    omega (arith, e, f.few_edges, c.edge_steps.auto)

pub finish-requires : goal.finish-requires
finish-requires c =
    let v = ap (λ (h : Header). h.vertices) c.requires.fact_1 in
    let e = ap (λ (h : Header). h.edges) c.requires.fact_1 in
    let f = (can-mend c.args.file.now c.requires.fact_2).form in (
      v,
      e,
      is_ready c.requires.fact_3 c.requires.fact_2 _ _ _ _ _ _ _ _ _ _ _ _ _ v e c.merge.ensures c.move_ends.ensures c.edge_steps.ensures c.vertex_steps.ensures c.number-vertices.ensures.out c.number-vertices.ensures.is c.count_kept-edges.ensures
          (omega (arith, v, f.few_vertices)) (omega (arith, e, f.few_edges)) (omega (arith, e, f.few_edges)) (omega (arith, v, f.few_vertices)),
    )

pub returns : goal.returns
returns c = c.finish.ensures
