-- `map_check::lay::read_fault` meets its contract: rules 8 to 10 follow where rules 5 to 7 give nothing, and then the tables hold the map. Assumes nothing.
use mathlib.Core.Path.{sym, ap, ◌∙◌}
use Rattle.std.proofs.lemmas.Result.{err_from_is_err_and}
use native.Mathlib.Omega.{arith}
use Rattle.paper.specs.Refusal.{first_of}
use Rattle.paper.specs.Map.{Map, net_faults}
use Rattle.laws_refusals.specs.Refusals.{no_refusal}
use Rattle.map_file.specs.declared.reader.Header.{Header}
use Rattle.map_check.proofs.KeptLaws.{few_vertices, few_edges}
use Rattle.map_check.proofs.ReadLaws.{parts_some, parts_none, part-faults, corners-read, origins-read, carriers-read, flat-read, laid-read, map_read}
use Rattle.map_check.proofs.lay.read_fault.Goals as goal

pub part_fault-requires : goal.part_fault-requires
part_fault-requires c =
    let v = ap (λ (h : Header). h.vertices) c.requires.fact_1 in
    let e = ap (λ (h : Header). h.edges) c.requires.fact_1 in
    let s = c.args.file.now in
    let form = c.requires.fact_2 in
    let R = c.requires.fact_3 in
    record {
      fact_1 = omega (arith, v, R.points_long);
      fact_2 = omega (arith, e, R.origins_long);
      fact_3 = omega (arith, v, few_vertices s form);
      fact_4 = omega (arith, e, few_edges s form);
    }

pub lay_carriers-requires : goal.lay_carriers-requires
lay_carriers-requires c =
    let v = ap (λ (h : Header). h.vertices) c.requires.fact_1 in
    let e = ap (λ (h : Header). h.edges) c.requires.fact_1 in
    let s = c.args.file.now in
    let form = c.requires.fact_2 in
    let R = c.requires.fact_3 in
    let parts = sym (part-faults R v e) ∙ sym c.in_ok-part_fault.ensures in
    record { fact_1 = corners-read R v e form parts; fact_2 = origins-read R v e form parts; fact_3 = omega (arith, c.requires.fact_4, e) }

pub net_fault-requires : goal.net_fault-requires
net_fault-requires c =
    let v = ap (λ (h : Header). h.vertices) c.requires.fact_1 in
    let e = ap (λ (h : Header). h.edges) c.requires.fact_1 in
    let s = c.args.file.now in
    let form = c.requires.fact_2 in
    let R = c.requires.fact_3 in
    let parts = sym (part-faults R v e) ∙ sym c.in_ok-part_fault.ensures in
    let is = c.lay_carriers.ensures ∙ carriers-read R v e form parts c.args.carriers.now in
    let room = c.requires.fact_4 in
    record {
      fact_1 = flat-read R v e form parts _ _ room is;
      fact_2 = omega (arith, v, few_vertices s form);
      fact_3 = omega (arith, e, few_edges s form);
      fact_4 = omega (arith, e, R.labels_long);
      fact_5 = laid-read R v e form parts _ _ room is;
    }

pub returns-in_err-part_fault : goal.returns-in_err-part_fault
returns-in_err-part_fault c =
    let v = ap (λ (h : Header). h.vertices) c.requires.fact_1 in
    let e = ap (λ (h : Header). h.edges) c.requires.fact_1 in
    let refused = parts_some c.args.file.now c.requires.fact_2 (sym (part-faults c.requires.fact_3 v e) ∙ sym c.in_err-part_fault.ensures) in
    let p = err_from_is_err_and c.from_residual.result c.from_residual.ensures.1 in
    rw (p.1, p.2) (sym refused, λ q. absurd (no_refusal (sym refused ∙ q)))

pub returns : goal.returns
returns c =
    let v = ap (λ (h : Header). h.vertices) c.requires.fact_1 in
    let e = ap (λ (h : Header). h.edges) c.requires.fact_1 in
    let s = c.args.file.now in
    let form = c.requires.fact_2 in
    let R = c.requires.fact_3 in
    let parts = sym (part-faults R v e) ∙ sym c.in_ok-part_fault.ensures in
    let is = c.lay_carriers.ensures ∙ carriers-read R v e form parts c.args.carriers.now in
    (c.net_fault.ensures ∙ ap (λ (m : Map). first_of (net_faults m)) (map_read R v e form parts _ _ c.requires.fact_4 is) ∙ sym (parts_none s form parts), λ q. is)
