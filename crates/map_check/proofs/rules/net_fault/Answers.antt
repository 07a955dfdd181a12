-- `map_check::rules::net_fault` meets its contract: rule 10 follows where rules 8 and 9 give nothing. Assumes nothing.
use Rattle.std.specs.Prelude.{◌*◌}
use mathlib.Core.Path.{sym, ap, ◌∙◌}
use native.Mathlib.Omega.{arith}
use Rattle.std.proofs.lemmas.Result.{err_from_is_err_and}
use Rattle.seq.proofs.Least.{least-le}
use Rattle.seq.specs.Seq.{take}
use Rattle.map_file.specs.Verdict.{verdict}
use Rattle.map_check.specs.Net.{lonely_at}
use Rattle.map_check.proofs.NetLaws.{laid-upright, clear-plane, eight-nine, net_some, net_none}
use Rattle.map_check.proofs.rules.net_fault.Goals as goal

pub edges_clash-eight-requires : goal.edges_clash-eight-requires
edges_clash-eight-requires c =
    let a = c.args in
    (c.requires.fact_1.carriers, c.requires.fact_3, laid-upright a.g.points.now a.g.origins.now a.g.carriers.now a.g.vertices a.g.edges c.requires.fact_5)

pub overflow_cast-lonely : goal.overflow_cast-lonely
overflow_cast-lonely c =
    omega (arith, c.requires.fact_2, c.first_lonely-lonely.ensures, least-le (lonely_at c.args.g.origins.now (2 * c.args.g.edges)) c.args.g.vertices)

pub labels_disagree-requires : goal.labels_disagree-requires
labels_disagree-requires c =
    let a = c.args in
    let p = c.requires in
    let found = eight-nine a.g.points.now a.g.origins.now a.g.carriers.now a.g.vertices a.g.edges c.edges_clash-eight.result c.given-nine.result c.edges_clash-eight.ensures c.given-nine.ensures c.first_lonely-lonely.ensures in
    let none = sym (ap verdict c.in_ok-and.ensures ∙ found) in
    record { fact_1 = p.fact_1; fact_2 = p.fact_2; fact_3 = p.fact_3; fact_4 = p.fact_4; fact_5 = clear-plane a.g.points.now a.g.origins.now a.g.carriers.now a.g.vertices a.g.edges p.fact_5 none }

pub returns-in_err-and : goal.returns-in_err-and
returns-in_err-and c =
    let a = c.args in
    let p = err_from_is_err_and c.from_residual.result c.from_residual.ensures.1 in
    let found = eight-nine a.g.points.now a.g.origins.now a.g.carriers.now a.g.vertices a.g.edges c.edges_clash-eight.result c.given-nine.result c.edges_clash-eight.ensures c.given-nine.ensures c.first_lonely-lonely.ensures in
    let some = sym (ap verdict c.in_err-and.ensures ∙ found) in
    rw (p.1, p.2) (sym (net_some a.g.points.now a.g.origins.now a.g.carriers.now a.g.vertices a.g.edges (take (2 * a.g.edges) a.labels.now) some))

pub returns : goal.returns
returns c =
    let a = c.args in
    let found = eight-nine a.g.points.now a.g.origins.now a.g.carriers.now a.g.vertices a.g.edges c.edges_clash-eight.result c.given-nine.result c.edges_clash-eight.ensures c.given-nine.ensures c.first_lonely-lonely.ensures in
    let none = sym (ap verdict c.in_ok-and.ensures ∙ found) in
    c.labels_disagree.ensures ∙ sym (net_none a.g.points.now a.g.origins.now a.g.carriers.now a.g.vertices a.g.edges (take (2 * a.g.edges) a.labels.now) none)
