-- `map_check::rules::labels_disagree` meets its contract: the labels that are lent are those of the half-edges. Assumes nothing.
use Rattle.std.specs.Prelude.{◌*◌, ◌-◌}
use mathlib.Core.Path.{◌≡◌, sym, ap, ◌∙◌}
use native.Mathlib.Omega.{arith}
use lib.Seq.{length-take-le}
use Rattle.seq.proofs.Least.{least-le}
use Rattle.seq.specs.Seq.{List, ℕ, take, least}
use Rattle.paper.specs.Refusal.{first_at}
use Rattle.paper.specs.Graph.{the_half_count, followers}
use Rattle.paper.specs.Map.{disagrees}
use Rattle.graph.specs.Flat.{flat_graph}
use Rattle.graph.specs.Laws.Decode.{flat-halves}
use Rattle.map_file.proofs.VerdictLaws.{at_least}
use Rattle.map_check.specs.Held.{flat_map}
use Rattle.map_check.proofs.rules.labels_disagree.Goals as goal

-- all from the start
from_start : (ls : List ℕ) (m : ℕ) → take (m - 0) ls ≡ take m ls
from_start ls m = let q : m - 0 ≡ m = omega arith in ap (λ (k : ℕ). take k ls) q

pub first_by_followers-h-requires : goal.first_by_followers-h-requires
first_by_followers-h-requires c =
    let p = c.requires in
    let long = length-take-le (2 * c.args.g.edges - 0) c.args.labels.now (omega (arith, p.fact_4)) in
    record { fact_1 = p.fact_1; fact_2 = p.fact_2; fact_3 = p.fact_3; fact_4 = omega (arith, long); fact_5 = p.fact_5 }

pub overflow_cast-h : goal.overflow_cast-h
overflow_cast-h c =
    let a = c.args in
    let g = flat_graph a.g.points.now a.g.origins.now a.g.carriers.now a.g.vertices a.g.edges in
    omega (arith, c.requires.fact_3, c.first_by_followers-h.ensures, least-le (disagrees (flat_map a.g.points.now a.g.origins.now a.g.carriers.now (take (2 * a.g.edges - 0) a.labels.now) a.g.vertices a.g.edges) (followers g)) (2 * a.g.edges))

-- without a half-edge
pub returns-then-g-eq0 : goal.returns-then-g-eq0
returns-then-g-eq0 c =
    let a = c.args in
    let g = flat_graph a.g.points.now a.g.origins.now a.g.carriers.now a.g.vertices a.g.edges in
    let none = c.if-g-eq0.true in
    let m = ap (λ (e : ℕ). 2 * e) (sym none) ∙ sym (flat-halves a.g.points.now a.g.origins.now a.g.carriers.now a.g.vertices a.g.edges) in
    λ i. first_at 10 (disagrees (flat_map a.g.points.now a.g.origins.now a.g.carriers.now (take (2 * a.g.edges) a.labels.now) a.g.vertices a.g.edges) (followers g)) (m i)

pub returns : goal.returns
returns c =
    let a = c.args in
    let g = flat_graph a.g.points.now a.g.origins.now a.g.carriers.now a.g.vertices a.g.edges in
    let m = sym (flat-halves a.g.points.now a.g.origins.now a.g.carriers.now a.g.vertices a.g.edges) in
    let at = from_start a.labels.now (2 * a.g.edges) in
    at_least 10 (disagrees (flat_map a.g.points.now a.g.origins.now a.g.carriers.now (take (2 * a.g.edges) a.labels.now) a.g.vertices a.g.edges) (followers g)) (the_half_count g) _ _ _ c.given.ensures
    (c.first_by_followers-h.ensures ∙ (λ i. least (disagrees (flat_map a.g.points.now a.g.origins.now a.g.carriers.now (at i) a.g.vertices a.g.edges) (followers g)) (m i))) m
