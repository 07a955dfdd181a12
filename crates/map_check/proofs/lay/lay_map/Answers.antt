-- `map_check::lay::lay_map` meets its contract: what passes rules 1 to 4 has room in the tables. Assumes nothing.
use mathlib.Core.Path.{sym, ◌∙◌}
use Rattle.std.proofs.lemmas.Result.{err_from_is_err_and}
use native.Mathlib.Omega.{arith}
use Rattle.paper.specs.Refusal.{answer}
use Rattle.paper.specs.Map.{vertex_count, edges_in}
use Rattle.laws_refusals.specs.Refusals.{no_refusal}
use Rattle.map_check.proofs.RoomLaws.{stored_all}
use Rattle.map_check.proofs.LoadedLaws.{is_read}
use Rattle.map_check.proofs.ReadLaws.{form_some}
use Rattle.map_check.proofs.lay.lay_map.Goals as goal

pub read_map-requires : goal.read_map-requires
read_map-requires c =
    let room = c.requires in
    let s = c.args.file.now in
    let form = sym c.in_ok-form_fault.ensures in
    record {
      fact_1 = c.read_header-h.ensures;
      fact_2 = (omega (arith, room.corners, stored_all vertex_count s form), omega (arith, room.origins, stored_all edges_in s form), omega (arith, room.labels, stored_all edges_in s form));
    }

pub read_fault-requires : goal.read_fault-requires
read_fault-requires c =
    let room = c.requires in
    let s = c.args.file.now in
    let form = sym c.in_ok-form_fault.ensures in
    let is = c.read_map.ensures in
    let R =
    is_read s _ _ _ _ _ _ (omega (arith, room.corners, stored_all vertex_count s form)) (omega (arith, room.origins, stored_all edges_in s form)) (omega (arith, room.labels, stored_all edges_in s form))
    is.0 is.1 is.2 in
    record { fact_1 = c.read_header-h.ensures; fact_2 = form; fact_3 = R; fact_4 = omega (arith, room.carriers, stored_all edges_in s form) }

pub returns-in_err-form_fault : goal.returns-in_err-form_fault
returns-in_err-form_fault c =
    let refused = form_some c.args.file.now (sym c.in_err-form_fault.ensures) in
    let hd = c.read_header-h.ensures in
    let p = err_from_is_err_and c.from_residual.result c.from_residual.ensures.1 in
    rw (p.1, p.2) (λ i. answer ((hd i).vertices, (hd i).edges) (sym refused i), λ q. absurd (no_refusal (sym refused ∙ q)))

pub returns-in_err-read_fault : goal.returns-in_err-read_fault
returns-in_err-read_fault c =
    let hd = c.read_header-h.ensures in
    let found = c.in_err-read_fault.ensures in
    let p = err_from_is_err_and c.from_residual-in_err-read_fault.result c.from_residual-in_err-read_fault.ensures.1 in
    rw (p.1, p.2) (λ i. answer ((hd i).vertices, (hd i).edges) (found.0 i), λ q. absurd (no_refusal (found.0 ∙ q)))

pub returns : goal.returns
returns c =
    let hd = c.read_header-h.ensures in
    let is = c.read_map.ensures in
    let found = c.in_ok-read_fault.ensures in (
      λ i. answer ((hd i).vertices, (hd i).edges) (found.0 i),
      λ q. record { corners-are = is.0; origins-are = is.1; carriers-are = found.1 q; labels-are = is.2 },
    )
