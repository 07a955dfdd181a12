-- `mend::outcome::mend_in` meets its contract: rules 5 and 7 on the tables, then the steps. Assumes nothing.
use Rattle.std.specs.Prelude.{◌*◌}
use mathlib.Core.Path.{◌≡◌, sym, ap, ◌∙◌, subst}
use Prim.Native.Nat.{◌≤◌}
use borrow.Author.Rules.{rules}
use Rattle.seq.specs.Seq.{ℕ, length}
use Rattle.paper.specs.Limits.{map_vertices, map_edges}
use Rattle.map_file.specs.declared.reader.Header.{Header}
use Rattle.map_file.specs.Verdict.{verdict}
use Rattle.map_check.proofs.KeptLaws.{few_vertices, few_edges}
use Rattle.map_check.proofs.LoadedLaws.{is_read}
use Rattle.mend.proofs.OutcomeLaws.{mend-unread, faults-found}
use Rattle.mend.proofs.outcome.mend_in.Goals as goal

as_many : (k : ℕ) {n w m : ℕ} → n ≡ w → k * w ≤ m → k * n ≤ m
as_many k {m = m} e h = subst (λ (y : ℕ). k * y ≤ m) (sym e) h

pub table_fault-requires : goal.table_fault-requires
table_fault-requires c =
    let a = c.args in
    let v = ap (λ (h : Header). h.vertices) c.requires.fact_1 in
    let e = ap (λ (h : Header). h.edges) c.requires.fact_1 in
    let form = c.requires.fact_2 in
    let x = a.file.now in
    let is = c.read_map.ensures in
    let R = is_read x _ _ _ _ _ _ c.requires.fact_3.0 c.requires.fact_3.1 c.requires.fact_3.2 is.0 is.1 is.2 in
    record {
      fact_1 = as_many 4 v R.points_long;
      fact_2 = as_many 2 e R.origins_long;
      fact_3 = subst (λ (y : ℕ). y ≤ map_vertices) (sym v) (few_vertices x form);
      fact_4 = subst (λ (y : ℕ). y ≤ map_edges) (sym e) (few_edges x form);
    }

pub mend_map-requires : goal.mend_map-requires
mend_map-requires c =
    let a = c.args in
    let v = ap (λ (h : Header). h.vertices) c.requires.fact_1 in
    let e = ap (λ (h : Header). h.edges) c.requires.fact_1 in
    let form = c.requires.fact_2 in
    let x = a.file.now in
    let is = c.read_map.ensures in
    let R = is_read x _ _ _ _ _ _ c.requires.fact_3.0 c.requires.fact_3.1 c.requires.fact_3.2 is.0 is.1 is.2 in
    record { fact_1 = c.requires.fact_1; fact_2 = sym (faults-found R _ _ v e form) ∙ sym c.table_fault.ensures ∙ ap verdict c.in-Ok.is; fact_3 = R }

pub returns-in-Err : goal.returns-in-Err
returns-in-Err c =
    let a = c.args in
    let v = ap (λ (h : Header). h.vertices) c.requires.fact_1 in
    let e = ap (λ (h : Header). h.edges) c.requires.fact_1 in
    let form = c.requires.fact_2 in
    let x = a.file.now in
    let is = c.read_map.ensures in
    let R = is_read x _ _ _ _ _ _ c.requires.fact_3.0 c.requires.fact_3.1 c.requires.fact_3.2 is.0 is.1 is.2 in
    c.refuse.ensures ∙ mend-unread (length a.out.now) (length a.list.now) x _ (sym (faults-found R _ _ v e form) ∙ sym c.table_fault.ensures ∙ ap verdict c.in-Err.is)

pub returns-in-Ok : goal.returns-in-Ok
returns-in-Ok c = c.mend_map.ensures
