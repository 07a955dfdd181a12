-- `looks::reading::look_read` meets its contract. Assumes nothing.
use mathlib.Core.Path.{refl, sym, ◌∙◌, ap}
use Prim.Native.Nat.{ℕ, ◌-◌, ◌<◌, ◌*◌}
use lib.IntN.{ℤ}
use Rattle.seq.specs.Seq.{List}
use native.Mathlib.Omega.{arith}
use Rattle.plane.specs.Values.{vec_of}
use Rattle.graph.specs.Flat.{Carriers, Carried}
use Rattle.looks.specs.Rails.{above, Reading, read_starts, read-le, read_turns, read_ends}
use borrow.Author.Rules.{rules}
use Rattle.looks.proofs.reading.look_read.Goals as goal

carried : (rs : List ℤ) (e : ℕ) → Carriers rs e → (k : ℕ) → k < e → Carried rs k
carried rs e C k l = record { row = omega (arith, C.long); near = C.near k l }

pub returns-then-starts_above : goal.returns-then-starts_above
returns-then-starts_above c =
    read_ends _ _ _ c.loop-i.invariant (λ q. sym (sym c.if-starts_above.true ∙ c.starts_above.ensures ∙ ap (above (vec_of c.args.c)) c.carrier_at.ensures.is)) _ refl refl

pub take-r-requires : goal.take-r-requires
take-r-requires c =
    let k = carried c.args.rails.now c.args.e c.requires.fact_1 in
    (k c.loop-i.i (search rules), (λ q. k c.loop-i.r q), read-le _ _ _ c.loop-i.invariant, c.requires.fact_3)

pub loop-i-preserved : goal.loop-i-preserved
loop-i-preserved c =
    read_turns _ _ _ c.loop-i.invariant _ (search rules) (sym (sym c.if-starts_above.false ∙ c.starts_above.ensures ∙ ap (above (vec_of c.args.c)) c.carrier_at.ensures.is)) c.take-r.ensures
