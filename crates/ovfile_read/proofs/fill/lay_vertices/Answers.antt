-- `ovfile_read::fill::lay_vertices` meets its contract. Assumes nothing.
use Rattle.std.specs.Prelude.{◌∷◌, ◌+◌, ◌*◌}
use mathlib.Core.Path.{refl, ap, ◌∙◌}
use native.Mathlib.Omega.{arith}
use mir.Syntax.{w64}
use mir.ValLaws.{to_z-of_z}
use Rattle.seq.specs.Seq.{[], ℕ, pos}
use Rattle.paper.specs.Bytes.{signed_at, number}
use Rattle.ovfile.specs.Values.{layout_from, known_of}
use Rattle.ovfile.specs.Known.{vertices-near}
use Rattle.seq.specs.Loops.Storing.{lay_starts, lay_turns, store_ends}
use borrow.Author.Rules.{rules}
use Rattle.ovfile_read.proofs.fill.lay_vertices.Goals as goal

-- a vertex's place, and the places behind it, are far below what 64 bits hold
pub overflow_add-p : goal.overflow_add-p
overflow_add-p c =
    omega (arith, c.vertex_place-p.ensures, vertices-near (layout_from c.args.stored.now.layout) (known_of c.args.stored.now.layout) c.loop-v.v (omega arith), c.args.stored.now.layout.few_bytes)

pub overflow_add-p-in-loop-v : goal.overflow_add-p-in-loop-v
overflow_add-p-in-loop-v c =
    omega (arith, c.vertex_place-p.ensures, vertices-near (layout_from c.args.stored.now.layout) (known_of c.args.stored.now.layout) c.loop-v.v (omega arith), c.args.stored.now.layout.few_bytes)

pub store-requires : goal.store-requires
store-requires c =
    omega (arith, c.loop-v-test.true, c.loop-v.invariant.room, c.loop-v.invariant.kept, c.args.stored.now.vertices_counted)

pub loop-v-preserved : goal.loop-v-preserved
loop-v-preserved c =
    let s = c.args.stored.now.file.now in
    let w = c.args.stored.now.layout.coordinate in
    let place = c.vertex_place-p.ensures in
    let x = to_z-of_z w64 _ (record { sfits = c.signed_at-x.type_inv }) ∙ c.signed_at-x.ensures ∙ ap (signed_at w s) place in
    let y = to_z-of_z w64 _ (record { sfits = c.signed_at-y.type_inv }) ∙ c.signed_at-y.ensures ∙ ap (λ (q : ℕ). signed_at w s (q + w)) place in
    let denominator = to_z-of_z w64 _ (record { sfits = c.denominator-d.type_inv }) ∙ c.denominator-d.ensures ∙ ap (λ (q : ℕ). pos (number 4 s (q + 2 * w))) place in
    let out = to_z-of_z w64 _ (record { sfits = c.from.type_inv }) ∙ c.from.ensures ∙ ap pos c.at_or.ensures in
    lay_turns c.loop-v.invariant (λ k. refl) (omega (arith, c.args.stored.now.vertices_counted)) c.store.ensures (λ i. x i ∷ y i ∷ denominator i ∷ out i ∷ [])

pub returns : goal.returns
returns c =
    store_ends c.loop-v.invariant (omega (arith, c.args.stored.now.vertices_counted))

pub loop-v-init : goal.loop-v-init
loop-v-init c = lay_starts (search rules)

pub shape_of-vertices : goal.shape_of-vertices
shape_of-vertices c = c.loop-v.invariant.kept
