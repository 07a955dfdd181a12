-- `ovfile_read::sound::sound_edge` meets its contract. Assumes nothing.
use Rattle.std.specs.Prelude.{◌&&◌, ◌+◌, ◌*◌}
use mathlib.Core.Path.{ap, ◌∙◌}
use Prim.Native.Nat.{◌<◌}
use native.Mathlib.Omega.{arith}
use Rattle.seq.specs.Seq.{ltb}
use Rattle.paper.specs.Reader.{counts_in, stored_origin}
use Rattle.ovfile.specs.Values.{layout_from}
use Rattle.ovfile_read.proofs.SoundLaws.{origin_is, face_is, twin-lower, twin-upper}
use Rattle.ovfile_read.proofs.sound.sound_edge.Goals as goal

pub overflow_mul-a : goal.overflow_mul-a
overflow_mul-a c =
    omega (arith, c.args.stored.now.edges_counted, c.requires.0)

pub overflow_add-b : goal.overflow_add-b
overflow_add-b c =
    omega (arith, c.args.stored.now.edges_counted, c.requires.0)

pub sound_follower-forth-requires : goal.sound_follower-forth-requires
sound_follower-forth-requires c =
    let s = c.args.stored.now in
    (omega (arith, c.requires.0), c.origin-upper.ensures ∙ ap (stored_origin (layout_from s.layout) s.file.now) (twin-lower c.args.k), c.requires.1)

pub sound_follower-back-requires : goal.sound_follower-back-requires
sound_follower-back-requires c =
    let s = c.args.stored.now in
    (omega (arith, c.requires.0), c.origin-lower.ensures ∙ ap (stored_origin (layout_from s.layout) s.file.now) (twin-upper c.args.k), c.sound_follower-forth.ensures.1)

pub returns : goal.returns
returns c =
    let a = c.args in
    let l = layout_from a.stored.now.layout in
    let s = a.stored.now.file.now in
    let x : 2 * a.k < 2 * (counts_in s).edges = omega (arith, c.requires.0) in
    let y : 2 * a.k + 1 < 2 * (counts_in s).edges = omega (arith, c.requires.0) in
    let lower = c.origin-lower.ensures ∙ origin_is l s (2 * a.k) x in
    let upper = c.origin-upper.ensures ∙ origin_is l s (2 * a.k + 1) y in
    let left = c.face-left.ensures ∙ face_is l s (2 * a.k) x in
    let right = c.face-right.ensures ∙ face_is l s (2 * a.k + 1) y in
    let vertices = a.stored.now.vertices_counted in
    let faces = a.stored.now.faces_counted in (
      (λ i. (ltb (lower i) (upper i) && ltb (upper i) (vertices i))
          && (c.has_source-source.ensures i
          && ((ltb (left i) (faces i) && ltb (right i) (faces i))
          && (c.sound_follower-forth.ensures.0 i && c.sound_follower-back.ensures.0 i)))),
      c.sound_follower-back.ensures.1,
    )
