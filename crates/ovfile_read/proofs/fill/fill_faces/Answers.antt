-- `ovfile_read::fill::fill_faces` meets its contract. Assumes nothing.
use Rattle.std.specs.Prelude.{◌*◌}
use mathlib.Core.Path.{refl, ap}
use native.Mathlib.Omega.{arith}
use Rattle.seq.specs.Seq.{ℕ}
use Rattle.paper.specs.Limits.{maps}
use Rattle.paper.specs.Tables.{face_width}
use Rattle.paper.specs.Reader.{counts_in, face_read, tables_in}
use Rattle.ovfile.specs.Values.{layout_from}
use Rattle.seq.specs.Loops.Storing.{laid-wiped}
use Rattle.ovfile_read.proofs.fill.fill_faces.Goals as goal

pub wipe_from-requires : goal.wipe_from-requires
wipe_from-requires c =
    omega (arith, c.args.stored.now.faces_counted, c.requires)

pub returns : goal.returns
unfolding tables_in
returns c =
    let a = c.args in
    let s = a.stored.now.file.now in
    let lo = layout_from a.stored.now.layout in
    laid-wiped 0 (face_width maps) (face_read maps lo a.stored.now.file.now) (λ k. refl) (counts_in s).faces a.faces.now (omega (arith, c.requires))
    c.lay_faces.ensures c.wipe_from.ensures (ap (λ (n : ℕ). face_width maps * n) c.args.stored.now.faces_counted)
