-- `overlay_cut::edges::source_in` meets its contract. Assumes nothing.
use mathlib.Core.Path.{◌≡◌, ap}
use Prim.Native.Nat.{ℕ, ◌+◌, ◌*◌}
use lib.ListN.{get_or}
use native.Mathlib.Omega.{arith}
use Rattle.overlay_cut.specs.PieceRows.{piece_width}
use Rattle.overlay_cut.proofs.edges.source_in.Goals as goal

pub returns : goal.returns
returns c =
    let a = c.args in
    let e : piece_width * a.k + 2 + a.m ≡ piece_width * a.k + (2 + a.m) = omega arith in
    ap (λ (i : ℕ). get_or a.pieces.now i 0) e
