-- Of Fits of specs/, what rests on its definitions.
use Rattle.std.proofs.Common.{arith}
use Rattle.std.specs.Prelude.{◌<◌, ◌≤◌, ◌*◌}
use Rattle.seq.specs.Seq.{List, ℕ, suc, length}
use Rattle.paper.specs.Limits.{absent, overlay_vertices, overlay_edges}
use Rattle.paper.specs.Map.{Map}
use Rattle.paper.specs.Faces.{overlay_of}
use Rattle.paper.specs.Tables.{face_cell, counts_of, tables_of}
use Rattle.laws_overlay.specs.Maps.{AllKeep}
use Rattle.laws_overlay.proofs.Named.{half-named, face-named}
use Rattle.laws_overlay.specs.Fits.{HalfFits, faces-most}

module _ (ms : List Map) where
  -- ── by the limits ──

  module _ (K : AllKeep ms) (lv : (counts_of (overlay_of ms)).vertices ≤ overlay_vertices) (le : (counts_of (overlay_of ms)).edges ≤ overlay_edges) where
    pub half_fits : (h : ℕ) → h < 2 * (counts_of (overlay_of ms)).edges → HalfFits (tables_of ms (overlay_of ms)) h
    half_fits h l =
        let n = half-named ms K h l in
        record {
          origin_fits = omega (arith, n.origin_below);
          twin_fits = omega (arith, n.twin_below);
          follower_fits = omega (arith, n.follower_below);
          predecessor_fits = omega (arith, n.predecessor_below);
          face_fits = omega (arith, n.face_below, faces-most ms);
        }

    pub least_fits : (f : ℕ) → suc f < (counts_of (overlay_of ms)).faces → face_cell (length ms) (tables_of ms (overlay_of ms)) (suc f) (length ms) < absent
    least_fits f l = omega (arith, (face-named ms K f l).0)
