-- Room for the maps of a list of files: sums over files; tables for as many maps as there are have it for any files (`full_room`), and tables for as many rows as
-- the headers count for these (`counted_room`); with where the maps start beside them (`layer_room`); so cleared tables (`cleared_full`, `cleared-counted`).
-- Assumes nothing.
use Rattle.std.specs.Prelude.{◌∷◌, ◌+◌, ◌*◌}
use mathlib.Core.Path.{◌≡◌}
use Prim.Native.Nat.{◌≤◌, ◌<◌}
use native.Mathlib.Nat.{mul-suc}
use native.Mathlib.Omega.{arith}
use lib.ListN.{length-replicate}
use Rattle.seq.specs.Seq.{List, [], ℕ, suc, length, get_or, replicate, ℤ, pos}
use Rattle.seq.specs.Total.{total}
use Rattle.paper.specs.Limits.{maps, map_vertices, map_edges}
use Rattle.paper.specs.Map.{vertex_count, edges_in}
use Rattle.map_check.specs.Held.{MapRoom, stored}
use Rattle.map_check.proofs.RoomLaws.{stored-counted, few_stored-vertices, few_stored-edges, room_within, cleared_room}
use Rattle.overlay_maps.specs.Layers.{layers_by, StackRoom, LayerRoom}

-- ── sums ──

-- where each is within a limit
pub total_within : (count : List ℕ → ℕ) (limit : ℕ) (files : List (List ℕ)) → ((i : ℕ) → i < length files → count (get_or files i []) ≤ limit) → total count files ≤ limit * length files
total_within count limit [] h = omega arith
total_within count limit (s ∷ files) h =
    omega (arith, mul-suc limit (length files), h 0 (omega arith), total_within count limit files (λ i l. h (suc i) (omega arith)))

-- where each is within another
pub total_under : (f g : List ℕ → ℕ) (files : List (List ℕ)) → ((i : ℕ) → i < length files → f (get_or files i []) ≤ g (get_or files i [])) → total f files ≤ total g files
total_under f g [] h = omega arith
total_under f g (s ∷ files) h = omega (arith, h 0 (omega arith), total_under f g files (λ i l. h (suc i) (omega arith)))

-- ── room ──

module _ (files : List (List ℕ)) {ps : List ℤ} {os : List ℕ} {cs : List ℤ} {ls : List ℕ} where
  full_room : length files ≡ maps → MapRoom (maps * map_vertices) (maps * map_edges) ps os cs ls → StackRoom files ps os cs ls
  full_room every R =
      room_within R
      (omega (arith, every, total_within (stored vertex_count) map_vertices files (λ i l. few_stored-vertices (get_or files i []))))
      (omega (arith, every, total_within (stored edges_in) map_edges files (λ i l. few_stored-edges (get_or files i []))))

  counted_room : {v e : ℕ} → total vertex_count files ≤ v → total edges_in files ≤ e → MapRoom v e ps os cs ls → StackRoom files ps os cs ls
  counted_room p q R =
      room_within R
      (omega (arith, p, total_under (stored vertex_count) vertex_count files (λ i l. stored-counted vertex_count (get_or files i []))))
      (omega (arith, q, total_under (stored edges_in) edges_in files (λ i l. stored-counted edges_in (get_or files i []))))

  pub layer_room : StackRoom files ps os cs ls → LayerRoom files (layers_by (replicate (maps + 1) 0) (replicate (maps + 1) 0) ps os cs ls)
  layer_room R = record {
    vertices = omega (arith, length-replicate {A = ℕ} (maps + 1) 0);
    edges = omega (arith, length-replicate {A = ℕ} (maps + 1) 0);
    tables = R;
  }

-- cleared tables of v vertices and e edges
abbrev pub ClearedRoom : List (List ℕ) → ℕ → ℕ → Type 0
ClearedRoom files v e = StackRoom files (replicate (4 * v) (pos 0)) (replicate (2 * e) 0) (replicate (4 * e) (pos 0)) (replicate (2 * e) 0)

module _ (files : List (List ℕ)) where
  pub cleared_full : length files ≡ maps → ClearedRoom files (maps * map_vertices) (maps * map_edges)
  cleared_full every = full_room files every (cleared_room (maps * map_vertices) (maps * map_edges))

  pub cleared-counted : (v e : ℕ) → total vertex_count files ≤ v → total edges_in files ≤ e → ClearedRoom files v e
  cleared-counted v e p q = counted_room files p q (cleared_room v e)
