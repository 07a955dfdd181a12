-- The maps in a list of files that each pass keep the rules (`files-keep`) and are within 01's reach (`files-reach`), so that all laws of this crate hold of their overlay, and its
-- vertices are within 01's bounds (`files-bounded`). Labels in files of bytes fit 16 bits. Assumes nothing.
use Rattle.std.specs.Prelude.{◌≡◌, ◌<◌, ◌+◌, ◌*◌, ◌^◌}
use Rattle.std.proofs.Common.{sym, subst, arith}
use Rattle.std.proofs.Math.Decide.{dec_lt}
use Rattle.std.proofs.lemmas.List.{length-map}
use Rattle.std.proofs.Math.ListN.{get_or-map, get_or-eq_default}
use Rattle.seq.specs.Seq.{List, [], map, none, ℕ, suc, length, get_or, table}
use Rattle.seq.specs.Terms.{Every}
use Rattle.seq.specs.Table.{length-table, table_at}
use Rattle.paper.specs.Bytes.{byte_at}
use Rattle.paper.specs.Map.{Map, label, map_of, fault, label_at, half_place, edges_in}
use Rattle.paper.specs.Pieces.{layer, vertices_of}
use Rattle.laws_plane.specs.Bounds.{Bounded}
use Rattle.laws_map.specs.Keeps.{Keeps}
use Rattle.laws_map.specs.Passes.{passes-rules}
use Rattle.laws_map.proofs.Files.{passes-keeps}
use Rattle.laws_overlay.specs.Maps.{AllKeep}
use Rattle.laws_overlay.specs.Vertices.{InReach, vertices-bounded}

-- each file passes
abbrev pub AllPass : List (List ℕ) → Type 0
AllPass files = (i : ℕ) → i < length files → fault (get_or files i []) ≡ none

-- the maps in the files
abbrev pub maps_of : List (List ℕ) → List Map
maps_of files = map map_of files

module _ (files : List (List ℕ)) where
  pub layer_is : (i : ℕ) → layer (maps_of files) i ≡ map_of (get_or files i [])
  layer_is i = get_or-map map_of files i []

  pub maps-count : length (maps_of files) ≡ length files
  maps-count = length-map files map_of

  module _ (passes : AllPass files) where
    in_files : {i : ℕ} → i < length (maps_of files) → i < length files
    in_files {i} = subst (λ (n : ℕ). i < n) maps-count

    pub files-keep : AllKeep (maps_of files)
    files-keep i l = subst Keeps (sym (layer_is i)) (passes-keeps (get_or files i []) (passes i (in_files l)))

    pub files-reach : (i : ℕ) → i < length (maps_of files) → InReach (layer (maps_of files) i)
    files-reach i l = let r = passes-rules (get_or files i []) (passes i (in_files l)) in subst InReach (sym (layer_is i)) (λ v b. (r.x_near v b, r.y_near v b))

    -- "D may then reach 2,048,000,000"; X and Y lie within 16,000·D either way
    pub files-bounded : Every Bounded (vertices_of (maps_of files))
    files-bounded = vertices-bounded (maps_of files) files-keep files-reach

  -- ── labels ──

  module _ (bytes : (i j : ℕ) → byte_at (get_or files i []) j < 256) where
    label_of_lem : (i h : ℕ) → label (map_of (get_or files i [])) h < 256 ^ 2
    label_of_lem i h =
        let s = get_or files i [] in
        elim (dec_lt h (2 * edges_in s)) [
          | yes l ↦ omega (arith, table_at (label_at s) (2 * edges_in s) h 0 l, bytes i (half_place s h + 4), bytes i (suc (half_place s h + 4)))
          | no l ↦ omega (arith, get_or-eq_default (table (label_at s) (2 * edges_in s)) 0 {n = h} (omega (arith, length-table (label_at s) (2 * edges_in s))))
        ]

    -- "labels 0 to 65,535", of files of bytes
    pub files-labels : (i h : ℕ) → label (layer (maps_of files) i) h < 256 ^ 2
    files-labels i h = subst (λ (m : Map). label m h < 256 ^ 2) (sym (layer_is i)) (label_of_lem i h)
