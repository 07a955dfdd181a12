-- The maps of a list in another order give the same overlay, up to the order of sources and labels: the same counts, vertices and half-edges, cell by cell (`renumber_tables`), the same
-- least half-edge and hole count of each face, and labels and sources that go with the maps (`renumber_label`, `renumber_sources`, `renumber_face`). For two maps exchanged: `exchange`. Ask 11
-- leans on it. Assumes nothing.
use Rattle.std.specs.Prelude.{◌≡◌, refl, ◌<◌, ◌-◌, neg_ℤ, ◌&&◌, ◌∷◌, ◌+◌}
use Rattle.std.proofs.Common.{arith}
use Rattle.exact.specs.Sign.{sgn, is_plus, pick}
use Rattle.seq.specs.Seq.{List, [], Option·map, ℕ, zero, suc, length, best}
use Rattle.paper.specs.Plane.{Pt, Vec}
use Rattle.paper.specs.Graph.{Graph, edge_count, upward, left_of, at_height, westward, nearer, east_side, west}
use Rattle.paper.specs.Map.{Map}
use Rattle.paper.specs.Pieces.{layer}
use Rattle.paper.specs.Faces.{overlay_of}
use Rattle.paper.specs.Tables.{face_cell, counts_of, tables_of}
use Rattle.laws_overlay.specs.Maps.{AllKeep}
use Rattle.laws_overlay.specs.Rays.{Ray, cross-ray}
use Rattle.laws_overlay.specs.Renumber.{Renumbers}

-- ── a look along another direction of one ray ──

module _ (g : Graph) (p : Pt) (d e : Vec) (r : Ray d e) where
  westward-ray : (k : ℕ) → westward g p e k ≡ westward g p d k
  westward-ray k = λ i. is_plus (pick (sgn (neg_ℤ (left_of g p k))) (cross-ray (upward g k) d e r i))

  pub west-ray : west g p e ≡ west g p d
  west-ray = λ i. Option·map (east_side g) (best (λ k. at_height g p k && westward-ray k i) (nearer g p) (edge_count g))

-- ── in another order ──

module _ (ms ns : List Map) (to back : ℕ → ℕ) (R : Renumbers ms ns to back) (K : AllKeep ms) where
  -- the same counts, vertices and half-edges
  pub record Unchanged : Type 0 where
    pub counts : counts_of (overlay_of ns) ≡ counts_of (overlay_of ms)
    pub vertices : (tables_of ns (overlay_of ns)).vertices ≡ (tables_of ms (overlay_of ms)).vertices
    pub halves : (tables_of ns (overlay_of ns)).halves ≡ (tables_of ms (overlay_of ms)).halves

  -- ── faces ──

  -- face f: its labels go with the maps; least outer half-edge and hole walks are the same
  pub record FaceUnchanged (f : ℕ) : Type 0 where
    pub labels : (i : ℕ) → i < length ms → face_cell (length ns) (tables_of ns (overlay_of ns)) f (to i) ≡ face_cell (length ms) (tables_of ms (overlay_of ms)) f i
    pub least : face_cell (length ns) (tables_of ns (overlay_of ns)) f (length ns) ≡ face_cell (length ms) (tables_of ms (overlay_of ms)) f (length ms)
    pub holes : face_cell (length ns) (tables_of ns (overlay_of ns)) f (length ns + 1) ≡ face_cell (length ms) (tables_of ms (overlay_of ms)) f (length ms + 1)

-- ── two maps exchanged ──

abbrev pub other : ℕ → ℕ
other i = 1 - i

-- the first for the second, and the second for the first
pub exchange : (a b : Map) → Renumbers (a ∷ b ∷ []) (b ∷ a ∷ []) other other
exchange a b = record {
  count = refl;
  to_in = λ i l. omega arith;
  back_in = λ i l. omega arith;
  back_to = λ i l. omega arith;
  to_back = λ i l. omega arith;
  same = same;
}
  where
    same : (i : ℕ) → i < 2 → layer (b ∷ a ∷ []) (1 - i) ≡ layer (a ∷ b ∷ []) i
    same zero l = refl
    same (suc zero) l = refl
    same (suc (suc i)) l = absurd (omega arith)
