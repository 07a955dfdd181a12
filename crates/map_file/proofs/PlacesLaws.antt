-- Cells in pairs: the two half-edges of an edge. Then what stands at the places of a map file is the map's. Assumes nothing.
use Rattle.std.specs.Prelude.{◌∷◌, ◌+◌, ◌*◌}
use mathlib.Core.Path.{◌≡◌, sym, ap, subst, ◌∙◌}
use Prim.Native.Nat.{◌<◌}
use native.Mathlib.Omega.{arith}
use lib.ListN.{set}
use Rattle.seq.specs.Filled.{filled-ext}
use Rattle.seq.specs.Laid.{laid-ext}
use Rattle.seq.specs.Loops.Filling.{Filling, fill_turns}
use Rattle.seq.specs.Seq.{List, [], ℕ, ℤ, pos, filled, laid}
use Rattle.paper.specs.Bytes.{u16}
use Rattle.paper.specs.Graph.{origin}
use Rattle.paper.specs.Limits.{map_head}
use Rattle.paper.specs.Map.{vertex_count, edges_in, vertex_place, map_of, label}
use Rattle.paper.specs.Plane.{Pt}
use Rattle.map_file.specs.declared.reader.Header.{Header}
use Rattle.map_file.specs.Header.{header_of}
use Rattle.map_file.specs.Places.{point_from, origin_from, label_from}
use Rattle.map_file.specs.Rows.{point_row}
use Rattle.laws_graph.specs.Reading.{point_at, origin_at_lem, label_at_lem}

-- ── one turn of a loop over edges ──

module _ (s : List ℕ) (at k : ℕ) where
  pub from_is : u16 s (at + 8 * k) ≡ origin_from s at (2 * k)
  from_is = ap (u16 s) (omega arith)

  pub to_is : u16 s (at + 8 * k + 2) ≡ origin_from s at (2 * k + 1)
  to_is = ap (u16 s) (omega arith)

  pub left_is : u16 s (at + 8 * k + 4) ≡ label_from s at (2 * k)
  left_is = ap (u16 s) (omega arith)

  pub right_is : u16 s (at + 8 * k + 6) ≡ label_from s at (2 * k + 1)
  right_is = ap (u16 s) (omega arith)

pub fill_two : {f : ℕ → ℕ} {n k : ℕ} {d t : List ℕ} → Filling f (2 * n) d t (2 * k) → {a b : ℕ} → k < n → a ≡ f (2 * k) → b ≡ f (2 * k + 1)
    → Filling f (2 * n) d (set (set t (2 * k) a) (2 * k + 1) b) (2 * (k + 1))
fill_two {f} {n} {k} {d} {t} r {a} {b} l e g =
    subst (Filling f (2 * n) d (set (set t (2 * k) a) (2 * k + 1) b)) (omega arith) (fill_turns (fill_turns r (omega arith) e) (omega arith) g)

-- ── behind the header, and behind the vertices ──

module _ (s : List ℕ) where
  pub points_of_lem : (d : List ℤ) → laid (vertex_count s) (point_from s map_head) d ≡ laid (vertex_count s) (point_row (map_of s).graph) d
  points_of_lem d =
      laid-ext (point_from s map_head) (point_row (map_of s).graph) (vertex_count s) d
      (λ v h. ap (λ (p : Pt). p.X ∷ p.Y ∷ p.D ∷ pos 0 ∷ []) (sym (point_at s v h)))

  pub origins_of_lem : (d : List ℕ) → filled (2 * edges_in s) (origin_from s (vertex_place (vertex_count s))) d ≡ filled (2 * edges_in s) (origin (map_of s).graph) d
  origins_of_lem d = filled-ext (origin_from s (vertex_place (vertex_count s))) (origin (map_of s).graph) (2 * edges_in s) d (λ h l. sym (origin_at_lem s h l))

  pub labels_of_lem : (d : List ℕ) → filled (2 * edges_in s) (label_from s (vertex_place (vertex_count s))) d ≡ filled (2 * edges_in s) (label (map_of s)) d
  labels_of_lem d = filled-ext (label_from s (vertex_place (vertex_count s))) (label (map_of s)) (2 * edges_in s) d (λ h l. sym (label_at_lem s h l))

  -- at the counts of the header that was read
  module _ (h : Header) (is : h ≡ header_of s) where
    pub points-read : (d t : List ℤ) → t ≡ laid h.vertices (point_from s map_head) d → t ≡ laid (vertex_count s) (point_row (map_of s).graph) d
    points-read d t e = e ∙ ap (λ (x : Header). laid x.vertices (point_from s map_head) d) is ∙ points_of_lem d

    pub origins-read : (d t : List ℕ) → t ≡ filled (2 * h.edges) (origin_from s (vertex_place h.vertices)) d → t ≡ filled (2 * edges_in s) (origin (map_of s).graph) d
    origins-read d t e = e ∙ ap (λ (x : Header). filled (2 * x.edges) (origin_from s (vertex_place x.vertices)) d) is ∙ origins_of_lem d

    pub labels-read : (d t : List ℕ) → t ≡ filled (2 * h.edges) (label_from s (vertex_place h.vertices)) d → t ≡ filled (2 * edges_in s) (label (map_of s)) d
    labels-read d t e = e ∙ ap (λ (x : Header). filled (2 * x.edges) (label_from s (vertex_place x.vertices)) d) is ∙ labels_of_lem d
