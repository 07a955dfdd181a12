-- Whether the maps of files have room in small tables: by counts (`few_rows_lem`, `many-rows`), and that they have (`rows_few`). Assumes nothing.
use Rattle.std.specs.Prelude.{◌&&◌}
use mathlib.Core.Path.{◌≡◌, refl, sym, ap, ◌∙◌}
use Prim.Native.Nat.{◌≤◌, ◌<◌}
use native.Mathlib.Omega.{arith}
use borrow.Author.Tests.{le-leb, lt-leb, leb-true}
use Rattle.seq.specs.Seq.{Bool, true, false, List, ℕ, leb}
use Rattle.seq.specs.Total.{total}
use Rattle.exact.specs.Tests.{never}
use Rattle.paper.specs.Map.{vertex_count, edges_in}
use Rattle.graph.specs.Small.{small_vertices, small_edges}
use Rattle.overlay_fill.specs.Files.{few_rows}

-- both of two tests
both : (a b : Bool) → (a && b) ≡ true → (a ≡ true) × (b ≡ true)
both true b e = (refl, e)
both false b e = never e

module _ (files : List (List ℕ)) where
  abbrev the_edges_few : Bool
  the_edges_few = leb (total edges_in files) small_edges

  pub few_rows_lem : (v e : ℕ) → v ≡ total vertex_count files → e ≡ total edges_in files → v ≤ small_vertices → leb e small_edges ≡ few_rows files
  few_rows_lem v e p q l = ap (λ (n : ℕ). leb n small_edges) q ∙ sym (ap (λ (b : Bool). b && the_edges_few) (le-leb (total vertex_count files) small_vertices (omega arith)))

  pub many-rows : (v : ℕ) → v ≡ total vertex_count files → small_vertices < v → false ≡ few_rows files
  many-rows v p l = sym (ap (λ (b : Bool). b && the_edges_few) (lt-leb (total vertex_count files) small_vertices (omega arith)))

  pub rows_few : few_rows files ≡ true → (total vertex_count files ≤ small_vertices) × (total edges_in files ≤ small_edges)
  rows_few e =
      let p = both (leb (total vertex_count files) small_vertices) the_edges_few e in
      (leb-true (total vertex_count files) small_vertices p.0, leb-true (total edges_in files) small_edges p.1)
