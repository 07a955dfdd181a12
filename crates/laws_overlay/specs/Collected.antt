-- Points collected in any order and in any way are the overlay's vertices if they are the corners and the crossings (`Vertex`): in strict order they are the vertices; in no
-- order, the vertices are what sorting them gives (`vertices-ordered`, `vertices-sorted`); and if each stands once, and all are vertices, the overlay has as many or more. The corners may be
-- taken as they come, and only the crossings collected in another way (`with_corners`). Assumes nothing.
use Rattle.std.specs.Prelude.{◌≡◌, refl, ◌≤◌, ◌<◌, ◌++◌}
use Rattle.std.proofs.Common.{sym, inl, inr, ⊎_elim, arith}
use Rattle.seq.specs.Seq.{List, ℕ, length, rows}
use Rattle.seq.specs.Terms.{Among, Rising}
use Rattle.seq.specs.Members.{among-++, ++-among, every_in, in_every}
use Rattle.seq.specs.Sorted.{rising-unique}
use Rattle.seq.specs.Inserted.{in_order_is}
use Rattle.seq.specs.Fewer.{Each, fewer, as_many, rising_each}
use Rattle.paper.specs.Plane.{Pt, before}
use Rattle.paper.specs.Map.{Map}
use Rattle.paper.specs.Pieces.{layer, crossings, the_in_order, vertices_of}
use Rattle.laws_plane.specs.Points.{LowestP, same_point, before_asymmetric, before_transitive}
use Rattle.laws_overlay.specs.Maps.{AllKeep}
use Rattle.laws_overlay.specs.Vertices.{Vertex, collected, collected_from, collected_has, vertex_from, vertex_has, vertices-lowest, vertices-rising}

module _ (ms : List Map) (K : AllKeep ms) (l : List Pt) where
  -- every corner and every crossing
  abbrev pub HasAll : Type 0
  HasAll = (p : Pt) → Vertex ms p → Among p l

  -- and nothing else
  abbrev pub OnlyThese : Type 0
  OnlyThese = (p : Pt) → Among p l → Vertex ms p

  module _ (only : OnlyThese) where
    -- each once: no more than the overlay has
    pub vertices-least : Each l → length l ≤ length (vertices_of ms)
    vertices-least e = fewer l (vertices_of ms) e (λ p i. vertex_has ms K p (only p i))

    pub vertices_more : (limit : ℕ) → Each l → limit < length l → limit < length (vertices_of ms)
    vertices_more limit e h = omega (arith, vertices-least e)

    module _ (all : HasAll) where
      -- in strict order
      pub vertices-ordered : Rising before l → l ≡ vertices_of ms
      vertices-ordered r =
          rising-unique before before_asymmetric l (vertices_of ms) r (vertices-rising ms K) (λ p i. vertex_has ms K p (only p i)) (λ p i. all p (vertex_from ms K p i))

      -- in no order
      pub vertices-sorted : the_in_order l ≡ vertices_of ms
      vertices-sorted =
          sym (in_order_is before (λ p q. q) (λ p q. refl) LowestP same_point before_transitive before_asymmetric l (vertices_of ms)
          (in_every LowestP l (λ p i. every_in LowestP (vertices_of ms) (vertices-lowest ms K) p (vertex_has ms K p (only p i)))) (vertices-rising ms K)
          (λ p i. vertex_has ms K p (only p i)) (λ p i. all p (vertex_from ms K p i)))

      -- each once: as many
      pub vertices-many : Each l → length l ≡ length (vertices_of ms)
      vertices-many e = as_many l (vertices_of ms) e (rising_each before before_asymmetric (vertices_of ms) (vertices-rising ms K)) (λ p i. vertex_has ms K p (only p i)) (λ p i. all p (vertex_from ms K p i))

-- the corners, and a list that has the crossings, and vertices only
pub with_corners : (ms : List Map) (K : AllKeep ms) (xs : List Pt) → ((p : Pt) → Among p xs → Among p (collected ms)) → ((p : Pt) → Among p (crossings ms) → Among p xs) →
    the_in_order (rows (λ i. (layer ms i).graph.points) (length ms) ++ xs) ≡ vertices_of ms
with_corners ms K xs from has =
    vertices-sorted ms K (corners ++ xs) (λ p a. collected_from ms K p (⊎_elim (λ b. ++-among p corners (crossings ms) (inl b)) (from p) (among-++ p corners xs a)))
    (λ p v. ++-among p corners xs (⊎_elim (λ b. inl b) (λ b. inr (has p b)) (among-++ p corners (crossings ms) (collected_has ms K p v))))
  where
    corners : List Pt
    corners = rows (λ i. (layer ms i).graph.points) (length ms)
