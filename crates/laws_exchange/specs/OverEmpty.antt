-- "Laying the empty map over a map must give each half-edge that map's label and 0" (02, Ask 11), of what comes out: file i is a map and all others are the empty map (`OnlyMap`). Where the overlay is done each half-edge lies
-- along an edge of that map, and what its face stores is the label of that edge on its side for the map, and 0 for every other (`OverEmpty`, `over_empty`); it is what `Defined` calls its labels. From `Defined`, so from
-- the promise (`over_empty-done`). It is done wherever the map passes and there is room (`passes_is-defined`, as the empty map passes). Assumes nothing.
use Rattle.std.specs.Prelude.{◌≡◌, refl, ◌<◌, ◌∷◌, ◌+◌, ◌*◌, ◌/◌}
use Rattle.std.proofs.Common.{sym, ◌∙◌, ap, subst, inl, inr, not-suc-le-zero, arith}
use Rattle.std.proofs.Math.Decide.{ℕ_discrete}
use Rattle.seq.specs.Seq.{List, [], Option, none, some, ℕ, zero, suc, length, get_or, or_zero}
use Rattle.seq.specs.Table.{table_at}
use Rattle.paper.specs.Limits.{maps}
use Rattle.paper.specs.Refusal.{done}
use Rattle.paper.specs.Map.{Map, map_of, label, empty}
use Rattle.paper.specs.Pieces.{layer}
use Rattle.paper.specs.Sample.{empty_file}
use Rattle.paper.specs.Tables.{Counts, Tables, origin_of, face_of, face_cell}
use Rattle.paper.specs.Lent.{Lengths}
use Rattle.laws_map.specs.Keeps.{edges}
use Rattle.laws_overlay.specs.Files.{maps_of, layer_is, maps-count}
use Rattle.laws_promise.specs.Defined.{Near, LabelAlong, Labelled, Defined}
use Rattle.laws_promise.proofs.Promised.{done_is-defined}
use Rattle.tables.specs.Answers as code
use Rattle.tables.specs.Values.{answer_of}
use Rattle.tables.specs.Promise.{Promised}

-- file i is a map, and the others are the empty map
pub record OnlyMap (files : List (List ℕ)) (i : ℕ) : Type 0 where
  pub in_list : i < length files
  pub others : (j : ℕ) → j < length files → (j ≡ i → ⊥) → get_or files j [] ≡ empty_file

-- "each half-edge that map's label and 0"
pub record OverEmpty (files : List (List ℕ)) (i : ℕ) (c : Counts) (t : Tables) : Type 0 where
  -- it lies along an edge of the map, and has the label of that edge on that side
  pub its-label : (h : ℕ) → h < 2 * c.edges → LabelAlong (maps_of files) c t i h (face_cell (length files) t (face_of t h) i)
  -- and of every other map 0
  pub no_label : (h j : ℕ) → h < 2 * c.edges → j < length files → (j ≡ i → ⊥) → face_cell (length files) t (face_of t h) j ≡ 0

module _ (l : Lengths) (files : List (List ℕ)) (i : ℕ) (O : OnlyMap files i) (c : Counts) (t : Tables) (D : Defined l files c t) where
  abbrev ms : List Map
  ms = maps_of files

  empty_at : (j : ℕ) → j < length files → (j ≡ i → ⊥) → layer ms j ≡ empty
  empty_at j b d = layer_is files j ∙ ap map_of (O.others j b d)

  -- along no edge of an empty map
  not_along : (j k u v : ℕ) → j < length files → (j ≡ i → ⊥) → Near ms c t j k u v → ⊥
  not_along j k u v b d n = not-suc-le-zero (subst (λ (m : Map). k < edges m) (empty_at j b d) n.of_map)

  -- in it every label is 0
  zero_in : (m : Map) → m ≡ empty → (s : Option ℕ) → or_zero (label m) s ≡ 0
  zero_in m e s = ap (λ (x : Map). or_zero (label x) s) e ∙ go s
    where
      go : (s : Option ℕ) → or_zero (label empty) s ≡ 0
      go none = refl
      go (some h) = refl

  module _ (h : ℕ) (lh : h < 2 * c.edges) where
    -- what the face stores is what `Defined` calls its label
    face-label : (j : ℕ) → j < length files → get_or (D.pair h) j 0 ≡ face_cell (length files) t (face_of t h) j
    face-label j b = ap (λ (xs : List ℕ). get_or xs j 0) (sym (D.agrees.stored-pair h lh)) ∙ table_at (face_cell (length files) t (face_of t h)) (length files) j 0 b

    labelled : (j : ℕ) → j < length files → Labelled ms c t j h (face_cell (length files) t (face_of t h) j)
    labelled j b = subst (Labelled ms c t j h) (face-label j b) (D.pair_is h j lh b)

    its_own : LabelAlong ms c t i h (face_cell (length files) t (face_of t h) i)
    its_own = go (labelled i O.in_list) (D.edges.edge_is (h / 2) (omega arith))
      where
        go : Labelled ms c t i h (face_cell (length files) t (face_of t h) i) → (j : ℕ) × (k : ℕ) × Near ms c t j k (origin_of t (2 * (h / 2))) (origin_of t (2 * (h / 2) + 1)) →
            LabelAlong ms c t i h (face_cell (length files) t (face_of t h) i)
        go (inl A) e = A
        go (inr S) (j, k, n) =
            elim (ℕ_discrete j i) [
              | yes q ↦ absurd (S.off k (subst (λ (x : ℕ). Near ms c t x k (origin_of t (2 * (h / 2))) (origin_of t (2 * (h / 2) + 1))) q n))
              | no q ↦ absurd (not_along j k (origin_of t (2 * (h / 2))) (origin_of t (2 * (h / 2) + 1)) (subst (λ (x : ℕ). j < x) (maps-count files) n.in_list) q n)
            ]

    none_of : (j : ℕ) → j < length files → (j ≡ i → ⊥) → face_cell (length files) t (face_of t h) j ≡ 0
    none_of j b d = go (labelled j b)
      where
        go : Labelled ms c t j h (face_cell (length files) t (face_of t h) j) → face_cell (length files) t (face_of t h) j ≡ 0
        go (inl A) = absurd (not_along j A.edge (origin_of t (2 * (h / 2))) (origin_of t (2 * (h / 2) + 1)) b d A.near)
        go (inr S) = S.label_is ∙ zero_in (layer ms j) (empty_at j b d) S.seen

  pub over_empty : OverEmpty files i c t
  over_empty = record { its-label = its_own; no_label = λ h j a b d. none_of h a j b d }

-- whenever it is done
pub over_empty-done : (l : Lengths) (files : List (List ℕ)) (i : ℕ) → OnlyMap files i → (r : code.Answer) (t : Tables) → Promised l files r t → (c : Counts) → answer_of r ≡ done c → OverEmpty files i c t
over_empty-done l files i O r t promise c e = over_empty l files i O c t (done_is-defined l files r t promise c e)

-- of three: a map with the empty map over it, or laid over the empty map
pub map_first : (a : List ℕ) → OnlyMap (a ∷ empty_file ∷ empty_file ∷ []) 0
map_first a = record { in_list = omega arith; others = others }
  where
    others : (j : ℕ) → j < maps → (j ≡ 0 → ⊥) → get_or (a ∷ empty_file ∷ empty_file ∷ []) j [] ≡ empty_file
    others zero b d = absurd (d refl)
    others (suc zero) b d = refl
    others (suc (suc zero)) b d = refl
    others (suc (suc (suc j))) b d = absurd (omega arith)

pub map-second : (a : List ℕ) → OnlyMap (empty_file ∷ a ∷ empty_file ∷ []) 1
map-second a = record { in_list = omega arith; others = others }
  where
    others : (j : ℕ) → j < maps → (j ≡ 1 → ⊥) → get_or (empty_file ∷ a ∷ empty_file ∷ []) j [] ≡ empty_file
    others zero b d = refl
    others (suc zero) b d = absurd (d refl)
    others (suc (suc zero)) b d = refl
    others (suc (suc (suc j))) b d = absurd (omega arith)
