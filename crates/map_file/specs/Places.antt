-- What stands in a file's bytes from a place on: vertices of four bytes each, edges of eight. At the places of a map file these are the definitions of 01
-- (proofs/PlacesLaws.antt). Assumes nothing.
use Rattle.std.specs.Prelude.{◌∷◌, ◌+◌, ◌*◌, ◌/◌, ◌%◌}
use Rattle.seq.specs.Seq.{List, [], ℕ, ℤ, pos}
use Rattle.paper.specs.Bytes.{u16, signed_at}

-- "x, y as signed 16-bit": the row of vertex v, with D = 1 and a spare cell
abbrev pub point_from : List ℕ → ℕ → ℕ → List ℤ
point_from s at v = signed_at 2 s (at + 4 * v) ∷ signed_at 2 s (at + 4 * v + 2) ∷ pos 1 ∷ pos 0 ∷ []

-- "from, to, left label, right label": the vertex that half-edge h starts from
abbrev pub origin_from : List ℕ → ℕ → ℕ → ℕ
origin_from s at h = u16 s (at + 8 * (h / 2) + 2 * (h % 2))

-- its label
abbrev pub label_from : List ℕ → ℕ → ℕ → ℕ
label_from s at h = u16 s (at + 8 * (h / 2) + 2 * (h % 2) + 4)
