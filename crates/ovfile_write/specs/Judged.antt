-- What the functions of the writer ask and promise of each other: a vertex judged by a table of least outgoing half-edges, vertices whose numbers fit, and the
-- fields of the head. The promise on a table is a record, so that a large table of one value is compared by its name and not cell by cell. Assumes nothing.
use Rattle.std.specs.Prelude.{◌≡◌, ◌<◌, ◌≤◌, ◌&&◌, ◌∷◌, ◌^◌, ◌-ℤ◌}
use Rattle.seq.specs.Seq.{Bool, not, List, [], ℕ, eqb, length, get_or, ℤ, pos, nat_abs, cell}
use Rattle.paper.specs.Limits.{overlay_vertices, coordinate_bytes, denominator_bytes}
use Rattle.paper.specs.Plane.{is_zer, sgn}
use Rattle.paper.specs.Bytes.{the_fits_signed, fits_unsigned}
use Rattle.paper.specs.Tables.{vertex_width, least_half, Counts}
use Rattle.paper.specs.Ovfile.{layouts}
use Rattle.ovfile.specs.Firsts.{column}

-- the cell j of a vertex's row
abbrev pub vertex_at : List ℤ → ℕ → ℕ → ℤ
vertex_at vs v j = cell (pos 0) vertex_width vs v j

-- a vertex is refused, where the table has its least outgoing half-edge
abbrev pub bad_vertex_by : List ℤ → List ℕ → ℕ → Bool
bad_vertex_by vs starts v =
    not (the_fits_signed coordinate_bytes (vertex_at vs v 0) && (the_fits_signed coordinate_bytes (vertex_at vs v 1)
    && (fits_unsigned denominator_bytes (vertex_at vs v 2) && is_zer (sgn (vertex_at vs v 3 -ℤ pos (get_or starts v 0))))))

-- t has in cell v the least of n half-edges that starts at v, "65,535 if none"
pub record LeastStarts (hs : List ℕ) (n : ℕ) (t : List ℕ) : Type 0 where
  pub at : (v : ℕ) → v < overlay_vertices → get_or t v 0 ≡ least_half (λ h. eqb (column hs 0 h) v) n

-- X, Y and D of vertex v are no longer than their bytes
pub record VertexFits (vs : List ℤ) (v : ℕ) : Type 0 where
  pub x : nat_abs (vertex_at vs v 0) ≤ 256 ^ coordinate_bytes
  pub y : nat_abs (vertex_at vs v 1) ≤ 256 ^ coordinate_bytes
  pub d : nat_abs (vertex_at vs v 2) ≤ 256 ^ denominator_bytes

-- so do those of the first n vertices
pub record VerticesFit (vs : List ℤ) (n : ℕ) : Type 0 where
  pub at : (v : ℕ) → v < n → VertexFits vs v

-- "16-bit version .., three counts": the newest version
abbrev pub head_fields : Counts → List ℕ
head_fields c = length layouts ∷ c.vertices ∷ c.edges ∷ c.faces ∷ []
