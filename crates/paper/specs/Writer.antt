-- The overlay file's writer (01, "Overlay file"): "It refuses with 3 .., 5 .., 21 or 11 (place 4), in that order, and then zeroes its buffer". "The writer writes 3" (02, Ask 13), the newest version. Assumes nothing.
use Rattle.std.specs.Prelude.{◌&&◌, ◌∷◌, ◌+◌, ◌*◌, ◌^◌, ◌||◌, ◌-ℤ◌, ◌-◌}
use Rattle.seq.specs.Seq.{Bool, List, [], Option, ℕ, leb, ltb, length, pos, padded, not, eqb, the_some_below}
use Rattle.paper.specs.Limits.{maps, denominator_bytes}
use Rattle.paper.specs.Refusal.{given, first_of, answer, unless_refused, Refusal, Answer, first_at}
use Rattle.paper.specs.Tables.{source_cell, Counts, Tables, vertex_cell, twin_of, follower_of, predecessor_of}
use Rattle.paper.specs.Plane.{is_zer, sgn}
use Rattle.paper.specs.Graph.{twin}
use Rattle.paper.specs.Bytes.{the_fits_signed, fits_unsigned}
use Rattle.paper.specs.Ovfile.{Layout, layouts, layout_of, file_length, overlay_file, sound_edge, least_start, over}
use Rattle.paper.specs.Lent.{Lengths, lengths_of, room_in}

-- 5 "X, Y or D does not fit its bytes", or an "outgoing entry is not the least half-edge with that origin"
abbrev pub bad_vertex : Layout → Counts → Tables → ℕ → Bool
bad_vertex l c t v =
    not (the_fits_signed l.coordinate (vertex_cell t v 0) && (the_fits_signed l.coordinate (vertex_cell t v 1)
    && (fits_unsigned denominator_bytes (vertex_cell t v 2) && is_zer (sgn (vertex_cell t v 3 -ℤ pos (least_start c t v))))))

-- 21 "a half-edge whose twin is not the other half-edge of its edge or whose predecessor is not a half-edge of the tables that has it as follower"
abbrev pub bad_half : Counts → Tables → ℕ → Bool
bad_half c t h = let p = predecessor_of t h in
    not (eqb (twin_of t h) (twin h) && (ltb p (2 * c.edges) && eqb (follower_of t p) h))

-- 21 "an edge whose source is number 65,535": one that does not fit two bytes
abbrev pub wide_source : ℕ → Tables → ℕ → Bool
wide_source n t k = the_some_below (λ i. leb (256 ^ 2) (source_cell n t k i)) n

abbrev pub bad_edge : ℕ → Counts → Tables → ℕ → Bool
bad_edge n c t k =
    (not (sound_edge n c t k) || wide_source n t k) || (bad_half c t (2 * k) || bad_half c t (2 * k + 1))

-- "3 .., 5 .., 21 or 11 (place 4), in that order": into a buffer of n bytes
abbrev pub write_fault : Layout → ℕ → Lengths → Counts → Tables → Option Refusal
write_fault l n ls c t = first_of (
    given 3 0 (over (room_in l.maps ls) c)
    ∷ first_at 5 (bad_vertex l c t) c.vertices
    ∷ first_at 21 (bad_edge l.maps c t) c.edges
    ∷ given 11 4 (ltb n (file_length l c))
    ∷ [])

-- ── the writer ──

pub record Written : Type 0 where
  pub answer : Answer ℕ
  pub buffer : List ℕ

-- the file's length and the buffer of n bytes: "then zeroes its buffer. Past the file's length the buffer is zero"
abbrev pub write_by : ℕ → Layout → ℕ → Counts → Tables → Written
write_by version l n c t =
    let r = write_fault l n (lengths_of t) c t in
    record { answer = answer (file_length l c) r; buffer = unless_refused (padded 0 n (overlay_file version l c t)) (padded 0 n []) r }

-- the newest version is written, into a buffer of n bytes
abbrev pub write : ℕ → Counts → Tables → Written
write n c t = write_by (length layouts) (layout_of layouts (length layouts)) n c t
