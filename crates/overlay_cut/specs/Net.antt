-- The overlay's graph in tables, from the table of pieces: of each edge its ends, and the carrier of the first map that it comes from. Assumes nothing.
use Rattle.std.specs.Prelude.{ℤ, ◌∷◌, ◌+◌, ◌-◌}
use Rattle.seq.specs.Seq.{cond, List, [], ℕ, ltb, cell, least}
use Rattle.paper.specs.Limits.{maps}
use Rattle.paper.specs.Plane.{Seg}
use Rattle.paper.specs.Graph.{no_edge}
use Rattle.graph.specs.Flat.{carrier_at}
use Rattle.overlay_cut.specs.PieceRows.{piece_width, piece_at}
use Rattle.overlay_cut.specs.Cuts.{start_of}

-- "Half-edge 2k goes from lower to upper, 2k+1 back"
abbrev pub ends_of : List ℕ → ℕ → List ℕ
ends_of t k = (piece_at t k).lo ∷ (piece_at t k).hi ∷ []

-- what is stored for map m: a source + 1 or 0
abbrev pub the_source_in : List ℕ → ℕ → ℕ → ℕ
the_source_in t k m = cell 0 piece_width t k (2 + m)

-- the first map that the piece in row k comes from, or how many maps there are
abbrev pub first_map : List ℕ → ℕ → ℕ
first_map t k = least (λ m. ltb 0 (the_source_in t k m)) maps

abbrev pub no_seg : Seg
no_seg = no_edge.carrier

-- edge j of map m, where it has one
abbrev pub the_edge_in : List ℤ → List ℕ → ℕ → ℕ → Seg
the_edge_in cs st m j = cond (ltb (start_of st m + j) (start_of st (m + 1))) (carrier_at cs (start_of st m + j)) no_seg

-- the edge of an input map that the piece in row k lies along
abbrev pub carrier_in : List ℕ → List ℤ → List ℕ → ℕ → Seg
carrier_in t cs st k = let m = first_map t k in cond (ltb m maps) (the_edge_in cs st m (the_source_in t k m - 1)) no_seg

abbrev pub seg_row : Seg → List ℤ
seg_row s = s.foot.x ∷ s.foot.y ∷ s.up.x ∷ s.up.y ∷ []
