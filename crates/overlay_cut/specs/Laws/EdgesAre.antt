-- The pieces that the tables give are the pieces of the maps' edges, so that the table of pieces is `edges_of` the maps that the tables hold; and where it is full
-- there are at least as many as it has room for. Assumes nothing.
use Rattle.std.specs.Prelude.{◌≡◌, ◌≤◌, ◌<◌, ℤ, ◌+◌}
use Rattle.std.proofs.Common.{sym, ◌∙◌, ap, subst, arith}
use Rattle.exact.specs.Lowest.{Pt}
use Rattle.seq.specs.Seq.{List, [], ℕ, length, select, rows}
use Rattle.seq.specs.Select.{select-ext}
use Rattle.seq.specs.Rows.{rows_ext}
use Rattle.seq.specs.Table.{length-table, table_at}
use Rattle.paper.specs.Limits.{maps}
use Rattle.paper.specs.Plane.{on_seg}
use Rattle.paper.specs.Graph.{Graph, edge, point_in}
use Rattle.paper.specs.Map.{Map}
use Rattle.paper.specs.Pieces.{Piece, layer, only, links, along, pieces_of, edges_of, pieces_in_order, earlier, joined}
use Rattle.graph.specs.Flat.{the_point_at, carrier_at}
use Rattle.overlay_cut.specs.Points.{points_of, no_point}
use Rattle.overlay_cut.specs.Capped.{Cap, cap-whole, cap_full, put_all_cap}
use Rattle.overlay_cut.specs.PieceRows.{piece_at, pieces_in}
use Rattle.overlay_cut.specs.Cutting.{puts}
use Rattle.overlay_cut.specs.Cuts.{start_of, the_on_edge, cut_row, cut_part, cut_all}
use Rattle.overlay_cut.specs.Laws.Holds.{Holds, edges_in, edges_from_lem}

-- the r pieces in a table are the edges of the overlay with the vertices vs
pub record Edges (ms : List Map) (vs : List Pt) (out : List ℕ) (r : ℕ) : Type 0 where
  pub are : pieces_in out r ≡ edges_of ms vs
  pub many : r ≡ length (edges_of ms vs)

module _ (ps : List ℤ) (n : ℕ) where
  -- the vertices on an edge
  pub along_is : (g : Graph) (k : ℕ) → the_on_edge ps n (edge g k).carrier ≡ along (points_of ps n) g k
  along_is g k =
      select-ext (λ v. on_seg (edge g k).carrier (the_point_at ps v)) (λ v. on_seg (edge g k).carrier (point_in (points_of ps n) v)) n
      (λ v h. ap (on_seg (edge g k).carrier) (sym (table_at (the_point_at ps) n v no_point h)))
      ∙ ap (select (λ v. on_seg (edge g k).carrier (point_in (points_of ps n) v))) (sym (length-table (the_point_at ps) n))

  module _ {ms : List Map} {corners : List ℤ} {c : ℕ} {cs : List ℤ} {st : List ℕ} (H : Holds ms corners c cs st) where
    -- the pieces of edge k of map m
    row_is : (m k : ℕ) → m < maps → k < edges_in ms m → cut_row ps n cs (start_of st m) m k ≡ links (only (length ms) m k) (along (points_of ps n) (layer ms m).graph k)
    row_is m k h l =
        let e : the_on_edge ps n (carrier_at cs (start_of st m + k)) ≡ along (points_of ps n) (layer ms m).graph k = ap (the_on_edge ps n) (H.carriers-are m k h l) ∙ along_is (layer ms m).graph k in
        (λ i. links (only (sym H.count i) m k) (e i))

    pub pieces_are : cut_all ps n cs st ≡ rows (pieces_of ms (points_of ps n)) (length ms)
    pieces_are =
        rows_ext (cut_part ps n cs st) (pieces_of ms (points_of ps n)) maps
        (λ m h. ap (rows (cut_row ps n cs (start_of st m) m)) (edges_from_lem H m h)
        ∙ rows_ext (cut_row ps n cs (start_of st m) m) (λ k. links (only (length ms) m k) (along (points_of ps n) (layer ms m).graph k)) (edges_in ms m) (λ k l. row_is m k h l))
        ∙ ap (rows (pieces_of ms (points_of ps n))) (sym H.count)

    -- ── in a table with room for so many ──

    module _ (room : ℕ) (vs : List Pt) (v : points_of ps n ≡ vs) (out : List ℕ) (r : ℕ) (e : pieces_in out r ≡ puts room [] (cut_all ps n cs st)) where
      ordered : pieces_in_order (cut_all ps n cs st) ≡ edges_of ms vs
      ordered = ap pieces_in_order pieces_are ∙ ap (edges_of ms) v

      cap : Cap room (pieces_in out r) (edges_of ms vs)
      cap = subst (λ (l : List Piece). Cap room (pieces_in out r) l) ordered (subst (λ (l : List Piece). Cap room l (pieces_in_order (cut_all ps n cs st))) (sym e) (put_all_cap earlier joined room (cut_all ps n cs st)))

      -- they are the edges, if there are fewer
      pub edges_are : r < room → Edges ms vs out r
      edges_are h =
          let q : pieces_in out r ≡ edges_of ms vs = cap-whole cap (omega (arith, length-table (piece_at out) r)) in
          record { are = q; many = sym (length-table (piece_at out) r) ∙ ap length q }

      -- and otherwise there are at least so many
      pub edges_over : room ≤ r → room ≤ length (edges_of ms vs)
      edges_over h = omega (arith, cap_full cap (omega (arith, length-table (piece_at out) r)))
