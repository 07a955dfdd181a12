-- What the stages of thinning make, put together: marks of the ends, new numbers by them, and rows moved down are the thinned tables. Each stage comes with what its function promises.
-- Assumes nothing.
use Rattle.std.specs.Prelude.{◌≡◌, ◌≤◌, ◌<◌}
use Rattle.std.proofs.Common.{sym, ◌∙◌, ap, arith}
use Rattle.std.proofs.lemmas.Simd.{map-map}
use Rattle.std.proofs.lemmas.List.{length-replicate, get_or-replicate}
use Rattle.seq.specs.Seq.{Bool, List, map, ℕ, length, get_or, replicate, count, select, filled}
use Rattle.seq.specs.Members.{map-ext}
use Rattle.seq.specs.Count.{count-ext}
use Rattle.seq.specs.Select.{select-ext, select_from_lem}
use Rattle.seq.specs.Filled.{Holds, filled_at, length-filled}
use Rattle.paper.specs.Pieces.{Piece}
use Rattle.paper.specs.Melt.{is_end, afresh}
use Rattle.graph.specs.Flat.{the_point_at}
use Rattle.overlay_cut.specs.Points.{points_of}
use Rattle.overlay_cut.specs.PieceRows.{piece, piece_at, pieces_in}
use Rattle.overlay_graph.specs.Cut.{Cut}
use Rattle.thin.specs.Thinned.{separates_in, kept_in, flag, marked, moved_piece, EdgesIn, Thinnable, Thinned}
use Rattle.thin.specs.Laws.Marking.{ends_more, marked_is}

-- ── tables that were zero ──

pub zeros-hold : (m n : ℕ) → n ≤ m → Holds (λ v. 0) (replicate m 0) n
zeros-hold m n h = record { long = omega (arith, length-replicate {A = ℕ} m 0); at = λ i l. get_or-replicate m i 0 0 (omega arith) }

-- the ends of the edges have new numbers
pub ends_numbered : {pieces face triples : List ℕ} (n e m : ℕ) (f : ℕ → ℕ) (numbers : List ℕ) → EdgesIn pieces face triples n e → n ≤ m → numbers ≡ filled n f (replicate m 0)
    → EdgesIn pieces face triples (length numbers) e
ends_numbered n e m f numbers E h q =
    let long : length numbers ≡ m = ap length q ∙ length-filled f n (replicate m 0) (omega (arith, length-replicate {A = ℕ} m 0)) ∙ length-replicate m 0 in
    record { sides = E.sides; ends = λ k l. ends_more (E.ends k l) (omega arith) }

-- ── put together ──

module _ (c : Cut) (face triples : List ℕ) (T : Thinnable c face triples) (marks numbers d : List ℕ)
    (M : Holds (λ v. flag (is_end (kept_in c.pieces face triples c.edges) v)) marks c.vertices) (N : numbers ≡ filled c.vertices (count (marked marks)) d) where
  abbrev kept : List Piece
  kept = kept_in c.pieces face triples c.edges

  abbrev used : ℕ → Bool
  used = is_end kept

  same : (v : ℕ) → v < c.vertices → marked marks v ≡ used v
  same = marked_is used marks c.vertices M

  -- a vertex's new number is how many stay before it
  number_is : (v : ℕ) → v < c.vertices → get_or numbers v 0 ≡ count used v
  number_is v l =
      ap (λ (x : List ℕ). get_or x v 0) N ∙ filled_at (count (marked marks)) c.vertices v d 0 l ∙ count-ext (marked marks) used v (λ k q. same k (omega arith))

  moved_is : (k : ℕ) → k < c.edges → moved_piece c.pieces numbers k ≡ afresh used (piece_at c.pieces k)
  moved_is k l =
      let e = T.edges_in_lem.ends k l in
      λ i. piece (number_is (piece_at c.pieces k).lo e.lower i) (number_is (piece_at c.pieces k).hi e.upper i) (piece_at c.pieces k).sources

  pub thinned : (out : Cut) → out.vertices ≡ count (marked marks) c.vertices → points_of out.points out.vertices ≡ map (the_point_at c.points) (select (marked marks) c.vertices)
      → out.edges ≡ count (separates_in face triples) c.edges → pieces_in out.pieces out.edges ≡ map (moved_piece c.pieces numbers) (select (separates_in face triples) c.edges)
      → Thinned c face triples out
  thinned out a b e f = record {
    vertices_is = a ∙ count-ext (marked marks) used c.vertices same;
    edges_is = e;
    points-are = b ∙ ap (map (the_point_at c.points)) (select-ext (marked marks) used c.vertices same);
    pieces_are = f
        ∙ map-ext (moved_piece c.pieces numbers) (λ k. afresh used (piece_at c.pieces k)) (select (separates_in face triples) c.edges)
        (λ k i. moved_is k (select_from_lem (separates_in face triples) c.edges k i).0)
        ∙ sym (map-map (afresh used) (piece_at c.pieces) (select (separates_in face triples) c.edges));
  }
