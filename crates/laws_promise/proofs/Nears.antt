-- Of Nears of specs/, what rests on its definitions.
use Rattle.std.specs.Prelude.{◌≡◌, ◌<◌, ◌+◌, ◌*◌}
use Rattle.std.proofs.Common.{sym, ◌∙◌, ap, subst, arith}
use Rattle.seq.specs.Seq.{List, Option, none, some, ℕ, suc, length}
use Rattle.paper.specs.Graph.{Graph}
use Rattle.paper.specs.Map.{Map}
use Rattle.paper.specs.Pieces.{Piece}
use Rattle.paper.specs.Tables.{Counts, Tables, origin_of, source_cell, the_plus_one}
use Rattle.laws_overlay.specs.Links.{Runs}
use Rattle.laws_overlay.specs.Sources.{source_at}
use Rattle.laws_overlay.specs.Pieces.{piece_at}
use Rattle.laws_promise.specs.Defined.{Near}
use Rattle.laws_promise.specs.Rows.{Pieced, Rows}
use Rattle.laws_promise.specs.Nears.{low_end, high_end, runs-near, near-runs, piece-sourced}

plus_one : (o : Option ℕ) (j : ℕ) → the_plus_one o ≡ suc j → o ≡ some j
plus_one none j e = absurd (omega arith)
plus_one (some k) j e = ap some (omega arith)

module _ (ms : List Map) (ps : List Piece) (g : Graph) (N : Pieced ms ps g) (c : Counts) (t : Tables) (H : Rows ms ps g c t) where
  -- ── neighbours, by the tables and by the definition ──

  module _ (k : ℕ) (l : k < c.edges) where
    -- of its ends
    to_near : (i j : ℕ) → Runs ms g.points i j (piece_at ps k).lo (piece_at ps k).hi → Near ms c t i j (origin_of t (2 * k)) (origin_of t (2 * k + 1))
    to_near i j r =
        subst (λ (u : ℕ). Near ms c t i j u (origin_of t (2 * k + 1))) (sym (low_end ms ps g N c t H k l))
        (subst (λ (v : ℕ). Near ms c t i j (piece_at ps k).lo v) (sym (high_end ms ps g N c t H k l)) (runs-near ms ps g N c t H i j (piece_at ps k).lo (piece_at ps k).hi r))

    of_near : (i j : ℕ) → Near ms c t i j (origin_of t (2 * k)) (origin_of t (2 * k + 1)) → Runs ms g.points i j (piece_at ps k).lo (piece_at ps k).hi
    of_near i j n =
        near-runs ms ps g N c t H i j (piece_at ps k).lo (piece_at ps k).hi
        (subst (λ (u : ℕ). Near ms c t i j u (piece_at ps k).hi) (low_end ms ps g N c t H k l) (subst (λ (v : ℕ). Near ms c t i j (origin_of t (2 * k)) v) (high_end ms ps g N c t H k l) n))

    pub has_source_lem : (i : ℕ) × (j : ℕ) × Near ms c t i j (origin_of t (2 * k)) (origin_of t (2 * k + 1))
    has_source_lem = let (i, j, e) = (piece-sourced ms ps g N c t H k l).one in (i, j, to_near i j ((piece-sourced ms ps g N c t H k l).from i j e))

    pub cell-near : (i j : ℕ) → i < length ms → source_cell (length ms) t k i ≡ suc j → Near ms c t i j (origin_of t (2 * k)) (origin_of t (2 * k + 1))
    cell-near i j b e = to_near i j ((piece-sourced ms ps g N c t H k l).from i j (plus_one (source_at (piece_at ps k).sources i) j (sym (H.source_at_lem k i l b) ∙ e)))

    pub near-cell : (i j : ℕ) → Near ms c t i j (origin_of t (2 * k)) (origin_of t (2 * k + 1)) → source_cell (length ms) t k i ≡ suc j
    near-cell i j n = H.source_at_lem k i l n.in_list ∙ ap the_plus_one ((piece-sourced ms ps g N c t H k l).all i j (of_near i j n))
