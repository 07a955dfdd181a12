-- Of Links of specs/, what rests on its definitions.
use Rattle.std.specs.Prelude.{◌≡◌, refl, ◌<◌, ◌∷◌}
use Rattle.std.proofs.Common.{sym, subst, inl, inr, ⊎_elim, arith}
use Rattle.seq.specs.Seq.{List, [], Option, ℕ, length}
use Rattle.seq.specs.Terms.{Among, Asc}
use Rattle.seq.specs.Rows.{among-rows, rows-among}
use Rattle.paper.specs.Plane.{Pt}
use Rattle.paper.specs.Map.{Map}
use Rattle.paper.specs.Pieces.{layer, Piece, only, links, links_from, along, pieces_of}
use Rattle.laws_map.specs.Keeps.{edges}
use Rattle.laws_overlay.specs.Links.{Link, cut_out, Runs, along_asc, link-neighbours, piece_of, link_has, neighbours-link}

-- ── between neighbours of a rising list of numbers ──

module _ (s : List (Option ℕ)) where
  no_between : (v w x : ℕ) (ws : List ℕ) → Asc (w ∷ ws) → Among x (v ∷ w ∷ ws) → v < x → x < w → ⊥
  no_between v w x ws a (inl e) h l = omega arith
  no_between v w x ws a (inr (inl e)) h l = omega arith
  no_between v w x ws a (inr (inr i)) h l = omega (arith, a.0 x i)

  from_step : (v : ℕ) (l : List ℕ) → Asc (v ∷ l) → (q : Piece) → Among q (links_from s v l) → (q.sources ≡ s) × Link (v ∷ l) q.lo q.hi
  from_step v [] a q i = absurd i
  from_step v (w ∷ ws) a q (inl e) =
      subst (λ (p : Piece). (p.sources ≡ s) × Link (v ∷ w ∷ ws) p.lo p.hi) (sym e)
      (refl, record { rises = a.0 w (inl refl); lower = inl refl; upper = inr (inl refl); none = λ x j. no_between v w x ws a.1 j })
  from_step v (w ∷ ws) a q (inr i) =
      let (o, r) = from_step w ws a.1 q i in (
        o,
        record {
          rises = r.rises;
          lower = inr r.lower;
          upper = inr r.upper;
          none = λ x j h l. ⊎_elim (λ e. omega (arith, a.0 q.lo r.lower)) (λ k. r.none x k h l) j;
        },
      )

  -- each goes between neighbours
  pub link_from : (l : List ℕ) → Asc l → (q : Piece) → Among q (links s l) → (q.sources ≡ s) × Link l q.lo q.hi
  link_from [] a q i = absurd i
  link_from (v ∷ vs) a q i = from_step v vs a q i

-- ── the pieces of all edges, as they come ──

module _ (ms : List Map) (vs : List Pt) where
  abbrev edge_pieces : ℕ → ℕ → List Piece
  edge_pieces i k = links (only (length ms) i k) (along vs (layer ms i).graph k)

  pub cut_from : (q : Piece) → Among q (cut_out ms vs) → (i : ℕ) × (k : ℕ) × (q.sources ≡ only (length ms) i k) × Runs ms vs i k q.lo q.hi
  cut_from q a =
      let (i, li, s) = rows-among (pieces_of ms vs) (length ms) q a in
      let (k, lk, t) = rows-among (edge_pieces i) (edges (layer ms i)) q s in
      let (o, r) = link_from (only (length ms) i k) (along vs (layer ms i).graph k) (along_asc vs (layer ms i).graph k) q t in
      (i, k, o, record { in_list = li; of_map = lk; near = link-neighbours vs (layer ms i).graph k q.lo q.hi r })

  pub cut_has : (i k lo hi : ℕ) → Runs ms vs i k lo hi → Among (piece_of lo hi (only (length ms) i k)) (cut_out ms vs)
  cut_has i k lo hi r =
      among-rows (pieces_of ms vs) (length ms) i (piece_of lo hi (only (length ms) i k)) r.in_list
      (among-rows (edge_pieces i) (edges (layer ms i)) k (piece_of lo hi (only (length ms) i k)) r.of_map
      (link_has (only (length ms) i k) (along vs (layer ms i).graph k) (along_asc vs (layer ms i).graph k) lo hi (neighbours-link vs (layer ms i).graph k lo hi r.near)))
