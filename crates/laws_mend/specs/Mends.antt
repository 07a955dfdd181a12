-- What is kept and what is listed, as 02 says (`Mends`): of a file that can be mended, the mended file and its list are such (`mends`). Assumes nothing.
use Rattle.std.specs.Prelude.{◌≡◌, refl, ◌⊎◌, ◌<◌, ◌+◌, ◌*◌}
use Rattle.std.proofs.Common.{inl, inr, ⊎_elim, arith}
use Rattle.std.proofs.Math.Decide.{dec_lt}
use borrow.Author.Tests as Not
use Rattle.seq.specs.Seq.{Bool, true, false, List, ℕ, length, get_or, count}
use Rattle.seq.specs.Terms.{Among, Rising}
use Rattle.seq.specs.Tests.{never}
use Rattle.seq.specs.Count.{count-rises, one_of}
use Rattle.seq.specs.PairOrder.{pair_before}
use Rattle.paper.specs.Graph.{Graph, point, edge}
use Rattle.paper.specs.Map.{map_of, label, doubled}
use Rattle.laws_map.specs.Keeps.{edges, vertices}
use Rattle.laws_file.specs.Bytes.{Bytes}
use Rattle.paper.specs.Mend.{shrunk, repeated, kept_edge, kept_edges, has_edge, bare, kept_vertices, entries, mended}
use Rattle.laws_mend.specs.Merged.{edge_three, vertex_three}
use Rattle.laws_mend.specs.Clean.{Mendable}
use Rattle.laws_mend.specs.Kept.{equal-points, vertices-now, edges-now, vertex_of_lem, edge_of, point-now, from_point, to_point, left_now, right_now, new_vertex, new_edge}
use Rattle.laws_mend.specs.Listed.{Entry, merges, shrinks, repeats, drops, of_step, entry_is, entries-rise, vertex-balance, edge-balance, lists-merged, lists-shrunk, lists-repeated, lists-bare}

-- what is kept, what is listed: t is s mended, es the list
pub record Mends (s t : List ℕ) (es : List (ℕ × ℕ)) : Type 0 where
  -- the original number of each vertex and edge of the mended file
  pub old_vertex : ℕ → ℕ
  pub old_edge : ℕ → ℕ
  -- "the rest close up in order"
  pub vertex_below : (i : ℕ) → i < vertices (map_of t) → old_vertex i < vertices (map_of s)
  pub vertex-rises : (i j : ℕ) → i < vertices (map_of t) → j < i → old_vertex j < old_vertex i
  pub edge_below : (k : ℕ) → k < edges (map_of t) → old_edge k < edges (map_of s)
  pub edge-rises : (k j : ℕ) → k < edges (map_of t) → j < k → old_edge j < old_edge k
  -- "No corner that stays moves and no kept label changes"
  pub corner-stays : (i : ℕ) → i < vertices (map_of t) → point (map_of t).graph i ≡ point (map_of s).graph (old_vertex i)
  pub from_stays : (k : ℕ) → k < edges (map_of t) → point (map_of t).graph (edge (map_of t).graph k).from ≡ point (map_of s).graph (edge (map_of s).graph (old_edge k)).from
  pub to_stays : (k : ℕ) → k < edges (map_of t) → point (map_of t).graph (edge (map_of t).graph k).to ≡ point (map_of s).graph (edge (map_of s).graph (old_edge k)).to
  pub left_stays : (k : ℕ) → k < edges (map_of t) → label (map_of t) (2 * k) ≡ label (map_of s) (2 * old_edge k)
  pub right_stays : (k : ℕ) → k < edges (map_of t) → label (map_of t) (2 * k + 1) ≡ label (map_of s) (2 * old_edge k + 1)
  -- what is not listed is kept, and what is kept is not listed
  pub vertex-kept : (v : ℕ) → v < vertices (map_of s) → Among (1, v) es ⊎ (Among (4, v) es ⊎ ((i : ℕ) × (i < vertices (map_of t)) × (old_vertex i ≡ v)))
  pub edge_kept : (k : ℕ) → k < edges (map_of s) → Among (2, k) es ⊎ (Among (3, k) es ⊎ ((i : ℕ) × (i < edges (map_of t)) × (old_edge i ≡ k)))
  pub vertex-unlisted : (i : ℕ) → i < vertices (map_of t) → (Among (1, old_vertex i) es ⊎ Among (4, old_vertex i) es) → ⊥
  pub edge-unlisted : (k : ℕ) → k < edges (map_of t) → (Among (2, old_edge k) es ⊎ Among (3, old_edge k) es) → ⊥
  -- "entries stand by step, then number", each vertex and each edge once at most
  pub in_order : Rising pair_before es
  pub vertex-once : (v : ℕ) → Among (1, v) es → Among (4, v) es → ⊥
  pub edge-once : (k : ℕ) → Among (2, k) es → Among (3, k) es → ⊥
  pub vertex-balance : vertices (map_of t) + of_step 1 es + of_step 4 es ≡ vertices (map_of s)
  pub edge-balance : edges (map_of t) + of_step 2 es + of_step 3 es ≡ edges (map_of s)

one_of_three : (a b c : Bool) → one_of a b c ≡ true → (a ≡ true) ⊎ ((b ≡ true) ⊎ (c ≡ true))
one_of_three true b c e = inl refl
one_of_three false true c e = inr (inl refl)
one_of_three false false true e = inr (inr refl)
one_of_three false false false e = never e

not_both : (a b c : Bool) → one_of a b c ≡ true → a ≡ true → b ≡ true → ⊥
not_both true true c e f h = never e
not_both true false c e f h = never h
not_both false b c e f h = never f

kept-neither : (a b c : Bool) → one_of a b c ≡ true → c ≡ true → (a ≡ true) ⊎ (b ≡ true) → ⊥
kept-neither true true c e f h = never e
kept-neither true false true e f h = never e
kept-neither true false false e f h = never f
kept-neither false true true e f h = never e
kept-neither false true false e f h = never f
kept-neither false false c e f (inl h) = never h
kept-neither false false c e f (inr h) = never h

module _ (s : List ℕ) (M : Mendable s) (B : Bytes s) where
  abbrev gr : Graph
  gr = (map_of s).graph

  abbrev t : List ℕ
  t = mended (map_of s)

  abbrev es : List (ℕ × ℕ)
  es = entries (map_of s).graph

  abbrev kept_v : ℕ → Bool
  kept_v = has_edge (map_of s).graph (kept_edges (map_of s).graph)

  abbrev kept_e : ℕ → Bool
  kept_e = kept_edge (map_of s).graph

  -- what an entry says, by its step
  says_1 : (v : ℕ) → Among (1, v) (entries (map_of s).graph) → doubled (map_of s).graph v ≡ true
  says_1 v a = go (entry_is gr (1, v) a)
    where
      go : Entry gr (1, v) → doubled gr v ≡ true
      go (merges q l e) = e
      go (shrinks q l e) = absurd (omega arith)
      go (repeats q l e) = absurd (omega arith)
      go (drops q l e) = absurd (omega arith)

  says_2 : (k : ℕ) → Among (2, k) (entries (map_of s).graph) → shrunk (map_of s).graph k ≡ true
  says_2 k a = go (entry_is gr (2, k) a)
    where
      go : Entry gr (2, k) → shrunk gr k ≡ true
      go (merges q l e) = absurd (omega arith)
      go (shrinks q l e) = e
      go (repeats q l e) = absurd (omega arith)
      go (drops q l e) = absurd (omega arith)

  says_3 : (k : ℕ) → Among (3, k) (entries (map_of s).graph) → repeated (map_of s).graph k ≡ true
  says_3 k a = go (entry_is gr (3, k) a)
    where
      go : Entry gr (3, k) → repeated gr k ≡ true
      go (merges q l e) = absurd (omega arith)
      go (shrinks q l e) = absurd (omega arith)
      go (repeats q l e) = e
      go (drops q l e) = absurd (omega arith)

  says_4 : (v : ℕ) → Among (4, v) (entries (map_of s).graph) → bare (map_of s).graph (kept_edges (map_of s).graph) v ≡ true
  says_4 v a = go (entry_is gr (4, v) a)
    where
      go : Entry gr (4, v) → bare gr (kept_edges gr) v ≡ true
      go (merges q l e) = absurd (omega arith)
      go (shrinks q l e) = absurd (omega arith)
      go (repeats q l e) = absurd (omega arith)
      go (drops q l e) = e

  v_three : (v : ℕ) → one_of (doubled (map_of s).graph v) (bare (map_of s).graph (kept_edges (map_of s).graph) v) (kept_v v) ≡ true
  v_three v = vertex_three gr (equal-points s) v

  rises : (p : ℕ → Bool) (x y i j : ℕ) → count p x ≡ i → count p y ≡ j → j < i → y < x
  rises p x y i j a b l = elim (dec_lt y x) [ yes q ↦ q | no q ↦ absurd (omega (arith, count-rises p x y (omega arith))) ]

  pub mends : Mends s (mended (map_of s)) (entries (map_of s).graph)
  mends = record {
    old_vertex = λ i. get_or (kept_vertices gr) i 0;
    old_edge = λ k. get_or (kept_edges gr) k 0;
    vertex_below = λ i l. (vertex_of_lem s i (nv i l)).0;
    vertex-rises = λ i j l q. rises kept_v (get_or (kept_vertices gr) i 0) (get_or (kept_vertices gr) j 0) i j (vertex_of_lem s i (nv i l)).2 (vertex_of_lem s j (nv j (omega arith))).2 q;
    edge_below = λ k l. (edge_of s k (ne k l)).0;
    edge-rises = λ k j l q. rises kept_e (get_or (kept_edges gr) k 0) (get_or (kept_edges gr) j 0) k j (edge_of s k (ne k l)).2 (edge_of s j (ne j (omega arith))).2 q;
    corner-stays = λ i l. point-now s M B i (nv i l);
    from_stays = λ k l. from_point s M B k (ne k l);
    to_stays = λ k l. to_point s M B k (ne k l);
    left_stays = λ k l. left_now s M B k (ne k l);
    right_stays = λ k l. right_now s M B k (ne k l);
    vertex-kept = λ v l. ⊎_elim (λ e. inl (lists-merged gr v l e)) (λ r. inr (⊎_elim (λ e. inl (lists-bare gr v l e))
        (λ e. let z = new_vertex s M B v l e in inr (count kept_v v, rw (vertices-now s M B) z.0, z.1)) r))
        (one_of_three (doubled gr v) (bare gr (kept_edges gr) v) (kept_v v) (v_three v));
    edge_kept = λ k l. ⊎_elim (λ e. inl (lists-shrunk gr k l e)) (λ r. inr (⊎_elim (λ e. inl (lists-repeated gr k l e))
        (λ e. let z = new_edge s M B k l e in inr (count kept_e k, rw (edges-now s M B) z.0, z.1)) r))
        (one_of_three (shrunk gr k) (repeated gr k) (kept_e k) (edge_three gr k));
    vertex-unlisted = λ i l a. let v : ℕ = get_or (kept_vertices gr) i 0 in
        kept-neither (doubled gr v) (bare gr (kept_edges gr) v) (kept_v v) (v_three v) (vertex_of_lem s i (nv i l)).1 (⊎_elim (λ b. inl (says_1 v b)) (λ b. inr (says_4 v b)) a);
    edge-unlisted = λ k l a. let j : ℕ = get_or (kept_edges gr) k 0 in
        kept-neither (shrunk gr j) (repeated gr j) (kept_e j) (edge_three gr j) (edge_of s k (ne k l)).1 (⊎_elim (λ b. inl (says_2 j b)) (λ b. inr (says_3 j b)) a);
    in_order = entries-rise gr;
    vertex-once = λ v a b. not_both (doubled gr v) (bare gr (kept_edges gr) v) (kept_v v) (v_three v) (says_1 v a) (says_4 v b);
    edge-once = λ k a b. not_both (shrunk gr k) (repeated gr k) (kept_e k) (edge_three gr k) (says_2 k a) (says_3 k b);
    vertex-balance = rw (vertices-now s M B) (vertex-balance gr (equal-points s));
    edge-balance = rw (edges-now s M B) (edge-balance gr);
  }
    where
      nv : (i : ℕ) → i < vertices (map_of t) → i < length (kept_vertices gr)
      nv i l = rw (vertices-now s M B) at l

      ne : (k : ℕ) → k < edges (map_of t) → k < length (kept_edges gr)
      ne k l = rw (edges-now s M B) at l
