-- Of Other of specs/, what rests on its definitions.
use Rattle.std.specs.Prelude.{◌≡◌, ◌⊎◌, ◌<◌, ◌||◌, ◌∷◌, ◌++◌}
use Rattle.std.proofs.Common.{sym, ◌∙◌, ap, subst, inl, inr, arith}
use Rattle.seq.specs.Seq.{true, false, not, List, [], Option, some, ℕ, eqb, ltb, length, least, the_some_below}
use Rattle.seq.proofs.Least.{least_below, some_witness, no_some_is}
use Rattle.seq.specs.Options.{none_some}
use Rattle.paper.specs.Limits.{map_vertices, map_edges, map_head}
use Rattle.paper.specs.Graph.{edge_count, the_half_count, followers}
use Rattle.paper.specs.Bytes.{ascii, marked, u16}
use Rattle.paper.specs.Refusal.{Refusal, given, first_at, first_of}
use Rattle.paper.specs.Map.{vertex_count, edges_in, map_of, map_length, part_faults, net_faults, too_far, doubled, bad_ends, clashing, clash_place, clash_other, lonely, disagrees, fault}
use Rattle.laws_refusals.specs.Refusals.{beside-step, first_later}
use Rattle.laws_graph.specs.Rules.{file_up}
use Rattle.laws_meet.specs.Other.{OtherEdge, g, Upward, other_edge}

-- ── of a file that is refused ──

module _ (s : List ℕ) where
  -- what refusal 8 says of the file: the place is the least edge that clashes, and the other is the least that clashes with it, as `OtherEdge` says
  pub refused_8 : (r : Refusal) → fault s ≡ some r → r.number ≡ 8 →
      (r.place ≡ clash_place (map_of s).graph) × (r.other ≡ clash_other (map_of s).graph) × OtherEdge (map_of s).graph r.place r.other
  unfolding fault
  refused_8 r e n = go eighth
    where
      another : (k : ℕ) → (k ≡ 8 → ⊥) → r.number ≡ k → ⊥
      another k d q = d (sym q ∙ n)

      nv : ℕ
      nv = length (g s).points

      ne : ℕ
      ne = edge_count (g s)

      net : List (Option Refusal)
      net = net_faults (map_of s)

      after_form : first_of (part_faults (g s) ++ net) ≡ some r
      after_form =
          let a = first_later 1 0 (ltb (length s) map_head || not (marked (ascii "ZMP") s 0)) (given 2 0 (not (eqb (u16 s 3) 1)) ∷ given 3 0 (ltb map_vertices (vertex_count s) || ltb map_edges (edges_in s)) ∷ given 4 0 (not (eqb (length s) (map_length s))) ∷ (part_faults (g s) ++ net)) r (another 1 (λ q. omega arith)) e in
          let b = first_later 2 0 (not (eqb (u16 s 3) 1)) (given 3 0 (ltb map_vertices (vertex_count s) || ltb map_edges (edges_in s)) ∷ given 4 0 (not (eqb (length s) (map_length s))) ∷ (part_faults (g s) ++ net)) r (another 2 (λ q. omega arith)) a.1 in
          let c = first_later 3 0 (ltb map_vertices (vertex_count s) || ltb map_edges (edges_in s)) (given 4 0 (not (eqb (length s) (map_length s))) ∷ (part_faults (g s) ++ net)) r (another 3 (λ q. omega arith)) b.1 in
          (first_later 4 0 (not (eqb (length s) (map_length s))) (part_faults (g s) ++ net) r (another 4 (λ q. omega arith)) c.1).1

      fifth : (the_some_below (too_far (g s)) nv ≡ false) × (first_of (first_at 6 (doubled (g s)) nv ∷ first_at 7 (bad_ends (g s)) ne ∷ net) ≡ some r)
      fifth = first_later 5 (least (too_far (g s)) nv) (the_some_below (too_far (g s)) nv) (first_at 6 (doubled (g s)) nv ∷ first_at 7 (bad_ends (g s)) ne ∷ net) r (another 5 (λ q. omega arith)) after_form

      sixth : (the_some_below (doubled (g s)) nv ≡ false) × (first_of (first_at 7 (bad_ends (g s)) ne ∷ net) ≡ some r)
      sixth = first_later 6 (least (doubled (g s)) nv) (the_some_below (doubled (g s)) nv) (first_at 7 (bad_ends (g s)) ne ∷ net) r (another 6 (λ q. omega arith)) fifth.1

      seventh : (the_some_below (bad_ends (g s)) ne ≡ false) × (first_of net ≡ some r)
      seventh = first_later 7 (least (bad_ends (g s)) ne) (the_some_below (bad_ends (g s)) ne) net r (another 7 (λ q. omega arith)) sixth.1

      U : Upward (map_of s).graph
      U = file_up s (no_some_is (doubled (g s)) nv sixth.0) (no_some_is (bad_ends (g s)) ne seventh.0)

      rest : List (Option Refusal)
      rest = first_at 9 (lonely (g s)) nv ∷ first_at 10 (disagrees (map_of s) (followers (g s))) (the_half_count (g s)) ∷ []

      eighth : ((the_some_below (clashing (g s)) ne ≡ true) × (r ≡ record { number = 8; map = 0; place = clash_place (g s); other = clash_other (g s) })) ⊎ ((the_some_below (clashing (g s)) ne ≡ false) × (first_of rest ≡ some r))
      eighth = beside-step 8 (clash_place (g s)) (clash_other (g s)) (the_some_below (clashing (g s)) ne) rest r seventh.1

      late : first_of rest ≡ some r → ⊥
      late f =
          let a = first_later 9 (least (lonely (g s)) nv) (the_some_below (lonely (g s)) nv) (first_at 10 (disagrees (map_of s) (followers (g s))) (the_half_count (g s)) ∷ []) r (another 9 (λ q. omega arith)) f in
          let b = first_later 10 (least (disagrees (map_of s) (followers (g s))) (the_half_count (g s))) (the_some_below (disagrees (map_of s) (followers (g s))) (the_half_count (g s))) [] r (another 10 (λ q. omega arith)) a.1 in
          none_some b.1

      go : ((the_some_below (clashing (g s)) ne ≡ true) × (r ≡ record { number = 8; map = 0; place = clash_place (g s); other = clash_other (g s) })) ⊎ ((the_some_below (clashing (g s)) ne ≡ false) × (first_of rest ≡ some r)) → (r.place ≡ clash_place (g s)) × (r.other ≡ clash_other (g s)) × OtherEdge (g s) r.place r.other
      go (inr q) = absurd (late q.1)
      go (inl q) =
          let p : r.place ≡ clash_place (g s) = ap (λ (x : Refusal). x.place) q.1 in
          let (k, l, c) = some_witness (clashing (g s)) ne q.0 in
          let o : r.other ≡ clash_other (g s) = ap (λ (x : Refusal). x.other) q.1 in
          let E = other_edge (g s) U (least_below (clashing (g s)) ne k l c) in
          (p, o, subst (OtherEdge (g s) r.place) (sym o) (subst (λ (i : ℕ). OtherEdge (g s) i (clash_other (g s))) (sym p) E))
