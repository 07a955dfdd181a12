-- Which refusals the check of a map file gives: what is true of rules 1 to 10 with any place and no other edge, and of rule 8 with its place and its other edge, is true of what the file is refused with
-- (`fault-keeps`). Assumes nothing.
use Rattle.std.specs.Prelude.{◌≡◌, ◌≤◌, ◌||◌, ◌++◌}
use Rattle.std.proofs.Common.{arith}
use Rattle.seq.specs.Seq.{Bool, not, List, some, ℕ, ltb, eqb, length, least, the_some_below}
use Rattle.paper.specs.Limits.{map_vertices, map_edges, map_head}
use Rattle.paper.specs.Bytes.{ascii, marked, u16}
use Rattle.paper.specs.Graph.{Graph, edge_count, the_half_count, followers}
use Rattle.paper.specs.Refusal.{Refusal, given, first_at}
use Rattle.paper.specs.Map.{Map, map_of, map_length, vertex_count, edges_in, form_faults, too_far, doubled, bad_ends, part_faults, clashing, clash_place, clash_other, lonely, disagrees, net_faults, fault}
use Rattle.laws_refusals.specs.Refusals.{Keeps, beside-keeps, first_keeps, keeps_some}

module _ (s : List ℕ) (P : Refusal → Type 0)
    (plain : (n k : ℕ) → 1 ≤ n → n ≤ 10 → (n ≡ 8 → ⊥) → P (record { number = n; map = 0; place = k; other = 0 }))
    (eight : P (record { number = 8; map = 0; place = clash_place (map_of s).graph; other = clash_other (map_of s).graph }))
  where
    abbrev m : Map
    m = map_of s

    abbrev g : Graph
    g = m.graph

    by_rule : (n k : ℕ) (b : Bool) → 1 ≤ n → n ≤ 10 → (n ≡ 8 → ⊥) → Keeps P (given n k b)
    by_rule n k b low high d = beside-keeps P n k 0 b (plain n k low high d)

    at_rule : (n : ℕ) (p : ℕ → Bool) (e : ℕ) → 1 ≤ n → n ≤ 10 → (n ≡ 8 → ⊥) → Keeps P (first_at n p e)
    at_rule n p e = by_rule n (least p e) (the_some_below p e)

    pub fault-keeps : (r : Refusal) → fault s ≡ some r → P r
    unfolding fault
    fault-keeps r =
        keeps_some P (fault s) r (
        first_keeps P (form_faults s ++ part_faults g ++ net_faults m) (
          by_rule 1 0 (ltb (length s) map_head || not (marked (ascii "ZMP") s 0)) (omega arith) (omega arith) (λ q. omega arith),
          (
            by_rule 2 0 (not (eqb (u16 s 3) 1)) (omega arith) (omega arith) (λ q. omega arith),
            (
              by_rule 3 0 (ltb map_vertices (vertex_count s) || ltb map_edges (edges_in s)) (omega arith) (omega arith) (λ q. omega arith),
              (
                by_rule 4 0 (not (eqb (length s) (map_length s))) (omega arith) (omega arith) (λ q. omega arith),
                (
                  at_rule 5 (too_far g) (length g.points) (omega arith) (omega arith) (λ q. omega arith),
                  (
                    at_rule 6 (doubled g) (length g.points) (omega arith) (omega arith) (λ q. omega arith),
                    (
                      at_rule 7 (bad_ends g) (edge_count g) (omega arith) (omega arith) (λ q. omega arith),
                      (
                        beside-keeps P 8 (clash_place g) (clash_other g) (the_some_below (clashing g) (edge_count g)) eight,
                        (
                          at_rule 9 (lonely g) (length g.points) (omega arith) (omega arith) (λ q. omega arith),
                          (at_rule 10 (disagrees m (followers g)) (the_half_count g) (omega arith) (omega arith) (λ q. omega arith), tt),
                        ),
                      ),
                    ),
                  ),
                ),
              ),
            ),
          ),
        )
        )
