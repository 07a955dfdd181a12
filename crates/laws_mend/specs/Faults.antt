-- Where `mend` is done: exactly where the file can be mended (`Mendable`) and there is room for the mended file and its list (`Room`): `fault_is`, `is_fault`. Assumes nothing.
use Rattle.std.specs.Prelude.{◌≡◌, ◌≤◌, ◌<◌, ◌||◌, ◌∷◌, ◌/◌}
use Rattle.std.proofs.Common.{ltb-false, leb-false, le-ltb}
use Rattle.std.proofs.lemmas.Bool.{lt-leb}
use borrow.Author.Tests as Not
use Rattle.seq.specs.Seq.{Bool, false, not, List, [], Option, none, ℕ, eqb, leb, ltb, length, nat_abs}
use Rattle.seq.specs.Tests.{or_false}
use Rattle.paper.specs.Limits.{map_vertices, map_edges, map_head, reach}
use Rattle.paper.specs.Graph.{Graph, point, edge}
use Rattle.paper.specs.Bytes.{ascii, marked, u16}
use Rattle.paper.specs.Refusal.{Refusal, given, first_at}
use Rattle.paper.specs.Map.{map_of, vertex_count, edges_in, map_length, too_far}
use Rattle.laws_map.specs.Keeps.{edges, vertices}
use Rattle.laws_map.specs.Passes.{nothing-form, form-nothing, near_is, is_near}
use Rattle.laws_refusals.specs.Refusals.{nothing, is_nothing, given_none, none_given, least_none_is, none_least}
use Rattle.paper.specs.Mend.{no_vertex, entry_width, mend_fault}
use Rattle.laws_mend.specs.Clean.{Mendable}

no_two : {a b : Bool} → a ≡ false → b ≡ false → (a || b) ≡ false
no_two e f = rw (e, f)

pub record Room (n l long many : ℕ) : Type 0 where
  pub file : long ≤ n
  pub list : many ≤ l / entry_width

module _ (n l : ℕ) (s : List ℕ) (long many : ℕ) where
  abbrev g : Graph
  g = (map_of s).graph

  abbrev rules : List (Option Refusal)
  rules =
      given 1 0 (ltb (length s) map_head || not (marked (ascii "ZMP") s 0))
      ∷ given 2 0 (not (eqb (u16 s 3) 1))
      ∷ given 3 0 (ltb map_vertices (vertex_count s) || ltb map_edges (edges_in s))
      ∷ given 4 0 (not (eqb (length s) (map_length s)))
      ∷ first_at 5 (too_far (map_of s).graph) (vertices (map_of s))
      ∷ first_at 7 (no_vertex (map_of s).graph) (edges (map_of s))
      ∷ given 11 4 (ltb n long)
      ∷ given 11 5 (ltb (l / entry_width) many)
      ∷ []

  pub fault_is : mend_fault n l s long many ≡ none → Mendable s × Room n l long many
  fault_is e =
      let (q1, (q2, (q3, (q4, (q5, (q7, (q8, (q9, u)))))))) = nothing rules e in
      let near : (v : ℕ) → v < vertices (map_of s) → (nat_abs (point g v).X ≤ reach) × (nat_abs (point g v).Y ≤ reach) = λ v b. near_is g v (least_none_is 5 (too_far g) (vertices (map_of s)) q5 v b) in
      let ends : (k : ℕ) → k < edges (map_of s) → (leb (vertices (map_of s)) (edge g k).from ≡ false) × (leb (vertices (map_of s)) (edge g k).to ≡ false) = λ k b. or_false (leb (vertices (map_of s)) (edge g k).from) (leb (vertices (map_of s)) (edge g k).to) (least_none_is 7 (no_vertex g) (edges (map_of s)) q7 k b) in (
        record {
          form = nothing-form s (q1, (q2, (q3, (q4, tt))));
          x_near = λ v b. (near v b).0;
          y_near = λ v b. (near v b).1;
          from_below = λ k b. leb-false (vertices (map_of s)) (edge g k).from (ends k b).0;
          to_below = λ k b. leb-false (vertices (map_of s)) (edge g k).to (ends k b).1;
        },
        record {
          file = ltb-false n long (given_none 11 4 (ltb n long) q8);
          list = ltb-false (l / entry_width) many (given_none 11 5 (ltb (l / entry_width) many) q9);
        },
      )

  pub is_fault : Mendable s → Room n l long many → mend_fault n l s long many ≡ none
  is_fault M R =
      let (q1, (q2, (q3, (q4, _)))) = form-nothing s M.form in
      let q5 = none_least 5 (too_far g) (vertices (map_of s)) (λ v b. is_near g v (M.x_near v b) (M.y_near v b)) in
      let q7 = none_least 7 (no_vertex g) (edges (map_of s)) (λ k b. no_two (lt-leb (vertices (map_of s)) (edge g k).from (M.from_below k b)) (lt-leb (vertices (map_of s)) (edge g k).to (M.to_below k b))) in
      let q8 = none_given 11 4 (ltb n long) (le-ltb n long R.file) in
      let q9 = none_given 11 5 (ltb (l / entry_width) many) (le-ltb (l / entry_width) many R.list) in
      is_nothing rules (q1, (q2, (q3, (q4, (q5, (q7, (q8, (q9, tt))))))))
