-- Every answer that mending can give is sound: lengths, numbers of entries and refusals have 16 bits, whatever the bytes and the room are. So one number that bonnetewe_mend answers is one answer
-- (`mend-means`). Assumes nothing.
use Rattle.std.specs.Prelude.{◌≡◌, refl, ◌<◌, ◌∷◌, ◌/◌}
use Rattle.std.proofs.Common.{sym, ◌∙◌, arith}
use Rattle.seq.specs.Seq.{List, [], ℕ, ltb, length, get_or}
use Rattle.seq.specs.Count.{count-le}
use Rattle.seq.specs.Select.{length-select}
use Rattle.paper.specs.Graph.{Graph, edge_count}
use Rattle.paper.specs.Refusal.{given, first_at}
use Rattle.paper.specs.Map.{map_of, form_faults, too_far}
use Rattle.paper.specs.Mend.{kept_edge, kept_edges, has_edge, kept_vertices, corner_of, edge_row, entries, mended, no_vertex, entry_width, mend_fault, mend}
use Rattle.laws_graph.specs.Reading.{points-count, edges-count}
use Rattle.laws_mend.specs.Clean.{Mendable}
use Rattle.laws_mend.specs.Faults.{fault_is}
use Rattle.laws_mend.specs.MapFile.{length-map-file}
use Rattle.laws_mend.specs.Outcome.{entries_few}
use Rattle.bonnetewe.specs.Told.{ToldMending}
use Rattle.bonnetewe.specs.Laws.Means.{Sound, PairFits, told-map-means}
use Rattle.bonnetewe.specs.Laws.Sound.{given_fits, then_fits, sound_by, rule_fits, place_fits, small, form_fits}

module _ (n l : ℕ) (s : List ℕ) where
  abbrev graph_in_lem : Graph
  graph_in_lem = (map_of s).graph

  abbrev long : ℕ
  long = length (mended (map_of s))

  abbrev listed : ℕ
  listed = length (entries (map_of s).graph)

  mended-small : Mendable s → length (mended (map_of s)) < 65536
  mended-small M =
      let g = graph_in_lem in
      let kept_v = has_edge g (kept_edges g) in
      let vs = kept_vertices g in
      let ks = kept_edges g in
      omega (
        arith,
        length-map-file (length vs) (length ks) (λ i. corner_of g (get_or vs i 0)) (λ i. edge_row (map_of s) vs (get_or ks i 0)) (λ k. refl),
        length-select kept_v (length g.points),
        count-le kept_v (length g.points),
        length-select (kept_edge g) (edge_count g),
        count-le (kept_edge g) (edge_count g),
        points-count s,
        edges-count s,
        M.form.few_vertices,
        M.form.few_edges,
      )

  pub mend-sound : Sound PairFits (mend n l s).answer
  mend-sound =
      let g = graph_in_lem in
      let rest = first_at 5 (too_far g) (length g.points) ∷ first_at 7 (no_vertex g) (edge_count g) ∷ given 11 4 (ltb n long) ∷ given 11 5 (ltb (l / entry_width) listed) ∷ [] in
      sound_by PairFits (long, listed) (mend_fault n l s long listed)
      (then_fits (form_faults s) rest (form_fits s) (λ k. (
        place_fits 5 (too_far g) (length g.points) (omega arith) (omega arith) (omega (arith, points-count s, (small s k).0)),
        (
          place_fits 7 (no_vertex g) (edge_count g) (omega arith) (omega arith) (omega (arith, edges-count s, (small s k).1)),
          (rule_fits 11 4 (ltb n long) (omega arith) (omega arith) (omega arith), (given_fits 11 5 (ltb (l / entry_width) listed) (omega arith) (omega arith) (omega arith), tt)),
        ),
      )))
      (λ e. let M = (fault_is n l s long listed e).0 in (mended-small M, omega (arith, entries_few s M)))

-- of bonnetewe_mend: whatever the files and the room are
pub mend-means : (n l m k : ℕ) (s z : List ℕ) {f g x y : List ℕ} {r : ℕ} → ToldMending (mend n l s) f x r → ToldMending (mend m k z) g y r → (mend n l s).answer ≡ (mend m k z).answer
mend-means n l m k s z p q = told-map-means _ _ (mend-sound n l s) (mend-sound m k z) (sym p.answer ∙ q.answer)
