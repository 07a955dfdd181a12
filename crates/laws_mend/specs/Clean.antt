-- A file can be mended where it keeps rules 1 to 5 and its edges end at vertices (`Mendable`). A clean file keeps rules 1 to 7 and 9, and no two of its edges join the same two vertices: there is nothing to mend. A file that passes is clean (`passes-clean`), and a
-- clean file is refused with 8 or 10 or not at all (`clean-fault`, `clean-refusal`). Assumes nothing.
use Rattle.std.specs.Prelude.{◌≡◌, refl, ◌⊎◌, ◌≤◌, ◌<◌, ◌∷◌, ◌+◌, ◌*◌, ◌/◌, ◌%◌, ◌++◌}
use Rattle.std.proofs.Common.{sym, ◌∙◌, ap, subst, inl, inr, arith, eq-eqb}
use Rattle.seq.specs.Seq.{Bool, true, false, cond, not, List, [], Option, none, some, ℕ, nat_abs, least, the_some_below}
use Rattle.seq.proofs.Least.{no_some, some_has}
use Rattle.paper.specs.Limits.{reach}
use Rattle.paper.specs.Plane.{Pt, whole, before, same, between}
use Rattle.paper.specs.Graph.{Graph, Edge, point, edge, origin, even, leaves, followers}
use Rattle.paper.specs.Refusal.{Refusal, beside, given, first_at, first_of}
use Rattle.paper.specs.Map.{Map, corner, map_of, too_far, doubled, bad_ends, clashing, clash_place, clash_other, clash_fault, lonely, disagrees, fault, form_faults, part_faults, net_faults}
use Rattle.laws_plane.specs.Points.{neither}
use Rattle.laws_plane.specs.Edges.{between_swap}
use Rattle.laws_plane.specs.NoClash.{not_equal}
use Rattle.laws_graph.specs.Corners.{Corners}
use Rattle.laws_map.specs.Keeps.{edges, vertices, halves}
use Rattle.laws_map.specs.Rules.{Form, Rules}
use Rattle.laws_map.specs.Passes.{passes-rules, form-nothing, is_near, are_ends}
use Rattle.laws_map.proofs.Passes.{passes-form}
use Rattle.laws_graph.specs.Reading.{edges-count, corners_in, point-corner, edge-made}
use Rattle.laws_graph.specs.Laid.{carrier_up}
use Rattle.laws_map.specs.Files.{file-corners}
use Rattle.laws_refusals.specs.Refusals.{is_nothing, none_least, first_none}

-- edges k and j join the same two vertices, whichever way they run
abbrev pub SameEnds : Graph → ℕ → ℕ → Type 0
SameEnds g k j = (((edge g k).from ≡ (edge g j).from) × ((edge g k).to ≡ (edge g j).to)) ⊎ (((edge g k).from ≡ (edge g j).to) × ((edge g k).to ≡ (edge g j).from))

-- what refusals 1 to 5, and 7 for an end that names no vertex, leave
pub record Mendable (s : List ℕ) : Type 0 where
  pub form : Form s
  pub x_near : (v : ℕ) → v < vertices (map_of s) → nat_abs (point (map_of s).graph v).X ≤ reach
  pub y_near : (v : ℕ) → v < vertices (map_of s) → nat_abs (point (map_of s).graph v).Y ≤ reach
  pub from_below : (k : ℕ) → k < edges (map_of s) → (edge (map_of s).graph k).from < vertices (map_of s)
  pub to_below : (k : ℕ) → k < edges (map_of s) → (edge (map_of s).graph k).to < vertices (map_of s)

pub record Clean (s : List ℕ) : Type 0 where
  -- 1 to 5, and of 7 that the ends are vertices
  pub mendable : Mendable s
  -- 6
  pub single : (v u : ℕ) → v < vertices (map_of s) → u < v → same (point (map_of s).graph v) (point (map_of s).graph u) ≡ false
  -- 7
  pub two_ends : (k : ℕ) → k < edges (map_of s) → (edge (map_of s).graph k).from ≡ (edge (map_of s).graph k).to → ⊥
  -- 9
  pub used : (v : ℕ) → v < vertices (map_of s) → (k : ℕ) × (k < edges (map_of s)) × ((v ≡ (edge (map_of s).graph k).from) ⊎ (v ≡ (edge (map_of s).graph k).to))
  -- of 8, the whole edge
  pub apart : (k j : ℕ) → k < edges (map_of s) → j < k → SameEnds (map_of s).graph k j → ⊥

-- ── a file that passes is clean ──

module _ (s : List ℕ) (R : Rules (map_of s)) where
  abbrev g : Graph
  g = (map_of s).graph

  C : Corners (map_of s).graph
  C = file-corners s R

  half-end : (v h : ℕ) → h < halves (map_of s) → origin (map_of s).graph h ≡ v → (k : ℕ) × (k < edges (map_of s)) × ((v ≡ (edge (map_of s).graph k).from) ⊎ (v ≡ (edge (map_of s).graph k).to))
  half-end v h l e = (h / 2, omega arith, go (even h) e)
    where
      go : (b : Bool) → cond b (edge g (h / 2)).from (edge g (h / 2)).to ≡ v → (v ≡ (edge g (h / 2)).from) ⊎ (v ≡ (edge g (h / 2)).to)
      go true q = inl (sym q)
      go false q = inr (sym q)

  -- an edge is the edge between its ends
  carrier_is : (k : ℕ) → k < edges (map_of s) → (edge (map_of s).graph k).carrier ≡ between (corner (corners_in s) (edge (map_of s).graph k).from) (corner (corners_in s) (edge (map_of s).graph k).to)
  carrier_is k l =
      subst (λ (e : Edge). e.carrier ≡ between (corner (corners_in s) e.from) (corner (corners_in s) e.to))
      (sym (edge-made s k (subst (λ (n : ℕ). k < n) (edges-count s) l))) refl

  two_points : (u v : ℕ) → u < vertices (map_of s) → v < vertices (map_of s) → (u ≡ v → ⊥) →
      (before (whole (corner (corners_in s) u)) (whole (corner (corners_in s) v)) ≡ true) ⊎ (before (whole (corner (corners_in s) v)) (whole (corner (corners_in s) u)) ≡ true)
  two_points u v lu lv d = go (whole (corner (corners_in s) u)) (whole (corner (corners_in s) v)) (λ e. d (C.laid.distinct u v lu lv (rw (point-corner s u, point-corner s v) e)))
    where
      go : (a b : Pt) → (same a b ≡ true → ⊥) → (before a b ≡ true) ⊎ (before b a ≡ true)
      go a b d = by (before a b) (before b a) refl refl
        where
          by : (x y : Bool) → before a b ≡ x → before b a ≡ y → (before a b ≡ true) ⊎ (before b a ≡ true)
          by true y e f = inl e
          by false true e f = inr f
          by false false e f = absurd (d (neither a b e f))

  same_carrier : (k j : ℕ) → k < edges (map_of s) → j < edges (map_of s) → SameEnds (map_of s).graph k j → (edge (map_of s).graph k).carrier ≡ (edge (map_of s).graph j).carrier
  same_carrier k j lk lj (inl (e, f)) =
      carrier_is k lk ∙ (λ i. between (corner (corners_in s) (e i)) (corner (corners_in s) (f i))) ∙ sym (carrier_is j lj)
  same_carrier k j lk lj (inr (e, f)) =
      carrier_is k lk
      ∙ (λ i. between (corner (corners_in s) (e i)) (corner (corners_in s) (f i)))
      ∙ between_swap (corner (corners_in s) (edge g j).to) (corner (corners_in s) (edge g j).from)
      (two_points (edge g j).to (edge g j).from (R.to_below j lj) (R.from_below j lj) (λ q. R.two_ends j lj (sym q)))
      ∙ sym (carrier_is j lj)

  pub rules-clean : Form s → Clean s
  rules-clean F = record {
    mendable = record { form = F; x_near = R.x_near; y_near = R.y_near; from_below = R.from_below; to_below = R.to_below };
    single = R.single;
    two_ends = R.two_ends;
    used = λ v l. let (h, b, e) = R.used v l in half-end v h b e;
    apart = λ k j l q e. let lj : j < edges (map_of s) = omega arith in
        not_equal (edge g k).carrier (edge g j).carrier (carrier_up (map_of s).graph C.laid k l) (carrier_up (map_of s).graph C.laid j lj)
        (R.no_clash k j l lj (λ r. omega arith)) (same_carrier k j l lj e);
  }

pub passes-clean : (s : List ℕ) → fault s ≡ none → Clean s
passes-clean s e = rules-clean s (passes-rules s e) (passes-form s e)

-- ── what a clean file may still be refused with ──

module _ (s : List ℕ) (K : Clean s) where
  abbrev m : Map
  m = map_of s

  abbrev gr : Graph
  gr = (map_of s).graph

  n5 : first_at 5 (too_far gr) (vertices m) ≡ none
  n5 = none_least 5 (too_far gr) (vertices m) (λ v l. is_near gr v (K.mendable.x_near v l) (K.mendable.y_near v l))

  n6 : first_at 6 (doubled gr) (vertices m) ≡ none
  n6 = none_least 6 (doubled gr) (vertices m) (λ v l. no_some (λ u. same (point gr v) (point gr u)) v (λ u j. K.single v u l j))

  n7 : first_at 7 (bad_ends gr) (edges m) ≡ none
  n7 = none_least 7 (bad_ends gr) (edges m) (λ k l. are_ends gr k (K.mendable.from_below k l) (K.mendable.to_below k l) (K.two_ends k l))

  -- an end of an edge is where one of its half-edges starts
  starts : (v k : ℕ) → k < edges (map_of s) → (v ≡ (edge (map_of s).graph k).from) ⊎ (v ≡ (edge (map_of s).graph k).to) → the_some_below (leaves (map_of s).graph v) (halves (map_of s)) ≡ true
  starts v k l (inl e) =
      let a : (2 * k) / 2 ≡ k = omega arith in
      let b : (2 * k) % 2 ≡ 0 = omega arith in
      some_has (leaves gr v) (halves m) (2 * k) (omega arith) (eq-eqb (origin gr (2 * k)) v (rw (a, b) (sym e)))
  starts v k l (inr e) =
      let a : (2 * k + 1) / 2 ≡ k = omega arith in
      let b : (2 * k + 1) % 2 ≡ 1 = omega arith in
      some_has (leaves gr v) (halves m) (2 * k + 1) (omega arith) (eq-eqb (origin gr (2 * k + 1)) v (rw (a, b) (sym e)))

  n9 : first_at 9 (lonely gr) (vertices m) ≡ none
  n9 = none_least 9 (lonely gr) (vertices m) (λ v l. let (k, b, e) = K.used v l in ap not (starts v k b e))

  abbrev rule8 : Option Refusal
  rule8 = clash_fault (map_of s).graph

  abbrev rule10 : Option Refusal
  rule10 = first_at 10 (disagrees (map_of s) (followers (map_of s).graph)) (halves (map_of s))

  past8 : (r : Option Refusal) → first_of (r ∷ first_at 9 (lonely gr) (vertices m) ∷ rule10 ∷ []) ≡ first_of (r ∷ rule10 ∷ [])
  past8 none = ap (λ (r : Option Refusal). first_of (r ∷ rule10 ∷ [])) n9
  past8 (some r) = refl

  -- what is left of the check are rules 8 and 10
  pub clean-fault : fault s ≡ first_of (clash_fault (map_of s).graph ∷ first_at 10 (disagrees (map_of s) (followers (map_of s).graph)) (halves (map_of s)) ∷ [])
  unfolding fault
  clean-fault =
      first_none (form_faults s) (part_faults gr ++ net_faults m) (is_nothing (form_faults s) (form-nothing s K.mendable.form))
      ∙ first_none (part_faults gr) (net_faults m) (is_nothing (part_faults gr) (n5, (n6, (n7, tt)))) ∙ past8 rule8

  numbered : (r : Option Refusal) (b c : Bool) (i o j : ℕ) → first_of (beside 8 i o b ∷ given 10 j c ∷ []) ≡ r → (r ≡ none) ⊎ ((x : Refusal) × (r ≡ some x) × ((x.number ≡ 8) ⊎ (x.number ≡ 10)))
  numbered r true c i o j e = inr (record { number = 8; map = 0; place = i; other = o }, sym e, inl refl)
  numbered r false true i o j e = inr (record { number = 10; map = 0; place = j; other = 0 }, sym e, inr refl)
  numbered r false false i o j e = inl (sym e)

  pub clean-refusal : (fault s ≡ none) ⊎ ((x : Refusal) × (fault s ≡ some x) × ((x.number ≡ 8) ⊎ (x.number ≡ 10)))
  clean-refusal = numbered (fault s) (the_some_below (clashing gr) (edges m)) (the_some_below (disagrees m (followers gr)) (halves m)) (clash_place gr) (clash_other gr) (least (disagrees m (followers gr)) (halves m)) (sym clean-fault)
