-- A file passes exactly if it keeps the rules: `passes-form` and `passes-rules`, and back, `rules-pass`. In order: each test as the fact that it
-- stands for, and back (6 to 8 are in laws_graph' Rules); rules 1 to 4 (`nothing-form`, `form-nothing`); the ten of them in the chain. Assumes nothing.
use Rattle.std.specs.Prelude.{◌≡◌, refl, ◌≤◌, ◌<◌, ◌&&◌, ◌||◌, ◌++◌}
use Rattle.std.proofs.Common.{sym, ap, ltb-false, le-ltb, eqb-true, eq-eqb, ne_eqb}
use Rattle.std.proofs.lemmas.Bool.{lt-leb}
use Rattle.seq.specs.Seq.{Bool, true, false, not, List, Option, none, ℕ, ltb, eqb, length, get_or, nat_abs, the_some_below, or_zero}
use Rattle.seq.specs.Tests.{clash as both, never, not-false, or_false, was-true, false_or}
use Rattle.seq.proofs.Least.{no_some_is, some_witness}
use Rattle.paper.specs.Limits.{map_vertices, map_edges, reach, map_head}
use Rattle.paper.specs.Graph.{Graph, point, edge, origin, leaves, followers, makes_hole, hole_look}
use Rattle.paper.specs.Bytes.{ascii, marked, u16}
use Rattle.paper.specs.Refusal.{Refusal}
use Rattle.paper.specs.Map.{Map, label, vertex_count, edges_in, map_of, map_length, form_faults, part_faults, net_faults, too_far, doubled, bad_ends, clashes, clashing, clash_place, clash_other, lonely, disagrees, fault}
use Rattle.laws_map.specs.Keeps.{edges, halves, vertices}
use Rattle.laws_map.specs.Rules.{Form, Rules}
use Rattle.laws_refusals.specs.Refusals.{Nothing, nothing, given_none, none_given, none_below, least_none_is}
use Rattle.laws_graph.specs.Rules.{single_is, ends_are, clear_is}

-- ── the tests ──

-- 5, of a graph
module _ (g : Graph) (v : ℕ) where
  pub near_is : too_far g v ≡ false → (nat_abs (point g v).X ≤ reach) × (nat_abs (point g v).Y ≤ reach)
  near_is e =
      let r = or_false (ltb reach (nat_abs (point g v).X)) (ltb reach (nat_abs (point g v).Y)) e in
      (ltb-false reach (nat_abs (point g v).X) r.0, ltb-false reach (nat_abs (point g v).Y) r.1)

  pub is_near : nat_abs (point g v).X ≤ reach → nat_abs (point g v).Y ≤ reach → too_far g v ≡ false
  is_near x y = false_or (le-ltb reach (nat_abs (point g v).X) x) (le-ltb reach (nat_abs (point g v).Y) y)

-- 7, back
pub are_ends : (g : Graph) (k : ℕ) → (edge g k).from < length g.points → (edge g k).to < length g.points → ((edge g k).from ≡ (edge g k).to → ⊥) → bad_ends g k ≡ false
are_ends g k x y d =
    let n = length g.points in
    false_or
    (false_or (lt-leb n (edge g k).from x) (lt-leb n (edge g k).to y)) (ne_eqb (edge g k).from (edge g k).to d)

module _ (m : Map) where
  abbrev pub g : Graph
  g = m.graph

  abbrev pub nx : List ℕ
  nx = followers g

  used_is : (v : ℕ) → lonely g v ≡ false → (h : ℕ) × (h < halves m) × (origin g h ≡ v)
  used_is v e =
      let (h, l, o) = some_witness (leaves g v) (halves m) (not-false (the_some_below (leaves g v) (halves m)) (λ f. both (ap not f) e)) in
      (h, l, eqb-true (origin g h) v o)

  module _ (h : ℕ) where
    abbrev pub seen_label : ℕ
    seen_label = or_zero (label m) (hole_look g nx h)

    labels-are : disagrees m nx h ≡ false → (label m h ≡ label m (get_or nx h 0)) × (makes_hole g nx h ≡ true → label m h ≡ seen_label)
    labels-are e =
        let r = or_false (not (eqb (label m h) (label m (get_or nx h 0)))) (makes_hole g nx h && not (eqb (label m h) seen_label)) e in
        (eqb-true (label m h) (label m (get_or nx h 0)) (was-true (eqb (label m h) (label m (get_or nx h 0))) r.0), λ t. eqb-true (label m h) seen_label (hole (makes_hole g nx h) t r.1))
      where
        hole : (c : Bool) → c ≡ true → (c && not (eqb (label m h) seen_label)) ≡ false → eqb (label m h) seen_label ≡ true
        hole true t f = was-true (eqb (label m h) seen_label) f
        hole false t f = never t

-- ── the chain ──

-- 1 to 4
module _ (s : List ℕ) where
  yes_of : (c : Bool) → not c ≡ false → c ≡ true
  yes_of true f = refl
  yes_of false f = never (sym f)

  pub nothing-form : Nothing (form_faults s) → Form s
  nothing-form (q1, (q2, (q3, (q4, _)))) =
      let a = or_false (ltb (length s) map_head) (not (marked (ascii "ZMP") s 0)) (given_none 1 0 (ltb (length s) map_head || not (marked (ascii "ZMP") s 0)) q1) in
      let c = or_false (ltb map_vertices (vertex_count s)) (ltb map_edges (edges_in s)) (given_none 3 0 (ltb map_vertices (vertex_count s) || ltb map_edges (edges_in s)) q3) in
      record {
        long = ltb-false (length s) map_head a.0;
        mark = yes_of (marked (ascii "ZMP") s 0) a.1;
        version = eqb-true (u16 s 3) 1 (yes_of (eqb (u16 s 3) 1) (given_none 2 0 (not (eqb (u16 s 3) 1)) q2));
        few_vertices = ltb-false map_vertices (vertex_count s) c.0;
        few_edges = ltb-false map_edges (edges_in s) c.1;
        length_is = eqb-true (length s) (map_length s) (yes_of (eqb (length s) (map_length s)) (given_none 4 0 (not (eqb (length s) (map_length s))) q4));
      }

  pub form-nothing : Form s → Nothing (form_faults s)
  form-nothing f = (
    none_given 1 0 (ltb (length s) map_head || not (marked (ascii "ZMP") s 0)) (false_or (le-ltb (length s) map_head f.long) (ap not f.mark)),
    (
      none_given 2 0 (not (eqb (u16 s 3) 1)) (ap not (eq-eqb (u16 s 3) 1 f.version)),
      (
        none_given 3 0 (ltb map_vertices (vertex_count s) || ltb map_edges (edges_in s))
            (false_or (le-ltb map_vertices (vertex_count s) f.few_vertices) (le-ltb map_edges (edges_in s) f.few_edges)),
        (none_given 4 0 (not (eqb (length s) (map_length s))) (ap not (eq-eqb (length s) (map_length s) f.length_is)), tt),
      ),
    ),
  )

-- the tests, in 01's order
pub record Tests (s : List ℕ) : Type 0 where
  pub form : Nothing (form_faults s)
  pub t5 : (v : ℕ) → v < vertices (map_of s) → too_far (map_of s).graph v ≡ false
  pub t6 : (v : ℕ) → v < vertices (map_of s) → doubled (map_of s).graph v ≡ false
  pub t7 : (k : ℕ) → k < edges (map_of s) → bad_ends (map_of s).graph k ≡ false
  pub t8 : (k : ℕ) → k < edges (map_of s) → clashing (map_of s).graph k ≡ false
  pub t9 : (v : ℕ) → v < vertices (map_of s) → lonely (map_of s).graph v ≡ false
  pub t10 : (h : ℕ) → h < halves (map_of s) → disagrees (map_of s) (followers (map_of s).graph) h ≡ false

module _ (s : List ℕ) where
  abbrev pub m : Map
  m = map_of s

  abbrev pub faults : List (Option Refusal)
  faults = form_faults s ++ part_faults m.graph ++ net_faults m

  pub passes-tests : fault s ≡ none → Tests s
  unfolding fault
  passes-tests e =
      let (q1, (q2, (q3, (q4, (q5, (q6, (q7, (q8, (q9, (q10, u)))))))))) = nothing faults e in
      record {
        form = (q1, (q2, (q3, (q4, tt))));
        t5 = least_none_is 5 (too_far m.graph) (vertices m) q5;
        t6 = least_none_is 6 (doubled m.graph) (vertices m) q6;
        t7 = least_none_is 7 (bad_ends m.graph) (edges m) q7;
        t8 = none_below 8 (clash_place m.graph) (clash_other m.graph) (clashing m.graph) (edges m) q8;
        t9 = least_none_is 9 (lonely m.graph) (vertices m) q9;
        t10 = least_none_is 10 (disagrees m (followers m.graph)) (halves m) q10;
      }

  -- ── both ways ──

  pub passes-rules : fault s ≡ none → Rules m
  passes-rules e =
      let t = passes-tests e in
      record {
        x_near = λ v l. (near_is m.graph v (t.t5 v l)).0;
        y_near = λ v l. (near_is m.graph v (t.t5 v l)).1;
        single = λ v u l. single_is m.graph v (t.t6 v l) u;
        from_below = λ k l. (ends_are m.graph k (t.t7 k l)).0;
        to_below = λ k l. (ends_are m.graph k (t.t7 k l)).1;
        two_ends = λ k l. (ends_are m.graph k (t.t7 k l)).2;
        no_clash = λ k j l i. clear_is m.graph k j (no_some_is (clashes m.graph k) (edges m) (t.t8 k l) j i);
        used = λ v l. used_is m v (t.t9 v l);
        one_label = λ h l. (labels-are m h (t.t10 h l)).0;
        hole-label = λ h l. (labels-are m h (t.t10 h l)).1;
      }
