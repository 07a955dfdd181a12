-- Of Passes of specs/, what rests on its definitions.
use Rattle.std.specs.Prelude.{◌≡◌, refl, ◌≤◌, ◌<◌, ◌&&◌, ◌||◌, ◌++◌}
use Rattle.std.proofs.Common.{ap, eq-eqb}
use Rattle.std.proofs.lemmas.Bool.{eqb-false}
use Rattle.seq.specs.Seq.{Bool, true, false, not, List, none, ℕ, eqb, get_or}
use Rattle.seq.specs.Tests.{false_or}
use Rattle.seq.proofs.Least.{no_some, some_has}
use Rattle.paper.specs.Plane.{same, clash}
use Rattle.paper.specs.Graph.{point, origin, leaves, followers, makes_hole}
use Rattle.paper.specs.Map.{Map, label, too_far, doubled, bad_ends, clashes, clashing, clash_place, clash_other, lonely, disagrees, fault}
use Rattle.laws_map.specs.Keeps.{seg, edges, halves, vertices}
use Rattle.laws_map.specs.Rules.{Form, Rules}
use Rattle.laws_refusals.specs.Refusals.{is_nothing, below_none, none_least}
use Rattle.laws_map.specs.Passes.{g, nx, seen_label, Tests, m, faults, nothing-form, passes-tests, form-nothing, is_near, are_ends}

-- ── the tests ──

module _ (m : Map) where
  is_clear : (k j : ℕ) → ((k ≡ j → ⊥) → clash (seg m k) (seg m j) ≡ false) → clashes (g m) k j ≡ false
  is_clear k j f = go (eqb k j) refl
    where
      go : (c : Bool) → eqb k j ≡ c → (not c && clash (seg m k) (seg m j)) ≡ false
      go true e = refl
      go false e = f (eqb-false k j e)

  is_used : (v h : ℕ) → h < halves m → origin (g m) h ≡ v → lonely (g m) v ≡ false
  is_used v h l o = ap not (some_has (leaves (g m) v) (halves m) h l (eq-eqb (origin (g m) h) v o))

  module _ (h : ℕ) where
    are-labels : label m h ≡ label m (get_or (nx m) h 0) → (makes_hole (g m) (nx m) h ≡ true → label m h ≡ seen_label m h) → disagrees m (nx m) h ≡ false
    are-labels e f =
        false_or
        (ap not (eq-eqb (label m h) (label m (get_or (nx m) h 0)) e)) (hole (makes_hole (g m) (nx m) h) refl)
      where
        hole : (c : Bool) → makes_hole (g m) (nx m) h ≡ c → (c && not (eqb (label m h) (seen_label m h))) ≡ false
        hole true t = ap not (eq-eqb (label m h) (seen_label m h) (f t))
        hole false t = refl

-- ── the chain ──

module _ (s : List ℕ) where
  tests-pass : Tests s → fault s ≡ none
  unfolding fault
  tests-pass t =
      let (q1, (q2, (q3, (q4, _)))) = t.form in
      let q5 = none_least 5 (too_far (m s).graph) (vertices (m s)) t.t5 in
      let q6 = none_least 6 (doubled (m s).graph) (vertices (m s)) t.t6 in
      let q7 = none_least 7 (bad_ends (m s).graph) (edges (m s)) t.t7 in
      let q8 = below_none 8 (clash_place (m s).graph) (clash_other (m s).graph) (clashing (m s).graph) (edges (m s)) t.t8 in
      let q9 = none_least 9 (lonely (m s).graph) (vertices (m s)) t.t9 in
      let q10 = none_least 10 (disagrees (m s) (followers (m s).graph)) (halves (m s)) t.t10 in
      is_nothing (faults s) (q1, (q2, (q3, (q4, (q5, (q6, (q7, (q8, (q9, (q10, tt))))))))))

  -- ── both ways ──

  pub passes-form : fault s ≡ none → Form s
  passes-form e = nothing-form s (passes-tests s e).form

  rules-tests : Form s → Rules (m s) → Tests s
  rules-tests f r = record {
    form = form-nothing s f;
    t5 = λ v l. is_near (m s).graph v (r.x_near v l) (r.y_near v l);
    t6 = λ v l. no_some (λ u. same (point (m s).graph v) (point (m s).graph u)) v (λ u j. r.single v u l j);
    t7 = λ k l. are_ends (m s).graph k (r.from_below k l) (r.to_below k l) (r.two_ends k l);
    t8 = λ k l. no_some (clashes (m s).graph k) (edges (m s)) (λ j i. is_clear (m s) k j (r.no_clash k j l i));
    t9 = λ v l. let (h, i, o) = r.used v l in is_used (m s) v h i o;
    t10 = λ h l. are-labels (m s) h (r.one_label h l) (r.hole-label h l);
  }

  pub rules-pass : Form s → Rules (m s) → fault s ≡ none
  rules-pass f r = tests-pass (rules-tests f r)
