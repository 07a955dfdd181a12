-- The edges that have not started wait in the order of their lower ends (`Waiting`). Those that start at the next stop are the first of them, and no others (`starting`, `starting_has`), and the rest
-- wait on (`waits_on`). Assumes nothing.
use Rattle.std.specs.Prelude.{◌≡◌, ◌⊎◌, ◌∷◌}
use Rattle.std.proofs.Common.{sym, subst, inl, inr, ⊎_elim}
use Rattle.seq.specs.Seq.{true, false, List, []}
use Rattle.seq.specs.Terms.{Among, Pairs}
use Rattle.seq.specs.Members.{++-among, among-++}
use Rattle.seq.specs.Tests.{clash, not-true, not-false}
use Rattle.seq.specs.Search.{lead-trail, lead_has, trail_has, lead, trail}
use Rattle.seq.specs.Pairs.{pairs-parts, pairs-map}
use Rattle.seq.specs.Slotted.{slots, slots_from, slots_has}
use Rattle.paper.specs.Plane.{Pt, before}
use Rattle.laws_plane.specs.Points.{same_sym, same_neither, neither, before_le, before_trans}
use Rattle.laws_plane.specs.Ends.{0<1}
use Rattle.laws_sweep.specs.Sweep.{Strand, lo, starts_at, sooner}
use Rattle.laws_sweep.specs.Scene.{Scene, State}
use Rattle.laws_sweep.specs.Next.{v_ahead, v_real, first_left}
use Rattle.laws_sweep.specs.Slots.{Later, foot-pairs}

-- w has the edges that start after p
pub record Waiting (es : List Strand) (p : Pt) (w : List Strand) : Type 0 where
  pub from : (z : Strand) → Among z w → Among z es × (before p (lo z) ≡ true)
  pub has : (z : Strand) → Among z es → before p (lo z) ≡ true → Among z w
  pub sorted : Pairs Later w

-- before the first stop all of them wait
pub waits : (es : List Strand) (p : Pt) → ((z : Strand) → Among z es → before p (lo z) ≡ true) → Waiting es p (slots sooner [] es)
waits es p h = record {
  from = λ z i. let j = ⊎_elim (λ k. absurd k) (λ k. k) (slots_from sooner [] es z i) in (j, h z j);
  has = λ z i b. slots_has sooner [] es z (inr i);
  sorted = foot-pairs es;
}

module _ (es : List Strand) (corners stops : List Pt) (S : Scene es corners stops) (p : Pt) (v : Pt) (vs queue : List Pt) (s : List Strand) (I : State es corners stops p (v ∷ vs) queue s)
    (w : List Strand) (L : Waiting es p w) where
  -- one that waits does not start before v
  not_before : (z : Strand) → Among z w → before (lo z) v ≡ false
  not_before z i =
      let r = L.from z i in
      first_left es corners stops S p v vs queue s I (lo z) (I.left_has (lo z) (S.corner_in_lem (lo z) (S.low_in z r.0)) r.1)

  -- and starts there or after it
  after_v : (z : Strand) → Among z w → starts_at v z ≡ false → before v (lo z) ≡ true
  after_v z i b = not-false (before v (lo z)) (λ h. clash (neither (lo z) v (not_before z i) h) b)

  not_at : (z : Strand) → before v (lo z) ≡ true → starts_at v z ≡ false
  not_at z h = not-true (starts_at v z) (λ k. clash h (same_neither v (lo z) (same_sym (lo z) v k)))

  rest_after : (z : Strand) → Among z (trail (starts_at v) w) → starts_at v z ≡ false
  rest_after =
      trail_has (starts_at v) w
      (pairs-map Later (λ x y. starts_at v x ≡ false → starts_at v y ≡ false) w
      (λ x y i j h b. not_at y (before_le v (lo x) (lo y) (v_real es corners stops S p v vs queue s I) 0<1 0<1 (after_v x i b) h)) L.sorted)

  in_parts : (z : Strand) → Among z w → Among z (lead (starts_at v) w) ⊎ Among z (trail (starts_at v) w)
  in_parts z i = among-++ z (lead (starts_at v) w) (trail (starts_at v) w) (subst (Among z) (sym (lead-trail (starts_at v) w)) i)

  lead_in : (z : Strand) → Among z (lead (starts_at v) w) → Among z w
  lead_in z i = subst (Among z) (lead-trail (starts_at v) w) (++-among z (lead (starts_at v) w) (trail (starts_at v) w) (inl i))

  trail_in : (z : Strand) → Among z (trail (starts_at v) w) → Among z w
  trail_in z i = subst (Among z) (lead-trail (starts_at v) w) (++-among z (lead (starts_at v) w) (trail (starts_at v) w) (inr i))

  pub starting : (z : Strand) → Among z (lead (starts_at v) w) → Among z es × (starts_at v z ≡ true)
  starting z i = ((L.from z (lead_in z i)).0, lead_has (starts_at v) w z i)

  pub starting_has : (z : Strand) → Among z es → starts_at v z ≡ true → Among z (lead (starts_at v) w)
  starting_has z i b = ⊎_elim (λ j. j) (λ j. absurd (clash b (rest_after z j))) (in_parts z (L.has z i ahead))
    where
      ahead : before p (lo z) ≡ true
      ahead = before_le p v (lo z) I.real (v_real es corners stops S p v vs queue s I) 0<1 (v_ahead es corners stops S p v vs queue s I) (same_neither (lo z) v b)

  pub waits_on : Waiting es v (trail (starts_at v) w)
  waits_on = record {
    from = λ z i. ((L.from z (trail_in z i)).0, after_v z (trail_in z i) (rest_after z i));
    has = λ z i b. ⊎_elim (λ j. absurd (clash (lead_has (starts_at v) w z j) (not_at z b))) (λ j. j)
        (in_parts z (L.has z i (before_trans p v (lo z) I.real (v_real es corners stops S p v vs queue s I) 0<1 (v_ahead es corners stops S p v vs queue s I) b)));
    sorted = (pairs-parts Later (lead (starts_at v) w) (trail (starts_at v) w) (subst (Pairs Later) (sym (lead-trail (starts_at v) w)) L.sorted)).1;
  }
