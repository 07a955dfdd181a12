-- Of Walks of specs/, what rests on its definitions.
use Rattle.std.specs.Prelude.{◌≡◌, refl, ◌≤◌, ◌<◌, ◌∷◌}
use Rattle.std.proofs.Common.{sym, ◌∙◌, ap, subst, inl, inr, le_antisymm, arith, eq-eqb, ne_eqb}
use Rattle.seq.specs.Seq.{List, [], ℕ, zero, suc, eqb, length, get_or, walk_from, walk, leader, predecessor}
use Rattle.seq.specs.Terms.{Among, iter, orbit, Reach, Injects, step, turns}
use Rattle.seq.proofs.Least.{least_is}
use Rattle.seq.specs.BestOf.{least_of_in, least_of-le}
use Rattle.seq.specs.Perm.{iter_in, orbit_from, reach-trans, iter-into}
use Rattle.seq.proofs.Perm.{steps_below, comes_back, not_before, reach_back, all_in, reach_sym}
use Rattle.seq.specs.Walks.{walk-orbit}

module _ (nx : List ℕ) where
  module _ (I : Injects (step nx) (length nx)) where
    module _ (h : ℕ) (l : h < length nx) where
      rest : walk_from nx h (length nx) (step nx h) ≡ orbit (step nx) (turns nx h) (step nx h)
      rest =
          walk-orbit nx h (length nx) (turns nx h) (step nx h) (steps_below (step nx) (length nx) I h l)
          (iter_in (step nx) (turns nx h) h ∙ comes_back (step nx) (length nx) I h l)
          (λ j m q. not_before (step nx) (length nx) I h l j m (sym (iter_in (step nx) j h) ∙ q))

      -- a walk ends by return: it is h and its followers up to the one whose follower is h
      pub walk_is : walk nx h ≡ orbit (step nx) (suc (turns nx h)) h
      walk_is = ap (λ (r : List ℕ). h ∷ r) rest

      -- exactly what is met from h is on its walk
      pub on_walk : (y : ℕ) → Reach (step nx) h y → Among y (walk nx h)
      on_walk y r = subst (Among y) (sym walk_is) (all_in (step nx) (length nx) I h l y r)

      pub walk_on : (y : ℕ) → Among y (walk nx h) → Reach (step nx) h y
      walk_on y i = let r = orbit_from (step nx) (suc (turns nx h)) h y (subst (Among y) walk_is i) in (r.0, r.2)

      leader_by : Among (leader nx h) (h ∷ walk nx h) → Reach (step nx) h (leader nx h)
      leader_by (inl e) = (0, sym e)
      leader_by (inr i) = walk_on (leader nx h) i

      -- the leader is on the walk, and is its least number
      pub leader-reach : Reach (step nx) h (leader nx h)
      leader-reach = leader_by (least_of_in h (walk nx h))

      pub leader-le : (y : ℕ) → Reach (step nx) h y → leader nx h ≤ y
      leader-le y r = least_of-le h (walk nx h) y (inr (on_walk y r))

      pub leader_below : leader nx h < length nx
      leader_below = let r = leader-reach in subst (λ (m : ℕ). m < length nx) r.1 (iter-into (step nx) (length nx) I r.0 h l)

    -- the leader is the same along the walk
    pub leader-step : (h : ℕ) → h < length nx → leader nx (step nx h) ≡ leader nx h
    leader-step h l =
        let m = I.into h l in
        le_antisymm (leader-le (step nx h) m (leader nx h) (reach-trans (step nx) (reach_back (step nx) (length nx) I h l) (leader-reach h l)))
        (leader-le h l (leader nx (step nx h)) (reach-trans (step nx) (1, refl) (leader-reach (step nx h) m)))

    pub leader_same : (k h : ℕ) → h < length nx → leader nx (iter (step nx) k h) ≡ leader nx h
    leader_same zero h l = refl
    leader_same (suc k) h l = leader-step (iter (step nx) k h) (iter-into (step nx) (length nx) I k h l) ∙ leader_same k h l

    -- and two with the same leader are on one walk
    pub leader_one : (x y : ℕ) → x < length nx → y < length nx → leader nx x ≡ leader nx y → Reach (step nx) x y
    leader_one x y lx ly e =
        let r = leader-reach y ly in
        reach-trans (step nx) (leader-reach x lx) (subst (λ (m : ℕ). Reach (step nx) m y) (r.1 ∙ sym e) (reach_sym (step nx) (length nx) I r.0 y ly))

    -- ── the inverse ──

    pub prev_next : (k : ℕ) → k < length nx → predecessor nx (step nx k) ≡ k
    prev_next k l =
        least_is (λ j. eqb (get_or nx j 0) (step nx k)) (length nx) k l
        (λ j m. ne_eqb (step nx j) (step nx k) (λ e. omega (arith, I.once j k (omega arith) l e)))
        (eq-eqb (step nx k) (step nx k) refl)

    pub next_prev : (h : ℕ) → h < length nx → step nx (predecessor nx h) ≡ h
    next_prev h l =
        let k = iter (step nx) (turns nx h) h in
        let e = comes_back (step nx) (length nx) I h l in
        ap (step nx) (ap (predecessor nx) (sym e) ∙ prev_next k (iter-into (step nx) (length nx) I (turns nx h) h l)) ∙ e
